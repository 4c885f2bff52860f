-- What borrows its words, as the definitions see it.
use Rattle.std.specs.Prelude.{map, option_map}
use Rattle.bt_tool.specs.declared.options.table.Row.{Row as RowLent}
use Rattle.bt_tool.specs.declared.options.table.Table.{Table as TableLent}
use Rattle.bt_tool.specs.model.Table.{Row, Table}
use Rattle.bt_tool.specs.declared.options.item.Item.{Item as ItemLent}
use Rattle.bt_tool.specs.model.Usage.{Item}
use Rattle.bt_tool.specs.model.Options.{Named}
use Rattle.bt_tool.specs.declared.options.names.NamedFiles.{NamedFiles}

abbrev pub row_lent : RowLent → Row
row_lent row = record { option = row.option.now; takes = row.takes }

abbrev pub table_lent : TableLent → Table
table_lent table = record {
  options = map row_lent table.options.now;
  required = map (λ option. option.now) table.required.now;
  one_of = map (λ option. option.now) table.one_of.now;
  exclusive = map (λ pair. (pair.0.now, pair.1.now)) table.exclusive.now;
  genome = option_map (λ option. option.now) table.genome;
  first = table.first.now;
  second = option_map (λ option. option.now) table.second;
  output = option_map (λ option. option.now) table.output;
}

abbrev pub item_lent : ItemLent → Item
item_lent item =
    record { option = item.option.now; value = option_map (λ value. value.now) item.value }

abbrev pub names_lent : NamedFiles → Named
names_lent names = record {
  genome = option_map (λ name. name.now) names.genome;
  first = names.first.now;
  second = option_map (λ name. name.now) names.second;
  output = option_map (λ name. name.now) names.output;
}
