use Rattle.bt_lines.proofs.Std.{◌≡◌, ◌∙◌, ◌<◌, ap, arith, length, take, strip_last}
use Rattle.bt_lines.specs.calls.Reader.{rest_in}
use Rattle.bt_lines.proofs.lemmas.reader.lines.BufferedLemmas.{strip_begins, take_front}
use Rattle.bt_bed.proofs.lemmas.parse.NameLemmas.{line_bounds, line_named}
use Rattle.bt_bed.proofs.lemmas.read.ColumnLemmas.{front_is_name, name_ends, named_is_no_header, no_return_there}
use Rattle.bt_bed.specs.calls.Batch.{chrom_in, cursor_in}
use Rattle.bt_bed.proofs.read.batch.Batch.scan.Goals as goal

pub ends_column-requires : goal.ends_column-requires
unfolding cursor_in
ends_column-requires c = grind (arith, no_return_there)

pub returns : goal.returns
unfolding chrom_in cursor_in
returns c =
    let text = strip_last 13 c.args.line.now in
    let name = c.args.self.now.name.now in
    let rest = c.rest-rest.result.now in
    let columns = c.in_ok-columns.columns in
    let has = c.in_ok-columns.ensures in
    let ends = c.if-not-ends_column.false in
    let past = c.ends_column.ensures.within ends in
    let front : take (length text) rest ≡ text = ap (take (length text)) c.rest-rest.ensures ∙ take_front text (strip_begins c.args.line.now).0 c.args.line.now (rest_in c.args.self.now.lines) (strip_begins c.args.line.now).1 c.requires in
    let some : 0 < length (rest_in c.args.self.now.lines) = omega (arith, c.if-rest-self.false, ap length c.rest-rest.ensures) in
    let is = c.args.self.now.named some in
    let begins = line_named rest name columns.start columns.stop has text past front (c.ends_column.ensures.tab ends) in
    record {
      named = name_ends text name is.named begins;
      chrom = front_is_name text name begins;
      bounds = line_bounds rest name columns.start columns.stop has text past front (c.ends_column.ensures.tab ends);
      no_header = named_is_no_header text name is begins;
    }
