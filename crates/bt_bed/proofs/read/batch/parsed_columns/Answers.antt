use Rattle.bt_lines.proofs.Std.{arith, ◌≡◌, ◌+◌, Ok, Some, length, length-drop, sym, subst, bytes_eq-Decides}
use Rattle.bt_bed.proofs.lemmas.read.ColumnLemmas.{front_is_name, parsed_begins, parsed_bounds, parsed_inside, parsed_name, parsed_no_header, third_at}
use Rattle.bt_bed.specs.calls.Bed.{feature_lent}
use Rattle.bt_bed.specs.inside.FirstColumns.{EndsFirst}
use Rattle.bt_bed.specs.model.BedLine.{record_of}
use Rattle.bt_bed.proofs.read.batch.parsed_columns.Goals as goal

pub column_end-stop-requires : goal.column_end-stop-requires
column_end-stop-requires c =
    let text = c.without_return-text.result.now in
    let says : record_of text ≡ Ok (Some (feature_lent c.in-Ok-Some.bed)) = sym (rw c.in-Ok-Some.field-0-is at c.in-Ok-Some.ensures.said) in
    let on : c.in-Ok-Some.bed.chrom.now ≡ c.args.name.now = grind (arith, bytes_eq-Decides) in
    omega (arith, parsed_inside text says on c.column_end-start.ensures, length-drop (length c.args.name.now + 1) text)

pub returns-clause-some : goal.returns-clause-some
returns-clause-some c =
    let text = c.without_return-text.result.now in
    let name = c.args.name.now in
    let says : record_of text ≡ Ok (Some (feature_lent c.in-Ok-Some.bed)) = sym (rw c.in-Ok-Some.field-0-is at c.in-Ok-Some.ensures.said) in
    let on : c.in-Ok-Some.bed.chrom.now ≡ name = grind (arith, bytes_eq-Decides) in
    let third = sym (third_at text (length name) c.column_end-start.result) in
    rw (← c.without_return-text.ensures)
    (record {
      named = parsed_name text says on;
      chrom = front_is_name text name (parsed_begins text says on);
      bounds = parsed_bounds text says on c.column_end-start.ensures (subst (λ l. EndsFirst l c.column_end-stop.result) third c.column_end-stop.ensures);
      no_header = parsed_no_header text says on;
    })
