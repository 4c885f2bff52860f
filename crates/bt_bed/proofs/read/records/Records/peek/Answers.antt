use Rattle.bt_lines.proofs.Std.{refl}
use Rattle.bt_bed.proofs.lemmas.read.batch.SortedReaderLemmas.{peek_fails, peeks_by}
use Rattle.bt_bed.specs.calls.Records.{view_of}
use Rattle.bt_bed.specs.calls.SortedReader.{view_with}
use Rattle.bt_bed.proofs.read.records.Records.peek.Goals as goal

pub returns : goal.returns
unfolding view_of view_with
returns g c = (
  (refl, λ reader. tt, peeks_by g.S.Source _ _ _ _ c.fill.result c.in_ok-fill.field-0 c.first.result c.in_ok-fill.was c.fill.ensures c.first.ensures.some c.first.ensures.none),
  record { after = tt },
)

pub returns-in_err-fill : goal.returns-in_err-fill
unfolding view_of view_with
returns-in_err-fill g c = (
  (refl, λ reader. tt, peek_fails g.S.Source _ _ _ _ c.fill.result c.from_residual.result c.in_err-fill.field-0.0 c.in_err-fill.was c.from_residual.ensures.1 c.fill.ensures),
  record { after = tt },
)
