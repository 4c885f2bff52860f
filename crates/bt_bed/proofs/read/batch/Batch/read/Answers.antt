use Rattle.bt_lines.proofs.Std.{◌≡◌, arith, length, refl, strip_last, take}
use Rattle.bt_bed.proofs.lemmas.read.ColumnLemmas.{on_line}
use Rattle.bt_bed.specs.calls.Batch.{chrom_in}
use Rattle.bt_bed.proofs.read.batch.Batch.read.Goals as goal
use Rattle.bt_bed.proofs.read.batch.Batch.read.Goals.{in-Some, in-None+in_ok-columns-in-None}

pub returns-clause-some : goal.returns-clause-some
unfolding chrom_in
returns-clause-some c =
    let name = c.args.self.now.name.now in
    let chrom : take (length name) (strip_last 13 c.args.line.now) ≡ name = elim c.match-scan.branch [ in-Some w ↦ grind arith | in-None+in_ok-columns-in-None w ↦ grind arith ] in
    on_line _ c.args.line.now name refl chrom
