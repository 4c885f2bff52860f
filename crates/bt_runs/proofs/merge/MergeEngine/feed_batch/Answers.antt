use Rattle.bt_runs.specs.declared.merge.Kind.TheVariants.{PerStrand, Unstranded}
use Rattle.bt_runs.proofs.lemmas.merge.MergeLemmas.{batch_inside, only_per_strand, only_unstranded}
use Rattle.bt_runs.proofs.merge.MergeEngine.feed_batch.Goals as goal
use Rattle.bt_runs.proofs.merge.MergeEngine.feed_batch.Goals.{in-PerStrand, in-Unstranded}

pub returns : goal.returns
returns g c = elim c.match-self.branch [
  | in-Unstranded w ↦ rw (w.out-is, w.records-is, w.result-is, w.self-inside-is, ← c.self.view_is, w.in-Unstranded.is) (batch_inside Unstranded only_unstranded g.C.Cursor _ c.args.records.now c.args.out.now.output w.feed_batch.new.self w.feed_batch.new.records w.feed_batch.new.out.output w.feed_batch.result w.feed_batch.ensures)
  | in-PerStrand w ↦ rw (w.out-is, w.records-is, w.result-is, w.self-inside-is, ← c.self.view_is, w.in-PerStrand.is) (batch_inside PerStrand only_per_strand g.C.Cursor _ c.args.records.now c.args.out.now.output w.feed_batch-in-PerStrand.new.self w.feed_batch-in-PerStrand.new.records w.feed_batch-in-PerStrand.new.out.output w.feed_batch-in-PerStrand.result w.feed_batch-in-PerStrand.ensures)
]
