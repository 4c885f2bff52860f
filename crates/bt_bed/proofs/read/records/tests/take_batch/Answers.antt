use Rattle.bt_lines.proofs.Std.{List, [], ◌∷◌, ◌++◌, subst, sym}
use Rattle.bt_bed.proofs.lemmas.read.good.SaidRuns.{token_is}
use Rattle.bt_bed.specs.calls.Batch.{Passes}
use Rattle.bt_bed.specs.calls.CursorLaws.{batch_gives_more}
use Rattle.bt_bed.specs.model.Feature.{Feature}
use Rattle.bt_bed.specs.declared.read.batch.Batch.{Batch}
use Rattle.bt_bed.proofs.read.records.tests.take_batch.Goals as goal
use Rattle.bt_bed.proofs.read.records.tests.take_batch.Goals.{in-Some+in_ok-push, in_default-next}

more_given : (first mid last : Batch) (x : Feature) → (records : List Feature) × Passes first records mid → Passes mid (x ∷ []) last → (records : List Feature) × Passes first records last
more_given first mid last x given one = (given.0 ++ x ∷ [], batch_gives_more first mid last given.0 (x ∷ []) given.1 one)

pub loop-preserved : goal.loop-preserved
loop-preserved g c = elim c.match-next.branch [
  | in-Some+in_ok-push w ↦ more_given c.buffered-batch.result c.loop.batch c.next.new.self _ c.loop.invariant w.in-Some.ensures.some
  | in_default-next w ↦ subst (λ b. (records : List Feature) × Passes c.buffered-batch.result records b) (sym w.in_default-next.ensures.unchanged) c.loop.invariant
]

pub consume-requires : goal.consume-requires
consume-requires g c = token_is c.fill.new.self.sorted c.buffered-batch.result c.loop.batch c.loop.invariant.0 c.consumed-consumed.result c.buffered-batch.ensures.lends c.loop.invariant.1 c.consumed-consumed.ensures
