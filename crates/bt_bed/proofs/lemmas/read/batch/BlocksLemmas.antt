-- Lemmas on the reader of records in blocks.
use Rattle.bt_lines.proofs.Std.{ℕ, Bool, true, false, take, Result, Ok, Err, IfSome}
use Rattle.bt_lines.specs.declared.device.Source.{Ghosts as Source}
use Rattle.bt_lines.specs.declared.fault.Fault.{Fault}
use Rattle.bt_bed.proofs.lemmas.Definitions.{line_said, block_up_to}
use Rattle.bt_bed.proofs.lemmas.read.good.SaidLemmas.{said_features}
use Rattle.bt_bed.proofs.lemmas.read.batch.RecordsLemmas.{ahead_is, none_ahead}
use Rattle.bt_bed.specs.calls.Blocks.{FillsBlocks, IsNext, TakesBlocks, view_of}
use Rattle.bt_bed.specs.calls.SortedReader.{FillsByName, buffered_in as records_in, view_in, view_with}
use Rattle.bt_bed.specs.model.Feature.{Feature}
use Rattle.bt_bed.specs.calls.Features.{IsFeature}
use Rattle.bt_bed.specs.model.Good.{Member, locus_at}
use Rattle.bt_bed.specs.calls.Reading.{FillAnswers, GivesMember, Takes, ahead_in}
use Rattle.bt_bed.specs.model.Sorted.{block_sorting}
use Rattle.bt_bed.specs.declared.read.blocks.Blocks.{Blocks}

module _ {S : Type 0} (device : Source S) where
  given : (old new : Blocks S) (m : Member Feature) → GivesMember device (view_of old) m (view_of new) → IfSome (ahead_in (view_of new)) (λ m. IsFeature m.item × IsNext old m.item)
  unfolding view_of view_with
  given old new m gives =
      let said = line_said block_sorting (view_of old).state gives.said.0.text m.item gives.said.1 in
      ahead_is (view_of new) (λ m. IsFeature m.item × IsNext old m.item) m gives.ahead (said_features gives.said.0.text m.item said.says, block_up_to (view_of old).state (locus_at m.item) said.stays)

  filled : (old new : Blocks S) (result : Result Bool Fault) → FillAnswers device (view_of old) result (view_of new) → IfSome (ahead_in (view_of new)) (λ m. IsFeature m.item × IsNext old m.item)
  filled old new (Ok true) makes = given old new makes.0 makes.1
  filled old new (Ok false) makes = none_ahead (view_of new) (λ m. IsFeature m.item × IsNext old m.item) makes.none_buffered
  filled old new (Err fault) makes = none_ahead (view_of new) (λ m. IsFeature m.item × IsNext old m.item) makes.none_buffered

  -- `fill` of the reader below
  pub fills_blocks : (old new : Blocks S) (result : Result Bool Fault) → FillsByName device (view_in block_sorting old.sorted) result (view_in block_sorting new.sorted) → FillsBlocks device old result new
  unfolding view_of view_with
  fills_blocks old new result there =
      record { answers = there.fills.answers; next = filled old new result there.fills.answers; for_name = there.for_name; kept = there.fills.kept; order = tt }

module _ {S : Type 0} (device : Source S) (old new : Blocks S) where
  -- `consume` of the reader below
  pub takes_blocks : (count : ℕ) → Takes device (view_in block_sorting old.sorted) (take count (records_in old.sorted)) (view_in block_sorting new.sorted) → TakesBlocks device old count new
  unfolding view_of view_with
  takes_blocks count takes = record { takes = takes; order = tt }
