-- What the calls of a merge do is what those of the engine inside it do, of whichever of the two kinds it is.
use Rattle.bt_lines.proofs.Std.{arith, ◌≡◌, ℕ, inl, inr, List, [], ◌∷◌, ◌++◌, ap, Result, Ok, Err}
use Rattle.bt_lines.specs.calls.Output.{Output}
use Rattle.bt_lines.specs.declared.fault.Fault.{Fault}
use Rattle.bt_bed.specs.model.Feature.{Feature}
use Rattle.bt_runs.specs.calls.Engine.{EngineDef, FeedAnswers, Feeds, FeedsBatch, Finishes, TakesEach, TakesGiven}
use Rattle.bt_runs.specs.declared.merge.Kind.{Kind}
use Rattle.bt_runs.specs.declared.merge.Kind.TheVariants.{PerStrand, Unstranded}
use Rattle.bt_runs.specs.calls.Merging.{IsAfter, merge_begun, merge_engine}
use Rattle.bt_bed.specs.declared.read.cursor.Cursor.{Ghosts as Cursor}
use Rattle.bt_runs.specs.calls.Unstranded as unstranded
use Rattle.bt_runs.specs.declared.merge.merge_strand.MergeStrand.{MergeStrand}
use Rattle.bt_runs.proofs.lemmas.merge.SettledRuns.{none_kept}
use Rattle.bt_runs.proofs.lemmas.merge.StrandSettling.{no_strand_runs}
use Rattle.bt_runs.specs.calls.Stranding as strands
use Rattle.bt_runs.specs.declared.engine.rule.Ruled.{Ruled}

-- A merge of one kind is after records only if it began as one of that kind. All that is said of the engine inside it holds of the merge.
module _ {E : Type 0} (merge : E → Kind) (only : (first : Kind) (past : List Feature) (old : E) → IsAfter first past (merge old) → (inner : E) × (merge inner ≡ first)) where
  -- what is said of the engine inside, as of the merge
  abbrev inside : EngineDef E
  inside = record {
    takes = λ first past. merge_engine.takes (merge first) past;
    settled = λ first past. merge_engine.settled (merge first) past;
    output = λ first past. merge_engine.output (merge first) past;
    held = λ first past. merge_engine.held (merge first) past;
    is_after = λ first past now. merge_engine.is_after (merge first) past (merge now);
    fault = λ inner. merge_engine.fault (merge inner);
    quiet = λ first past r. merge_engine.quiet (merge first) past r;
    wants = λ inner r. merge_engine.wants (merge inner) r;
  }

  module _ (old : E) where
    module _ (r : Feature) (out : Output) (new : E) (grown : Output) where
      answers : {A : Type 0} (result : Result A Fault) → FeedAnswers inside old r out result new grown → FeedAnswers merge_engine (merge old) r out result (merge new) grown
      answers result p = grind arith

      pub feeds_inside : {A : Type 0} (result : Result A Fault) → Feeds inside old r out result new grown → Feeds merge_engine (merge old) r out result (merge new) grown
      feeds_inside result p = record { going = grind arith; answers = answers result p.answers; quiet = grind arith; grows = p.grows; after_failure = p.after_failure }

    module _ (out grown : Output) where
      pub finishes_inside : {A : Type 0} (result : Result A Fault) → Finishes inside old out result grown → Finishes merge_engine (merge old) out result grown
      finishes_inside result p = record { going = grind arith; answers = grind arith; grows = p.grows; after_failure = p.after_failure }

  -- what several records do
  each_inside : (records : List Feature) (old : E) (out : Output) (new : E) (grown : Output) → TakesEach inside old out records new grown
      → TakesEach merge_engine (merge old) out records (merge new) grown
  each_inside [] old out new grown is = (ap merge is.0, is.1)
  each_inside (r ∷ records) old out new grown more =
      (merge more.0, more.1, feeds_inside old r out more.0 more.1 (Ok tt) more.2, each_inside records more.0 more.1 new grown more.3)

  module _ {C R : Type 0} (cursor : Cursor C R) where
    given_inside : (old : E) (start : C) (out : Output) (new : E) (passed : C) (grown : Output) → TakesGiven inside cursor old start out new passed grown
        → TakesGiven merge_engine cursor (merge old) start out (merge new) passed grown
    given_inside old start out new passed grown p = record { records = p.records; given = p.given; taken = each_inside p.records old out new grown p.taken }

    pub batch_inside : {A : Type 0} (old : E) (start : C) (out : Output) (new : E) (passed : C) (grown : Output) (result : Result A Fault) → FeedsBatch inside cursor old start out result new passed grown
        → FeedsBatch merge_engine cursor (merge old) start out result (merge new) passed grown
    batch_inside old start out new passed grown (Ok done) p = (given_inside old start out new passed grown p.0, p.1)
    batch_inside old start out new passed grown (Err answer) (inl p) = grind arith
    batch_inside old start out new passed grown (Err answer) (inr p) = grind (arith, (given_inside old start out p.mid p.before p.through p.takes), (feeds_inside p.mid p.r p.through new grown (Err answer) p.fails))

-- a merge without regard to strands, and one of each strand
pub only_unstranded : (first : Kind) (past : List Feature) (old : Ruled unstranded.Unstranded) → IsAfter first past (Unstranded old) → (inner : Ruled unstranded.Unstranded) × (Unstranded inner ≡ first)
only_unstranded first past old s = grind arith

pub only_per_strand : (first : Kind) (past : List Feature) (old : Ruled strands.Stranding) → IsAfter first past (PerStrand old) → (inner : Ruled strands.Stranding) × (PerStrand inner ≡ first)
only_per_strand first past old s = grind arith

-- no list ends with an element and is empty
none_last : {A : Type 0} (xs : List A) (x : A) → [] ≡ xs ++ x ∷ [] → ⊥
none_last [] x e = cc
none_last (y ∷ xs) x e = cc

-- a merge that has taken no record is after none
pub begun_stands : (gap : ℕ) (strand : MergeStrand) → IsAfter (merge_begun gap strand) [] (merge_begun gap strand)
begun_stands gap strand = grind (arith, none_kept, none_last, no_strand_runs)
