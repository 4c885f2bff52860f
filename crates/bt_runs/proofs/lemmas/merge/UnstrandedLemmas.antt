-- From the exact step of a merge of all its records together to what it writes after the records of the past.
use Rattle.bt_lines.proofs.Std.{Option, None, Some, arith, ◌≡◌, ℕ, false, List, [], ◌∷◌, ◌++◌, Result, Ok, Err, refl, sym, ap, ◌∙◌, append-nil, bytes_eq, flat_map-append}
use Rattle.std.proofs.lemmas.List.{same_from_push}
use Rattle.bt_lines.specs.calls.Faults.{no_memory}
use Rattle.bt_lines.specs.calls.Names.{fault_value}
use Rattle.bt_lines.specs.calls.Output.{Output, Adds, FailsToAdd, Grown}
use Rattle.bt_lines.specs.declared.fault.Fault.{Fault}
use Rattle.bt_bed.specs.model.Feature.{Feature, interval_of}
use Rattle.bt_bed.specs.model.BedLine.{interval_line, interval_lines}
use Rattle.bt_bed.specs.declared.record.strand.Strand.{Strand}
use Rattle.bt_runs.specs.calls.Engine.{AfterEach}
use Rattle.bt_runs.specs.model.Depth.{is_counted_by}
use Rattle.bt_runs.specs.model.Merged.{is_counted}
use Rattle.bt_runs.specs.calls.MergedRuns.{kept_runs, settled_runs}
use Rattle.bt_runs.specs.inside.merge.UnstrandedStep.{runs_left_by, merged_of, settled_by, kept_at, lines_by, unstranded_rule}
use Rattle.bt_runs.specs.inside.Walk.{EnterAnswers, FitsPast, PutsRestAtEnd}
use Rattle.bt_runs.specs.calls.Unstranded.{Unstranded, settled_lines, unstranded}
use Rattle.bt_runs.specs.declared.merge.unstranded_merge.OpenRun.{OpenRun}
use Rattle.bt_runs.proofs.lemmas.Engine.{enters, enters_cut, enters_short, none_more}
use Rattle.bt_runs.proofs.lemmas.merge.SettledRuns.{next_taken, whole_taken}

-- the records that are merged are those that count
pub counted_alike : (wanted : Option Strand) (strand : Strand) → is_counted_by wanted strand ≡ is_counted (merged_of wanted) strand
counted_alike None strand = refl
counted_alike (Some wanted) strand = refl

-- the last element of a list is that element
pub last_is : {A : Type 0} (xs ys : List A) (x y : A) → xs ++ x ∷ [] ≡ ys ++ y ∷ [] → x ≡ y
last_is xs ys x y e = (same_from_push xs ys x y e).1

module _ (old : Unstranded) where
  -- what is done with a record exactly is done after every past
  pub fits : (r : Feature) → FitsPast unstranded_rule old r
  fits r =
      let settles : AfterEach unstranded old r (λ first past. settled_lines first (past ++ r ∷ []) ≡ settled_lines first past ++ lines_by old r) = λ first past stands taken.
      rw (stands.same_gap, stands.kept) (ap interval_lines (next_taken first.gap first.strand past r taken).settles
      ∙ flat_map-append interval_line (settled_runs first.gap first.strand past) (settled_by first.gap (kept_runs first.gap first.strand past) (interval_of r))) in
      grind (arith, next_taken, last_is, none_more)

  -- the kept run's line is the one that is left
  pub finishes_kept : {A : Type 0} (out : Output) (result : Result A Fault) (grown : Output) → Adds out (interval_lines old.kept) result grown
      → PutsRestAtEnd unstranded_rule old out result grown
  finishes_kept out result grown p = grind (arith, whole_taken, flat_map-append)

-- another chromosome is entered
module _ (old : Unstranded) (run : OpenRun) (is : kept_at old.chrom run ≡ old.kept) (out : Output) {name : List ℕ} (apart : bytes_eq old.chrom name ≡ false) where
  passes : (r : Feature) → r.chrom ≡ name → (lines_by old r ≡ interval_lines old.kept) × (runs_left_by old.gap old.kept (interval_of r) ≡ [])
  passes r at = grind arith

  -- once the kept run is written
  pub enters_other : (now : Unstranded) (through : Output) → now.gap ≡ old.gap → now.strand ≡ old.strand → now.chrom ≡ name → now.kept ≡ [] → Grown out (interval_lines old.kept) through
      → EnterAnswers unstranded_rule old name out (Ok tt) now through
  enters_other now through gap strand on none put = enters (fits old) (interval_lines old.kept) {mid = now} put
      (λ r at. grind (arith, append-nil, (passes r at))) (λ r at new p. grind (arith, (passes r at)))
      (λ r at elsewhere. absurd (elsewhere (on ∙ sym at)))

  -- or the run couldn't be written
  pub enters_failing : (fault : Fault) (new : Unstranded) (grown : Output) → FailsToAdd out (interval_lines old.kept) (fault_value fault) grown
      → EnterAnswers unstranded_rule old name out (Err fault) new grown
  enters_failing fault new grown p = enters_cut (fits old) (interval_lines old.kept) fault new grown p (λ r at. ([], (passes r at).0 ∙ sym (append-nil (interval_lines old.kept))))

  -- or the name couldn't be kept
  pub enters_unnamed : (elsewhere : old.chrom ≡ name → ⊥) (fault : Fault) (new : Unstranded) (grown : Output) → fault_value fault ≡ no_memory → Grown out (interval_lines old.kept) grown
      → EnterAnswers unstranded_rule old name out (Err fault) new grown
  enters_unnamed elsewhere fault new grown memory p = enters_short (fits old) (interval_lines old.kept) fault new grown memory p (λ r at. (λ e. elsewhere (e ∙ at), (passes r at).0))
