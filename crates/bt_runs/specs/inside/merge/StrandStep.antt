-- The steps of a merge that keeps the strands apart.
use Rattle.std.specs.Prelude.{⊤, ℕ, suc, Bool, cond, List, [], ◌∷◌, ◌++◌, drop, length, set, Option, Some, None, true, false, not, ◌||◌, map, max, nat_lt, ◌≡◌, ◌⊎◌, Result, Ok, Err}
use Rattle.std.specs.List.{slice_get, take_while}
use Rattle.bt_bed.specs.model.Feature.{Feature, interval_of, is_same_strand}
use Rattle.bt_bed.specs.declared.record.strand.Strand.{Strand}
use Rattle.bt_bed.specs.declared.record.strand.Strand.TheVariants.{Plus, Minus, Dot}
use Rattle.bt_runs.specs.model.Merged.{is_closed, StrandRun, closed_prefix}
use Rattle.bt_runs.specs.inside.merge.UnstrandedStep.{joined_run}
use Rattle.bt_runs.specs.declared.merge.pending_runs.PendingRun.{PendingRun}
use Rattle.bt_lines.specs.calls.Faults.{write_failed}
use Rattle.bt_lines.specs.calls.Output.{Output, FailsToAdd, Grown}
use Rattle.bt_runs.specs.calls.Engine.{EngineDef}
use Rattle.bt_runs.specs.calls.Stranding.{Stranding, strand_lines, stranding_with}
use Rattle.bt_runs.specs.inside.Walk.{RuleDef}
use Rattle.bt_runs.specs.declared.engine.failure.Failure.{Failure}
use Rattle.bt_runs.specs.declared.engine.failure.Failure.TheVariants.{Write, Memory}

-- What one more record does to the runs of several strands that a merge keeps, and to those that wait without their
-- chromosome: the place of the last one of each strand, how the record is joined to it, and which of them are closed.

-- the runs that the record settles: those up to the first that it doesn't close
abbrev pub settled_prefix : ℕ → List StrandRun → Feature → List StrandRun
settled_prefix gap items r = closed_prefix gap items (Some (interval_of r))

-- and those after them
abbrev pub left_unsettled : ℕ → List StrandRun → Feature → List StrandRun
left_unsettled gap items r = drop (length (settled_prefix gap items r)) items

-- the record as a run of its own
abbrev pub run_from : Feature → StrandRun
run_from r = record { strand = r.strand; run = interval_of r }

-- the run with the record joined to it
abbrev pub run_with : Feature → StrandRun → StrandRun
run_with r item = record { strand = item.strand; run = joined_run item.run (interval_of r) }

-- the place of the last element that passes,
-- from whether the first does and the place among the others
abbrev pub place_among : Bool → Option ℕ → Option ℕ
place_among first (Some place) = Some (suc place)
place_among first None = cond first (Some 0) None

-- the index of the last element that passes the test
abbrev pub last_place : {A : Type 0} → (A → Bool) → List A → Option ℕ
last_place test [] = None
last_place test (x ∷ xs) = place_among (test x) (last_place test xs)

-- whether the element at a place is lengthened, which it isn't if it is over, and the elements then
module _ {A : Type 0} (over : A → Bool) (longer : A → A) (xs : List A) where
  abbrev pub joined_here : ℕ → Option A → Bool × List A
  joined_here place None = (false, xs)
  joined_here place (Some x) = cond (over x) (false, xs) (true, set xs place (longer x))

  abbrev pub joined_at : Option ℕ → Bool × List A
  joined_at None = (false, xs)
  joined_at (Some place) = joined_here place (slice_get xs place)

-- the runs with the record, if the last run of its strand is at this place: joined to that
-- run, unless it closes it, and else as the last one
abbrev pub added_at : ℕ → List StrandRun → Feature → Option ℕ → List StrandRun
added_at gap items r place =
    let joined = joined_at (λ item. is_closed gap (interval_of r) item.run) (run_with r) items place in
    cond joined.0 joined.1 (items ++ run_from r ∷ [])

-- the runs with the record
abbrev pub with_added : ℕ → List StrandRun → Feature → List StrandRun
with_added gap items r =
    added_at gap items r (last_place (λ item. is_same_strand item.strand r.strand) items)

-- the place of the last run of a strand
abbrev pub place_of : Strand → List PendingRun → Option ℕ
place_of strand runs = last_place (λ (w : PendingRun). is_same_strand w.strand strand) runs

-- how many elements there are up to the one at a place, that one too; 0 if there is no place
abbrev pub count_up_to : Option ℕ → ℕ
count_up_to None = 0
count_up_to (Some place) = suc place

-- how many runs there are up to the last one of each strand, in the strand's slot; 0 if none is of it
abbrev pub counts_up_to_last : List PendingRun → List ℕ
counts_up_to_last runs =
    map (λ strand. count_up_to (place_of strand runs)) (Plus ∷ Minus ∷ Dot ∷ [])

-- the slot of a strand
abbrev pub slot_of : Strand → ℕ
slot_of Plus = 0
slot_of Minus = 1
slot_of Dot = 2

-- the run that is lengthened up to `stop`
abbrev pub lengthened : ℕ → PendingRun → PendingRun
lengthened stop run = record { strand = run.strand; start = run.start; stop = max run.stop stop }

-- whether a record is joined to the run at a place, which must not end below `reach`,
-- and the runs with it
abbrev pub with_joined : ℕ → ℕ → List PendingRun → Option ℕ → Bool × List PendingRun
with_joined reach stop runs place =
    joined_at (λ (w : PendingRun). nat_lt w.stop reach) (lengthened stop) runs place

-- a run on the chromosome of this name
abbrev pub placed_run : List ℕ → PendingRun → StrandRun
placed_run chrom run =
    record {
      strand = run.strand;
      run = record { chrom = chrom; start = run.start; stop = run.stop };
    }

abbrev pub placed_runs : List ℕ → List PendingRun → List StrandRun
placed_runs chrom runs = map (placed_run chrom) runs

-- the first runs that are closed: all, if the record lies elsewhere,
-- and else those that end below `reach`
abbrev pub passed_runs : Bool → ℕ → List PendingRun → List PendingRun
passed_runs here reach runs = take_while (λ (w : PendingRun). not here || nat_lt w.stop reach) runs

-- and those after them
abbrev pub left_runs : Bool → ℕ → List PendingRun → List PendingRun
left_runs here reach runs = drop (length (passed_runs here reach runs)) runs

-- The runs that wait are those of a list, unless there is an only one, which is kept beside it.

abbrev pub pending_in : Option PendingRun → List PendingRun → List PendingRun
pending_in None list = list
pending_in (Some only) list = only ∷ []

-- nothing is in the list then
abbrev pub IsAlone : Option PendingRun → List PendingRun → Type 0
IsAlone None list = ⊤
IsAlone (Some only) list = list ≡ []

-- What a merge that keeps the strands apart does with one more record, exactly.

-- the line of each run that the record settles
abbrev pub lines_by : Stranding → Feature → List ℕ
lines_by merge r = strand_lines (settled_prefix merge.gap merge.kept r)

-- what needs memory: the record is joined to none of the runs that stay, so that one has to be opened, or the name of
-- another chromosome
abbrev pub strand_wants_memory : Stranding → Feature → Type 0
strand_wants_memory old r =
    (with_added old.gap (left_unsettled old.gap old.kept r) r
    ≡ left_unsettled old.gap old.kept r ++ run_from r ∷ []) ⊎ (old.chrom ≡ r.chrom → ⊥)

-- the record was taken
pub record TakesByStrand (old : Stranding) (r : Feature) (new : Stranding) : Type 0 where
  pub gap : new.gap ≡ old.gap
  pub chrom : new.chrom ≡ r.chrom
  pub kept : new.kept ≡ with_added old.gap (left_unsettled old.gap old.kept r) r

-- what it takes, writes and keeps, until it has failed
abbrev pub stranding : EngineDef Stranding
stranding = stranding_with strand_wants_memory

-- the rule
abbrev pub strand_rule : RuleDef Stranding
strand_rule = record { engine = stranding; lines = lines_by; has = TakesByStrand; is_on = λ merge name. merge.chrom ≡ name }

-- a record whose start less the gap is `reach`, as a run, among runs on its chromosome
module _ (reach : ℕ) (runs : List PendingRun) (run : PendingRun) where
  -- whether it is joined to one of the runs that it doesn't close, and those with it if it is
  abbrev pub joined_among : Bool × List PendingRun
  joined_among =
      with_joined reach run.stop (left_runs true reach runs)
      (place_of run.strand (left_runs true reach runs))

  module _ (chrom : List ℕ) (out : Output) where
    -- those that it closes were written, and nothing more
    abbrev pub PutsPassed : Output → Type 0
    PutsPassed grown = Grown out (strand_lines (placed_runs chrom (passed_runs true reach runs))) grown

    -- it was joined to one of those that are left, or is one more; or it had to be one more, and couldn't be kept
    abbrev pub TakesAmong : {A : Type 0} → Result A Failure → List PendingRun → Output → Type 0
    TakesAmong (Ok done) new grown =
        (new ≡ cond joined_among.0 joined_among.1 (left_runs true reach runs ++ run ∷ [])) × PutsPassed grown
    TakesAmong (Err Write) new grown =
        FailsToAdd out (strand_lines (placed_runs chrom (passed_runs true reach runs))) write_failed grown
    TakesAmong (Err Memory) new grown = (joined_among.0 ≡ false) × PutsPassed grown

    -- a record among the runs of a list: if none is left, it isn't taken
    abbrev pub TakesListed : Result Bool Failure → List PendingRun → Output → Type 0
    TakesListed (Ok true) new grown = (left_runs true reach runs ≡ []) × ((new ≡ []) × PutsPassed grown)
    TakesListed (Ok false) new grown = TakesAmong {A = Bool} (Ok false) new grown
    TakesListed (Err failure) new grown = TakesAmong {A = Bool} (Err failure) new grown
