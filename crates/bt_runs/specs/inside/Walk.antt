-- How an engine goes through records and chromosomes.
use Rattle.std.specs.Prelude.{◌≡◌, ℕ, ◌+◌, ◌<◌, ⊤, Bool, false, cond, List, [], ◌∷◌, ◌++◌, length, get_or, flat_map, bytes_eq, slice_range, Option, Some, None, ◌⊎◌, Result, Ok, Err}
use Rattle.bt_bed.specs.model.Feature.{Feature}
use Rattle.bt_bed.specs.model.Genome.{Entry, genome_names}
use Rattle.bt_bed.specs.model.Sorted.{Locus}
use Rattle.bt_bed.specs.model.Order.{rank_of}
use Rattle.bt_lines.specs.calls.Faults.{no_memory}
use Rattle.bt_lines.specs.calls.Names.{fault_value}
use Rattle.bt_lines.specs.calls.Output.{Output, Adds, FailsToAdd, Grown}
use Rattle.bt_lines.specs.declared.fault.Fault.{Fault}
use Rattle.bt_bed.specs.declared.read.cursor.Cursor.{Ghosts as Cursor}
use Rattle.bt_runs.specs.calls.Engine.{AfterEach, AtEnd, EngineDef}

-- How an engine goes through the chromosomes of a genome file, in their order, exactly: which one
-- it has reached, and what one more record settles.

-- what an engine says of one chromosome: T are the items that it writes, and S is what it knows
-- of a chromosome that it has reached
pub record Walk (T S : Type 0) : Type 0 where
  -- the items of a chromosome without records, and what is known before its first
  pub bare : Entry → List T
  pub fresh : S
  -- the items that are left
  pub left : Entry → S → List T
  -- the items that one more record settles, and what is known with it
  pub step : Entry → S → Feature → List T
  pub after : Entry → S → Feature → S

-- the chromosome of a rank
abbrev pub entry_at : List Entry → ℕ → Entry
entry_at entries rank = get_or entries rank (record { name = []; length = 0 })

-- the chromosome that was reached, by its rank, and what is known of it
pub record Place (S : Type 0) : Type 0 where
  pub rank : ℕ
  pub known : S

-- one that was reached is the one that has its name
pub record IsRanked (entries : List Entry) (rank : ℕ) : Type 0 where
  pub within : rank < length entries
  pub named : rank_of (genome_names entries) (entry_at entries rank).name ≡ Some rank

-- if one was reached, it is so
abbrev pub AreReached : {S : Type 0} → List Entry → Option (Place S) → Type 0
AreReached entries None = ⊤
AreReached entries (Some place) = IsRanked entries place.rank

-- and it has this name
pub record IsNamed (entries : List Entry) (rank : ℕ) (name : List ℕ) : Type 0 where
  pub placed : IsRanked entries rank
  pub is : (entry_at entries rank).name ≡ name

-- how many chromosomes have begun
abbrev pub begun : {S : Type 0} → Option (Place S) → ℕ
begun None = 0
begun (Some place) = place.rank + 1

-- whether the chromosome of this name is the one that was reached
abbrev pub is_reached : {S : Type 0} → List Entry → Option (Place S) → List ℕ → Bool
is_reached entries None name = false
is_reached entries (Some place) name = bytes_eq (entry_at entries place.rank).name name

-- the position up to which it is known, on the chromosome that was reached, if one was
abbrev pub places : {S : Type 0} → (S → ℕ) → List Entry → Option (Place S) → List Locus
places to entries None = []
places to entries (Some place) =
    record { chrom = (entry_at entries place.rank).name; start = to place.known } ∷ []

-- what is left of the chromosome that was reached, if one was
abbrev pub left_of : {T S : Type 0} → (Entry → S → List T) → List Entry → Option (Place S) → List T
left_of left entries None = []
left_of left entries (Some place) = left (entry_at entries place.rank) place.known

-- what is left before the chromosome of a rank
abbrev pub left_before : {T S : Type 0} → (Entry → S → List T) → (Entry → List T) → List Entry
    → Option (Place S) → ℕ → List T
left_before left bare entries current stop =
    left_of left entries current ++ flat_map bare (slice_range entries (begun current) stop)

module _ {T S : Type 0} (walk : Walk T S) (entries : List Entry) where
  -- what is reached on the way to a chromosome, and what is settled on it
  abbrev pub going_at : Option (Place S) → Option ℕ → Option (Place S) × List T
  going_at current None = (None, [])
  going_at current (Some rank) = (
    Some (record { rank = rank; known = walk.fresh }),
    left_before walk.left walk.bare entries current rank,
  )

  abbrev pub going : Option (Place S) → List ℕ → Option (Place S) × List T
  going current name =
      cond (is_reached entries current name) (current, [])
      (going_at current (rank_of (genome_names entries) name))

  -- one more record on the chromosome that was reached
  abbrev pub taking : Place S → Feature → Place S × List T
  taking place r =
      let entry = entry_at entries place.rank in (
        record { rank = place.rank; known = walk.after entry place.known r },
        walk.step entry place.known r,
      )

  -- one more record: what is reached with it, and what it settles. A record of an unknown
  -- chromosome changes nothing
  abbrev pub step_from : Option (Place S) → Feature → Option (Place S) × List T
      → Option (Place S) × List T
  step_from current r (None, items) = (current, items)
  step_from current r (Some place, items) = (Some (taking place r).0, items ++ (taking place r).1)

  abbrev pub walk_step : Option (Place S) → Feature → Option (Place S) × List T
  walk_step current r = step_from current r (going current r.chrom)

-- What the rule of an engine does: one record after another, and the chromosomes between them.

-- what a rule does
pub record RuleDef (E : Type 0) : Type 1 where
  -- its records, its lines and what it keeps; its `fault` is None, since `Ruled` keeps the fault
  pub engine : EngineDef E
  -- the lines that a record settles
  pub lines : E → Feature → List ℕ
  -- what the rule has become once it has taken the record
  pub has : E → Feature → E → Type 0
  -- it has entered this chromosome
  pub is_on : E → List ℕ → Type 0

module _ {E : Type 0} (rule : RuleDef E) where
  -- what is done with a record, exactly: its lines are put, and then the rule has taken it, or memory ran out that was needed
  abbrev pub Does : E → Feature → Output → Result (Unit {0}) Fault → E → Output → Type 0
  Does old r out (Ok done) new grown = rule.has old r new × Grown out (rule.lines old r) grown
  Does old r out (Err fault) new grown =
      FailsToAdd out (rule.lines old r) (fault_value fault) grown
      ⊎ ((fault_value fault ≡ no_memory) × (rule.engine.wants old r × Grown out (rule.lines old r) grown))

  -- what that means after every past
  pub record FitsPast (old : E) (r : Feature) : Type 0 where
    -- the lines are those that the record settles
    pub settles : AfterEach rule.engine old r (λ first past.
        rule.engine.settled first (past ++ r ∷ []) ≡ rule.engine.settled first past ++ rule.lines old r)
    -- a rule that has taken the record is as after all of the past and the record
    pub next : (new : E) → rule.has old r new
        → AfterEach rule.engine old r (λ first past. rule.engine.is_after first (past ++ r ∷ []) new)
    -- a quiet record has no lines, and needs no memory
    pub quiet : AfterEach rule.engine old r (λ first past.
        rule.engine.quiet first past r → (rule.lines old r ≡ []) × (rule.engine.wants old r → ⊥))

  -- what is done with a record, exactly and after every past
  pub record Taken (old : E) (r : Feature) (out : Output) (result : Result (Unit {0}) Fault) (new : E) (grown : Output) : Type 0 where
    pub does : Does old r out result new grown
    pub fits : FitsPast old r

  -- entering a chromosome: what is done with a record on it afterwards is what would have been done with it before
  abbrev pub EnterAnswers : E → List ℕ → Output → Result (Unit {0}) Fault → E → Output → Type 0
  EnterAnswers old chrom out (Ok done) new grown =
      (r : Feature) → r.chrom ≡ chrom → (result : Result (Unit {0}) Fault) (next : E) (later : Output)
      → Does new r grown result next later → Taken old r out result next later
  EnterAnswers old chrom out (Err fault) new grown =
      (r : Feature) → r.chrom ≡ chrom → Taken old r out (Err fault) new grown

  -- the end of the input: the lines that are left are put
  pub record PutsRestAtEnd {A : Type 0} (last : E) (out : Output) (result : Result A Fault) (grown : Output) : Type 0 where
    pub left : List ℕ
    pub is : AtEnd rule.engine last (λ first past. rule.engine.output first past ≡ rule.engine.settled first past ++ left)
    pub adds : Adds out left result grown

  -- records were taken one after another
  abbrev pub StepsEach : E → Output → List Feature → E → Output → Type 0
  StepsEach old out [] new grown = (new ≡ old) × (grown ≡ out)
  StepsEach old out (r ∷ records) new grown =
      (mid : E) × (through : Output) × Taken old r out (Ok tt) mid through
      × StepsEach mid through records new grown

  module _ {C R : Type 0} (cursor : Cursor C R) (old : E) (start : C) (out : Output) where
    -- records were given, and each of them was taken
    pub record StepsGiven (new : E) (passed : C) (grown : Output) : Type 0 where
      pub records : List Feature
      pub given : cursor.gives start records passed
      pub each : StepsEach old out records new grown

    -- those before the last one that was given were taken, and that one wasn't
    pub record StepsUpTo (fault : Fault) (new : E) (passed : C) (grown : Output) : Type 0 where
      pub mid : E
      pub before : C
      pub through : Output
      pub takes : StepsGiven mid before through
      pub r : Feature
      pub given : cursor.gives before (r ∷ []) passed
      pub fails : Taken mid r through (Err fault) new grown

    -- what the loop over a cursor does: it takes all records that the cursor gives
    abbrev pub FollowsCursor : Result (Unit {0}) Fault → E → C → Output → Type 0
    FollowsCursor (Ok done) new passed grown = StepsGiven new passed grown × cursor.has_ended passed
    FollowsCursor (Err fault) new passed grown = StepsUpTo fault new passed grown
