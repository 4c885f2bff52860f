-- What the calls of an engine do.
use Rattle.std.specs.Prelude.{◌≡◌, ℕ, ◌≤◌, ◌⊎◌, true, List, [], ◌∷◌, ◌++◌, Option, Some, None, Result, Ok, Err, IsOk, ⊤, IfErr, IfOk, MatchResult, option_map}
use Rattle.bt_lines.specs.model.Fault.{FaultValue}
use Rattle.bt_lines.specs.calls.Faults.{no_memory, write_failed}
use Rattle.bt_lines.specs.calls.Names.{fault_value}
use Rattle.bt_lines.specs.calls.Output.{Output, Grows, WorksAsBefore, PutsRest, CutsRest, SinkFailed}
use Rattle.bt_lines.specs.declared.fault.Fault.{Fault}
use Rattle.bt_bed.specs.model.Feature.{Feature}
use Rattle.bt_bed.specs.declared.read.cursor.Cursor.{Ghosts as Cursor}
use Rattle.bt_runs.specs.declared.engine.failure.Failure.{Failure}
use Rattle.bt_runs.specs.declared.engine.failure.Failure.TheVariants.{Write, Memory}
use Rattle.bt_runs.specs.declared.engine.rule.Ruled.{Ruled}

-- what an engine takes, writes and keeps, by what it began as and by the records that it has taken
pub record EngineDef (E : Type 0) : Type 1 where
  -- the records that an engine that began like this may be fed, one after another
  pub takes : E → List Feature → Type 0
  -- the lines that the records settle: no later record can change them
  pub settled : E → List Feature → List ℕ
  -- the lines of the output, if these are all records
  pub output : E → List Feature → List ℕ
  -- how many items are kept after the records
  pub held : E → List Feature → ℕ
  -- what an engine that began like this has become once it has taken these records without a fault
  pub is_after : E → List Feature → E → Type 0
  -- the fault that was returned, if one was
  pub fault : E → Option FaultValue
  -- if this holds of the records and of one more, that one is taken without a fault and the output stays as it is. An
  -- engine that can't promise it gives ⊥
  pub quiet : E → List Feature → Feature → Type 0
  -- what needs memory: if it runs out for the first time, this holds of the engine and the record
  pub wants : E → Feature → Type 0

-- a record that settles nothing more, with which no more is kept
pub record IsQuiet (settled : List Feature → List ℕ) (held : List Feature → ℕ)
    (past : List Feature) (r : Feature) : Type 0 where
  pub settles : settled (past ++ r ∷ []) ≡ settled past
  pub keeps : held (past ++ r ∷ []) ≤ held past

-- there is a last record of the past, and the record lies on its chromosome
pub record IsOnLast (past : List Feature) (r : Feature) : Type 0 where
  pub before : List Feature
  pub last : Feature
  pub is : past ≡ before ++ last ∷ []
  pub same : last.chrom ≡ r.chrom

-- What the calls do, after every list of records that the engine has taken.

module _ {E : Type 0} (engine : EngineDef E) (old : E) where
  -- for every past that the engine is after, if it may take the record next
  abbrev pub AfterEach : Feature → (E → List Feature → Type 0) → Type 0
  AfterEach r P = (first : E) (past : List Feature) → engine.is_after first past old
      → engine.takes first (past ++ r ∷ []) → P first past

  -- for every past that it is after and may have taken
  abbrev pub AtEnd : (E → List Feature → Type 0) → Type 0
  AtEnd P = (first : E) (past : List Feature) → engine.is_after first past old → engine.takes first past
      → P first past

  -- an engine that is after some records has returned no fault
  abbrev pub IsFaultless : Type 0
  IsFaultless = (first : E) (past : List Feature) → engine.is_after first past old → engine.fault old ≡ None

  -- as many items are kept as the records leave open
  abbrev pub KeepsHeld : ℕ → Type 0
  KeepsHeld count = AtEnd (λ first past. count ≡ engine.held first past)

  -- if memory runs out for the first time, it was needed for the record
  abbrev pub IsWanted : {A : Type 0} → Feature → Result A Fault → Type 0
  IsWanted r (Ok done) = ⊤
  IsWanted r (Err answer) = fault_value answer ≡ no_memory → engine.fault old ≡ None → engine.wants old r

module _ {E : Type 0} (engine : EngineDef E) where
  -- one more record
  module _ (old : E) (r : Feature) (out : Output) where
    -- the lines that the record settles were put
    abbrev pub PutsSettled : Output → Type 0
    PutsSettled grown = AfterEach engine old r (λ first past.
        PutsRest (engine.settled first past) (engine.settled first (past ++ r ∷ [])) out grown)

    -- the record was taken
    pub record TakesRecord (new : E) (grown : Output) : Type 0 where
      -- no fault was returned
      pub was_going : engine.fault old ≡ None
      pub going : engine.fault new ≡ None
      -- the engine is after the record too
      pub stands : AfterEach engine old r (λ first past. engine.is_after first (past ++ r ∷ []) new)
      pub puts : PutsSettled grown
      pub works : WorksAsBefore out grown

    -- the lines that the record settles couldn't be written: only if the sink failed
    pub record FailsToWrite (answer : FaultValue) (new : E) (grown : Output) : Type 0 where
      pub is : answer ≡ write_failed
      -- it is the first fault, and is kept
      pub was_going : engine.fault old ≡ None
      pub kept : engine.fault new ≡ Some write_failed
      pub cuts : AfterEach engine old r (λ first past.
          CutsRest (engine.settled first past) (engine.settled first (past ++ r ∷ [])) out grown)
      pub failed : grown.has_failed ≡ true
      pub sink_failed : SinkFailed grown

    -- what is kept couldn't grow
    pub record CannotGrow (answer : FaultValue) (new : E) (grown : Output) : Type 0 where
      pub is : answer ≡ no_memory
      -- it is the first fault, and is kept
      pub was_going : engine.fault old ≡ None
      pub kept : engine.fault new ≡ Some no_memory
      -- all of those lines were put
      pub puts : PutsSettled grown
      pub works : WorksAsBefore out grown

    -- the first fault is returned again, and nothing happens
    pub record Repeats (answer : FaultValue) (new : E) (grown : Output) : Type 0 where
      pub is : engine.fault old ≡ Some answer
      pub kind : (answer ≡ write_failed) ⊎ (answer ≡ no_memory)
      pub same : new ≡ old
      pub same_output : grown ≡ out

    -- why the record wasn't taken
    abbrev pub NotTaken : FaultValue → E → Output → Type 0
    NotTaken answer new grown =
        Repeats answer new grown ⊎ (FailsToWrite answer new grown ⊎ CannotGrow answer new grown)

    -- what the result says
    abbrev pub FeedAnswers : {A : Type 0} → Result A Fault → E → Output → Type 0
    FeedAnswers (Ok done) new grown = TakesRecord new grown
    FeedAnswers (Err answer) new grown = NotTaken (fault_value answer) new grown

    -- a quiet record is taken, and the output stays as it is
    abbrev pub TakesQuiet : {A : Type 0} → Result A Fault → Output → Type 0
    TakesQuiet result grown = AfterEach engine old r (λ first past. engine.quiet first past r → IsOk result × (grown ≡ out))

    -- what `feed` does
    pub record Feeds {A : Type 0} (result : Result A Fault) (new : E) (grown : Output) : Type 0 where
      pub going : IsFaultless engine old
      pub answers : FeedAnswers result new grown
      pub quiet : TakesQuiet result grown
      -- what the sink took stays, and nothing happens to an output that has failed
      pub grows : Grows out.took grown.took
      pub after_failure : out.has_failed ≡ true → grown ≡ out

    -- What a caller of `feed` knows, each fact separately. Together they say what `Feeds` says.

    -- if it is taken, the lines that it settles were put, and the engine is after it too
    abbrev pub WritesSettled : {A : Type 0} → Result A Fault → E → Output → Type 0
    WritesSettled result new grown = IfOk result (λ done. TakesRecord new grown)

    -- if a write fails first, the sink failed, and has a prefix of those lines
    abbrev pub WritesPrefix : {A : Type 0} → Result A Fault → E → Output → Type 0
    WritesPrefix result new grown = IfErr result (λ answer. engine.fault old ≡ None → fault_value answer ≡ write_failed
        → FailsToWrite (fault_value answer) new grown)

    -- if memory runs out first, all of those lines were put
    abbrev pub WritesFirst : {A : Type 0} → Result A Fault → E → Output → Type 0
    WritesFirst result new grown = IfErr result (λ answer. engine.fault old ≡ None → fault_value answer ≡ no_memory
        → CannotGrow (fault_value answer) new grown)

  -- a fault that was returned before is returned again
  abbrev pub AnswersAgain : {A : Type 0} → E → Result A Fault → Type 0
  AnswersAgain old result = (before : FaultValue) → engine.fault old ≡ Some before
      → MatchResult result (λ done. ⊥) (λ answer. fault_value answer ≡ before)

  -- if a record isn't taken, a write failed or memory ran out, which is kept
  abbrev pub KeepsFault : {A : Type 0} → Result A Fault → E → Type 0
  KeepsFault result new = IfErr result (λ answer.
      ((fault_value answer ≡ write_failed) ⊎ (fault_value answer ≡ no_memory)) × (engine.fault new ≡ Some (fault_value answer)))

  -- several records: they were taken, each as `feed` takes it, one after another
  abbrev pub TakesEach : E → Output → List Feature → E → Output → Type 0
  TakesEach old out [] new grown = (new ≡ old) × (grown ≡ out)
  TakesEach old out (r ∷ records) new grown =
      (mid : E) × (through : Output) × Feeds old r out {A = Unit {0}} (Ok tt) mid through
      × TakesEach mid through records new grown

  module _ {C R : Type 0} (cursor : Cursor C R) (old : E) (start : C) (out : Output) where
    -- records were given, and the engine took each of them
    pub record TakesGiven (new : E) (passed : C) (grown : Output) : Type 0 where
      pub records : List Feature
      pub given : cursor.gives start records passed
      pub taken : TakesEach old out records new grown

    -- it took those before the last one that was given, and that one it didn't take
    pub record FailsAtGiven (answer : Fault) (new : E) (passed : C) (grown : Output) : Type 0 where
      pub mid : E
      pub before : C
      pub through : Output
      pub takes : TakesGiven mid before through
      pub r : Feature
      pub given : cursor.gives before (r ∷ []) passed
      pub fails : Feeds mid r through {A = Unit {0}} (Err answer) new grown
      pub memory : fault_value answer ≡ no_memory → engine.wants mid r

    -- the fault that was returned before is returned again, and nothing happens
    pub record RepeatsBatch (answer : FaultValue) (new : E) (passed : C) (grown : Output) : Type 0 where
      pub going : IsFaultless engine old
      pub is : engine.fault old ≡ Some answer
      pub kind : (answer ≡ write_failed) ⊎ (answer ≡ no_memory)
      pub same : new ≡ old
      pub same_cursor : passed ≡ start
      pub same_output : grown ≡ out

    -- what `feed_batch` does: it takes all records that the cursor gives
    abbrev pub FeedsBatch : {A : Type 0} → Result A Fault → E → C → Output → Type 0
    FeedsBatch (Ok done) new passed grown = TakesGiven new passed grown × cursor.has_ended passed
    FeedsBatch (Err answer) new passed grown =
        RepeatsBatch (fault_value answer) new passed grown ⊎ FailsAtGiven answer new passed grown

  -- the end of the input
  module _ (last : E) (out : Output) where
    -- the lines that were left were put
    pub record PutsLeft (grown : Output) : Type 0 where
      pub was_going : engine.fault last ≡ None
      pub puts : AtEnd engine last (λ first past.
          PutsRest (engine.settled first past) (engine.output first past) out grown)
      pub works : WorksAsBefore out grown

    -- they couldn't be written: only if the sink failed
    pub record FailsToPutLeft (answer : FaultValue) (grown : Output) : Type 0 where
      pub is : answer ≡ write_failed
      pub was_going : engine.fault last ≡ None
      pub cuts : AtEnd engine last (λ first past.
          CutsRest (engine.settled first past) (engine.output first past) out grown)
      pub failed : grown.has_failed ≡ true
      pub sink_failed : SinkFailed grown

    -- the fault that was returned before is returned again, and nothing happens
    pub record RepeatsAtEnd (answer : FaultValue) (grown : Output) : Type 0 where
      pub is : engine.fault last ≡ Some answer
      pub same_output : grown ≡ out

    -- what the result says
    abbrev pub FinishAnswers : {A : Type 0} → Result A Fault → Output → Type 0
    FinishAnswers (Ok done) grown = PutsLeft grown
    FinishAnswers (Err answer) grown =
        RepeatsAtEnd (fault_value answer) grown ⊎ FailsToPutLeft (fault_value answer) grown

    -- what `finish` does
    pub record Finishes {A : Type 0} (result : Result A Fault) (grown : Output) : Type 0 where
      pub going : IsFaultless engine last
      pub answers : FinishAnswers result grown
      -- what the sink took stays, and nothing happens to an output that has failed
      pub grows : Grows out.took grown.took
      pub after_failure : out.has_failed ≡ true → grown ≡ out

    -- What a caller of `finish` knows, as above.

    -- if it ends well, the lines that were left were put
    abbrev pub WritesLeft : {A : Type 0} → Result A Fault → Output → Type 0
    WritesLeft result grown = IfOk result (λ done. PutsLeft grown)

    -- if a write fails first, the sink failed, and has a prefix of those lines
    abbrev pub WritesLeftPrefix : {A : Type 0} → Result A Fault → Output → Type 0
    WritesLeftPrefix result grown = IfErr result (λ answer. engine.fault last ≡ None
        → FailsToPutLeft (fault_value answer) grown)

-- What an engine is that goes by a rule: what the rule is, until it has failed.

-- the fault that a failure is returned as
abbrev pub fault_of : Failure → FaultValue
fault_of Write = write_failed
fault_of Memory = no_memory

-- the failure that was returned, if one was
abbrev pub ruled_fault : {E : Type 0} → Ruled E → Option FaultValue
ruled_fault ruled = option_map fault_of ruled.failure

-- an engine does what its rule does, until it has failed
abbrev pub ruled : {E : Type 0} → EngineDef E → EngineDef (Ruled E)
ruled rule = record {
  takes = λ first past. rule.takes first.rule past;
  settled = λ first past. rule.settled first.rule past;
  output = λ first past. rule.output first.rule past;
  held = λ first past. rule.held first.rule past;
  is_after = λ first past now. rule.is_after first.rule past now.rule × (ruled_fault now ≡ None);
  fault = ruled_fault;
  quiet = λ first past r. rule.quiet first.rule past r;
  wants = λ old r. rule.wants old.rule r;
}

-- What holds of every list of which more and more is settled as records come.

-- each next record settles what was settled and more, and what is settled begins the whole
pub record SettlesMore {T : Type 0} (settled whole : List Feature → List T)
    (Taken : List Feature → Type 0) : Type 0 where
  pub prefix : (past more : List Feature) → Taken (past ++ more) → Taken past
  pub next : (past : List Feature) (r : Feature) → Taken (past ++ r ∷ [])
      → (lines : List T) × (settled (past ++ r ∷ []) ≡ settled past ++ lines)
  pub begins : (past : List Feature) → Taken past
      → (lines : List T) × (whole past ≡ settled past ++ lines)

-- so what is settled begins what is settled later
abbrev pub SettledStays : {T : Type 0} → (List Feature → List T) → (List Feature → Type 0) → Type 0
SettledStays {T} settled Taken =
    (past more : List Feature) → Taken (past ++ more)
    → (rest : List T) × (settled (past ++ more) ≡ settled past ++ rest)

-- and the whole of every longer list
abbrev pub SettledBegins : {T : Type 0} → (List Feature → List T) → (List Feature → List T)
    → (List Feature → Type 0) → Type 0
SettledBegins {T} settled whole Taken =
    (past more : List Feature) → Taken (past ++ more)
    → (rest : List T) × (whole (past ++ more) ≡ settled past ++ rest)
