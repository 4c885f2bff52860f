-- Lemmas on engines and their rules.
use Rattle.bt_lines.proofs.Std.{arith, ◌≡◌, ℕ, List, Option, None, Some, Result, Ok, Err, sym, ap, ◌∙◌, inl, inr, MatchResult, [], ◌++◌, append-nil, append_cancel_left, ◌∷◌, refl}
use Rattle.bt_lines.specs.model.Fault.{FaultValue}
use Rattle.bt_lines.specs.calls.Faults.{no_memory, write_failed}
use Rattle.bt_lines.specs.calls.Names.{fault_value}
use Rattle.bt_lines.specs.calls.Output.{Output, FailsToAdd, Grown}
use Rattle.bt_lines.specs.declared.fault.Fault.{Fault}
use Rattle.bt_bed.specs.model.Feature.{Feature}
use Rattle.bt_runs.specs.calls.Engine.{EngineDef, FailsAtGiven, KeepsFault, TakesGiven, WritesFirst, WritesLeft, WritesLeftPrefix, WritesPrefix, WritesSettled, Feeds, Finishes, IsWanted, FeedsBatch, TakesEach, ruled, ruled_fault}
use Rattle.bt_lines.proofs.lemmas.Writer.{cut_off, fails_then, grown_more, grows_nothing}
use Rattle.bt_runs.specs.inside.Walk.{Does, EnterAnswers, FitsPast, FollowsCursor, PutsRestAtEnd, RuleDef, Taken, StepsEach, StepsGiven, StepsUpTo}
use Rattle.bt_runs.specs.declared.engine.failure.Failure.{Failure}
use Rattle.bt_runs.specs.declared.engine.rule.Ruled.{Ruled}
use Rattle.bt_bed.specs.calls.Bed.{single_left}
use Rattle.bt_bed.specs.calls.CursorOf.{single_cursor}
use Rattle.bt_bed.specs.declared.read.cursor.Cursor.{Ghosts as Cursor}
use Rattle.bt_bed.specs.declared.read.cursor.Single.{Single}

-- What a call of an engine does, taken apart: from `Feeds` and `Finishes` to a fact for each clause, and back.

pub other_fault : {answer : FaultValue} → answer ≡ no_memory → answer ≡ write_failed → ⊥
other_fault memory write = let apart : no_memory.kind ≡ write_failed.kind = ap (λ (t : FaultValue). t.kind) (sym memory ∙ write) in cc

module _ {E A : Type 0} {engine : EngineDef E} {old : E} {r : Feature} {out : Output} {new : E} {grown : Output} where
  pub feeds_settled : (result : Result A Fault) → Feeds engine old r out result new grown → WritesSettled engine old r out result new grown
  feeds_settled result fed = grind arith

  pub feeds_fault : (result : Result A Fault) → Feeds engine old r out result new grown → KeepsFault engine result new
  feeds_fault result fed = grind arith

  pub feeds_prefix : (result : Result A Fault) → Feeds engine old r out result new grown → WritesPrefix engine old r out result new grown
  feeds_prefix result fed = grind arith

  pub feeds_first : (result : Result A Fault) → Feeds engine old r out result new grown → WritesFirst engine old r out result new grown
  feeds_first result fed = grind arith

  -- a fault that was returned before is returned again, and nothing happens
  pub feeds_again : (result : Result A Fault) → Feeds engine old r out result new grown → (before : FaultValue) → engine.fault old ≡ Some before
      → MatchResult result (λ done. ⊥) (λ answer. fault_value answer ≡ before) × ((new ≡ old) × (grown ≡ out))
  feeds_again result fed before p1 = grind arith

module _ {E A : Type 0} {engine : EngineDef E} {last : E} {out grown : Output} where
  pub finishes_left : (result : Result A Fault) → Finishes engine last out result grown → WritesLeft engine last out result grown
  finishes_left result ends = grind arith

  pub finishes_prefix : (result : Result A Fault) → Finishes engine last out result grown → WritesLeftPrefix engine last out result grown
  finishes_prefix result ends = grind arith

  pub finishes_again : (result : Result A Fault) → Finishes engine last out result grown → (before : FaultValue) → engine.fault last ≡ Some before
      → MatchResult result (λ done. ⊥) (λ answer. fault_value answer ≡ before) × (grown ≡ out)
  finishes_again result ends before p1 = grind arith

-- A rule enters a chromosome: the lines that come first of those of each record on it are put. Then it does with a record what it would have
-- done before.

-- if nothing more is settled, no lines came
pub none_more : (before lines after : List ℕ) → after ≡ before ++ lines → after ≡ before → lines ≡ []
none_more before lines after more same = append_cancel_left before lines [] (sym more ∙ same ∙ sym (append-nil before))

module _ {E : Type 0} {rule : RuleDef E} {old : E} (fits : (r : Feature) → FitsPast rule old r) where
  -- it is on the chromosome already
  pub stays_on : (chrom : List ℕ) (out : Output) → EnterAnswers rule old chrom out (Ok tt) old out
  stays_on chrom out r at result next later does = record { does = does; fits = fits r }

  module _ {chrom : List ℕ} {out : Output} (first : List ℕ) where
    module _ {mid : E} {through : Output} (put : Grown out first through) (lines_are : (r : Feature) → r.chrom ≡ chrom → rule.lines old r ≡ first ++ rule.lines mid r)
        (has_so : (r : Feature) → r.chrom ≡ chrom → (new : E) → rule.has mid r new → rule.has old r new) (wants_so : (r : Feature) → r.chrom ≡ chrom → rule.engine.wants mid r → rule.engine.wants old r) where
      does_so : (r : Feature) → r.chrom ≡ chrom → (result : Result (Unit {0}) Fault) (next : E) (later : Output) → Does rule mid r through result next later → Does rule old r out result next later
      does_so r at (Ok done) next later d = (has_so r at next d.0, rw (lines_are r at) (grown_more out through later first (rule.lines mid r) put d.1))
      does_so r at (Err fault) next later (inl p) = inl (rw (lines_are r at) (fails_then out through later first (rule.lines mid r) (fault_value fault) put p))
      does_so r at (Err fault) next later (inr p) = inr (p.0, (wants_so r at p.1.0, rw (lines_are r at) (grown_more out through later first (rule.lines mid r) put p.1.1)))

      -- it goes on as another one
      pub enters : EnterAnswers rule old chrom out (Ok tt) mid through
      enters r at result next later does = record { does = does_so r at result next later does; fits = fits r }

    -- those lines couldn't be written
    pub enters_cut : (fault : Fault) (new : E) (grown : Output) → FailsToAdd out first (fault_value fault) grown → ((r : Feature) → r.chrom ≡ chrom → (rest : List ℕ) × (rule.lines old r ≡ first ++ rest))
        → EnterAnswers rule old chrom out (Err fault) new grown
    enters_cut fault new grown cut lines_are r at =
        let more = lines_are r at in
        record { does = inl (rw more.1 (cut_off out grown first more.0 (fault_value fault) cut)); fits = fits r }

    -- they were all, and memory ran out that a record on the chromosome needs
    pub enters_short : (fault : Fault) (new : E) (grown : Output) → fault_value fault ≡ no_memory → Grown out first grown → ((r : Feature) → r.chrom ≡ chrom → rule.engine.wants old r × (rule.lines old r ≡ first))
        → EnterAnswers rule old chrom out (Err fault) new grown
    enters_short fault new grown is put wanted r at = record { does = inr (is, ((wanted r at).0, rw (wanted r at).1 put)); fits = fits r }

-- The loop over a cursor: what a rule does with the records that the cursor gives, one after another.

module _ {E : Type 0} (rule : RuleDef E) where
  -- one more record
  taken_more : (old : E) (out : Output) (records : List Feature) (r : Feature) (mid : E) (through : Output) (new : E) (grown : Output)
      → StepsEach rule old out records mid through → Taken rule mid r through (Ok tt) new grown → StepsEach rule old out (records ++ r ∷ []) new grown
  taken_more old out [] r mid through new grown is next = rw (← is.0, ← is.1) (new, grown, next, (refl, refl))
  taken_more old out (x ∷ records) r mid through new grown more next = grind (arith, (taken_more more.0 more.1 records r mid through new grown more.3 next))

  -- records were taken, and the next one is available: on its chromosome the rule does with it what it would have done before entering that
  pub record Following {C R : Type 0} (cursor : Cursor C R) (old : E) (start : C) (out : Output) (now : E) (grown : Output) (r : Feature)
      (ahead : C) : Type 0 where
    pub mid : E
    pub before : C
    pub through : Output
    pub takes : StepsGiven rule cursor old start out mid before through
    pub next : cursor.gives before (r ∷ []) ahead
    pub on : r.chrom ≡ cursor.name start
    pub entered : rule.is_on now (cursor.name start)
    pub does_so : (result : Result (Unit {0}) Fault) (next : E) (later : Output) → Taken rule now r grown result next later → Taken rule mid r through result next later

module _ {E C R : Type 0} {rule : RuleDef E} {cursor : Cursor C R} {old : E} {start : C} {out : Output} {now : E} {grown : Output} {r : Feature} {ahead : C}
    (f : Following rule cursor old start out now grown r ahead) {new : E} {later : Output} where
  module _ (more_given : (first mid last : C) (xs ys : List Feature) → cursor.gives first xs mid → cursor.gives mid ys last → cursor.gives first (xs ++ ys) last)
      (done : Taken rule now r grown (Ok tt) new later) where
    -- the available record was taken
    pub follows : StepsGiven rule cursor old start out new ahead later
    follows = grind (arith, (taken_more rule old out f.takes.records r f.mid f.through new later f.takes.each (f.does_so (Ok tt) new later done)))

    -- and the next one is available
    pub follows_on : {next : Feature} {last : C} → rule.is_on new (cursor.name start) → cursor.gives ahead (next ∷ []) last → next.chrom ≡ cursor.name start
        → Following rule cursor old start out new later next last
    follows_on entered given on = grind (arith, (taken_more rule old out f.takes.records r f.mid f.through new later f.takes.each (f.does_so (Ok tt) new later done)))

  -- it wasn't taken
  pub follows_up_to : {fault : Fault} → Taken rule now r grown (Err fault) new later → StepsUpTo rule cursor old start out fault new ahead later
  follows_up_to {fault} fails = record {
    mid = f.mid;
    before = f.before;
    through = f.through;
    takes = f.takes;
    r = r;
    given = f.next;
    fails = f.does_so (Err fault) new later fails;
  }

-- What an engine does that goes by a rule: what the rule does, until it has failed.

-- an engine with a rule that hasn't failed
abbrev going : {E : Type 0} → E → Ruled E
going now = record { rule = now; failure = None }

going_is : {E : Type 0} (now : Ruled E) → now.failure ≡ None → now ≡ going now.rule
going_is now was = ap (λ (failure : Option Failure). record { rule = now.rule; failure = failure }) was

-- the engine keeps the failure that the result reports
abbrev pub Keeps : {E : Type 0} → Result (Unit {0}) Fault → Ruled E → Type 0
Keeps (Ok done) new = new.failure ≡ None
Keeps (Err fault) new = ruled_fault new ≡ Some (fault_value fault)

module _ {E : Type 0} (rule : RuleDef E) where
  -- one record
  module _ (old : E) (r : Feature) (out : Output) (fits : FitsPast rule old r) where
    memory : (fault : Fault) (new : E) (grown : Output) → Does rule old r out (Err fault) new grown → fault_value fault ≡ no_memory → rule.engine.wants old r
    memory fault new grown (inl p) is = absurd (other_fault is p.puts.is)
    memory fault new grown (inr p) is = p.1.0

    feeds_by : (result : Result (Unit {0}) Fault) (new : Ruled E) (grown : Output) → Does rule old r out result new.rule grown → Keeps result new
        → Feeds (ruled rule.engine) (going old) r out result new grown
    feeds_by result new grown p kept = grind arith

  taken_each : (old : E) (out : Output) (records : List Feature) (new : E) (grown : Output) → StepsEach rule old out records new grown
      → TakesEach (ruled rule.engine) (going old) out records (going new) grown
  taken_each old out [] new grown each = (ap going each.0, each.1)
  taken_each old out (r ∷ records) new grown each =
      (going each.0, each.1, feeds_by old r out each.2.fits (Ok tt) (going each.0) each.1 each.2.does refl, taken_each each.0 each.1 records new grown each.3)

  module _ {C R : Type 0} (cursor : Cursor C R) (start : C) (out : Output) where
    taken_given : (old new : E) (passed : C) (grown : Output) → StepsGiven rule cursor old start out new passed grown → TakesGiven (ruled rule.engine) cursor (going old) start out (going new) passed grown
    taken_given old new passed grown t = record { records = t.records; given = t.given; taken = taken_each old out t.records new grown t.each }

    -- an engine that hasn't failed takes the records of a cursor
    pub batch_fed : (old : Ruled E) (result : Result (Unit {0}) Fault) (new : Ruled E) (passed : C) (grown : Output) → old.failure ≡ None → FollowsCursor rule cursor old.rule start out result new.rule passed grown
        → Keeps result new → FeedsBatch (ruled rule.engine) cursor old start out result new passed grown
    batch_fed old (Ok done) new passed grown was f kept = (rw (going_is old was, going_is new kept) (taken_given old.rule new.rule passed grown f.0), f.1)
    batch_fed old (Err fault) new passed grown was f kept = inr (rw (going_is old was) (record {
      mid = going f.mid;
      before = f.before;
      through = f.through;
      takes = taken_given old.rule f.mid f.before f.through f.takes;
      r = f.r;
      given = f.given;
      fails = feeds_by f.mid f.r f.through f.fails.fits (Err fault) new grown f.fails.does kept;
      memory = memory f.mid f.r f.through f.fails.fits fault new.rule grown f.fails.does;
    }))

-- at the end
pub ruled_finishes : {E A : Type 0} {rule : RuleDef E} (last : Ruled E) {out grown : Output} (result : Result A Fault) → last.failure ≡ None
    → PutsRestAtEnd rule last.rule out result grown → Finishes (ruled rule.engine) last out result grown
ruled_finishes last result none p = grind arith

-- One record is a batch of one.

-- the first of one is that one
first_of_one : (r x : Feature) (xs more : List Feature) → r ∷ [] ≡ xs ++ x ∷ more → (xs ≡ []) × (x ≡ r)
first_of_one r x [] more e = let first : r ≡ x = cc in (refl, sym first)
first_of_one r x (y ∷ []) more e = absurd (cc)
first_of_one r x (y ∷ z ∷ xs) more e = absurd (cc)

module _ {E : Type 0} (engine : EngineDef E) (old : E) (r : Feature) (out : Output) (one passed : Single) where
  -- it failed at the only one
  at_first : single_left one ≡ r ∷ [] → {fault : Fault} {new : E} {grown : Output}
      → (p : FailsAtGiven engine single_cursor old one out fault new passed grown) → (p.r ≡ r) × (p.mid ≡ old) × (p.through ≡ out)
  at_first is p = grind (arith, first_of_one)

  pub single_fed : (result : Result (Unit {0}) Fault) (new : E) (grown : Output) → single_left one ≡ r ∷ [] → FeedsBatch engine single_cursor old one out result new passed grown
      → Feeds engine old r out result new grown
  single_fed (Ok done) new grown is f = grind (arith, append-nil)
  single_fed (Err answer) new grown is (inl p) = grind (arith, (grows_nothing out.took))
  single_fed (Err answer) new grown is (inr p) = let at = at_first is p in rw (← at.0, ← at.1, ← at.2) p.fails

  -- if memory ran out, it was for that record
  pub single_wants : (result : Result (Unit {0}) Fault) (new : E) (grown : Output) → single_left one ≡ r ∷ [] → FeedsBatch engine single_cursor old one out result new passed grown
      → IsWanted engine old r result
  single_wants (Ok done) new grown is f = tt
  single_wants (Err answer) new grown is (inl p) = λ memory going. let some = p.is in absurd (cc)
  single_wants (Err answer) new grown is (inr p) = λ memory going. let at = at_first is p in rw (← at.0, ← at.1) (p.memory memory)
