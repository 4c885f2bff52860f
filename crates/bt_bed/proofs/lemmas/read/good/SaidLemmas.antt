-- Lemmas on what a line says on its own.
use Rattle.bt_lines.proofs.Std.{arith, ◌≡◌, ℕ, true, List, Err, zero, suc, ◌+◌, ◌<◌, ◌≤◌, [], ◌∷◌, ◌++◌, take, length, Option, Some, None, Result, Ok, refl, sym, subst, All, IfSome, All-nil, All-head, All-tail}
use Rattle.bt_lines.specs.declared.fault.Kind.{Kind}
use Rattle.bt_bed.proofs.lemmas.parse.FeatureLemmas.{said_is_feature, record_said}
use Rattle.bt_bed.specs.model.BedLine.{is_bed_kind, is_record_kind, record_of}
use Rattle.bt_bed.specs.calls.GenomeTable.{is_genome_kind}
use Rattle.bt_bed.specs.calls.Features.{said_are_features}
use Rattle.bt_lines.specs.model.Fault.{FaultValue}
use Rattle.bt_lines.specs.model.Lines.{TextLine}
use Rattle.bt_lines.specs.calls.Line.{AreNumbered}
use Rattle.bt_lines.specs.declared.fault.Input.{Input}
use Rattle.bt_bed.specs.model.Good.{Format, Good, Member, good_after, good_with}
use Rattle.bt_bed.specs.calls.Reading.{AreAscending, IsBeyond, IsFaultBeyond, is_of_line}

-- what a line says is a feature that a line can say
pub said_features : said_are_features
said_features text f e = said_is_feature text f (record_said text f e).1

-- what is wrong with a line on its own is a fault of a record
pub wrong_is_of_record : (text : List ℕ) (kind : Kind) → Err kind ≡ record_of text → is_record_kind kind ≡ true
unfolding record_of
wrong_is_of_record text kind e = grind arith

-- a fault of a record on its own is one of a BED line
pub bed_of_record : (kind : Kind) → is_record_kind kind ≡ true → is_bed_kind kind ≡ true
bed_of_record kind e = grind arith

-- so what is wrong with a line on its own is a fault of a line
pub wrong_is_of_line : (text : List ℕ) (kind : Kind) → Err kind ≡ record_of text → is_bed_kind kind ≡ true
wrong_is_of_line text kind e = bed_of_record kind (wrong_is_of_record text kind e)

-- a fault of a BED line or of a genome file's line is one of a line
pub bed_of_line : (kind : Kind) → is_bed_kind kind ≡ true → is_of_line kind ≡ true
bed_of_line kind e = grind arith

pub genome_of_line : (kind : Kind) → is_genome_kind kind ≡ true → is_of_line kind ≡ true
genome_of_line kind e = grind arith

-- Lemmas on what is good of lines, whatever they say.

module _ {A State : Type 0} (format : Format A State) (input : Input) where
  -- the members of numbered lines ascend from the first number
  ascend_with : (number : ℕ) (state : State) (said : Result (Option A) Kind) (rest : State → Good A)
      → ((now : State) → AreAscending (suc number) (rest now).members) → AreAscending number (good_with format input number state said rest).members
  ascend_with number state (Err kind) rest h = tt
  ascend_with number state (Ok None) rest h = ascend_less number (rest state).members (h state)
    where
      ascend_less : (number : ℕ) (members : List (Member A)) → AreAscending (suc number) members → AreAscending number members
      ascend_less number [] h = tt
      ascend_less number (m ∷ ms) h = (let above = h.0 in omega arith, h.1)
  ascend_with number state (Ok (Some item)) rest h = (omega arith, h (format.after state item))

  pub ascend_from : (number : ℕ) (state : State) (lines : List TextLine) → AreNumbered number lines → AreAscending number (good_after format input state lines).members
  unfolding good_after
  ascend_from number state [] n = tt
  ascend_from number state (line ∷ lines) n =
      subst (λ k. AreAscending k (good_with format input line.number state (format.says state line) (λ now. good_after format input now lines)).members) n.0
      (ascend_with line.number state (format.says state line) (λ now. good_after format input now lines)
      (λ now. subst (λ k. AreAscending (suc k) (good_after format input now lines).members) (sym n.0) (ascend_from (suc number) now lines n.1)))

  within_with : (last number : ℕ) (state : State) (said : Result (Option A) Kind) (rest : State → Good A) → number ≤ last
      → ((now : State) → All (λ m. m.line ≤ last) (rest now).members) → All (λ m. m.line ≤ last) (good_with format input number state said rest).members
  within_with last number state said rest n h = grind arith

  -- and none is on a line after the last of them
  pub within_from : (last number : ℕ) (state : State) (lines : List TextLine) → AreNumbered number lines → number + length lines ≤ suc last → All (λ m. m.line ≤ last) (good_after format input state lines).members
  unfolding good_after
  within_from last number state [] n e = All-nil (λ m. m.line ≤ last)
  within_from last number state (line ∷ lines) n e =
      within_with last line.number state (format.says state line) (λ now. good_after format input now lines) (let same = n.0 in omega arith) (λ now. within_from last (suc number) now lines n.1 (omega arith))

ascending_beyond : {A : Type 0} (count line : ℕ) (members : List (Member A)) → count < line → AreAscending line members → All (λ m. count < m.line) members
ascending_beyond {A} count line [] low asc = All-nil (λ (m : Member A). count < m.line)
ascending_beyond {A} count line (m ∷ ms) low asc = grind (arith, (ascending_beyond count (suc m.line) ms (omega arith) asc.1))

module _ {A State : Type 0} (format : Format A State) (input : Input) where
  fault_with : (count number : ℕ) (state : State) (said : Result (Option A) Kind) (rest : State → Good A) → count < number
      → ((now : State) → IfSome (rest now).fault (IsFaultBeyond count)) → IfSome (good_with format input number state said rest).fault (IsFaultBeyond count)
  fault_with count number state said rest low h = grind arith

  fault_from : (count number : ℕ) (state : State) (lines : List TextLine) → count < number → AreNumbered number lines → IfSome (good_after format input state lines).fault (IsFaultBeyond count)
  unfolding good_after
  fault_from count number state [] low n = tt
  fault_from count number state (line ∷ lines) low n =
      fault_with count line.number state (format.says state line) (λ now. good_after format input now lines) (omega arith) (λ now. fault_from count (suc number) now lines (omega arith) n.1)

  -- what is good of the lines after the first `count` is on lines after `count`
  pub beyond_from : (count : ℕ) (state : State) (lines : List TextLine) → AreNumbered (suc count) lines → IsBeyond count (good_after format input state lines)
  beyond_from count state lines n = record {
    members = ascending_beyond count (suc count) (good_after format input state lines).members (omega arith) (ascend_from format input (suc count) state lines n);
    fault = fault_from count (suc count) state lines (omega arith) n;
  }

-- members on lines after a line have none up to it
none_up_to : {A : Type 0} (count : ℕ) (past rest : List (Member A)) → AreAscending (suc count) (past ++ rest) → All (λ m. m.line ≤ count) past → past ≡ []
none_up_to count [] rest asc up = refl
none_up_to {A} count (m ∷ ms) rest asc up = grind (arith, All-head)

no_front : {A : Type 0} (past rest : List (Member A)) → [] ≡ past ++ rest → past ≡ []
no_front [] rest e = refl
no_front (m ∷ ms) rest e = cc

module _ {A State : Type 0} (format : Format A State) (input : Input) where
  first_with : {count number : ℕ} (state : State) (said : Result (Option A) Kind) {whole taken : State → Good A} (past : List (Member A)) {rest : List (Member A)} {fault : Option FaultValue} → number ≤ count
      → ((now : State) (past : List (Member A)) → (whole now).members ≡ past ++ rest → (whole now).fault ≡ fault → All (λ m. m.line ≤ count) past → taken now ≡ record { members = past; fault = None })
      → (good_with format input number state said whole).members ≡ past ++ rest → (good_with format input number state said whole).fault ≡ fault
      → All (λ m. m.line ≤ count) past → IsBeyond count (record { members = rest; fault = fault })
      → good_with format input number state said taken ≡ record { members = past; fault = None }
  first_with state (Err kind) past low h e f up beyond = grind arith
  first_with state (Ok None) past low h e f up beyond = h state past e f up
  first_with {count} {number} state (Ok (Some item)) {whole} [] low h e f up beyond =
      let high : All (λ (m : Member A). count < m.line) (record { line = number; item = item } ∷ (whole (format.after state item)).members) = subst (λ ms. All (λ (m : Member A). count < m.line) ms) (sym e) beyond.members in
      grind (arith, All-head)
  first_with {count} state (Ok (Some item)) (m ∷ ms) low h e f up beyond = grind (arith, (All-tail (λ (m : Member A). m.line ≤ count) m ms up))

  -- what is good of the first lines are the members up to the last of these, if the others are after it
  pub first_from : (more : ℕ) {count : ℕ} (number : ℕ) (state : State) (lines : List TextLine) {past rest : List (Member A)} {fault : Option FaultValue} → suc count ≡ number + more → AreNumbered number lines
      → (good_after format input state lines).members ≡ past ++ rest → (good_after format input state lines).fault ≡ fault
      → All (λ m. m.line ≤ count) past → IsBeyond count (record { members = rest; fault = fault })
      → good_after format input state (take more lines) ≡ record { members = past; fault = None }
  unfolding good_after
  first_from zero {count} number state lines size n e f up beyond =
      let start : number ≡ suc count = omega arith in
      grind (arith, none_up_to, (ascend_from format input number state lines n))
  first_from (suc more) number state [] {past} {rest} size n e f up beyond = rw (no_front past rest e) refl
  first_from (suc more) number state (line ∷ lines) {past} size n e f up beyond =
      first_with state (format.says state line) past (omega arith) (λ now past e f up. first_from more (suc number) now lines (omega arith) n.1 e f up beyond) e f up beyond
