-- Lemmas on lines that were consumed of those buffered: the lines that are left tell how many bytes they had.
use Rattle.bt_lines.proofs.Std.{common_steps, ◌≡◌, ℕ, zero, suc, ◌+◌, ◌-◌, ◌≤◌, Bool, true, false, nat_eq, List, [], ◌∷◌, ◌++◌, length, take, drop, refl, sym, ap, ◌∙◌, subst, append_assoc, append-nil, length-append, length-take, length-drop, arith, inl, inr, ◌⊎◌, All, flat_map, drop-append_seam, take-append_seam, take-length, take-append-drop, All-cons, All-head, All-nil, All-tail, ◌≢◌, Option, Some, ◌^◌, None, ◌<◌, nat_le, false≢true}
use Rattle.bt_lines.proofs.lemmas.reader.block.BufferLemmas.{fed_clear, fed_drop, fed_last, fed_none, fed_push}
use Rattle.bt_lines.proofs.lemmas.reader.lines.TextLemmas.{lines_from-fed, lines_from-last, lines_from-nil, spelled-fed, by_lines, lines_are_numbered, whole_lines_are_numbered, bytes_in-lines, line_feeds-append, line_feeds-fed, whole_count, whole_lines_from-fed, whole_lines_from-last, bytes_in-append, whole_front}
use Rattle.bt_lines.proofs.lemmas.reader.lines.BufferedLemmas.{lines_taken}
use Rattle.bt_lines.proofs.lemmas.reader.block.ReadsLemmas.{none_failed}
use Rattle.bt_lines.specs.calls.Reader.{BeginsLines, IsWhere, PassesLines, buffered_lines, lines_in, rest_in, TakenLines, buffered_bytes, is_open, lines_given, AreRead, EndsReads, Hands, IsReadFailed, MayStillCome, source_of, bytes_taken, feeds_taken, IsSound, end_told, fault_kept, input_of, lines_coming}
use Rattle.bt_lines.specs.model.Lines.{TextLine, bytes_in, fed_line, last_line, lines_from, spelled, whole_lines_from, Handed, whole_text, text_lines}
use Rattle.bt_lines.specs.calls.Line.{AreNumbered, line_feeds}
use Rattle.bt_lines.specs.inside.Shape.{IsLast, is_fed}
use Rattle.bt_lines.specs.declared.reader.buffered_lines.BufferedLines.{BufferedLines}
use Rattle.bt_lines.specs.declared.reader.buffered_lines.ConsumedLines.{ConsumedLines}
use Rattle.bt_lines.specs.declared.reader.line_reader.LineReader.{LineReader}
use Rattle.bt_lines.specs.declared.device.Source.{Ghosts as Source}
use Rattle.bt_lines.specs.model.Fault.{FaultValue, read_failed}
use Rattle.bt_lines.specs.declared.fault.Input.{Input}
use Rattle.bt_tool.specs.calls.Run.{TellsNoRead, TellsRead}
use Rattle.bt_tool.specs.calls.Inputs.{CameOf, InputRead, MayHold, ReadsAs, ReadsSo, handed_by}
use Rattle.bt_lines.specs.calls.Device.{ReadsOn}
use Rattle.bt_lines.specs.inside.ReadBuffer.{fault_at, told_at}
use Rattle.bt_lines.specs.declared.reader.line_reader.State.{State}
use Rattle.bt_lines.specs.calls.Output.{block_size}
use Rattle.bt_bed.specs.model.Good.{Format, Member, good, good_handed, Good}
use Rattle.bt_bed.specs.calls.Reading.{IsBeyond, MemberReader, coming}
use Rattle.bt_bed.proofs.lemmas.read.good.SaidLemmas.{first_from}
use Rattle.bt_lines.specs.declared.fault.Kind.{Kind}
use Rattle.bt_tool.specs.inside.Feed.{IsFresh, HasFaultBehind, IsKeptBelow, IsNearTo, IsUnreadBehind, WhateverComes}

-- after a piece and its line feed complete lines go on
fed_behind : (piece rest : List ℕ) → is_fed (piece ++ 10 ∷ rest) ≡ true → is_fed rest ≡ true
fed_behind piece rest fed = grind (arith, (append_assoc piece (10 ∷ []) rest), (drop-append_seam (piece ++ 10 ∷ []) rest), (fed_drop (length (piece ++ 10 ∷ [])) (piece ++ 10 ∷ rest) fed))

-- complete lines are the bytes of their lines
whole_spelled : (n : ℕ) (bytes : List ℕ) → is_fed bytes ≡ true → flat_map spelled (whole_lines_from n bytes) ≡ bytes
whole_spelled = by_lines (λ n bytes. is_fed bytes ≡ true → flat_map spelled (whole_lines_from n bytes) ≡ bytes)
    (λ n piece clear fed. ap (flat_map spelled) (whole_lines_from-last n piece clear) ∙ sym (fed_clear piece fed clear))
    (λ n piece rest clear is fed.
    ap (flat_map spelled) (whole_lines_from-fed n piece rest clear)
    ∙ ap (λ l. l ++ flat_map spelled (whole_lines_from (suc n) rest)) (spelled-fed n piece)
    ∙ append_assoc piece (10 ∷ []) (flat_map spelled (whole_lines_from (suc n) rest))
    ∙ ap (λ l. piece ++ 10 ∷ l) (is (fed_behind piece rest fed)))

abbrev IsFed : TextLine → Type 0
IsFed line = is_fed (spelled line) ≡ true

whole_fed : (n : ℕ) (bytes : List ℕ) → All IsFed (whole_lines_from n bytes)
whole_fed = by_lines (λ n bytes. All IsFed (whole_lines_from n bytes))
    (λ n piece clear. subst (All IsFed) (sym (whole_lines_from-last n piece clear)) (All-nil IsFed))
    (λ n piece rest clear is.
    subst (All IsFed) (sym (whole_lines_from-fed n piece rest clear)) (All-cons IsFed (fed_line n piece) (whole_lines_from (suc n) rest) (ap is_fed (spelled-fed n piece) ∙ fed_push piece) is))

fed_both_by : (xs ys : List ℕ) → is_fed xs ≡ true → (ys ≡ []) ⊎ ((front : List ℕ) × (ys ≡ front ++ 10 ∷ [])) → is_fed (xs ++ ys) ≡ true
fed_both_by xs ys fed (inl none) = ap (λ l. is_fed (xs ++ l)) none ∙ ap is_fed (append-nil xs) ∙ fed
fed_both_by xs ys fed (inr f) = ap (λ l. is_fed (xs ++ l)) f.1 ∙ ap is_fed (sym (append_assoc xs f.0 (10 ∷ []))) ∙ fed_push (xs ++ f.0)

front_fed : (texts more : List TextLine) → All IsFed (texts ++ more) → is_fed (flat_map spelled texts) ≡ true
front_fed [] more all = refl
front_fed (line ∷ lines) more all = grind (arith, (front_fed lines more (All-tail IsFed line (lines ++ more) all)), fed_both_by, All-head, fed_last)

-- what was consumed are `count` complete lines
pub record Front (bytes : List ℕ) (at count : ℕ) : Type 0 where
  pub fed : is_fed (take at bytes) ≡ true
  pub feeds : line_feeds (take at bytes) ≡ count

-- if each line has its line feed
module _ (n m at : ℕ) (bytes : List ℕ) (texts : List TextLine) (fed : is_fed bytes ≡ true) (within : at ≤ length bytes)
    (left : whole_lines_from n bytes ≡ texts ++ whole_lines_from m (drop at bytes)) where
  whole_at : at ≡ length (flat_map spelled texts)
  whole_at =
      let parts : bytes ≡ flat_map spelled texts ++ drop at bytes =
      sym (whole_spelled n bytes fed) ∙ ap (flat_map spelled) left ∙ (grind (arith, common_steps))
      ∙ ap (λ l. flat_map spelled texts ++ l) (whole_spelled m (drop at bytes) (fed_drop at bytes fed)) in
      omega (arith, within, ap length parts, length-append (flat_map spelled texts) (drop at bytes), length-drop at bytes)

  whole_bytes : take at bytes ≡ flat_map spelled texts
  whole_bytes =
      let parts : bytes ≡ flat_map spelled texts ++ drop at bytes =
      sym (whole_spelled n bytes fed) ∙ ap (flat_map spelled) left ∙ (grind (arith, common_steps))
      ∙ ap (λ l. flat_map spelled texts ++ l) (whole_spelled m (drop at bytes) (fed_drop at bytes fed)) in
      ap (λ k. take k bytes) whole_at ∙ ap (take (length (flat_map spelled texts))) parts ∙ take-append_seam (flat_map spelled texts) (drop at bytes)

  front_whole : Front bytes at (length texts)
  front_whole = record {
    fed = ap is_fed whole_bytes ∙ front_fed texts (whole_lines_from m (drop at bytes)) (subst (All IsFed) left (whole_fed n bytes));
    feeds = omega (
      arith,
      whole_count n bytes,
      whole_count m (drop at bytes),
      ap length left,
      length-append texts (whole_lines_from m (drop at bytes)),
      ap line_feeds (take-append-drop at bytes),
      line_feeds-append (take at bytes) (drop at bytes),
    );
  }

-- if the line's feed isn't one of the text
few_lines : (n : ℕ) (bytes : List ℕ) → length (lines_from n bytes) ≤ suc (line_feeds bytes)
few_lines = by_lines (λ n bytes. length (lines_from n bytes) ≤ suc (line_feeds bytes))
    (λ n piece clear. omega (arith, ap length (lines_from-last n piece clear), few_last n piece))
    (λ n piece rest clear is. omega (arith, is, ap length (lines_from-fed n piece rest clear), line_feeds-fed piece rest clear))
  where
    few_last : (n : ℕ) (piece : List ℕ) → length (last_line n piece) ≤ 1
    few_last n [] = omega arith
    few_last n (byte ∷ bytes) = omega arith

not_one : (n : ℕ) → nat_eq n 1 ≡ false → (n ≡ 0) ⊎ (2 ≤ n)
not_one n e = grind arith

front_none : (bytes : List ℕ) (at : ℕ) → at ≡ 0 → Front bytes at 0
front_none bytes at none = record { fed = ap (λ k. is_fed (take k bytes)) none; feeds = ap (λ k. line_feeds (take k bytes)) none }

module _ (n m at : ℕ) (bytes : List ℕ) (fed : is_fed bytes ≡ true) (within : at ≤ length bytes) (one : line_feeds bytes ≤ 1) (some : nat_eq (length bytes) 1 ≡ false) (some_left : nat_eq (length (drop at bytes)) 1 ≡ false) where
  abbrev text : List ℕ
  text = take (length bytes - 1) bytes

  abbrev text_left : List ℕ
  text_left = take (length (drop at bytes) - 1) (drop at bytes)

  none_gone : lines_from n text ≡ lines_from m text_left → Front bytes at 0
  none_gone left =
      front_none bytes at
      (elim (not_one (length bytes) some) [
        | inl none ↦ omega (arith, none, within)
        | inr two ↦ grind (arith, (bytes_in-lines n text), (bytes_in-lines m text_left), (length-take (length bytes - 1) bytes), (length-take (length (drop at bytes) - 1) (drop at bytes)), length-drop)
      ])

  feeds_text : line_feeds text ≡ 0
  feeds_text = grind (arith, common_steps, fed_last)

  all_gone : (line : TextLine) (texts : List TextLine) → lines_from n text ≡ line ∷ texts ++ lines_from m text_left → Front bytes at (length (line ∷ texts))
  all_gone line texts left =
      let few : length (line ∷ texts ++ lines_from m text_left) ≤ 1 = omega (arith, few_lines n text, feeds_text, ap length left) in
      let alone : length texts ≡ 0 = omega (arith, few, length-append texts (lines_from m text_left)) in
      let gone : lines_from m text_left ≡ [] = none_of (lines_from m text_left) (omega (arith, few, length-append texts (lines_from m text_left))) in
      let empty : length text_left ≡ 0 = omega (arith, bytes_in-lines m text_left, ap bytes_in gone) in
      grind (arith, length-drop, length-take, take-length, count)
    where
      none_of : (lines : List TextLine) → length lines ≡ 0 → lines ≡ []
      none_of [] e = refl
      none_of (x ∷ xs) e = absurd (omega (arith, e))

      count : (k : ℕ) → line_feeds bytes ≡ k → k ≡ 1
      count zero e = absurd (grind (arith, fed_none, lines_from-nil))
      count (suc zero) e = refl
      count (suc (suc k)) e = absurd (omega (arith, e, one))

  open_front : (texts : List TextLine) → lines_from n text ≡ texts ++ lines_from m text_left → Front bytes at (length texts)
  open_front [] left = none_gone left
  open_front (line ∷ texts) left = all_gone line texts left

front_by : (is_open : Bool) (n m at : ℕ) (bytes : List ℕ) (texts : List TextLine) → is_fed bytes ≡ true → at ≤ length bytes → IsLast is_open is_open bytes [] → IsLast is_open is_open (drop at bytes) []
    → buffered_lines is_open n bytes ≡ texts ++ buffered_lines is_open m (drop at bytes) → Front bytes at (length texts)
front_by false n m at bytes texts fed within last last_left left = front_whole (suc n) (suc m) at bytes texts fed within left
front_by true n m at bytes texts fed within last last_left left = open_front (suc n) (suc m) at bytes fed within (last.one refl) (last.some refl) (last_left.some refl) texts left

numbered_by : (is_open : Bool) (lines : ℕ) (bytes : List ℕ) → AreNumbered (suc lines) (buffered_lines is_open lines bytes)
numbered_by is_open lines bytes = grind (arith, whole_lines_are_numbered, lines_are_numbered)

numbered_front : (number : ℕ) (texts more : List TextLine) → AreNumbered number (texts ++ more) → AreNumbered number texts
numbered_front number [] more are = tt
numbered_front number (line ∷ lines) more are = (are.0, numbered_front (suc number) lines more are.1)

-- the lines that a reader has buffered, and what was consumed of them
module _ {S : Type 0} (reader : LineReader S) (first last : BufferedLines) (texts : List TextLine)
    (begins : BeginsLines (buffered_bytes reader) (lines_given reader) (is_open reader) first)
    (left_is : lines_in first ≡ texts ++ lines_in last) (all_is : last.all ≡ first.all) (given : last.lines ≡ first.lines + length texts) (open_is : last.is_open ≡ first.is_open) where
  behind : rest_in last ≡ drop last.at (rest_in first)
  unfolding rest_in
  behind = ap (λ a. drop last.at a.now) all_is ∙ ap (λ k. drop last.at (drop k first.all.now)) (sym begins.at)

  size_of : last.at ≤ length (rest_in first)
  unfolding rest_in
  size_of = omega (arith, last.within, ap (λ a. length a.now) all_is, ap (λ k. length (drop k first.all.now)) begins.at)

  fed_of : is_fed (rest_in first) ≡ true
  unfolding rest_in
  fed_of = first.fed

  last_first : IsLast first.is_open first.is_open (rest_in first) []
  unfolding rest_in
  last_first = first.last

  last_last : IsLast last.is_open last.is_open (rest_in last) []
  unfolding rest_in
  last_last = last.last

  front : Front (rest_in first) last.at (length texts)
  unfolding lines_in
  front = grind (arith, front_by, fed_of, size_of, last_first, behind, last_last)

  passes : PassesLines first (length texts) last
  passes = grind (arith, drop-append_seam, front)

  -- `count` lines were taken
  pub lines_consumed : (consumed : ConsumedLines) → IsWhere last consumed → TakenLines reader consumed (length texts)
  lines_consumed consumed is = lines_taken reader first last consumed (length texts) begins passes is

  -- they are numbered from the next one on
  pub lines_numbered : AreNumbered (suc (lines_given reader)) texts
  unfolding lines_in
  lines_numbered = grind (arith, numbered_front, (numbered_by first.is_open first.lines (rest_in first)))

-- What may be the text of an input, once it was read.

-- it may be the whole text, and no failed read is reported
pub record IsWhole (read : InputRead) (fault : Option FaultValue) (handed : Handed) : Type 0 where
  pub holds : MayHold read handed
  pub no_read : (input : Input) (line : ℕ) → fault ≢ Some (read_failed input line)

-- this came of it, or is all of it if no failed read is reported
abbrev pub Came : InputRead → Option FaultValue → Handed → Type 0
Came read fault handed = CameOf read handed ⊎ IsWhole read fault handed

-- Lemmas on what an input handed over: its first lines, and the piece that a failed read cut off.

-- if all but a block of what follows some lines is left, at most these lines and a block were handed over
pub handed_near : (count : ℕ) (text handed rest : List ℕ) → handed ++ rest ≡ text
    → bytes_in (drop count (text_lines text)) ≤ length rest + block_size
    → length handed ≤ bytes_in (take count (text_lines text)) + block_size
handed_near count text handed rest parts near =
    grind (arith, (bytes_in-append (take count (text_lines text)) (drop count (text_lines text))), (take-append-drop count (text_lines text)), (bytes_in-lines 1 text), (length-append handed rest))

module _ {A State : Type 0} (format : Format A State) (input : Input) where
  -- what is good of a text that was cut off after these lines: the members of the lines, and then
  -- the failed read
  pub cut_good : (cut more : List ℕ) (past rest : List (Member A)) (fault : Option FaultValue)
      → (good format input (text_lines (cut ++ more))).members ≡ past ++ rest
      → (good format input (text_lines (cut ++ more))).fault ≡ fault
      → All (λ m. m.line ≤ line_feeds cut) past
      → IsBeyond (line_feeds cut) (record { members = rest; fault = fault })
      → good_handed format input (record { text = cut; is_cut = true })
      ≡ record { members = past; fault = Some (read_failed input (suc (line_feeds cut))) }
  cut_good cut more past rest fault members at up beyond = grind (arith, first_from, (lines_are_numbered 1 (cut ++ more)), (whole_front 1 cut more), (whole_count 1 cut))

-- and if it passed the bound
pub handed_past : (failed passed : Bool) (text bytes : List ℕ) → passed ≡ true
    → handed_by failed passed text bytes ≡ record { text = take (2 ^ 63 - 1) bytes; is_cut = true }
handed_past failed passed text bytes p = grind arith

pub below_bound : (n : ℕ) → n < 2 ^ 63 → nat_le (2 ^ 63) n ≡ false
below_bound n h = grind arith

pub past_bound : (n : ℕ) → 2 ^ 63 ≤ n → nat_le (2 ^ 63) n ≡ true
past_bound n h = grind arith

-- and if a read failed
handed_failed : (failed passed : Bool) (text bytes : List ℕ) → failed ≡ true → handed_by failed passed text bytes ≡ record { text = take (2 ^ 63 - 1) bytes; is_cut = true }
handed_failed failed passed text bytes f = grind arith

-- what came of a text is all of it, or was cut off
pub came_is_all : {read : InputRead} {handed : Handed} → CameOf read handed → (read.failed ≡ true → ⊥) → nat_le (2 ^ 63) (length read.bytes) ≡ false → MayHold read handed
came_is_all {read} came served within = record {
  rest = came.rest;
  follows = came.follows;
  is = came.is ∙ all_by read.failed (nat_le (2 ^ 63) (length read.bytes)) served within;
}
  where
    all_by : (failed passed : Bool) → (failed ≡ true → ⊥) → passed ≡ false → handed_by failed passed (read.bytes ++ came.rest) read.bytes ≡ whole_text (read.bytes ++ came.rest)
    all_by true passed never e = absurd (never refl)
    all_by false true never e = absurd (false≢true (sym e))
    all_by false false never e = refl

pub came_is_cut : {read : InputRead} {handed : Handed} → CameOf read handed → (read.failed ≡ false → nat_le (2 ^ 63) (length read.bytes) ≡ true) → handed ≡ record { text = take (2 ^ 63 - 1) read.bytes; is_cut = true }
came_is_cut {read} came past = came.is ∙ part_by read.failed (nat_le (2 ^ 63) (length read.bytes)) past
  where
    part_by : (failed passed : Bool) → (failed ≡ false → passed ≡ true) → handed_by failed passed (read.bytes ++ came.rest) read.bytes ≡ record { text = take (2 ^ 63 - 1) read.bytes; is_cut = true }
    part_by true passed e = handed_failed true passed (read.bytes ++ came.rest) read.bytes refl
    part_by false passed e = handed_past false passed (read.bytes ++ came.rest) read.bytes (e refl)

-- How a reader's reads went: whether the last one failed, and what it keeps then.
pub record ReadOf {S : Type 0} (device : Source S) (old : LineReader S) (bytes : List ℕ) (new : LineReader S) : Type 0 where
  pub failed : Bool
  pub reads : ReadsAs (end_told new) failed device.is_read (source_of old) bytes (source_of new)
  pub kept : failed ≡ true → IsReadFailed (fault_kept new)
  pub past : failed ≡ false → IsReadFailed (fault_kept new) → 2 ^ 63 ≤ bytes_taken new

-- a reader that keeps a failed read wasn't told the end
failed_untold : {S : Type 0} (reader : LineReader S) → IsReadFailed (fault_kept reader) → end_told reader ≡ false
unfolding fault_kept end_told
failed_untold reader kept = told_by reader.state kept.2
  where
    told_by : (state : State) → fault_at state reader.input reader.lines ≡ Some (read_failed kept.0 kept.1) → told_at state ≡ false
    told_by state e = grind arith

module _ {S : Type 0} (device : Source S) {old : LineReader S} {bytes : List ℕ} {new : LineReader S} (hands : Hands device old bytes new) (untold : end_told old ≡ false) (going : fault_kept old ≡ None) where
  pub read_of : ReadOf device old bytes new
  unfolding AreRead EndsReads
  read_of = go (end_told new) refl hands.reads
    where
      served : (told : Bool) → end_told new ≡ told → ReadsOn device.is_read (source_of old) bytes (source_of new) → ReadsAs told false device.is_read (source_of old) bytes (source_of new)
      served true e reads = hands.ends_reads.1 untold e
      served false e reads = reads

      go : (told : Bool) → end_told new ≡ told → AreRead device old bytes new → ReadOf device old bytes new
      go told e (inl on) = record {
        failed = false;
        reads = subst (λ t. ReadsAs t false device.is_read (source_of old) bytes (source_of new)) (sym e) (served told e on.0);
        kept = λ failed. absurd (false≢true failed);
        past = λ never failed. on.1 going failed;
      }
      go told e (inr fails) = record {
        failed = true;
        reads = subst (λ t. ReadsAs t true device.is_read (source_of old) bytes (source_of new)) (sym (failed_untold new fails.1)) fails.0;
        kept = λ failed. fails.1;
        past = λ served. absurd (false≢true (sym served));
      }

-- Lemmas on what is good of an input that a reader of members took.

-- what is good of a whole text
pub good_whole : {A State : Type 0} (format : Format A State) (input : Input) (text : List ℕ) → good_handed format input (whole_text text) ≡ good format input (text_lines text)
good_whole format input text = grind arith

-- a reader at its beginning
pub record BeginsAt {S A State : Type 0} (format : Format A State) (input : Input) (first : S) (old : MemberReader S A State) : Type 0 where
  pub source : source_of old.below ≡ first
  pub input_is : input_of old.below ≡ input
  pub going : fault_kept old.below ≡ None
  pub untold : end_told old.below ≡ false
  pub bytes : bytes_taken old.below ≡ 0
  pub feeds : feeds_taken old.below ≡ 0
  pub lines : (rest : List ℕ) → lines_coming rest old.below ≡ text_lines rest
  pub good : (rest : List ℕ) → coming rest old ≡ good format input (text_lines rest)

-- a reader of members over a reader of lines that has given nothing
module _ {S A State : Type 0} (device : Source S) {reader : LineReader S} (members : MemberReader S A State)
    (is : members.below ≡ reader) (taken : bytes_taken reader ≡ 0) (fed : feeds_taken reader ≡ 0) where
  pub fresh_over : lines_given reader ≡ 0 → members.fault ≡ None → fault_kept reader ≡ None → members.buffered ≡ [] → IsSound device reader → IsFresh device members
  fresh_over given going clear none sound = grind arith

  pub begins_over : {format : Format A State} {input : Input} {first : S} → source_of reader ≡ first → input_of reader ≡ input → fault_kept reader ≡ None
      → end_told reader ≡ false → ((rest : List ℕ) → lines_coming rest reader ≡ text_lines rest)
      → (fault_kept reader ≡ None → (rest : List ℕ) → coming rest members ≡ good format (input_of reader) (lines_coming rest reader)) → BeginsAt format input first members
  begins_over {format} source same going untold all known = record {
    source = ap source_of is ∙ source;
    input_is = ap input_of is ∙ same;
    going = ap fault_kept is ∙ going;
    untold = ap end_told is ∙ untold;
    bytes = ap bytes_taken is ∙ taken;
    feeds = ap feeds_taken is ∙ fed;
    lines = λ rest. ap (lines_coming rest) is ∙ all rest;
    good = λ rest. known going rest ∙ ap (λ input. good format input (lines_coming rest reader)) same ∙ ap (good format _) (all rest);
  }

module _ {S A State : Type 0} (device : Source S) {format : Format A State} {input : Input} {first : S} (old : MemberReader S A State) (begins : BeginsAt format input first old)
    (new : MemberReader S A State) {last : S} (ended : source_of new.below ≡ last) {bytes : List ℕ} (hands : Hands device old.below bytes new.below) where
  unfoldable pub of_reader : ReadOf device old.below bytes new.below
  of_reader = read_of device hands begins.untold begins.going

  -- what was read of the input
  abbrev pub read : InputRead
  read = record { bytes = bytes; told = end_told new.below; failed = of_reader.failed }

  pub reads_so : ReadsSo device first read last
  reads_so =
      subst (λ (s : S). ReadsSo device s read last) begins.source
      (subst (λ (s : S). ReadsSo device (source_of old.below) read s) ended (record { went = of_reader.reads }))

  counted : length bytes ≡ bytes_taken new.below
  counted = omega (arith, hands.counted, begins.bytes)

  -- what is so of the good records of each text that it may have
  pub at_whole : {handed : Handed} → MayHold read handed → (P : Good A → Type 0) → WhateverComes old bytes new P → P (good_handed format input handed)
  at_whole holds P h =
      subst (λ t. P (good_handed format input t)) (sym holds.is) (subst P (begins.good (bytes ++ holds.rest) ∙ sym (good_whole format input (bytes ++ holds.rest))) (h holds.rest holds.follows))

  -- if no read failed, and the bound wasn't passed
  came_all : {handed : Handed} → CameOf read handed → fault_kept new.below ≡ None → bytes_taken new.below < 2 ^ 63 → MayHold read handed
  came_all came clear within = came_is_all came (λ e. none_failed (fault_kept new.below) clear (of_reader.kept e)) (below_bound (length bytes) (omega (arith, counted, within)))

  -- an input that worked
  pub came_whole : {fault : Option FaultValue} {handed : Handed} → Came read fault handed → fault_kept new.below ≡ None → bytes_taken new.below < 2 ^ 63
      → (P : Good A → Type 0) → WhateverComes old bytes new P → P (good_handed format input handed)
  came_whole (inl came) clear within P h = at_whole (came_all came clear within) P h
  came_whole (inr whole) clear within P h = at_whole whole.holds P h

  -- one that failed or passed the bound was cut off
  came_part : {handed : Handed} → CameOf read handed → IsReadFailed (fault_kept new.below) → handed ≡ record { text = take (2 ^ 63 - 1) bytes; is_cut = true }
  came_part came kept = came_is_cut came (λ e. past_bound (length bytes) (omega (arith, counted, of_reader.past e kept)))

  -- one that failed to be read
  pub came_cut : (past : List (Member A)) (fault : FaultValue) (handed : Handed) → Came read (Some fault) handed → IsUnreadBehind device old bytes past fault new → IsReadFailed (fault_kept new.below)
      → good_handed format input handed ≡ record { members = past; fault = Some fault }
  came_cut past fault handed (inr whole) unread kept = absurd (whole.no_read (input_of old.below) (suc (lines_given new.below)) (ap Some unread.is))
  came_cut past fault handed (inl came) unread kept =
      let front = take (2 ^ 63 - 1) bytes in
      let more = drop (2 ^ 63 - 1) bytes ++ came.rest in
      let text : front ++ more ≡ bytes ++ came.rest = sym (append_assoc front (drop (2 ^ 63 - 1) bytes) came.rest) ∙ ap (λ l. l ++ came.rest) (take-append-drop (2 ^ 63 - 1) bytes) in
      let same : line_feeds (take (2 ^ 63 - 1 - bytes_taken old.below) bytes) ≡ line_feeds front = ap (λ n. line_feeds (take (2 ^ 63 - 1 - n) bytes)) begins.bytes in
      let given : lines_given new.below ≡ line_feeds front = omega (arith, unread.cut, begins.feeds, same) in
      let all = begins.good (bytes ++ came.rest) ∙ ap (λ t. good format input (text_lines t)) (sym text) in
      let members = subst (λ (g : Good A). (rest : List (Member A)) × (g.members ≡ past ++ rest) × IsBeyond (lines_given new.below) (record { members = rest; fault = g.fault })) all (unread.members came.rest came.follows) in
      let told : Some (read_failed input (suc (line_feeds front))) ≡ Some fault =
      ap Some (sym (unread.is ∙ ap (λ i. read_failed i (suc (lines_given new.below))) begins.input_is ∙ ap (λ n. read_failed input (suc n)) given)) in
      ap (good_handed format input) (came_part came kept)
      ∙ cut_good format input front more past members.0 (good format input (text_lines (front ++ more))).fault members.1 refl
      (subst (λ n. All (λ m. m.line ≤ n) past) given unread.behind)
      (subst (λ n. IsBeyond n (record { members = members.0; fault = (good format input (text_lines (front ++ more))).fault })) given members.2)
      ∙ ap (λ f. record { members = past; fault = f }) told

  -- one with a fault
  pub says_fault : (Kinds : Kind → Type 0) (past : List (Member A)) (fault : FaultValue) (handed : Handed) → Came read (Some fault) handed → IsKeptBelow new new.below
      → HasFaultBehind device old Kinds bytes past fault new → ((good_handed format input handed).members ≡ past) × ((good_handed format input handed).fault ≡ Some fault)
  says_fault Kinds past fault handed came kept (inl wrong) = came_whole came wrong.clear wrong.within (λ good. (good.members ≡ past) × (good.fault ≡ Some fault)) wrong.whole
  says_fault Kinds past fault handed came kept (inr unread) =
      let is = came_cut past fault handed came unread (input_of old.below, suc (lines_given new.below), kept (input_of old.below) (suc (lines_given new.below)) (unread.kept ∙ ap Some unread.is)) in
      (ap (λ (g : Good A). g.members) is, ap (λ (g : Good A). g.fault) is)

  -- what was handed over, by how many lines were read
  pub handed_to : (count : ℕ) (rest : List ℕ) → MayStillCome new.below rest → IsNearTo count old bytes new → length bytes ≤ bytes_in (take (suc count) (text_lines (bytes ++ rest))) + block_size
  handed_to count rest follows near =
      handed_near (suc count) (bytes ++ rest) bytes rest refl (subst (λ lines. bytes_in (drop (suc count) lines) ≤ length rest + block_size) (begins.lines (bytes ++ rest)) (near rest follows))

  -- if no failed read is kept, none failed
  pub not_failed : TellsNoRead (fault_kept new.below) → read.failed ≡ false
  not_failed never = false_by of_reader.failed of_reader.kept
    where
      false_by : (failed : Bool) → (failed ≡ true → IsReadFailed (fault_kept new.below)) → failed ≡ false
      false_by true kept = let is = kept refl in absurd (never is.0 is.1 is.2)
      false_by false kept = refl

  -- a failed read that is told
  pub tells_read : {past : List (Member A)} {fault : FaultValue} → IsUnreadBehind device old bytes past fault new → IsKeptBelow new new.below → TellsRead device input read last fault
  tells_read {fault = fault} unread kept = record {
    line = suc (lines_given new.below);
    is = unread.is ∙ ap (λ i. read_failed i (suc (lines_given new.below))) begins.input_is;
    cause = cause_by of_reader.failed refl unread.cause;
  }
    where
      cut : IsReadFailed (fault_kept new.below)
      cut = (input_of old.below, suc (lines_given new.below), kept (input_of old.below) (suc (lines_given new.below)) (unread.kept ∙ ap Some unread.is))

      cause_by : (failed : Bool) → of_reader.failed ≡ failed → (device.has_failed (source_of new.below) ≡ true) ⊎ (2 ^ 63 ≤ bytes_taken new.below) → ((of_reader.failed ≡ true) × (device.has_failed last ≡ true)) ⊎ (2 ^ 63 ≤ length bytes)
      cause_by true e (inl failed) = inl (e, ap device.has_failed (sym ended) ∙ failed)
      cause_by true e (inr past) = inr (omega (arith, counted, past))
      cause_by false e cause = inr (omega (arith, counted, of_reader.past e cut))
