-- Lemmas on a line that is taken of those that are buffered.
use Rattle.bt_lines.proofs.Std.{common_steps, ◌≡◌, ◌⊎◌, ℕ, suc, ◌+◌, ◌-◌, ◌<◌, ◌≤◌, Bool, true, false, cond, List, [], ◌∷◌, ◌++◌, length, take, drop, Option, refl, sym, ap, ◌∙◌, subst, append_assoc, append-nil, length-append, add-zero, arith, nat_lt, ends_with_byte, strip_last, take-append_seam, length-take, ◌^◌, drop-drop, length-drop, take-append-drop, take_all, take-add, drop_all, drop_more}
use Rattle.bt_lines.specs.declared.device.Source.{Ghosts as Source}
use Rattle.bt_lines.proofs.lemmas.reader.block.BufferLemmas.{unread_fits, fed_none, fed_clear, fed_drop, fed_after, fed_push}
use Rattle.bt_lines.proofs.lemmas.reader.block.ReadsLemmas.{reads_nothing}
use Rattle.bt_lines.proofs.lemmas.reader.lines.StepLemmas.{some_state, goes, told_last, gives_fed, sound_fed, gives_last, sound_last}
use Rattle.bt_lines.proofs.lemmas.reader.lines.TextLemmas.{line_feeds-fed, lines_from-last, lines_from-nil, strip_last-other, whole_lines_from-fed, whole_lines_from-last}
use Rattle.bt_lines.specs.calls.Columns.{IsBefore}
use Rattle.bt_lines.specs.calls.Line.{Cut, Shown, ending_at, NoLineFeed, IsFirst, shown_of, line_feeds}
use Rattle.bt_lines.specs.model.Lines.{TextLine, fed_line}
use Rattle.bt_lines.specs.calls.Output.{block_size}
use Rattle.bt_lines.specs.inside.ReadBuffer.{complete, unread, lends_at, open_at, told_at}
use Rattle.bt_lines.specs.calls.Reader.{GivesLine, IsKept, IsSound, has_ended, held, input_of, lines_given, source_of, BeginsLines, buffered_lines, shown_text_line, lines_after, lines_in, rest_in, IsWhere, PassesLines, TakenLines, buffered_bytes, is_open}
use Rattle.bt_lines.specs.inside.Shape.{AreComplete, IsLast, held_at, is_fed}
use Rattle.bt_lines.specs.declared.reader.line.LineEnd.{LineEnd}
use Rattle.bt_lines.specs.declared.reader.line.LineEnd.TheVariants.{Absent, Lf, CrLf, Cr}
use Rattle.bt_lines.specs.declared.reader.line_reader.LineReader.{LineReader}
use Rattle.bt_lines.specs.declared.reader.line_reader.State.{State}
use Rattle.bt_lines.specs.declared.reader.line_reader.State.TheVariants.{Reading, LastLine}
use Rattle.bt_lines.specs.declared.reader.read_buffer.ReadBuffer.{ReadBuffer}
use Rattle.bt_lines.specs.declared.reader.buffered_lines.BufferedLines.{BufferedLines}
use Rattle.bt_lines.specs.declared.reader.buffered_lines.ConsumedLines.{ConsumedLines}

-- the first line that is buffered was given
pub record CutsFirst {S : Type 0} (device : Source S) (old : LineReader S) (line : TextLine) (new : LineReader S) : Type 0 where
  pub gives : GivesLine device old line new
  pub sound : IsKept device old → IsSound device new

cuts_as : {S : Type 0} (device : Source S) (old new : LineReader S) (line other : TextLine) → line ≡ other → GivesLine device old other new → (IsKept device old → IsSound device new) → CutsFirst device old line new
cuts_as device old new line other e gives sound = record { gives = subst (λ l. GivesLine device old l new) (sym e) gives; sound = sound }

pub are_fed : (buffer : ReadBuffer) → AreComplete buffer.is_spilled (complete buffer)
unfolding complete
are_fed buffer = buffer.are_complete

-- a line that was cut is within the bytes
pub cut_within : (bytes : List ℕ) (line : Shown) → Cut bytes line → line.size ≤ length bytes
cut_within bytes line cut = omega (arith, cut.size_is, ap length cut.cut, length-append cut.piece (10 ∷ drop line.size bytes))

-- what the block has room for
pub lines_fit : (buffer : ReadBuffer) → buffer.is_spilled ≡ false → length (complete buffer ++ unread buffer) ≤ block_size
unfolding complete unread
lines_fit buffer e = grind (arith, length-append, length-take)

-- if only one line is complete, it is all of the lines
pub alone : (lines piece rest : List ℕ) → lines ≡ piece ++ 10 ∷ rest → NoLineFeed piece → line_feeds lines ≤ 1 → is_fed rest ≡ true → rest ≡ []
alone lines piece rest e clear one fed = fed_none rest fed (omega (arith, one, ap line_feeds e, line_feeds-fed piece rest clear))

near_by : (is_spilled : Bool) (buffer : ReadBuffer) (lines piece : List ℕ) → buffer.is_spilled ≡ is_spilled → AreComplete is_spilled lines → lines ≡ piece ++ 10 ∷ complete buffer → NoLineFeed piece
    → length (complete buffer ++ unread buffer) ≤ block_size
near_by false buffer lines piece same are e clear = lines_fit buffer same
near_by true buffer lines piece same are e clear = grind (arith, (alone lines piece (complete buffer) e clear (are.one refl) (are_fed buffer).fed), (unread_fits buffer))

fed_ending : (b : Bool) (piece : List ℕ) → b ≡ ends_with_byte 13 piece → ending_at false b ≡ cond (ends_with_byte 13 piece) CrLf Lf
fed_ending b piece e = rw e refl

last_ending : (b : Bool) (piece : List ℕ) → b ≡ ends_with_byte 13 piece → ending_at true b ≡ cond (ends_with_byte 13 piece) Cr Absent
last_ending b piece e = rw e refl

module _ {S : Type 0} (device : Source S) (old new : LineReader S) {line : Shown} (given : ℕ) (shown : List ℕ) (end : LineEnd)
    (same_state : new.state ≡ old.state) (same : new.input ≡ old.input) (same_source : new.source ≡ old.source) (same_taken : new.taken ≡ old.taken) (more : new.lines ≡ old.lines + 1)
    (cut : Cut (complete old.buffer) line) (lines : complete new.buffer ≡ drop line.size (complete old.buffer)) (behind : unread new.buffer ≡ unread old.buffer)
    (spilled : new.buffer.is_spilled ≡ old.buffer.is_spilled) (number : given ≡ new.lines) (text : shown ≡ take (length line.text) (complete old.buffer))
    (ending : end ≡ ending_at (open_at old.state) (nat_lt (length line.text + 1) line.size)) where
  parts : complete old.buffer ≡ cut.piece ++ 10 ∷ complete new.buffer
  parts = cut.cut ∙ ap (λ l. cut.piece ++ 10 ∷ l) (sym lines)

  near : length (complete new.buffer ++ unread new.buffer) ≤ block_size
  near = near_by old.buffer.is_spilled new.buffer (complete old.buffer) cut.piece spilled (are_fed old.buffer) parts cut.clear

  abbrev given_line : TextLine
  given_line = record { number = given; text = shown; ending = end }

  text_is : shown ≡ strip_last 13 cut.piece
  text_is = text ∙ cut.front ∙ cut.stripped

  next : new.lines ≡ suc old.lines
  next = omega (arith, more)

  numbered : given ≡ suc old.lines
  numbered = number ∙ next

  cut_fed : old.state ≡ Reading → CutsFirst device old given_line new
  unfolding source_of input_of lines_given
  cut_fed is =
      let state : new.state ≡ Reading = same_state ∙ is in
      let was = goes old (rw is refl) in
      let now = goes new (rw state refl) in
      let holds : held old ++ [] ≡ cut.piece ++ 10 ∷ held new =
      append-nil (held old) ∙ was.holds ∙ ap (λ l. l ++ unread old.buffer) parts ∙ append_assoc cut.piece (10 ∷ complete new.buffer) (unread old.buffer)
      ∙ ap (λ l. cut.piece ++ 10 ∷ (complete new.buffer ++ l)) (sym behind) ∙ ap (λ l. cut.piece ++ 10 ∷ l) (sym now.holds) in
      let end_is : end ≡ cond (ends_with_byte 13 cut.piece) CrLf Lf = ending ∙ rw is (fed_ending _ cut.piece cut.returned) in
      let is_line : given_line ≡ fed_line (suc old.lines) cut.piece = rw (numbered, end_is, text_is) refl in
      let short : length (held new) ≤ block_size = rw now.holds near in
      cuts_as device old new given_line _ is_line
      (gives_fed device new [] cut.piece was now same next (reads_nothing device.is_read old.source new.source same_source) (same_taken ∙ sym (add-zero old.taken)) holds cut.clear short (λ h. same_source) (ap device.has_failed same_source))
      (sound_fed device new [] cut.piece was now same next (reads_nothing device.is_read old.source new.source same_source) (same_taken ∙ sym (add-zero old.taken)) holds cut.clear short (λ h. same_source) (ap device.has_failed same_source))

  cut_last : old.state ≡ LastLine → CutsFirst device old given_line new
  unfolding source_of input_of lines_given held has_ended
  cut_last is =
      let state : new.state ≡ LastLine = same_state ∙ is in
      let opened : open_at old.state ≡ true = rw is refl in
      let gone : complete new.buffer ≡ [] = alone (complete old.buffer) cut.piece (complete new.buffer) parts cut.clear (old.last.one opened) (are_fed new.buffer).fed in
      let whole : complete old.buffer ≡ cut.piece ++ 10 ∷ [] = parts ∙ ap (λ l. cut.piece ++ 10 ∷ l) gone in
      let size : length (complete old.buffer) ≡ length cut.piece + 1 = omega (arith, ap length whole, length-append cut.piece (10 ∷ [])) in
      let less : length (complete old.buffer) - 1 ≡ length cut.piece = omega (arith, size) in
      let holds : held old ≡ cut.piece = rw is (ap (λ n. take n (complete old.buffer)) less ∙ ap (take (length cut.piece)) whole ∙ take-append_seam cut.piece (10 ∷ [])) in
      let left_none : held new ≡ [] = rw state (ap (λ l. take (length l - 1) l) gone) in
      let some : 0 < length cut.piece = grind arith in
      let end_is : end ≡ cond (ends_with_byte 13 cut.piece) Cr Absent = ending ∙ rw is (last_ending _ cut.piece cut.returned) in
      let last : TextLine = record { number = suc old.lines; text = strip_last 13 cut.piece; ending = cond (ends_with_byte 13 cut.piece) Cr Absent } in
      let is_line : given_line ≡ last = rw (numbered, end_is, text_is) refl in
      cuts_as device old new given_line last is_line
      (gives_last device new (told_last old is) (told_last new state) (rw is refl) same same_source same_taken holds left_none cut.clear next some)
      (sound_last device new (told_last old is) (told_last new state) (rw is refl) same same_source same_taken holds left_none cut.clear next some)

  by_state : (old.state ≡ Reading) ⊎ (old.state ≡ LastLine) → CutsFirst device old given_line new
  by_state p1 = grind (arith, cut_fed, cut_last)

  -- the first line that is buffered was taken
  pub cuts_first : CutsFirst device old given_line new
  cuts_first = by_state (some_state old.state (λ e. absurd (omega (arith, ap length (old.quiet e), ap length parts, length-append cut.piece (10 ∷ complete new.buffer)))))

-- what a reader keeps while a line is taken
module _ (state : State) {old_lines old_unread : List ℕ} (lines : List ℕ) {unread_now : List ℕ} (given : ℕ) {taken : ℕ} (piece : List ℕ) (clear : NoLineFeed piece) (parts : old_lines ≡ piece ++ 10 ∷ lines) (behind : unread_now ≡ old_unread)
    (fed : is_fed lines ≡ true) (last : IsLast (told_at state) (open_at state) old_lines old_unread) (quiet : lends_at state ≡ false → old_lines ≡ []) (before : given + length (held_at (open_at state) old_lines old_unread) ≤ taken) where
  some_lends : lends_at state ≡ false → ⊥
  some_lends e = omega (arith, ap length (quiet e), ap length parts, length-append piece (10 ∷ lines))

  gone_by : open_at state ≡ true → lines ≡ []
  gone_by e = alone old_lines piece lines parts clear (last.one e) fed

  pub spaced_cut : given + 1 + length (held_at (open_at state) lines unread_now) ≤ taken
  spaced_cut = grind (arith, length-append, length-take)

  pub quiet_cut : lends_at state ≡ false → lines ≡ []
  quiet_cut e = absurd (some_lends e)

  pub last_cut : IsLast (told_at state) (open_at state) lines unread_now
  last_cut = grind (arith, gone_by)

-- Lemmas on the lines that are left of those buffered.

abbrev pub shown_line : Bool → ℕ → Shown → TextLine
shown_line is_open lines line = record { number = suc lines; text = line.text; ending = ending_at is_open (nat_lt (length line.text + 1) line.size) }

-- the first line
pub lines_first : (is_open : Bool) (lines : ℕ) (bytes : List ℕ) (line : Shown) → Cut bytes line → is_fed bytes ≡ true → IsLast is_open is_open bytes []
    → buffered_lines is_open lines bytes ≡ shown_line is_open lines line ∷ buffered_lines is_open (lines + 1) (drop line.size bytes)
lines_first false lines bytes line cut fed last = grind (arith, whole_lines_from-fed)
lines_first true lines bytes line cut fed last =
    let gone : drop line.size bytes ≡ [] = alone bytes cut.piece (drop line.size bytes) cut.cut cut.clear (last.one refl) (fed_drop line.size bytes fed) in
    let size : length bytes ≡ length cut.piece + 1 = omega (arith, ap length (cut.cut ∙ ap (λ l. cut.piece ++ 10 ∷ l) gone), length-append cut.piece (10 ∷ [])) in
    let less : length bytes - 1 ≡ length cut.piece = omega (arith, size) in
    grind (arith, take-append_seam, lines_from-last)

-- ---- the bytes of the first line

-- a text is what its line begins with
pub strip_begins : (line : List ℕ) → (tail : List ℕ) × (line ≡ strip_last 13 line ++ tail)
strip_begins line = begins_by (ends_with_byte 13 line) refl
  where
    begins_by : (b : Bool) → ends_with_byte 13 line ≡ b → (tail : List ℕ) × (line ≡ strip_last 13 line ++ tail)
    begins_by true e = (13 ∷ [], sym (grind (arith, drop_more, drop_all, take-append-drop)))
    begins_by false e = ([], sym (append-nil (strip_last 13 line) ∙ strip_last-other 13 line e))

-- the text is within the line
pub text_within : (bytes : List ℕ) (line : Shown) → Cut bytes line → length line.text ≤ line.size
text_within bytes line cut =
    let begins = strip_begins cut.piece in
    omega (arith, cut.size_is, ap length cut.stripped, ap length begins.1, length-append (strip_last 13 cut.piece) begins.0)

-- what bytes begin with begins by its own first bytes
pub take_front : (xs tail line bytes : List ℕ) → line ≡ xs ++ tail → take (length line) bytes ≡ line → take (length xs) bytes ≡ xs
take_front xs tail line bytes is front = grind (arith, (take-append-drop (length line) bytes), (append_assoc xs tail (drop (length line) bytes)), (take-append_seam xs (tail ++ drop (length line) bytes)))

-- the first line, as it was cut
cut_of : (bytes line : List ℕ) → IsBefore 10 bytes (length line) → take (length line) bytes ≡ line → length line < length bytes → Cut bytes (shown_of line)
cut_of bytes line before front inside = grind (arith, common_steps)

pub line_first : (cursor : BufferedLines) (line : List ℕ) → IsBefore 10 (rest_in cursor) (length line) → take (length line) (rest_in cursor) ≡ line → 0 < length (rest_in cursor)
    → Cut (rest_in cursor) (shown_of line) × (lines_in cursor ≡ shown_text_line cursor (shown_of line) ∷ lines_after cursor (length line + 1))
unfolding rest_in lines_in
line_first cursor line before front some =
    let rest = drop cursor.at cursor.all.now in
    let cut = cut_of rest line before front (grind (arith, take_all, fed_clear)) in
    (cut, lines_first cursor.is_open cursor.lines rest (shown_of line) cut cursor.fed cursor.last)

pub line_none : (cursor : BufferedLines) → rest_in cursor ≡ [] → lines_in cursor ≡ []
unfolding rest_in lines_in
line_none cursor none = grind (arith, whole_lines_from-last, fed_clear, lines_from-nil)

-- what a cursor keeps when a line is consumed
pub record Kept (all : List ℕ) (at lines : ℕ) (is_open : Bool) : Type 0 where
  pub within : at ≤ length all
  pub a_byte_each : lines + length all ≤ 2 ^ 63 + at
  pub fed : is_fed (drop at all) ≡ true
  pub last : IsLast is_open is_open (drop at all) []

pub kept_after : (cursor : BufferedLines) (line : Shown) (size : ℕ) → Cut (rest_in cursor) line → line.size ≡ size → Kept cursor.all.now (cursor.at + size) (cursor.lines + 1) cursor.is_open
unfolding rest_in
kept_after cursor line size cut e =
    let rest = drop cursor.at cursor.all.now in
    let behind : drop (cursor.at + size) cursor.all.now ≡ drop line.size rest = sym (drop-drop size cursor.at cursor.all.now) ∙ ap (λ n. drop n rest) (sym e) in
    let fed : is_fed (drop line.size rest) ≡ true = fed_drop line.size rest cursor.fed in
    let gone : cursor.is_open ≡ true → drop line.size rest ≡ [] = λ h. alone rest cut.piece (drop line.size rest) cut.cut cut.clear (cursor.last.one h) fed in
    grind (arith, length-append, length-drop)

-- a cursor that begins has all bytes
pub begins_rest : (cursor : BufferedLines) (bytes : List ℕ) (lines : ℕ) (is_open : Bool) → BeginsLines bytes lines is_open cursor → rest_in cursor ≡ bytes
unfolding rest_in
begins_rest cursor bytes lines is_open b = ap (λ n. drop n cursor.all.now) b.at ∙ b.bytes_are

-- the first line that it finds is that of the bytes
pub begins_first : (cursor : BufferedLines) (bytes : List ℕ) (lines : ℕ) (is_open : Bool) (line : Option Shown) → BeginsLines bytes lines is_open cursor
    → IsFirst (rest_in cursor) line → IsFirst bytes line
begins_first cursor bytes lines is_open line b = subst (λ xs. IsFirst xs line) (begins_rest cursor bytes lines is_open b)

-- and all lines
pub begins_lines : (cursor : BufferedLines) (bytes : List ℕ) (lines : ℕ) (is_open : Bool) → BeginsLines bytes lines is_open cursor → lines_in cursor ≡ buffered_lines is_open lines bytes
unfolding lines_in rest_in
begins_lines cursor bytes lines is_open b = grind arith

-- none is left of no bytes
pub none_left : (lines : ℕ) (bytes : List ℕ) → bytes ≡ [] → buffered_lines false lines bytes ≡ []
none_left lines bytes e = ap (buffered_lines false lines) e ∙ whole_lines_from-last (suc lines) [] (λ k d below. absurd (omega (arith, below)))

-- Lemmas on lines that were consumed, one after another.

pub passes_none : (cursor : BufferedLines) → PassesLines cursor 0 cursor
passes_none cursor = grind arith

module _ (old mid new : BufferedLines) (n m : ℕ) (first : PassesLines old n mid) (more : PassesLines mid m new) where
  rest_mid : rest_in mid ≡ drop (mid.at - old.at) (rest_in old)
  unfolding rest_in
  rest_mid = grind (arith, drop-drop)

  both : take (new.at - old.at) (rest_in old) ≡ take (mid.at - old.at) (rest_in old) ++ take (new.at - mid.at) (rest_in mid)
  both =
      let whole : new.at - old.at ≡ (mid.at - old.at) + (new.at - mid.at) = omega (arith, first.rises, more.rises) in
      grind (arith, take-add, rest_mid)

  pub passes_more : PassesLines old (n + m) new
  passes_more = grind (arith, both, common_steps, fed_after)

-- the first line was consumed
module _ (old new : BufferedLines) (line : Shown) (cut : Cut (rest_in old) line) (at : new.at ≡ old.at + line.size) (lines : new.lines ≡ old.lines + 1) (all_is : new.all ≡ old.all) (open_is : new.is_open ≡ old.is_open) where
  front_is : take (new.at - old.at) (rest_in old) ≡ cut.piece ++ 10 ∷ []
  front_is = grind (arith, take_line)
    where
      take_line : (xs ys : List ℕ) → take (length xs + 1) (xs ++ 10 ∷ ys) ≡ xs ++ 10 ∷ []
      take_line xs ys = grind (arith, (length-append xs (10 ∷ [])), (append_assoc xs (10 ∷ []) ys), (take-append_seam (xs ++ 10 ∷ []) ys))

  left_after : lines_in new ≡ drop 1 (lines_in old)
  unfolding lines_in rest_in
  left_after = grind (arith, drop-drop, lines_first)

  pub passes_one : PassesLines old 1 new
  passes_one = grind (arith, left_after, front_is, fed_push, line_feeds-fed)

-- what was consumed of what a reader gave
module _ {S : Type 0} (reader : LineReader S) (first last : BufferedLines) (consumed : ConsumedLines) (count : ℕ)
    (begins : BeginsLines (buffered_bytes reader) (lines_given reader) (is_open reader) first) (passes : PassesLines first count last) (is : IsWhere last consumed) where
  pub lines_taken : TakenLines reader consumed count
  unfolding lines_in rest_in
  lines_taken = grind arith

-- if bytes were consumed, lines were
pub some_lines : {S : Type 0} (reader : LineReader S) (consumed : ConsumedLines) (count : ℕ) → TakenLines reader consumed count → (consumed.bytes ≡ 0 → ⊥) → 0 < count
some_lines reader consumed count are some = grind (arith, fed_none)

-- and if none were, none were
pub no_lines : {S : Type 0} (reader : LineReader S) (consumed : ConsumedLines) (count : ℕ) → TakenLines reader consumed count → consumed.bytes ≡ 0 → count ≡ 0
no_lines reader consumed count are none = sym are.feeds ∙ ap (λ n. line_feeds (take n (buffered_bytes reader))) none
