-- Lemmas on lines that are taken of those that are buffered.
use Rattle.bt_lines.proofs.Std.{common_steps, ◌≡◌, ◌⊎◌, inl, inr, ℕ, suc, ◌+◌, ◌-◌, ◌^◌, ◌<◌, ◌≤◌, Bool, true, false, nat_eq, List, [], ◌∷◌, ◌++◌, length, take, drop, refl, sym, ap, ◌∙◌, None, append_assoc, length-append, arith, drop_all, drop_at, take_all, take_at, length-take, take-append-drop, append-nil}
use Rattle.bt_lines.specs.declared.device.Source.{Ghosts as Source}
use Rattle.bt_lines.proofs.lemmas.reader.block.BufferLemmas.{fed_clear, fed_drop, fed_last, fed_none, unread_fits}
use Rattle.bt_lines.proofs.lemmas.reader.block.ReadsLemmas.{hands_still}
use Rattle.bt_lines.proofs.lemmas.reader.lines.BufferedLemmas.{are_fed, lines_fit}
use Rattle.bt_lines.proofs.lemmas.reader.lines.TextLemmas.{lines_from-fed, lines_from-last, lines_from-nil, by_lines, bytes_in-drop, bytes_in-lines, lines_are_numbered, whole_lines_from-last, line_feeds-append, line_feeds-fed, whole_count, whole_front}
use Rattle.bt_lines.specs.calls.Reader.{buffered_lines, Hands, IsKept, IsPrefix, MayStillCome, TakesLines, lines_coming, bytes_taken, buffered_in, fault_kept, feeds_taken, has_ended, input_of, buffered_bytes, is_open, end_told, held, lines_given, source_of, IsSound}
use Rattle.bt_lines.specs.calls.Line.{NoLineFeed, line_feeds}
use Rattle.bt_lines.specs.model.Lines.{TextLine, bytes_in, last_line, lines_from, whole_lines_from}
use Rattle.bt_lines.specs.calls.Output.{block_size}
use Rattle.bt_lines.specs.inside.ReadBuffer.{complete, unread, ended_at, fault_at, lends_at, open_at, taken_at, told_at}
use Rattle.bt_lines.specs.inside.Shape.{IsLast, held_at, is_fed}
use Rattle.bt_lines.specs.declared.reader.buffered_lines.ConsumedLines.{ConsumedLines}
use Rattle.bt_lines.specs.declared.reader.line_reader.LineReader.{LineReader}
use Rattle.bt_lines.specs.declared.reader.line_reader.State.{State}

-- a last line is taken whole or not at all
pub record Whole (lines : List ℕ) (n : ℕ) : Type 0 where
  pub is : ((drop n lines ≡ lines) × (line_feeds (take n lines) ≡ 0) × (n ≡ 0)) ⊎ ((drop n lines ≡ []) × (line_feeds (take n lines) ≡ 1) × (0 < length lines))

whole_by : (lines : List ℕ) (n : ℕ) → n ≤ length lines → is_fed lines ≡ true → line_feeds lines ≤ 1 → (take n lines ≡ []) ⊎ ((front : List ℕ) × (take n lines ≡ front ++ 10 ∷ [])) → Whole lines n
whole_by lines n within fed one (inl e) = grind (arith, common_steps)
whole_by lines n within fed one (inr f) =
    let all : line_feeds lines ≡ line_feeds (take n lines) + line_feeds (drop n lines) =
    ap line_feeds (sym (take-append-drop n lines)) ∙ line_feeds-append (take n lines) (drop n lines) in
    let some : line_feeds (take n lines) ≡ line_feeds f.0 + 1 = ap line_feeds f.1 ∙ line_feeds-append f.0 (10 ∷ []) in
    grind (arith, (fed_none (drop n lines) (fed_drop n lines fed) (omega (arith, all, some, one))), (length-append f.0 (10 ∷ [])), (length-take n lines))

pub whole : (lines : List ℕ) (n : ℕ) → n ≤ length lines → is_fed lines ≡ true → is_fed (take n lines) ≡ true → line_feeds lines ≤ 1 → Whole lines n
whole lines n within fed front one = whole_by lines n within fed one (fed_last (take n lines) front)

module _ (state : State) (lines unread : List ℕ) (given taken n : ℕ) (within : n ≤ length lines) (fed : is_fed lines ≡ true) (front : is_fed (take n lines) ≡ true)
    (last : IsLast (told_at state) (open_at state) lines unread) (quiet : lends_at state ≡ false → lines ≡ []) (before : given + length (held_at (open_at state) lines unread) ≤ taken) where
  alone_by : open_at state ≡ true → Whole lines n
  alone_by e = whole lines n within fed front (last.one e)

  pub spaced_taken : given + line_feeds (take n lines) + length (held_at (open_at state) (drop n lines) unread) ≤ taken
  spaced_taken = grind (arith, common_steps)

  pub quiet_taken : lends_at state ≡ false → drop n lines ≡ []
  quiet_taken e = drop_all n lines (omega (arith, ap length (quiet e)))

  pub last_taken : IsLast (told_at state) (open_at state) (drop n lines) unread
  last_taken = grind (arith, alone_by)

-- ---- the lines that are left

none_fed : (more : List ℕ) (n : ℕ) (piece : List ℕ) → piece ≡ [] → drop (line_feeds piece) (lines_from n (piece ++ more)) ≡ lines_from (n + line_feeds piece) more
none_fed more n piece e = let zero_more : n ≡ n + 0 = omega arith in rw e (ap (λ k. lines_from k more) zero_more)

one_fed : (more : List ℕ) (n : ℕ) (piece rest : List ℕ) → NoLineFeed piece → is_fed (piece ++ 10 ∷ rest) ≡ true
    → (is_fed rest ≡ true → drop (line_feeds rest) (lines_from (suc n) (rest ++ more)) ≡ lines_from (suc n + line_feeds rest) more)
    → drop (line_feeds (piece ++ 10 ∷ rest)) (lines_from n ((piece ++ 10 ∷ rest) ++ more)) ≡ lines_from (n + line_feeds (piece ++ 10 ∷ rest)) more
one_fed more n piece rest clear fed is =
    let feeds = line_feeds-fed piece rest clear in
    grind (arith, (drop_at (piece ++ 10 ∷ []) rest (length piece + 1) (length-append piece (10 ∷ []))), fed_drop, append_assoc, lines_from-fed)

-- those after bytes that end with a line feed
drop_fed : (more : List ℕ) (n : ℕ) (bytes : List ℕ) → is_fed bytes ≡ true → drop (line_feeds bytes) (lines_from n (bytes ++ more)) ≡ lines_from (n + line_feeds bytes) more
drop_fed more = by_lines (λ n bytes. is_fed bytes ≡ true → drop (line_feeds bytes) (lines_from n (bytes ++ more)) ≡ lines_from (n + line_feeds bytes) more)
    (λ n piece clear fed. none_fed more n piece (fed_clear piece fed clear))
    (λ n piece rest clear is fed. one_fed more n piece rest clear fed is)

parts_of : (lines unread more : List ℕ) (n : ℕ) → (lines ++ unread) ++ more ≡ take n lines ++ ((drop n lines ++ unread) ++ more)
parts_of lines unread more n = grind (arith, (take-append-drop n lines), (append_assoc (take n lines) (drop n lines) unread), (append_assoc (take n lines) (drop n lines ++ unread) more))

rest_drops : (number : ℕ) (lines unread : List ℕ) (n : ℕ) (rest : List ℕ) → is_fed (take n lines) ≡ true
    → lines_from (number + line_feeds (take n lines)) ((drop n lines ++ unread) ++ rest) ≡ drop (line_feeds (take n lines)) (lines_from number ((lines ++ unread) ++ rest))
rest_drops number lines unread n rest fed =
    sym (ap (λ l. drop (line_feeds (take n lines)) (lines_from number l)) (parts_of lines unread rest n) ∙ drop_fed ((drop n lines ++ unread) ++ rest) number (take n lines) fed)

held_plain : (b : Bool) (lines unread : List ℕ) → b ≡ false → held_at b lines unread ≡ lines ++ unread
held_plain b lines unread e = rw e refl

-- lines of `n` bytes in all were taken, and nothing else changed
pub record Takes {S : Type 0} (old new : LineReader S) (n : ℕ) : Type 0 where
  pub state : new.state ≡ old.state
  pub source : new.source ≡ old.source
  pub input : new.input ≡ old.input
  pub taken : new.taken ≡ old.taken
  pub more : new.lines ≡ old.lines + line_feeds (take n (complete old.buffer))
  pub lines : complete new.buffer ≡ drop n (complete old.buffer)
  pub behind : unread new.buffer ≡ unread old.buffer
  pub spilled : new.buffer.is_spilled ≡ old.buffer.is_spilled
  pub within : n ≤ length (complete old.buffer)
  pub fed : is_fed (take n (complete old.buffer)) ≡ true

-- ---- those that are buffered come first

take_whole : (xs : List TextLine) → take (length xs) xs ≡ xs
take_whole xs = take_all (length xs) xs (omega arith)

first_whole : (number : ℕ) (lines more : List ℕ) → take (length (whole_lines_from number lines)) (lines_from number (lines ++ more)) ≡ whole_lines_from number lines
first_whole number lines more = ap (λ k. take k (lines_from number (lines ++ more))) (whole_count number lines) ∙ whole_front number lines more

pub prefix_of : {S : Type 0} (reader : LineReader S) → IsPrefix reader
unfolding lines_coming held end_told lines_given buffered_bytes is_open
prefix_of reader rest follows = grind (arith, take_whole, first_whole, append_assoc, append-nil)

-- ---- an open line

last_few : (number : ℕ) (piece : List ℕ) → length (last_line number piece) ≤ 1
last_few number piece = grind arith

-- there is at most one line more than line feeds
few_lines : (number : ℕ) (bytes : List ℕ) → length (lines_from number bytes) ≤ line_feeds bytes + 1
few_lines = by_lines (λ number bytes. length (lines_from number bytes) ≤ line_feeds bytes + 1)
    (λ number piece clear. rw (lines_from-last number piece clear) (omega (arith, last_few number piece)))
    (λ number piece rest clear few. rw (lines_from-fed number piece rest clear, line_feeds-fed piece rest clear) (omega (arith, few)))

front_feeds : (lines : List ℕ) → line_feeds lines ≤ 1 → (lines ≡ []) ⊎ ((front : List ℕ) × (lines ≡ front ++ 10 ∷ [])) → line_feeds (take (length lines - 1) lines) ≡ 0
front_feeds lines one p1 = grind (arith, length-append, take_at, line_feeds-append)

held_open : (b : Bool) (lines unread : List ℕ) → b ≡ true → held_at b lines unread ≡ held_at true lines unread
held_open b lines unread e = rw e refl

open_held : {S : Type 0} (reader : LineReader S) → open_at reader.state ≡ true → held reader ≡ held_at true (complete reader.buffer) (unread reader.buffer)
unfolding held
open_held reader e = held_open (open_at reader.state) (complete reader.buffer) (unread reader.buffer) e

open_is_told : {S : Type 0} (reader : LineReader S) → open_at reader.state ≡ true → end_told reader ≡ true
unfolding end_told
open_is_told reader e = grind arith

closed_held : {S : Type 0} (reader : LineReader S) → open_at reader.state ≡ false → held reader ≡ complete reader.buffer ++ unread reader.buffer
unfolding held
closed_held reader e = held_plain (open_at reader.state) (complete reader.buffer) (unread reader.buffer) e

-- ---- what stays as it was

module _ {S : Type 0} (device : Source S) (old new : LineReader S) (n : ℕ) (takes : Takes old new n) where
  near_taken : 0 < n → length (held new) ≤ block_size
  unfolding held
  near_taken some = grind (arith, are_fed, lines_fit, whole, unread_fits)

  told_taken : end_told new ≡ end_told old
  unfolding end_told
  told_taken = ap told_at takes.state

  sources : source_of new ≡ source_of old
  unfolding source_of
  sources = takes.source

  numbers : suc (lines_given new) ≡ suc (lines_given old) + line_feeds (take n (complete old.buffer))
  unfolding lines_given
  numbers = omega (arith, takes.more)

  still : (b : Bool) → open_at old.state ≡ b → open_at new.state ≡ b
  still b e = ap open_at takes.state ∙ e

  closed_new : open_at old.state ≡ false → held new ≡ drop n (complete old.buffer) ++ unread old.buffer
  closed_new plain = closed_held new (still false plain) ∙ ap (λ l. l ++ unread new.buffer) takes.lines ∙ ap (λ l. drop n (complete old.buffer) ++ l) takes.behind

  closed_taken : open_at old.state ≡ false → (rest : List ℕ) → lines_coming rest new ≡ drop (line_feeds (take n (complete old.buffer))) (lines_coming rest old)
  unfolding lines_coming
  closed_taken plain rest =
      ap (λ l. lines_from (suc (lines_given new)) (l ++ rest)) (closed_new plain) ∙ ap (λ m. lines_from m ((drop n (complete old.buffer) ++ unread old.buffer) ++ rest)) numbers
      ∙ rest_drops (suc (lines_given old)) (complete old.buffer) (unread old.buffer) n rest takes.fed
      ∙ ap (λ l. drop (line_feeds (take n (complete old.buffer))) (lines_from (suc (lines_given old)) (l ++ rest))) (sym (closed_held old plain))

  open_lines : open_at old.state ≡ true → lines_from (suc (lines_given new)) (held new) ≡ drop (line_feeds (take n (complete old.buffer))) (lines_from (suc (lines_given old)) (held old))
  open_lines opened = grind (arith, open_held, are_fed, numbers, still, whole, drop_all, few_lines, front_feeds, fed_last, lines_from-nil)

  open_taken : open_at old.state ≡ true → (rest : List ℕ) → MayStillCome new rest → lines_coming rest new ≡ drop (line_feeds (take n (complete old.buffer))) (lines_coming rest old)
  unfolding lines_coming
  open_taken opened rest follows =
      let none : rest ≡ [] = follows (told_taken ∙ open_is_told old opened) in
      ap (lines_from (suc (lines_given new))) (ap (λ l. held new ++ l) none ∙ append-nil (held new)) ∙ open_lines opened
      ∙ ap (λ l. drop (line_feeds (take n (complete old.buffer))) (lines_from (suc (lines_given old)) l)) (sym (ap (λ l. held old ++ l) none ∙ append-nil (held old)))

  taken_by : (b : Bool) → open_at old.state ≡ b → (rest : List ℕ) → MayStillCome new rest → lines_coming rest new ≡ drop (line_feeds (take n (complete old.buffer))) (lines_coming rest old)
  taken_by true opened rest follows = open_taken opened rest follows
  taken_by false plain rest follows = closed_taken plain rest

  all_taken : (rest : List ℕ) → MayStillCome new rest → lines_coming rest new ≡ drop (line_feeds (take n (complete old.buffer))) (lines_coming rest old)
  all_taken = taken_by (open_at old.state) refl

  fault_taken : fault_kept new ≡ fault_kept old
  unfolding fault_kept
  fault_taken = ap (λ s. fault_at s new.input new.lines) takes.state ∙ ap (λ i. fault_at old.state i new.lines) takes.input ∙ (grind arith)

  ended_taken : has_ended new ≡ has_ended old
  unfolding has_ended
  ended_taken = ap ended_at takes.state

  same_bytes : bytes_taken new ≡ bytes_taken old
  unfolding bytes_taken
  same_bytes = ap (λ s. taken_at s new.taken) takes.state ∙ ap (taken_at old.state) takes.taken

  inputs : input_of new ≡ input_of old
  unfolding input_of
  inputs = takes.input

  feeds_kept : end_told new ≡ false → feeds_taken new ≡ feeds_taken old
  unfolding feeds_taken end_told lines_given
  feeds_kept e =
      let plain : open_at old.state ≡ false = grind arith in
      omega (
        arith,
        takes.more,
        ap line_feeds (closed_held old plain),
        ap line_feeds (closed_new plain),
        line_feeds-append (complete old.buffer) (unread old.buffer),
        line_feeds-append (drop n (complete old.buffer)) (unread old.buffer),
        ap line_feeds (take-append-drop n (complete old.buffer)),
        line_feeds-append (take n (complete old.buffer)) (drop n (complete old.buffer)),
      )

  kept_taken : IsKept device old → IsKept device new
  kept_taken h = record { within = λ e. rw same_bytes (h.within (sym fault_taken ∙ e)) }

  -- nothing is handed over
  hands_taken : Hands device old [] new
  hands_taken = hands_still device old new sources same_bytes inputs feeds_kept told_taken fault_taken

  -- and so much less is held
  held_taken : length (held new) + line_feeds (take n (complete old.buffer)) ≤ length (held old)
  unfolding held
  held_taken = grind (arith, common_steps)

-- all that taking lines does
pub takes_lines : {S : Type 0} (device : Source S) (old new : LineReader S) (consumed : ConsumedLines) → new.lines ≡ consumed.lines → Takes old new consumed.bytes → TakesLines device old consumed new
unfolding buffered_bytes lines_given source_of input_of bytes_taken is_open
takes_lines device old new consumed given takes = record {
  kept = kept_taken device old new consumed.bytes takes;
  near = near_taken device old new consumed.bytes takes;
  left_is = all_taken device old new consumed.bytes takes;
  bytes = takes.lines;
  given = given;
  below = omega (arith, new.a_byte_each, new.counted);
  source_is = takes.source;
  input_is = takes.input;
  taken_is = same_bytes device old new consumed.bytes takes;
  open_is = ap open_at takes.state;
  fault_is = fault_taken device old new consumed.bytes takes;
  told_is = told_taken device old new consumed.bytes takes;
  ended_is = ended_taken device old new consumed.bytes takes;
  hands = hands_taken device old new consumed.bytes takes;
  shrinks = held_taken device old new consumed.bytes takes;
}

-- ---- what follows the next line

near_all : (number : ℕ) (held rest : List ℕ) → length held ≤ block_size → bytes_in (drop 1 (lines_from number (held ++ rest))) ≤ length rest + block_size
near_all number held rest short = omega (arith, short, bytes_in-lines number (held ++ rest), bytes_in-drop 1 (lines_from number (held ++ rest)), length-append held rest)

near_one : (number : ℕ) (lines unread rest : List ℕ) → is_fed lines ≡ true → line_feeds lines ≡ 1 → length unread ≤ block_size → bytes_in (drop 1 (lines_from number ((lines ++ unread) ++ rest))) ≤ length rest + block_size
near_one number lines unread rest fed one short = grind (arith, length-append, append_assoc, drop_fed, bytes_in-lines)

open_few : (number : ℕ) (lines : List ℕ) → is_fed lines ≡ true → line_feeds lines ≤ 1 → drop 1 (lines_from number (take (length lines - 1) lines)) ≡ []
open_few number lines fed one = grind (arith, common_steps, (few_lines number (take (length lines - 1) lines)), (front_feeds lines one (fed_last lines fed)))

module _ {S : Type 0} (reader : LineReader S) (rest : List ℕ) (follows : MayStillCome reader rest) where
  -- what follows the next line comes from the source, except at most a block
  abbrev IsNearNext : Type 0
  IsNearNext = bytes_in (drop 1 (lines_coming rest reader)) ≤ length rest + block_size

  near_open : open_at reader.state ≡ true → IsNearNext
  unfolding lines_coming
  near_open e =
      let none : rest ≡ [] = follows (open_is_told reader e) in
      grind (arith, open_held, are_fed, open_few, append-nil)

  near_closed : open_at reader.state ≡ false → IsNearNext
  unfolding lines_coming
  near_closed e = grind (arith, are_fed, closed_held, near_all, lines_fit, fed_none, unread_fits, near_one)

  near_by : (b : Bool) → open_at reader.state ≡ b → IsNearNext
  near_by true e = near_open e
  near_by false e = near_closed e

  pub near_next : IsNearNext
  near_next = near_by (open_at reader.state) refl

-- if a line is buffered, its number is below 2^63
module _ {S : Type 0} (reader : LineReader S) (some : 0 < length (complete reader.buffer)) where
  below_by : (b : Bool) → open_at reader.state ≡ b → reader.lines + 1 ≤ reader.taken
  below_by b e = grind (arith, length-append, length-take)

  pub next_below : suc (lines_given reader) < 2 ^ 63
  unfolding lines_given
  next_below = omega (arith, below_by (open_at reader.state) refl, reader.counted)

pub given_below : {S : Type 0} (reader : LineReader S) → lines_given reader < 2 ^ 63
unfolding lines_given
given_below reader = omega (arith, reader.a_byte_each, reader.counted)

-- without a fault, fewer than 2^63 bytes were taken
pub taken_below : {S : Type 0} (reader : LineReader S) → fault_kept reader ≡ None → bytes_taken reader < 2 ^ 63
unfolding fault_kept bytes_taken
taken_below reader going = grind arith

-- ---- the number of the next line

number_by : (b : Bool) (given : ℕ) (bytes : List ℕ) (line : TextLine) (more : List TextLine) → buffered_lines b given bytes ≡ line ∷ more → line.number ≡ suc given
number_by true given bytes line more e = grind (arith, (lines_are_numbered (suc given) (take (length bytes - 1) bytes)))
number_by false given bytes line more e = grind (arith, (lines_are_numbered (suc given) (bytes ++ [])), (first_whole (suc given) bytes []))

pub next_number : {S : Type 0} (reader : LineReader S) (line : TextLine) (more : List TextLine) → buffered_in reader ≡ line ∷ more → line.number ≡ suc (lines_given reader)
next_number reader line more e = number_by (is_open reader) (lines_given reader) (buffered_bytes reader) line more e

-- a line is buffered only if bytes are
no_bytes : (b : Bool) (given : ℕ) (line : TextLine) (more : List TextLine) → buffered_lines b given [] ≡ line ∷ more → ⊥
no_bytes b given line more e = grind (arith, lines_from-nil, whole_lines_from-last)

pub next_bytes : {S : Type 0} (reader : LineReader S) (line : TextLine) (more : List TextLine) → buffered_in reader ≡ line ∷ more → 0 < length (buffered_bytes reader)
next_bytes reader line more e = grind (arith, common_steps, no_bytes)

-- and if bytes are, one is
none_buffered : (b : Bool) (given : ℕ) (bytes : List ℕ) → is_fed bytes ≡ true → (b ≡ true → nat_eq (length bytes) 1 ≡ false) → buffered_lines b given bytes ≡ [] → length bytes ≡ 0
none_buffered false given bytes fed two none = ap length (fed_none bytes fed (sym (whole_count (suc given) bytes) ∙ ap length none))
none_buffered true given bytes fed two none = grind (arith, (bytes_in-lines (suc given) (take (length bytes - 1) bytes)), (length-take (length bytes - 1) bytes))
  where
    none_of : (n : ℕ) → n ≤ 1 → nat_eq n 1 ≡ false → n ≡ 0
    none_of n few two = grind arith

pub some_buffered : {S : Type 0} (reader : LineReader S) → 0 < length (buffered_bytes reader) → buffered_in reader ≡ [] → ⊥
unfolding buffered_bytes is_open
some_buffered reader some none = grind (arith, none_buffered, are_fed)

-- Lemmas on readers of lines, for callers too.

pub not_told : (a b : Bool) → (a ≡ true → b ≡ true) → b ≡ false → a ≡ false
not_told a b stays e = grind arith

-- the lines that come are read from the source, except at most a block
pub sound_near : {S : Type 0} (device : Source S) (reader : LineReader S) → IsSound device reader → fault_kept reader ≡ None → (rest : List ℕ) → bytes_in (lines_coming rest reader) ≤ length rest + block_size
unfolding lines_coming
sound_near device reader sound going rest = omega (arith, sound.near going, bytes_in-lines (suc (lines_given reader)) (held reader ++ rest), length-append (held reader) rest)
