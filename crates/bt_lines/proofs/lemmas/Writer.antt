-- Lemmas on writing.
use Rattle.bt_lines.proofs.Std.{rules, ◌≡◌, ℕ, ◌+◌, ◌-◌, ◌*◌, ◌/◌, ◌≤◌, List, [], ◌∷◌, ◌++◌, set, slice_index, length, take, drop, refl, sym, ap, ◌∙◌, append_assoc, arith, length-append, length-take-le, take-add, take-take, take_all, length-chunk, length-put_chunk, take_more_put_chunk, take-put_mid, chunk, put_chunk, take-append-drop, Bool, Result, Ok, Err, true, false, false≢true, append-nil, OnOk, OnErr, IfErr, IsErr, flat_map, flat_map-append, ◌^◌, ◌<◌, decimal, length-decimal-le, drop-set, drop_at, length-drop, take-append-le, take_at}
use borrow.Rule.Slice.PartMut.{put_mid}
use Rattle.bt_lines.specs.calls.Output.{IsPrefixOf, Grows, HoldsBlock, block_size, Output, WorksAsBefore, PutsAll, FailsToPut, Puts, Grown, FailsToAdd, Adds, span_text, SinkFailed}
use Rattle.bt_lines.specs.model.Fault.{FaultValue}
use Rattle.bt_lines.specs.calls.Faults.{write_failed}
use Rattle.bt_lines.specs.calls.Names.{fault_value}
use Rattle.bt_lines.specs.declared.fault.Fault.{Fault}

-- A piece that is copied by its first and its last bytes.

-- the first `width` bytes and the last `width` bytes cover the piece
pub both_ends : (width : ℕ) (to piece : List ℕ) → length to ≡ length piece → width ≤ length piece → length piece ≤ 2 * width
    → put_chunk (length piece - width) (put_chunk 0 to (chunk 0 width piece)) (chunk (length piece - width) width piece) ≡ piece
both_ends width to piece same low high =
    let from = length piece - width in
    let front = put_chunk 0 to (chunk 0 width piece) in
    let last = chunk from width piece in
    let all = put_chunk from front last in
    let first_many : length (chunk 0 width piece) ≡ width = length-chunk 0 width piece (omega arith) in
    let last_many : length last ≡ width = length-chunk from width piece (omega arith) in
    let front_long : length front ≡ length piece = length-put_chunk 0 to (chunk 0 width piece) ∙ same in
    let all_long : length all ≡ length piece = length-put_chunk from front last ∙ front_long in
    let begins : take width front ≡ take width piece = take_more_put_chunk 0 to (chunk 0 width piece) width (omega arith) (omega arith) in
    let kept : take from front ≡ take from piece =
    sym (take-take from width front (omega arith)) ∙ ap (take from) begins ∙ take-take from width piece (omega arith) in
    sym (take_all (length piece) all (omega arith))
    ∙ take_more_put_chunk from front last (length piece) (omega arith) (omega arith)
    ∙ ap (λ l. l ++ last) kept
    ∙ sym (take-add from width piece)
    ∙ ap (λ n. take n piece) (omega arith)
    ∙ take_all (length piece) piece (omega arith)

-- the first byte, the middle one and the last are all of up to three
pub few_copied : (to piece : List ℕ) → length to ≡ length piece → 1 ≤ length piece → length piece ≤ 3
    → set (set (set to 0 (slice_index piece 0)) (length piece / 2) (slice_index piece (length piece / 2))) (length piece - 1) (slice_index piece (length piece - 1)) ≡ piece
few_copied [] piece same some few = absurd (omega arith)
few_copied (x ∷ []) [] same some few = absurd (omega arith)
few_copied (x ∷ []) (a ∷ []) same some few = refl
few_copied (x ∷ []) (a ∷ b ∷ piece) same some few = absurd (omega arith)
few_copied (x ∷ y ∷ []) [] same some few = absurd (omega arith)
few_copied (x ∷ y ∷ []) (a ∷ []) same some few = absurd (omega arith)
few_copied (x ∷ y ∷ []) (a ∷ b ∷ []) same some few = refl
few_copied (x ∷ y ∷ []) (a ∷ b ∷ c ∷ piece) same some few = absurd (omega arith)
few_copied (x ∷ y ∷ z ∷ []) [] same some few = absurd (omega arith)
few_copied (x ∷ y ∷ z ∷ []) (a ∷ []) same some few = absurd (omega arith)
few_copied (x ∷ y ∷ z ∷ []) (a ∷ b ∷ []) same some few = absurd (omega arith)
few_copied (x ∷ y ∷ z ∷ []) (a ∷ b ∷ c ∷ []) same some few = refl
few_copied (x ∷ y ∷ z ∷ []) (a ∷ b ∷ c ∷ d ∷ piece) same some few = absurd (omega arith)
few_copied (x ∷ y ∷ z ∷ w ∷ to) piece same some few = absurd (omega arith)

-- Lemmas on what was put and what was taken.

-- a part of the piece was taken, and then nothing
pub front_part : (old mid new taken rest piece : List ℕ) → piece ≡ taken ++ rest → mid ≡ old ++ taken → new ≡ mid → IsPrefixOf new old piece
unfolding IsPrefixOf
front_part old mid new taken rest piece e p q = (rest, ap (λ l. l ++ rest) (q ∙ p) ∙ append_assoc old taken rest ∙ ap (λ l. old ++ l) (sym e))

-- one more part was taken
pub more_taken : (old mid new taken rest piece : List ℕ) (n : ℕ) → piece ≡ taken ++ rest → mid ≡ old ++ taken → new ≡ mid ++ take n rest
    → (piece ≡ (taken ++ take n rest) ++ drop n rest) × (new ≡ old ++ (taken ++ take n rest))
more_taken old mid new taken rest piece n e p q = grind (arith, take-append-drop, append_assoc)

-- what was taken is a prefix of itself and of what is held back
pub front_held : (took held more : List ℕ) → IsPrefixOf took (took ++ held) more
unfolding IsPrefixOf
front_held took held more = (held ++ more, sym (append_assoc took held more))

-- what was held back was sent in part, or all of it was taken
pub front_sent : (new old held : List ℕ) → IsPrefixOf new old held → IsPrefixOf new (old ++ held) []
unfolding IsPrefixOf
front_sent new old held f = (f.0, f.1 ∙ sym (append-nil (old ++ held)))

pub front_taken : (new mid old held : List ℕ) → mid ≡ old ++ held → new ≡ mid → IsPrefixOf new (old ++ held) []
unfolding IsPrefixOf
front_taken new mid old held p q = ([], ap (λ l. l ++ []) (q ∙ p))

-- a prefix of what is held back and of the first bytes of a piece
pub front_filled : (old new held piece : List ℕ) (n : ℕ) → IsPrefixOf new old (held ++ take n piece) → IsPrefixOf new (old ++ held) piece
unfolding IsPrefixOf
front_filled old new held piece n h = (
  h.0 ++ drop n piece,
  sym (append_assoc new h.0 (drop n piece)) ∙ ap (λ l. l ++ drop n piece) h.1 ∙ append_assoc old (held ++ take n piece) (drop n piece)
      ∙ ap (λ l. old ++ l) (append_assoc held (take n piece) (drop n piece) ∙ ap (λ l. held ++ l) (take-append-drop n piece)) ∙ sym (append_assoc old held piece),
)

-- what is held back was sent with the first bytes of a piece, then the next ones, and the others are left
module _ (held piece : List ℕ) (n k : ℕ) where
  abbrev pub rest : List ℕ
  rest = drop n piece

  pub put_over : (old mid new : List ℕ) → mid ≡ old ++ (held ++ take n piece) → new ≡ mid ++ take k rest → new ++ drop k rest ≡ (old ++ held) ++ piece
  put_over old mid new p q = grind (arith, append_assoc, take-append-drop)

  pub front_over : (old mid new next : List ℕ) → next ≡ rest → mid ≡ old ++ (held ++ take n piece) → IsPrefixOf new mid (take k next) → IsPrefixOf new (old ++ held) piece
  unfolding IsPrefixOf
  front_over old mid new next same p f = (f.0 ++ drop k rest, grind (arith, (append_assoc new f.0 (drop k rest)), append_assoc, take-append-drop))

-- what was taken grows, and grows again
pub grows_both : (old mid new : List ℕ) → Grows old mid → Grows mid new → Grows old new
grows_both old mid new p q = (p.0 ++ q.0, q.1 ∙ ap (λ l. l ++ q.0) p.1 ∙ append_assoc old p.0 q.0)

-- what is held back is what was put and not taken
pub holds_held : (took held : List ℕ) → length held ≤ block_size → HoldsBlock took (took ++ held)
holds_held took held short = (held, refl, short)

-- What one put after another does to an output.

-- a prefix of the first bytes is a prefix of them and more
pub front_longer : (new old xs ys : List ℕ) → IsPrefixOf new old xs → IsPrefixOf new old (xs ++ ys)
unfolding IsPrefixOf
front_longer new old xs ys f = (f.0 ++ ys, sym (append_assoc new f.0 ys) ∙ ap (λ l. l ++ ys) f.1 ∙ append_assoc old xs ys)

-- a prefix of what was put, with more bytes
front_behind : (new old mid xs ys : List ℕ) → mid ≡ old ++ xs → IsPrefixOf new mid ys → IsPrefixOf new old (xs ++ ys)
unfolding IsPrefixOf
front_behind new old mid xs ys p f = (f.0, f.1 ∙ ap (λ l. l ++ ys) p ∙ append_assoc old xs ys)

pub grows_nothing : (a : List ℕ) → Grows a a
grows_nothing a = ([], sym (append-nil a))

module _ (old mid new : Output) (xs ys : List ℕ) where
  pub put_more : PutsAll old xs mid → PutsAll mid ys new → PutsAll old (xs ++ ys) new
  put_more p q = grind (arith, append_assoc, (grows_both old.took mid.took new.took p.grows q.grows))

  pub fails_behind : (fault : FaultValue) → PutsAll old xs mid → FailsToPut mid ys fault new → FailsToPut old (xs ++ ys) fault new
  fails_behind fault p q = record {
    is = q.is;
    front = front_behind new.took old.put mid.put xs ys p.appends q.front;
    grows = grows_both old.took mid.took new.took p.grows q.grows;
    failed = q.failed;
    sink_failed = q.sink_failed;
    again = λ was. absurd (false≢true (sym p.was_served ∙ was));
  }

pub fails_before : (old new : Output) (xs ys : List ℕ) (fault : FaultValue) → FailsToPut old xs fault new → FailsToPut old (xs ++ ys) fault new
fails_before old new xs ys fault p = grind (arith, front_longer)

-- whatever the second call returns
pub puts_more : {A : Type 0} (old mid new : Output) (xs ys : List ℕ) (r : Result A Fault) → PutsAll old xs mid → Puts mid ys r new → Puts old (xs ++ ys) r new
puts_more old mid new xs ys (Ok done) p q = put_more old mid new xs ys p q
puts_more old mid new xs ys (Err fault) p q = fails_behind old mid new xs ys (fault_value fault) p q

-- what the clauses of a put say, together
pub puts_from : {A : Type 0} (old new : Output) (bytes : List ℕ) (r : Result A Fault)
    → OnOk r (new.put ≡ old.put ++ bytes) → OnOk r (HoldsBlock new.took new.put) → OnErr r (IsPrefixOf new.took old.put bytes) → Grows old.took new.took
    → OnOk r ((new.has_failed ≡ false) × (old.has_failed ≡ false) × (new.sink_has_failed ≡ old.sink_has_failed))
    → IfErr r (λ fault. fault_value fault ≡ write_failed) → OnErr r ((new.has_failed ≡ true) × SinkFailed new)
    → (old.has_failed ≡ true → IsErr r × (new ≡ old)) → Puts old bytes r new
puts_from old new bytes r p b f g s w c a = grind arith

-- bytes are held back
module _ (took : List ℕ) (failed sink_failed last_failed flushed : Bool) where
  abbrev holding : List ℕ → Output
  holding held = record {
    put = took ++ held;
    took = took;
    has_failed = failed;
    sink_has_failed = sink_failed;
    sink_last_failed = last_failed;
    sink_is_flushed = flushed;
  }

  pub puts_held : (held bytes all : List ℕ) → failed ≡ false → all ≡ held ++ bytes → length held + length bytes ≤ block_size → PutsAll (holding held) bytes (holding all)
  puts_held held bytes all works is fits = grind (arith, append_assoc, holds_held, length-append, grows_nothing)

-- bytes that were put, or none
pub grown_all : (old new : Output) (bytes : List ℕ) → (bytes ≡ [] → ⊥) → PutsAll old bytes new → Grown old bytes new
grown_all old new bytes some p = grind arith

pub grown_none : (old : Output) → Grown old [] old
grown_none old = search rules

pub grown_works : (old new : Output) (bytes : List ℕ) → Grown old bytes new → WorksAsBefore old new
grown_works old new bytes g = record { served = g.served; sink_served = g.sink_served; put = (bytes, g.appends); block = g.block }

nothing_before : (xs ys : List ℕ) → xs ++ ys ≡ [] → xs ≡ []
nothing_before [] ys e = refl
nothing_before (x ∷ xs) ys e = cc

nothing_behind : (xs ys : List ℕ) → xs ++ ys ≡ [] → ys ≡ []
nothing_behind [] ys e = e
nothing_behind (x ∷ xs) ys e = cc

module _ (old mid new : Output) (xs ys : List ℕ) where
  pub grown_more : Grown old xs mid → Grown mid ys new → Grown old (xs ++ ys) new
  grown_more p q = grind (arith, append_assoc, (grows_both old.took mid.took new.took p.grows q.grows), nothing_before)

  pub fails_then : (fault : FaultValue) → Grown old xs mid → FailsToAdd mid ys fault new → FailsToAdd old (xs ++ ys) fault new
  fails_then fault p q = record {
    puts = record {
      is = q.puts.is;
      front = front_behind new.took old.put mid.put xs ys p.appends q.puts.front;
      grows = grows_both old.took mid.took new.took p.grows q.puts.grows;
      failed = q.puts.failed;
      sink_failed = q.puts.sink_failed;
      again = λ was. q.puts.again (ap (λ (o : Output). o.has_failed) (p.again was) ∙ was) ∙ p.again was;
    };
    some = λ none. q.some (nothing_behind xs ys none);
  }

pub adds_more : {A : Type 0} (old mid new : Output) (xs ys : List ℕ) (r : Result A Fault) → Grown old xs mid → Adds mid ys r new → Adds old (xs ++ ys) r new
adds_more old mid new xs ys (Ok done) p q = grown_more old mid new xs ys p q
adds_more old mid new xs ys (Err fault) p q = fails_then old mid new xs ys (fault_value fault) p q

-- what was cut off is cut off of more
pub cut_off : (old new : Output) (xs ys : List ℕ) (fault : FaultValue) → FailsToAdd old xs fault new → FailsToAdd old (xs ++ ys) fault new
cut_off old new xs ys fault p = record { puts = fails_before old new xs ys fault p.puts; some = λ e. p.some (nothing_before xs ys e) }

-- a call that puts bytes writes them
pub adds_some : {A : Type 0} (old new : Output) (bytes : List ℕ) (r : Result A Fault) → (bytes ≡ [] → ⊥) → Puts old bytes r new → Adds old bytes r new
adds_some old new bytes r some p = grind arith

-- the lines of items, one list after another, and that of an item alone
module _ {X : Type 0} (line : X → List ℕ) where
  module _ (old mid new : Output) (xs ys : List X) where
    pub adds_lines : {A : Type 0} (r : Result A Fault) → Grown old (flat_map line xs) mid → Adds mid (flat_map line ys) r new → Adds old (flat_map line (xs ++ ys)) r new
    adds_lines r p q = rw (flat_map-append line xs ys) (adds_more old mid new (flat_map line xs) (flat_map line ys) r p q)

  pub cut_lines : (old new : Output) (xs ys : List X) (fault : FaultValue) → FailsToAdd old (flat_map line xs) fault new → FailsToAdd old (flat_map line (xs ++ ys)) fault new
  cut_lines old new xs ys fault p = rw (flat_map-append line xs ys) (cut_off old new (flat_map line xs) (flat_map line ys) fault p)

  pub line_alone : {A : Type 0} (x : X) (old new : Output) (r : Result A Fault) → (line x ≡ [] → ⊥) → Puts old (line x) r new → Adds old (flat_map line (x ∷ [])) r new
  line_alone x old new r some p = rw (append-nil (line x)) (adds_some old new (line x) r some p)

-- Lemmas on clauses that speak of one outcome.

-- what always holds, holds at an error
pub always_err : {T E P : Type 0} (r : Result T E) → P → OnErr r P
always_err r p = grind arith

-- A start and a stop that are written to the right of where they belong, and moved there.

-- a number has at most twenty digits
pub twenty_digits : (n : ℕ) → n < 2 ^ 64 → length (decimal n) ≤ 20
twenty_digits n small = length-decimal-le 20 n (omega arith) (omega arith) small

-- a span begins at an offset, and other bytes follow it
pub record HasSpan (text : List ℕ) (first : ℕ) (span : List ℕ) : Type 0 where
  rest : List ℕ
  is : drop first text ≡ span ++ rest
  size : length span ≡ 43 - first

-- a stop was written before its end, and a start before it
pub span_written : (text one : List ℕ) {two : List ℕ} (start stop end before : ℕ) {first : ℕ} → 43 ≤ length text → first ≤ 42 → length two ≡ length text
    → drop before one ≡ 9 ∷ (decimal stop ++ drop 42 (set text 42 end))
    → drop first two ≡ 9 ∷ (decimal start ++ drop before one)
    → HasSpan two first (span_text start stop end)
span_written text one {two} start stop end before {first} room early same stops starts =
    let span = span_text start stop end in
    let rest = drop 43 text in
    let is : drop first two ≡ span ++ rest =
    starts ∙ ap (λ l. 9 ∷ (decimal start ++ l)) (stops ∙ ap (λ l. 9 ∷ (decimal stop ++ l)) (drop-set text 42 end (omega arith)))
    ∙ ap (λ l. 9 ∷ (decimal start ++ 9 ∷ l)) (sym (append_assoc (decimal stop) (end ∷ []) rest))
    ∙ ap (λ l. 9 ∷ l) (sym (append_assoc (decimal start) (9 ∷ (decimal stop ++ end ∷ [])) rest)) in
    grind (arith, (length-append span rest), (length-drop first two), (length-drop 43 text))

-- it is moved to the beginning with what follows it
pub span_moved : (text : List ℕ) (first : ℕ) (span : List ℕ) → first + 64 ≤ length text → HasSpan text first span
    → take (43 - first) (put_chunk 0 text (chunk first 64 text)) ≡ span
span_moved text first span room has =
    let moved = chunk first 64 text in
    let begins : take 64 (put_chunk 0 text moved) ≡ moved = take_more_put_chunk 0 text moved 64 (omega (arith, length-chunk first 64 text room)) (omega arith) in
    grind (arith, (take-take (43 - first) 64 (put_chunk 0 text moved) (omega arith)), (take-take (43 - first) 64 (drop first text) (omega arith)), (take_at span has.rest (43 - first) has.size))

-- a span was written after a name, with other bytes after it
pub span_put : (bytes copied written name span : List ℕ) (len k m size : ℕ) → len + length name ≤ length bytes → copied ≡ name
    → size ≤ length written → take size written ≡ span
    → take (len + length name + size) (put_mid (len + length name) m (put_mid len k bytes copied) written) ≡ take len bytes ++ (name ++ span)
span_put bytes copied written name span len k m size room same fits is = grind (arith, take-put_mid, length-append, length-take-le, take-add, drop_at, take-append-le, append_assoc)

-- a start, a stop and the byte that ends them have at most 43 bytes
pub span_short : (start stop end : ℕ) → start < 2 ^ 64 → stop < 2 ^ 64 → length (span_text start stop end) ≤ 43
span_short start stop end a b = grind (arith, twenty_digits, length-append)
