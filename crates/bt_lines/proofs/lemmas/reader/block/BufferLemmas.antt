-- Lemmas on the bytes of a block.
use Rattle.bt_lines.proofs.Std.{drop_at, common_steps, ◌≡◌, ℕ, ◌+◌, ◌-◌, ◌≤◌, List, length, take, drop, slice_range, sym, ap, ◌∙◌, arith, length-take, drop-take, drop-drop, zero, suc, ◌<◌, ◌⊎◌, inl, inr, Bool, true, false, cond, [], ◌∷◌, ◌++◌, get_or, set, Some, None, refl, subst, append_assoc, length-append, eqb, paste, take-add, eqb-true, false_from_ne_true, false≢true, take-append-drop, take-append-le, take-take, drop-append-le, take_at, take_more, take_more_set, length-take-le, length-drop, get_or-drop, get_or_default, All-append, All-nil, nat_eq, ◌^◌, append-nil, add-zero, Result, Ok, Err}
use Rattle.bt_lines.specs.inside.ReadBuffer.{unread, MovesPiece}
use Rattle.bt_lines.specs.declared.reader.read_buffer.ReadBuffer.{ReadBuffer}
use Rattle.bt_lines.specs.calls.Output.{block_size}
use Rattle.memchr.specs.Find.{IsLastByte, is_byte}
use Rattle.bt_lines.proofs.lemmas.reader.lines.TextLemmas.{line_feeds-append, line_feeds-none}
use Rattle.bt_lines.specs.calls.Columns.{IsBefore}
use Rattle.bt_lines.specs.calls.Line.{NoLineFeed, line_feeds}
use Rattle.bt_lines.specs.inside.Shape.{AreComplete, IsSearched, is_fed}
use Rattle.bt_lines.specs.declared.device.Source.{Ghosts as Source}
use Rattle.bt_lines.proofs.lemmas.reader.block.ReadsLemmas.{ends_later, fails_later, reads_ended, reads_then}
use Rattle.bt_lines.specs.calls.Device.{EndsAfter, FailsAfter, ReadsOn, begun}
use Rattle.bt_lines.specs.inside.Spill.{AreHanded, AsksMore, Buffers, StopsWith, closed, uncounted, uncounted_more}
use Rattle.bt_lines.specs.declared.reader.spill.More.TheVariants.{Bytes, NoBytes, BadRead, PastBound}
use Rattle.bt_lines.specs.declared.reader.spill.Stop.{Stop}
use Rattle.bt_lines.specs.declared.reader.spill.Stop.TheVariants.{LineFeed, End, Failed, TooLong, NoMemory}
use Rattle.bt_lines.specs.declared.reader.spill.More.{More}

-- what is unread after some bytes were consumed
pub consumed : (xs : List ℕ) (start end count : ℕ) → start + count ≤ end → slice_range xs (start + count) end ≡ drop count (slice_range xs start end)
consumed xs start end count inside =
    let parts : end - start ≡ count + (end - (start + count)) = omega arith in
    grind (arith, drop-take, drop-drop)

-- the unread bytes fit into a block
pub unread_fits : (buffer : ReadBuffer) → length (unread buffer) ≤ block_size
unfolding unread
unread_fits buffer = omega (arith, length-take (buffer.end - buffer.whole) (drop buffer.whole buffer.bytes), buffer.within)

-- Lemmas on what a reader has buffered.

-- ---- parts of a list

-- a part, cut in two
pub range_split : (xs : List ℕ) (a b c : ℕ) → a ≤ b → b ≤ c → slice_range xs a c ≡ slice_range xs a b ++ slice_range xs b c
range_split xs a b c h k =
    let parts : c - a ≡ (b - a) + (c - b) = omega arith in
    grind (arith, take-add, drop-drop)

pub length-range : (xs : List ℕ) (a b : ℕ) → b ≤ length xs → length (slice_range xs a b) ≡ b - a
length-range xs a b h = omega (arith, length-take (b - a) (drop a xs), length-drop a xs)

pub range_none : (xs : List ℕ) (a : ℕ) → slice_range xs a a ≡ []
range_none xs a = let none : a - a ≡ 0 = omega arith in ap (λ (n : ℕ). take n (drop a xs)) none

pub none_searched : (xs : List ℕ) (a : ℕ) → IsSearched (slice_range xs a a)
none_searched xs a = record { clear = rw (range_none xs a) (All-nil (λ b. eqb b 10 ≡ false)) }

-- a part, as what comes after some of the first bytes
pub range_drop : (xs : List ℕ) (a b : ℕ) → a ≤ b → slice_range xs a b ≡ drop a (take b xs)
range_drop xs a b h = grind (arith, (drop-take a (b - a) xs))

shorter_front : (l : List ℕ) (b c : ℕ) → b ≤ c → take b l ≡ take b (take c l)
shorter_front l b c h = sym (take-take b c l h)

-- a part whose bytes are the same in both
pub range_same : (xs ys : List ℕ) (a b c : ℕ) → take c ys ≡ take c xs → a ≤ b → b ≤ c → slice_range ys a b ≡ slice_range xs a b
range_same xs ys a b c e h k =
    let front : (l : List ℕ) → take b l ≡ take b (take c l) = λ l. shorter_front l b c k in
    (grind (arith, (drop-take a (b - a) ys))) ∙ ap (drop a) (front ys ∙ ap (take b) e ∙ sym (front xs)) ∙ sym (grind (arith, (drop-take a (b - a) xs)))

-- ---- bytes that end with a line feed

pub fed_drop : (n : ℕ) (xs : List ℕ) → is_fed xs ≡ true → is_fed (drop n xs) ≡ true
fed_drop zero xs h = h
fed_drop (suc n) [] h = refl
fed_drop (suc n) (x ∷ xs) h = fed_drop n xs (grind arith)

pub fed_push : (xs : List ℕ) → is_fed (xs ++ 10 ∷ []) ≡ true
fed_push [] = refl
fed_push (x ∷ []) = refl
fed_push (x ∷ y ∷ ys) = fed_push (y ∷ ys)

fed_more : (x y : ℕ) (ys : List ℕ) → (y ∷ ys ≡ []) ⊎ ((front : List ℕ) × (y ∷ ys ≡ front ++ 10 ∷ [])) → (x ∷ y ∷ ys ≡ []) ⊎ ((front : List ℕ) × (x ∷ y ∷ ys ≡ front ++ 10 ∷ []))
fed_more x y ys (inl e) = absurd (omega (arith, ap length e))
fed_more x y ys (inr f) = inr (x ∷ f.0, ap (λ l. x ∷ l) f.1)

-- they are none, or some bytes and a line feed
pub fed_last : (xs : List ℕ) → is_fed xs ≡ true → (xs ≡ []) ⊎ ((front : List ℕ) × (xs ≡ front ++ 10 ∷ []))
fed_last [] h = inl refl
fed_last (x ∷ []) h = inr ([], ap (λ (b : ℕ). b ∷ []) (eqb-true x 10 h))
fed_last (x ∷ y ∷ ys) h = fed_more x y ys (fed_last (y ∷ ys) h)

fed_none_by : (xs : List ℕ) → line_feeds xs ≡ 0 → (xs ≡ []) ⊎ ((front : List ℕ) × (xs ≡ front ++ 10 ∷ [])) → xs ≡ []
fed_none_by xs none p1 = grind (arith, line_feeds-append)

-- those without a line feed are none
pub fed_none : (xs : List ℕ) → is_fed xs ≡ true → line_feeds xs ≡ 0 → xs ≡ []
fed_none xs h none = fed_none_by xs none (fed_last xs h)

pub fed_clear : (xs : List ℕ) → is_fed xs ≡ true → NoLineFeed xs → xs ≡ []
fed_clear xs h clear = fed_none xs h (line_feeds-none xs clear)

feeds_drop : (n : ℕ) (xs : List ℕ) → line_feeds (drop n xs) ≤ line_feeds xs
feeds_drop n xs = omega (arith, ap line_feeds (take-append-drop n xs), line_feeds-append (take n xs) (drop n xs))

pub are_dropped : (is_spilled : Bool) (xs : List ℕ) (n : ℕ) → AreComplete is_spilled xs → AreComplete is_spilled (drop n xs)
are_dropped is_spilled xs n are = grind (arith, fed_drop, feeds_drop)

-- lines in the block
pub are_in_block : (xs : List ℕ) → is_fed xs ≡ true → AreComplete false xs
are_in_block xs h = record { fed = h; one = λ e. absurd (false≢true e) }

-- ---- taking lines

-- ---- what was read

-- the last line feed of a part ends lines, and none comes after it
pub record LastFeed (bytes : List ℕ) (from end last : ℕ) : Type 0 where
  pub inside : from + last < end
  pub fed : is_fed (slice_range bytes from (from + last + 1)) ≡ true
  pub clear : NoLineFeed (slice_range bytes (from + last + 1) end)

pub last_feed : (bytes : List ℕ) (from end last : ℕ) → from ≤ end → end ≤ length bytes → IsLastByte (is_byte 10) (slice_range bytes from end) (Some last) → LastFeed bytes from end last
last_feed bytes from end last h k is =
    let hay = slice_range bytes from end in
    let below : last < length hay = is.0.high in
    let inside : from + last < end = omega (arith, below, length-range bytes from end k) in
    let count : from + last + 1 - from ≡ last + 1 = omega arith in
    let front : slice_range bytes from (from + last + 1) ≡ take last hay ++ 10 ∷ [] =
    ap (λ (n : ℕ). take n (drop from bytes)) count ∙ shorter_front (drop from bytes) (last + 1) (end - from) (omega (arith, inside))
    ∙ take_more hay last 0 below ∙ ap (λ (b : ℕ). take last hay ++ b ∷ []) (eqb-true (get_or hay last 0) 10 is.1) in
    grind (arith, (fed_push (take last hay)), (consumed bytes from end (last + 1) (omega (arith, inside))), (length-drop (last + 1) hay), get_or-drop, get_or_default)

-- what is gone once lines of `count` bytes were consumed
pub gone_more : (is_spilled : Bool) (spilled bytes : List ℕ) (start whole count : ℕ) → count ≤ length (cond is_spilled (drop start spilled) (slice_range bytes start whole))
    → take (start + count) (cond is_spilled spilled bytes) ≡ take start (cond is_spilled spilled bytes) ++ take count (cond is_spilled (drop start spilled) (slice_range bytes start whole))
gone_more true spilled bytes start whole count h = take-add start count spilled
gone_more false spilled bytes start whole count h =
    let inside : count ≤ length (take (whole - start) (drop start bytes)) = h in
    take-add start count bytes ∙ ap (λ l. take start bytes ++ l) (shorter_front (drop start bytes) count (whole - start) (omega (arith, inside, length-take (whole - start) (drop start bytes))))

-- the first of the bytes that were consumed last
module _ (new old lines : List ℕ) (size : ℕ) (is : new ≡ old ++ take size lines) (within : size ≤ length lines) where
  gone_length : length new ≡ length old + size
  gone_length = omega (arith, ap length is, length-append old (take size lines), length-take size lines)

  pub gone_size : size ≤ length new
  gone_size = omega (arith, gone_length)

  pub gone_front : (count : ℕ) → count ≤ size → take count (drop (length new - size) new) ≡ take count lines
  gone_front count h =
      let before : length new - size ≡ length old = omega (arith, gone_length) in
      ap (λ n. take count (drop n new)) before ∙ ap (λ l. take count (drop (length old) l)) is ∙ ap (take count) (drop_at old (take size lines) (length old) refl) ∙ sym (shorter_front lines count size h)

-- ---- after a search

pub record Found (bytes : List ℕ) (whole searched end last : ℕ) : Type 0 where
  pub inside : searched + last < end
  pub are : AreComplete false (slice_range bytes whole (searched + last + 1))
  pub clear : IsSearched (slice_range bytes (searched + last + 1) end)
  pub split : slice_range bytes whole (searched + last + 1) ++ slice_range bytes (searched + last + 1) end ≡ slice_range bytes whole end
  pub some : 0 < length (slice_range bytes whole (searched + last + 1))

pub fed_after : (xs ys : List ℕ) → 0 < length ys → is_fed ys ≡ true → is_fed (xs ++ ys) ≡ true
fed_after [] ys some h = h
fed_after (x ∷ []) [] some h = absurd (omega (arith, some))
fed_after (x ∷ []) (y ∷ ys) some h = h
fed_after (x ∷ z ∷ xs) ys some h = fed_after (z ∷ xs) ys some h

pub found : (bytes : List ℕ) (whole searched end last : ℕ) → whole ≤ searched → searched ≤ end → end ≤ length bytes → IsLastByte (is_byte 10) (slice_range bytes searched end) (Some last)
    → Found bytes whole searched end last
found bytes whole searched end last w s e is =
    let feed = last_feed bytes searched end last s e is in
    let split = range_split bytes whole searched (searched + last + 1) w (omega arith) in
    grind (arith, length-range, fed_after, range_split)

-- nothing was found
pub not_found : (bytes : List ℕ) (whole searched end : ℕ) → whole ≤ searched → searched ≤ end → IsSearched (slice_range bytes whole searched) → IsLastByte (is_byte 10) (slice_range bytes searched end) None
    → NoLineFeed (slice_range bytes whole end)
not_found bytes whole searched end w s clear nowhere =
    rw (range_split bytes whole searched end w s)
    (All-append (λ b. eqb b 10 ≡ false) (slice_range bytes whole searched) (slice_range bytes searched end) clear.clear
    (λ k d h. rw (get_or_default (slice_range bytes searched end) k d 0 h) (false_from_ne_true _ (nowhere k (omega arith) h))))

-- ---- a line feed that was added, and a range that was moved to the start

pub end_added : (bytes : List ℕ) (whole end : ℕ) → whole ≤ end → end < length bytes → slice_range (set bytes end 10) whole (end + 1) ≡ slice_range bytes whole end ++ 10 ∷ []
end_added bytes whole end h k = grind (arith, range_drop, take_more_set, drop-append-le, length-take-le)

pub front_to : (bytes moved : List ℕ) (from to end : ℕ) → from ≤ to → to ≤ end → end ≤ length bytes → moved ≡ paste bytes 0 (drop from bytes) (end - from)
    → slice_range moved 0 (to - from) ≡ slice_range bytes from to
front_to bytes moved from to end h k b e = grind (arith, length-take-le, length-drop, take-append-le, shorter_front)

-- the first bytes are the same
pub front_same : (old new : List ℕ) (a b end : ℕ) → take end new ≡ take end old → a ≤ b → b ≤ end → IsSearched (slice_range old a b) → IsSearched (slice_range new a b)
front_same old new a b end e h k is = subst IsSearched (sym (range_same old new a b end e h k)) is

pub behind_read : (old new : List ℕ) (whole end count : ℕ) → whole ≤ end → take end new ≡ take end old → end + count ≤ length new
    → (count ≡ length (slice_range new end (end + count))) × (slice_range new whole (end + count) ≡ slice_range old whole end ++ slice_range new end (end + count))
behind_read old new whole end count w e h = grind (arith, length-range, range_split, range_same)

-- ---- a piece of a line

pub record Piece (bytes : List ℕ) (whole end size : ℕ) : Type 0 where
  pub moved : slice_range bytes whole (whole + size + 1) ≡ take size (slice_range bytes whole end) ++ 10 ∷ []
  pub cut : slice_range bytes whole end ≡ take size (slice_range bytes whole end) ++ 10 ∷ slice_range bytes (whole + size + 1) end

pub piece : (bytes : List ℕ) (whole end size : ℕ) → IsBefore 10 (slice_range bytes whole end) size → size < length (slice_range bytes whole end)
    → Piece bytes whole end size
piece bytes whole end size is below =
    let all = slice_range bytes whole end in
    let fits : whole + (size + 1) ≤ end = omega (arith, below, length-take (end - whole) (drop whole bytes)) in
    let whole_is : all ≡ (take size all ++ 10 ∷ []) ++ drop (size + 1) all = is.cut below ∙ sym (append_assoc (take size all) (10 ∷ []) (drop (size + 1) all)) in
    let count : length (take size all ++ 10 ∷ []) ≡ size + 1 = omega (arith, below, length-append (take size all) (10 ∷ []), length-take-le size all is.within) in
    record {
      moved = ap (λ (n : ℕ). take n (drop whole bytes)) (omega arith) ∙ shorter_front (drop whole bytes) (size + 1) (end - whole) (omega (arith, fits))
          ∙ ap (take (size + 1)) whole_is ∙ take_at (take size all ++ 10 ∷ []) (drop (size + 1) all) (size + 1) count;
      cut = is.cut below ∙ ap (λ (l : List ℕ). take size all ++ 10 ∷ l) (sym (consumed bytes whole end (size + 1) fits) ∙ ap (λ (n : ℕ). slice_range bytes n end) (omega arith));
    }

-- Lemmas on reads that buffer lines.

pub closed_some : (xs : List ℕ) → 0 < length xs → closed xs ≡ xs ++ 10 ∷ []
closed_some xs h = grind arith

pub not_full : (n : ℕ) → false ≡ nat_eq n 8192 → n ≤ 8192 → n < 8192
not_full n e h = grind arith

pub is_full : (n : ℕ) → true ≡ nat_eq n 8192 → 8192 ≤ n
is_full n e = grind arith

pub some_full : (n : ℕ) → 8192 ≤ n → 0 < n
some_full n h = omega arith

-- a line with its line feed
pub fed_line : (text line : List ℕ) → text ≡ line ++ 10 ∷ [] → is_fed text ≡ true
fed_line text line e = rw e (fed_push line)

pub one_line : (text line : List ℕ) → NoLineFeed line → text ≡ line ++ 10 ∷ [] → line_feeds text ≤ 1
one_line text line clear e = grind (arith, line_feeds-append, line_feeds-none)

module _ {S : Type 0} (device : Source S) where
  -- the bytes read so far follow those that were held
  pub record ReadSoFar (old : S) (old_unread : List ℕ) (old_taken : ℕ) (new : S) (unread : List ℕ) (taken : ℕ) : Type 0 where
    pub bytes : List ℕ
    pub handed : ReadsOn device.is_read old bytes new
    pub counted : taken ≡ old_taken + length bytes
    pub within : taken < 2 ^ 63
    pub joined : unread ≡ old_unread ++ bytes
    pub served : device.has_failed new ≡ device.has_failed old
    pub ready : 0 < line_feeds old_unread → new ≡ old

  pub none_yet : (old : S) (unread : List ℕ) (taken : ℕ) → taken < 2 ^ 63 → ReadSoFar old unread taken old unread taken
  none_yet old unread taken within = record {
    bytes = [];
    handed = begun;
    counted = sym (add-zero taken);
    within = within;
    joined = sym (append-nil unread);
    served = refl;
    ready = λ h. refl;
  }

  module _ {old : S} {old_unread : List ℕ} {old_taken : ℕ} {mid : S} {unread : List ℕ} {taken : ℕ} (so_far : ReadSoFar old old_unread old_taken mid unread taken) where
    -- none does
    module _ {same : List ℕ} (is : same ≡ unread) (clear : NoLineFeed same) where
      never : 0 < line_feeds old_unread → ⊥
      never h = omega (arith, h, line_feeds-none same clear, ap line_feeds (is ∙ so_far.joined), line_feeds-append old_unread so_far.bytes)

      on : (new : S) (next : List ℕ) → ReadsOn device.is_read mid next new → ReadsOn device.is_read old (so_far.bytes ++ next) new
      on new next reads = reads_then device.is_read so_far.handed reads

      fails : (new : S) (next : List ℕ) → FailsAfter device.is_read mid next new → FailsAfter device.is_read old (so_far.bytes ++ next) new
      fails new next reads = fails_later device.is_read so_far.handed reads

      ends : (new : S) (next : List ℕ) → EndsAfter device.is_read mid next new → EndsAfter device.is_read old (so_far.bytes ++ next) new
      ends new next reads = ends_later device.is_read so_far.handed reads

      all : (next : List ℕ) → old_unread ++ (so_far.bytes ++ next) ≡ same ++ next
      all next = sym (append_assoc old_unread so_far.bytes next) ∙ ap (λ l. l ++ next) (sym so_far.joined ∙ sym is)

      none_more : (next : List ℕ) → next ≡ [] → old_unread ++ (so_far.bytes ++ next) ≡ same
      none_more next none = all next ∙ ap (λ l. same ++ l) none ∙ append-nil same

      counts : (next : List ℕ) → length (so_far.bytes ++ next) ≡ length so_far.bytes + length next
      counts next = length-append so_far.bytes next

      pub more_read : (new : S) (next_unread : List ℕ) (next_taken : ℕ) → AsksMore device mid same taken Bytes new next_unread next_taken
          → ReadSoFar old old_unread old_taken new next_unread next_taken
      more_read new next_unread next_taken asks = grind (arith, on, counts, all, never)

      on_stop : (stop : Stop) (new : S) (next : List ℕ) → AreHanded device.is_read stop mid next new → AreHanded device.is_read stop old (so_far.bytes ++ next) new
      on_stop LineFeed new next reads = on new next reads
      on_stop End new next reads = ends new next reads
      on_stop Failed new next reads = fails new next reads
      on_stop TooLong new next reads = on new next reads
      on_stop NoMemory new next reads = on new next reads

      -- where the reading stopped, after more reads
      stops_by : (stop : Stop) (new : S) (next complete rest : List ℕ) (next_taken : ℕ) → AreHanded device.is_read stop old (so_far.bytes ++ next) new → next_taken + uncounted stop ≡ taken + length next → next_taken < 2 ^ 63
          → StopsWith stop (device.has_failed old) (device.has_failed new) (old_unread ++ (so_far.bytes ++ next)) complete rest next_taken
          → Buffers device old old_unread old_taken stop new complete rest next_taken
      stops_by stop new next complete rest next_taken handed counted within stopped = grind (arith, counts, never)

      pub text_ended : (new : S) (next_unread : List ℕ) (next_taken : ℕ) (complete rest : List ℕ) → AsksMore device mid same taken NoBytes new next_unread next_taken
          → complete ≡ closed next_unread → rest ≡ [] → Buffers device old old_unread old_taken End new complete rest next_taken
      text_ended new next_unread next_taken complete rest asks lines none =
          let is = none_more asks.bytes asks.came.0 in
          stops_by End new asks.bytes complete rest next_taken (ends new asks.bytes asks.handed) asks.counted asks.within
          (rw is clear, lines ∙ ap closed (asks.came.1 ∙ sym is), none, asks.came.2 ∙ so_far.served)

      pub source_failed : (new : S) (next_unread : List ℕ) (next_taken : ℕ) (complete : List ℕ) → AsksMore device mid same taken BadRead new next_unread next_taken
          → complete ≡ [] → Buffers device old old_unread old_taken Failed new complete next_unread next_taken
      source_failed new next_unread next_taken complete asks none =
          let is = none_more asks.bytes asks.came.0 in
          stops_by Failed new asks.bytes complete next_unread next_taken (fails new asks.bytes asks.handed) asks.counted asks.within
          (rw is clear, none, rw asks.came.1 clear, asks.came.2, ([], is ∙ sym asks.came.1))

      pub text_too_long : (new : S) (next_unread : List ℕ) (next_taken : ℕ) (complete : List ℕ) → AsksMore device mid same taken PastBound new next_unread next_taken
          → complete ≡ [] → Buffers device old old_unread old_taken TooLong new complete next_unread next_taken
      text_too_long new next_unread next_taken complete asks none =
          stops_by TooLong new asks.bytes complete next_unread next_taken (on new asks.bytes asks.handed) asks.counted asks.within
          ((same, asks.bytes, clear, all asks.bytes, asks.came.0), none, asks.came.1, asks.came.2)

      -- the line is longer than a block
      pub then_long : (stop : Stop) (new : S) (complete rest : List ℕ) (next_taken : ℕ) → Buffers device mid same taken stop new complete rest next_taken
          → Buffers device old old_unread old_taken stop new complete rest next_taken
      then_long stop new complete rest next_taken long =
          stops_by stop new long.bytes complete rest next_taken (on_stop stop new long.bytes long.handed) long.counted long.within
          (subst (λ (l : List ℕ). StopsWith stop (device.has_failed old) (device.has_failed new) l complete rest next_taken) (sym (all long.bytes))
          (subst (λ (b : Bool). StopsWith stop b (device.has_failed new) (same ++ long.bytes) complete rest next_taken) so_far.served long.stopped))

-- Lemmas on a line that is longer than a block.

module _ {S : Type 0} (device : Source S) where
  -- the bytes so far are in the line and in the block, and none in the line is a line feed
  pub record SoFar (old : S) (old_block : List ℕ) (old_taken : ℕ) (new : S) (block text : List ℕ) (taken : ℕ) : Type 0 where
    pub bytes : List ℕ
    pub handed : ReadsOn device.is_read old bytes new
    pub counted : taken ≡ old_taken + length bytes
    pub within : taken < 2 ^ 63
    pub joined : old_block ++ bytes ≡ text ++ block
    pub clear : NoLineFeed text
    pub served : device.has_failed new ≡ device.has_failed old

  -- before the first read
  pub at_first : (old : S) (block text : List ℕ) (taken : ℕ) → text ≡ [] → taken < 2 ^ 63 → SoFar old block taken old block text taken
  at_first old block text taken empty within = record {
    bytes = [];
    handed = begun;
    counted = sym (add-zero taken);
    within = within;
    joined = append-nil block ∙ ap (λ l. l ++ block) (sym empty);
    clear = rw empty (All-nil (λ b. eqb b 10 ≡ false));
    served = refl;
  }

  module _ (old : S) {old_block : List ℕ} (old_taken : ℕ) (some : 0 < length old_block) (clear : NoLineFeed old_block) where
    -- the line is buffered, or a fault ends it
    long_by : (stop : Stop) (new : S) (bytes complete unread : List ℕ) (taken : ℕ) → AreHanded device.is_read stop old bytes new → taken + uncounted stop ≡ old_taken + length bytes → taken < 2 ^ 63
        → StopsWith stop (device.has_failed old) (device.has_failed new) (old_block ++ bytes) complete unread taken
        → Buffers device old old_block old_taken stop new complete unread taken
    long_by stop new bytes complete unread taken handed counted within stopped = grind (arith, line_feeds-none)

    module _ {mid : S} {block text : List ℕ} {taken : ℕ} (so_far : SoFar old old_block old_taken mid block text taken)
        {E : Type 0} {moved : Result Bool E} (new_block new_text : List ℕ) (moves : MovesPiece block text moved new_block new_text) where
      -- the line feed was found
      pub at_feed : {complete rest : List ℕ} → moved ≡ Ok true → complete ≡ new_text → rest ≡ new_block → Buffers device old old_block old_taken LineFeed mid complete rest taken
      at_feed {complete} {rest} is lines same =
          let moves = rw is at moves in
          long_by LineFeed mid so_far.bytes complete rest taken so_far.handed (add-zero taken ∙ so_far.counted) so_far.within (
            rw (lines, same) (so_far.joined ∙ ap (λ l. text ++ l) (moves.2 ∙ sym (append_assoc moves.0 (10 ∷ []) new_block)) ∙ sym (append_assoc text (moves.0 ++ 10 ∷ []) new_block) ∙ ap (λ l. l ++ new_block) (sym moves.3)),
            rw (lines, moves.3) (omega (arith, length-append text (moves.0 ++ 10 ∷ []), length-append moves.0 (10 ∷ []))),
            so_far.served,
          )

      -- what is found is one line
      pub feed_fed : moved ≡ Ok true → is_fed new_text ≡ true
      feed_fed is =
          let moves = rw is at moves in
          fed_line new_text (text ++ moves.0) (moves.3 ∙ sym (append_assoc text moves.0 (10 ∷ [])))

      pub feed_one : moved ≡ Ok true → line_feeds new_text ≤ 1
      feed_one is =
          let moves = rw is at moves in
          one_line new_text (text ++ moves.0) (All-append (λ b. eqb b 10 ≡ false) text moves.0 so_far.clear moves.1) (moves.3 ∙ sym (append_assoc text moves.0 (10 ∷ [])))

      -- the line couldn't grow
      pub at_refusal : {e : E} {complete : List ℕ} → moved ≡ Err e → complete ≡ [] → Buffers device old old_block old_taken NoMemory mid complete new_block taken
      at_refusal {complete} is none =
          let moves = rw is at moves in
          long_by NoMemory mid so_far.bytes complete new_block taken so_far.handed (add-zero taken ∙ so_far.counted) so_far.within
          ((new_text, rw moves.1 so_far.clear, rw (moves.0, moves.1) so_far.joined), none, so_far.served)

      module _ (is : moved ≡ Ok false) where
        whole : old_block ++ so_far.bytes ≡ new_text
        whole = let moves = rw is at moves in so_far.joined ∙ sym moves.2

        empty : new_block ≡ []
        empty = let moves = rw is at moves in moves.1

        more : (next : List ℕ) → old_block ++ (so_far.bytes ++ next) ≡ new_text ++ next
        more next = sym (append_assoc old_block so_far.bytes next) ∙ ap (λ l. l ++ next) whole

        pub no_feed : NoLineFeed new_text
        no_feed = let moves = rw is at moves in rw moves.2 (All-append (λ b. eqb b 10 ≡ false) text block so_far.clear moves.0)

        all_read : (next : List ℕ) → next ≡ [] → old_block ++ (so_far.bytes ++ next) ≡ new_text
        all_read next none = more next ∙ ap (λ l. new_text ++ l) none ∙ append-nil new_text

        some_text : 0 < length new_text
        some_text = omega (arith, some, ap length whole, length-append old_block so_far.bytes)

        module _ (new : S) (next_block : List ℕ) (next_taken : ℕ) where
          module _ (next : List ℕ) where
            handed_more : ReadsOn device.is_read mid next new → ReadsOn device.is_read old (so_far.bytes ++ next) new
            handed_more reads = reads_then device.is_read so_far.handed reads

            failed_more : FailsAfter device.is_read mid next new → FailsAfter device.is_read old (so_far.bytes ++ next) new
            failed_more reads = fails_later device.is_read so_far.handed reads

            ended_more : EndsAfter device.is_read mid next new → EndsAfter device.is_read old (so_far.bytes ++ next) new
            ended_more reads = ends_later device.is_read so_far.handed reads

            count : length (so_far.bytes ++ next) ≡ length so_far.bytes + length next
            count = length-append so_far.bytes next

          pub more_came : (same : List ℕ) → same ≡ new_text → AsksMore device mid new_block taken Bytes new next_block next_taken → SoFar old old_block old_taken new next_block same next_taken
          more_came same e asks = grind (arith, common_steps, (more asks.bytes), (handed_more asks.bytes asks.handed), no_feed)

          -- bytes came, if any, and where the reading stopped
          more_by : (stop : Stop) (more : More) (complete rest : List ℕ) (asks : AsksMore device mid new_block taken more new next_block next_taken) → uncounted stop ≡ uncounted_more more
              → AreHanded device.is_read stop old (so_far.bytes ++ asks.bytes) new → StopsWith stop (device.has_failed old) (device.has_failed new) (old_block ++ (so_far.bytes ++ asks.bytes)) complete rest next_taken
              → Buffers device old old_block old_taken stop new complete rest next_taken
          more_by stop more complete rest asks same handed stopped =
              long_by stop new (so_far.bytes ++ asks.bytes) complete rest next_taken handed (omega (arith, same, so_far.counted, asks.counted, count asks.bytes)) asks.within stopped

          -- the text has ended
          pub none_came : {complete rest : List ℕ} → AsksMore device mid new_block taken NoBytes new next_block next_taken → complete ≡ new_text ++ 10 ∷ [] → rest ≡ next_block
              → Buffers device old old_block old_taken End new complete rest next_taken
          none_came {complete} {rest} asks lines same =
              let is = all_read asks.bytes asks.came.0 in
              more_by End NoBytes complete rest asks refl (ended_more asks.bytes asks.handed) (rw is no_feed, rw is (lines ∙ sym (closed_some new_text some_text)), same ∙ asks.came.1 ∙ empty, asks.came.2 ∙ so_far.served)

          -- it has, and the line couldn't take its line feed
          pub none_refused : {complete rest : List ℕ} → AsksMore device mid new_block taken NoBytes new next_block next_taken → complete ≡ [] → rest ≡ next_block
              → Buffers device old old_block old_taken NoMemory new complete rest next_taken
          none_refused {complete} {rest} asks none same =
              more_by NoMemory NoBytes complete rest asks refl (handed_more asks.bytes (reads_ended device.is_read asks.handed))
              ((new_text, no_feed, more asks.bytes ∙ ap (λ l. new_text ++ l) (asks.came.0 ∙ sym (same ∙ asks.came.1 ∙ empty))), none, asks.came.2 ∙ so_far.served)

          pub read_failed : {complete : List ℕ} → AsksMore device mid new_block taken BadRead new next_block next_taken → complete ≡ [] → Buffers device old old_block old_taken Failed new complete next_block next_taken
          read_failed {complete} asks none =
              let gone : next_block ≡ [] = asks.came.1 ∙ empty in
              more_by Failed BadRead complete next_block asks refl (failed_more asks.bytes asks.handed)
              (rw (all_read asks.bytes asks.came.0) no_feed, none, rw gone (All-nil (λ b. eqb b 10 ≡ false)), asks.came.2, (new_text, more asks.bytes ∙ ap (λ l. new_text ++ l) (asks.came.0 ∙ sym gone)))

          pub past_bound : {complete : List ℕ} → AsksMore device mid new_block taken PastBound new next_block next_taken → complete ≡ [] → Buffers device old old_block old_taken TooLong new complete next_block next_taken
          past_bound {complete} asks none =
              more_by TooLong PastBound complete next_block asks refl (handed_more asks.bytes asks.handed) ((new_text, asks.bytes, no_feed, more asks.bytes, asks.came.0), none, asks.came.1, asks.came.2)
