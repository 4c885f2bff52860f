-- Lemmas on the lines of a text.
use Rattle.bt_lines.proofs.Std.{common_steps, ◌≡◌, ℕ, suc, ◌+◌, ◌<◌, Bool, true, false, cond, List, [], ◌∷◌, ◌++◌, length, take, drop, get_or, refl, sym, ap, ◌∙◌, append_assoc, append-nil, eqb, arith, flat_map, join_with_byte, ends_with_byte, strip_last, take-append-drop, drop_more, drop_all, slice_split_at, slice_split_none, length-slice_split, join_with_byte-slice_split, eqb-true, zero, ◌≤◌, subst, length-append, All-push, All-nil, All-head, All-tail, sum_by-append, false≢true, All, Option, Some, None, get_or-take, get_or_default, length-take-le, take_all, false_from_ne_true, get_or-le-sum_by, is_some, nat_le, nat_tests}
use Rattle.bt_lines.specs.model.Lines.{pieces, fed_line, last_line, numbered, lines_from, spelled, end_bytes, TextLine, whole_lines_from, numbered_whole, bytes_in}
use Rattle.bt_lines.specs.calls.Columns.{IsBefore, IsFirstOf, Lacks, CutAt}
use Rattle.bt_lines.specs.calls.Line.{NoLineFeed, line_feeds, AreNumbered}
use Rattle.bt_lines.specs.declared.reader.line.LineEnd.TheVariants.{Lf, CrLf}
use Rattle.memchr.specs.Find.{FindsNeedle, IsFirstByte, IsLastByte, OccursAt, Passes, is_byte}

-- a piece is followed by others
numbered-more : (n : ℕ) (piece : List ℕ) (rest : List (List ℕ)) → 0 < length rest → numbered n (piece ∷ rest) ≡ fed_line n piece ∷ numbered (suc n) rest
numbered-more n piece rest h = grind arith

-- the first line of a text that has a line feed
pub lines_from-fed : (n : ℕ) (piece rest : List ℕ) → NoLineFeed piece → lines_from n (piece ++ 10 ∷ rest) ≡ fed_line n piece ∷ lines_from (suc n) rest
unfolding lines_from
lines_from-fed n piece rest clear = grind (arith, slice_split_at, numbered-more, length-slice_split)

-- a text without a line feed is its last line
pub lines_from-last : (n : ℕ) (piece : List ℕ) → NoLineFeed piece → lines_from n piece ≡ last_line n piece
unfolding lines_from
lines_from-last n piece clear = ap (numbered n) (slice_split_none (λ b. eqb b 10) piece clear)

pub lines_from-nil : (n : ℕ) → lines_from n [] ≡ []
unfolding lines_from
lines_from-nil n = refl

-- a byte that ends a text, and the text before it
pub strip_last-push : (byte : ℕ) (xs : List ℕ) → ends_with_byte byte xs ≡ true → strip_last byte xs ++ byte ∷ [] ≡ xs
strip_last-push byte xs e = grind (arith, drop_more, drop_all, take-append-drop)

pub strip_last-other : (byte : ℕ) (xs : List ℕ) → ends_with_byte byte xs ≡ false → strip_last byte xs ≡ xs
strip_last-other byte xs e = rw e refl

fed_end : (b : Bool) (piece stripped : List ℕ) → (b ≡ true → stripped ++ 13 ∷ [] ≡ piece) → (b ≡ false → stripped ≡ piece) → stripped ++ end_bytes (cond b CrLf Lf) ≡ piece ++ 10 ∷ []
fed_end b piece stripped with without = grind (arith, append_assoc)

-- a line with a line feed, as the text has it
pub spelled-fed : (n : ℕ) (piece : List ℕ) → spelled (fed_line n piece) ≡ piece ++ 10 ∷ []
spelled-fed n piece = fed_end (ends_with_byte 13 piece) piece (strip_last 13 piece) (grind (arith, drop_more, drop_all, take-append-drop)) (strip_last-other 13 piece)

-- a last line, as the text has it
pub spelled-last : (n : ℕ) (piece : List ℕ) → flat_map spelled (last_line n piece) ≡ piece
spelled-last n piece = grind (arith, append-nil, strip_last-push)

joined : (n : ℕ) (parts : List (List ℕ)) → flat_map spelled (numbered n parts) ≡ join_with_byte 10 parts
joined n [] = refl
joined n (piece ∷ []) = spelled-last n piece
joined n (piece ∷ next ∷ rest) = grind (arith, common_steps, (joined (suc n) (next ∷ rest)))

-- the lines with their line ends are the text
pub lines_lose_nothing : (n : ℕ) (bytes : List ℕ) → flat_map spelled (lines_from n bytes) ≡ bytes
unfolding lines_from
lines_lose_nothing n bytes = joined n (pieces 10 bytes) ∙ join_with_byte-slice_split 10 bytes

-- Lemmas on texts that are cut into lines, for callers too: how many lines, how many bytes, which numbers.

-- a text is a last piece, or a piece, its line feed and the rest: what holds of both, holds of each text
module _ (P : ℕ → List ℕ → Type 0) (last : (n : ℕ) (piece : List ℕ) → NoLineFeed piece → P n piece)
    (fed : (n : ℕ) (piece rest : List ℕ) → NoLineFeed piece → P (suc n) rest → P n (piece ++ 10 ∷ rest)) where
  at_byte : (n : ℕ) (front : List ℕ) (byte : ℕ) (rest : List ℕ) → NoLineFeed front → ((m : ℕ) (next : List ℕ) → NoLineFeed next → P m (next ++ rest))
      → (b : Bool) → eqb byte 10 ≡ b → P n (front ++ byte ∷ rest)
  at_byte n front byte rest clear behind true e =
      subst (λ b. P n (front ++ b ∷ rest)) (sym (eqb-true byte 10 e)) (fed n front rest clear (behind (suc n) [] (All-nil (λ b. eqb b 10 ≡ false))))
  at_byte n front byte rest clear behind false e = grind (arith, (append_assoc front (byte ∷ []) rest), (All-push (λ b. eqb b 10 ≡ false) front byte clear e))

  from_front : (rest : List ℕ) (n : ℕ) (front : List ℕ) → NoLineFeed front → P n (front ++ rest)
  from_front [] n front clear = subst (P n) (sym (append-nil front)) (last n front clear)
  from_front (byte ∷ rest) n front clear = at_byte n front byte rest clear (from_front rest) (eqb byte 10) refl

  pub by_lines : (n : ℕ) (bytes : List ℕ) → P n bytes
  by_lines n bytes = from_front bytes n [] (All-nil (λ b. eqb b 10 ≡ false))

-- ---- line feeds

pub line_feeds-append : (xs ys : List ℕ) → line_feeds (xs ++ ys) ≡ line_feeds xs + line_feeds ys
line_feeds-append xs ys = sum_by-append _ xs ys

-- a piece without a line feed has none
pub line_feeds-none : (piece : List ℕ) → NoLineFeed piece → line_feeds piece ≡ 0
line_feeds-none piece clear = grind (arith, (length-slice_split (λ b. eqb b 10) piece), (slice_split_none (λ b. eqb b 10) piece clear))

-- a piece, its line feed and the rest
pub line_feeds-fed : (piece rest : List ℕ) → NoLineFeed piece → line_feeds (piece ++ 10 ∷ rest) ≡ suc (line_feeds rest)
line_feeds-fed piece rest clear = grind (arith, (length-slice_split (λ b. eqb b 10) rest), (length-slice_split (λ b. eqb b 10) (piece ++ 10 ∷ rest)), (slice_split_at (λ b. eqb b 10) piece 10 rest clear refl))

-- ---- complete lines

whole-more : (n : ℕ) (piece : List ℕ) (rest : List (List ℕ)) → 0 < length rest → numbered_whole n (piece ∷ rest) ≡ fed_line n piece ∷ numbered_whole (suc n) rest
whole-more n piece rest h = grind arith

-- the first complete line
pub whole_lines_from-fed : (n : ℕ) (piece rest : List ℕ) → NoLineFeed piece → whole_lines_from n (piece ++ 10 ∷ rest) ≡ fed_line n piece ∷ whole_lines_from (suc n) rest
unfolding whole_lines_from
whole_lines_from-fed n piece rest clear = grind (arith, slice_split_at, whole-more, length-slice_split)

-- a text without a line feed has no complete line
pub whole_lines_from-last : (n : ℕ) (piece : List ℕ) → NoLineFeed piece → whole_lines_from n piece ≡ []
unfolding whole_lines_from
whole_lines_from-last n piece clear = ap (numbered_whole n) (slice_split_none (λ b. eqb b 10) piece clear)

-- there are as many complete lines as line feeds
pub whole_count : (n : ℕ) (bytes : List ℕ) → length (whole_lines_from n bytes) ≡ line_feeds bytes
whole_count = by_lines (λ n bytes. length (whole_lines_from n bytes) ≡ line_feeds bytes)
    (λ n piece clear. rw (whole_lines_from-last n piece clear, line_feeds-none piece clear) refl)
    (λ n piece rest clear is. rw (whole_lines_from-fed n piece rest clear, line_feeds-fed piece rest clear) (ap suc is))

-- the complete lines of a text are the first lines of each text that begins with it
pub whole_front : (n : ℕ) (bytes more : List ℕ) → take (line_feeds bytes) (lines_from n (bytes ++ more)) ≡ whole_lines_from n bytes
whole_front n bytes more = by_lines (λ n bytes. take (line_feeds bytes) (lines_from n (bytes ++ more)) ≡ whole_lines_from n bytes)
    (λ n piece clear. rw (whole_lines_from-last n piece clear, line_feeds-none piece clear) refl)
    (λ n piece rest clear is.
    rw (whole_lines_from-fed n piece rest clear, line_feeds-fed piece rest clear, append_assoc piece (10 ∷ rest) more, lines_from-fed n piece (rest ++ more) clear)
    (ap (λ l. fed_line n piece ∷ l) is))
    n bytes

-- ---- numbers

-- the lines of a text count up from the number given
pub lines_are_numbered : (n : ℕ) (bytes : List ℕ) → AreNumbered n (lines_from n bytes)
lines_are_numbered = by_lines (λ n bytes. AreNumbered n (lines_from n bytes))
    (λ n piece clear. subst (AreNumbered n) (sym (lines_from-last n piece clear)) (grind arith))
    (λ n piece rest clear is. subst (AreNumbered n) (sym (lines_from-fed n piece rest clear)) (refl, is))

-- so do its complete lines
pub whole_lines_are_numbered : (n : ℕ) (bytes : List ℕ) → AreNumbered n (whole_lines_from n bytes)
whole_lines_are_numbered = by_lines (λ n bytes. AreNumbered n (whole_lines_from n bytes))
    (λ n piece clear. subst (AreNumbered n) (sym (whole_lines_from-last n piece clear)) tt)
    (λ n piece rest clear is. subst (AreNumbered n) (sym (whole_lines_from-fed n piece rest clear)) (refl, is))

-- ---- bytes

-- lines after one another have the bytes of both
pub bytes_in-append : (xs ys : List TextLine) → bytes_in (xs ++ ys) ≡ bytes_in xs + bytes_in ys
bytes_in-append xs ys = grind (arith, common_steps)

-- the lines of a text have its bytes
pub bytes_in-lines : (n : ℕ) (bytes : List ℕ) → bytes_in (lines_from n bytes) ≡ length bytes
bytes_in-lines n bytes = ap length (lines_lose_nothing n bytes)

-- fewer lines have no more bytes
pub bytes_in-drop : (k : ℕ) (lines : List TextLine) → bytes_in (drop k lines) ≤ bytes_in lines
bytes_in-drop zero lines = omega arith
bytes_in-drop (suc k) [] = omega arith
bytes_in-drop (suc k) (line ∷ lines) = omega (arith, bytes_in-drop k lines, length-append (spelled line) (flat_map spelled lines))

-- a list of bytes that begins with a piece without a line feed, cut at its first one
first_cut : (piece rest front back : List ℕ) → NoLineFeed front → front ++ back ≡ piece ++ 10 ∷ rest → length rest ≤ length back
first_cut piece rest [] back clear e = grind (arith, length-append)
first_cut [] rest (byte ∷ front) back clear e = absurd (false≢true (sym (All-head (λ b. eqb b 10 ≡ false) byte front clear) ∙ ap (λ b. eqb b 10) (ap first e)))
  where
    first : List ℕ → ℕ
    first [] = 0
    first (x ∷ xs) = x
first_cut (other ∷ piece) rest (byte ∷ front) back clear e = grind (arith, (first_cut piece rest front back (All-tail (λ b. eqb b 10 ≡ false) byte front clear) (ap (drop 1) e)))

-- after a piece without a line feed: the lines except the first have at most the bytes that come there
pub bytes_behind_first : (n : ℕ) (front back : List ℕ) → NoLineFeed front → bytes_in (drop 1 (lines_from n (front ++ back))) ≤ length back
bytes_behind_first n front back clear = by_lines (λ n bytes. front ++ back ≡ bytes → bytes_in (drop 1 (lines_from n bytes)) ≤ length back)
    (λ n piece alone e. rw (lines_from-last n piece alone) (none n piece))
    (λ n piece rest alone is e. rw (lines_from-fed n piece rest alone) (omega (arith, bytes_in-lines (suc n) rest, first_cut piece rest front back clear e)))
    n (front ++ back) refl
  where
    none : (n : ℕ) (piece : List ℕ) → bytes_in (drop 1 (last_line n piece)) ≤ length back
    none n [] = omega arith
    none n (byte ∷ bytes) = omega arith

-- Lemmas on the first column of a text.

-- not a tab
abbrev pub IsInside : ℕ → Type 0
IsInside byte = eqb byte 9 ≡ false

-- a column has no tab
abbrev pub IsColumn : List ℕ → Type 0
IsColumn column = All IsInside column

-- a column that a tab follows is the first
pub cut_at : (text : List ℕ) (n : ℕ) → n < length text → get_or text n 0 ≡ 9 → IsColumn (take n text) → pieces 9 text ≡ take n text ∷ pieces 9 (drop (n + 1) text)
cut_at text n within tab column = grind (arith, (drop_more text n 0 within), (take-append-drop n text), (slice_split_at (λ byte. eqb byte 9) (take n text) 9 (drop (n + 1) text) column refl))

-- Lemmas on the pieces of a text between separators.

-- none comes before the first separator
clear_before : (s : ℕ) (bytes : List ℕ) (i : ℕ) → IsFirstByte (is_byte s) bytes (Some i) → All (λ x. eqb x s ≡ false) (take i bytes)
clear_before s bytes i first = grind (arith, length-take-le, get_or-take, get_or_default)

-- a text that is cut at its first separator
pub pieces_cut : (s : ℕ) (bytes : List ℕ) (i : ℕ) → IsFirstByte (is_byte s) bytes (Some i) → pieces s bytes ≡ take i bytes ∷ pieces s (drop (i + 1) bytes)
pieces_cut s bytes i first =
    let below : i < length bytes = first.0.high in
    grind (arith, (slice_split_at (λ x. eqb x s) (take i bytes) (get_or bytes i 0) (drop (i + 1) bytes) (clear_before s bytes i first) first.1), (take-append-drop i bytes), (drop_more bytes i 0 below))

-- a text without a separator is one piece
pub pieces_whole : (s : ℕ) (bytes : List ℕ) → IsFirstByte (is_byte s) bytes None → pieces s bytes ≡ bytes ∷ []
pieces_whole s bytes nowhere = grind (arith, (slice_split_none (λ x. eqb x s) bytes (λ k d h. rw (get_or_default bytes k d 0 h) (false_from_ne_true _ (nowhere k (omega arith) h)))))

-- a text has two pieces at least if it has a separator
pub two_pieces : (s : ℕ) (bytes : List ℕ) (found : Option ℕ) → IsLastByte (is_byte s) bytes found → is_some found ≡ nat_le 2 (length (pieces s bytes))
two_pieces s bytes found is_last = grind (arith, pieces_whole, get_or-le-sum_by, length-slice_split, nat_tests)

-- the first tab divides the first column from the others
pub tab_divides : (text : List ℕ) (found : Option ℕ) → IsFirstByte (is_byte 9) text found → IsFirstOf 9 text found × CutAt text found
tab_divides text found nowhere = grind (arith, common_steps, pieces_whole, clear_before, pieces_cut)

-- the first column ends before the first tab
pub before_tab : (text : List ℕ) (end : ℕ) → IsBefore 9 text end → end < length text → pieces 9 text ≡ take end text ∷ pieces 9 (drop (end + 1) text)
before_tab text end is below = ap (pieces 9) (is.cut below) ∙ slice_split_at (λ x. eqb x 9) (take end text) 9 (drop (end + 1) text) is.clear refl

-- a text without a tab is one column
pub without_tab : (text : List ℕ) (end : ℕ) → IsBefore 9 text end → end ≡ length text → pieces 9 text ≡ text ∷ []
without_tab text end is all = slice_split_none (λ x. eqb x 9) text (subst (Lacks 9) (take_all end text (omega (arith, all))) is.clear)

-- a needle of one byte
module _ (hay : List ℕ) (b : ℕ) where
  occurs_byte : (k : ℕ) → OccursAt hay (b ∷ []) k → Passes (is_byte b) hay k
  occurs_byte k o = grind arith

  -- the needle's first match is the first such byte
  pub finds_byte : (found : Option ℕ) → FindsNeedle hay (b ∷ []) 0 found → IsFirstByte (is_byte b) hay found
  finds_byte None none = λ k low high e. none k low (omega (arith, high)) (grind arith)
  finds_byte (Some at) first =
      let fits = first.1.fits in (
        record { low = first.0.low; high = omega (arith, fits); before = λ k low high e. first.0.before k low high (grind arith) },
        occurs_byte at first.1,
      )
