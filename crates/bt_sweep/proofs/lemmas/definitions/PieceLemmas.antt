-- Lemmas on records whose starts don't fall.
use Rattle.bt_lines.proofs.Std.{rules}
use Rattle.bt_lines.proofs.Std.{◌≡◌, ℕ, ◌≤◌, inl, inr, Bool, true, cond, List, [], ◌∷◌, refl, sym, ◌∙◌, ltb, arith, filter, bytes_eq, and_parts, ◌<◌, ◌++◌, ap, append_assoc, flat_map, max, Decides, list_any, false≢true}
use Rattle.bt_bed.specs.model.Feature.{Feature, intervals_of, Span, record_covers}
use Rattle.bt_bed.specs.model.Positions.{AreApartFrom, IsCovered}
use Rattle.bt_bed.specs.calls.Orders.{ArePlaced, IsTotal}
use Rattle.bt_bed.specs.model.Order.{Order}
use Rattle.bt_bed.proofs.lemmas.parse.NameLemmas.{same_name}
use Rattle.bt_sweep.specs.calls.Held.{AreRising, AreRisingFrom}
use Rattle.bt_sweep.specs.calls.Sweeping.{is_held}
use Rattle.bt_bed.proofs.lemmas.StretchScans.{stretches_are_same, scan_finds}
use Rattle.bt_sweep.specs.model.Hits.{is_hit, hits_among}
use Rattle.bt_sweep.specs.model.Lines.{piece_line, is_left, pieces}
use Rattle.bt_sweep.specs.calls.LineLaws.{IsLeft, pieces_are, pieces_only, spans_of}
use Rattle.bt_sweep.specs.inside.Pieces.{free_after, gap_lines, lines_before}
use Rattle.bt_sweep.specs.declared.hits.hit_rule.HitRule.{HitRule}
use Rattle.bt_sweep.proofs.lemmas.definitions.HitLemmas.{hit_overlaps}

-- they rise from any position up to the first of them
rising_from : (low high : ℕ) (bs : List Feature) → low ≤ high → AreRisingFrom high bs → AreRisingFrom low bs
rising_from low high [] h rises = tt
rising_from low high (b ∷ bs) h rises = (omega (arith, rises.0), rises.1)

module _ (p : Feature → Bool) where
  filter_at : (low : ℕ) (b : Feature) (bs : List Feature) (c : Bool) → low ≤ b.start → AreRisingFrom b.start (filter p bs) → AreRisingFrom low (cond c (b ∷ filter p bs) (filter p bs))
  filter_at low b bs c h rises = grind (arith, rising_from)

  -- some of them rise too
  pub rising_filter : (low : ℕ) (bs : List Feature) → AreRisingFrom low bs → AreRisingFrom low (filter p bs)
  rising_filter low [] rises = tt
  rising_filter low (b ∷ bs) rises = filter_at low b bs (p b) rises.0 (rising_filter b.start bs rises.1)

module _ (order : Order) (total : IsTotal order) (p : Feature → Bool) (name : List ℕ) (on : (b : Feature) → p b ≡ true → b.chrom ≡ name) where
  next_rises : (x y : Feature) (ys : List Feature) (c : Bool) → p y ≡ c → x.chrom ≡ name → ArePlaced order (intervals_of (x ∷ y ∷ ys))
      → (y.chrom ≡ name → AreRisingFrom y.start (filter p ys)) → AreRisingFrom x.start (filter p ys) → AreRisingFrom x.start (cond c (y ∷ filter p ys) (filter p ys))
  next_rises x y ys c e ex placed taken skipped = grind arith

  rising_by : (x : Feature) (ys : List Feature) → x.chrom ≡ name → ArePlaced order (intervals_of (x ∷ ys)) → AreRisingFrom x.start (filter p ys)
  rising_by x [] ex placed = tt
  rising_by x (y ∷ ys) ex placed = next_rises x y ys (p y) refl ex placed (λ ey. rising_by y ys ey placed.2) (rising_by x ys ex (grind arith))

  first_rises : (x : Feature) (xs : List Feature) (c : Bool) → p x ≡ c → (x.chrom ≡ name → AreRisingFrom x.start (filter p xs)) → AreRising (filter p xs) → AreRising (cond c (x ∷ filter p xs) (filter p xs))
  first_rises x xs c e taken skipped = grind arith

  pub rising_all : (xs : List Feature) → ArePlaced order (intervals_of xs) → AreRising (filter p xs)
  rising_all [] placed = tt
  rising_all (x ∷ xs) placed = first_rises x xs (p x) refl (λ ex. rising_by x xs ex placed) (rising_all xs placed.2)

-- what is held of records in order
pub rising_held : (order : Order) (a : Feature) (taken : List Feature) → IsTotal order → ArePlaced order (intervals_of taken) → AreRising (filter (is_held a) taken)
rising_held order a taken total placed =
    rising_all order total (is_held a) a.chrom (λ b e. sym (same_name a.chrom b.chrom (and_parts (bytes_eq a.chrom b.chrom) (ltb a.start b.stop) e).0)) taken placed

-- The pieces of a record are the stretches of the positions that are left of it, and the only list that
-- is. A walk over those that hit it by their starts meets them in order.

covers-Decides : (others : List Feature) (p : ℕ) → Decides (list_any (record_covers p) others) (IsCovered (spans_of others) p)
covers-Decides [] p = (λ e. false≢true e, λ c. absurd c)
covers-Decides (b ∷ others) p = grind (arith, (covers-Decides others p))

pub are_pieces : pieces_are
unfolding pieces
are_pieces a others = grind (arith, (scan_finds (is_left a others) a.stop), covers-Decides)

pub only_pieces : pieces_only
only_pieces a others spans h = stretches_are_same (IsLeft a others) spans (pieces a others) h (are_pieces a others)

-- the stretch between two positions, if it has one
abbrev gap : ℕ → ℕ → List Span
gap start stop = cond (ltb start stop) (record { start = start; stop = stop } ∷ []) []

-- the stretches between these, from a first position up to a last
abbrev walk : ℕ → ℕ → List Feature → List Span
walk free stop [] = gap free stop
walk free stop (b ∷ bs) = gap free b.start ++ walk (max free b.stop) stop bs

gap_written : (a : Feature) (start stop : ℕ) → flat_map (piece_line a) (gap start stop) ≡ gap_lines a start stop
gap_written a start stop = search rules

-- the lines of a walk
walk_lines : (a : Feature) (free stop : ℕ) (bs : List Feature) → flat_map (piece_line a) (walk free stop bs) ≡ lines_before a free bs ++ gap_lines a (free_after free bs) stop
walk_lines a free stop [] = gap_written a free stop
walk_lines a free stop (b ∷ bs) = grind (arith, (walk_lines a (max free b.stop) stop bs), append_assoc)

-- each has a base, and starts before this position
abbrev AreWithin : ℕ → List Feature → Type 0
AreWithin stop [] = Unit {0}
AreWithin stop (b ∷ bs) = (b.start < b.stop) × (b.start < stop) × AreWithin stop bs

-- the stretches of the positions from a first one up to a last that none of these has
record IsWalk (free stop : ℕ) (bs : List Feature) (spans : List Span) : Type 0 where
  apart : AreApartFrom free spans
  from_free : (p : ℕ) → IsCovered spans p → free ≤ p
  before_stop : (p : ℕ) → IsCovered spans p → p < stop
  bare : (p : ℕ) → IsCovered spans p → IsCovered (spans_of bs) p → ⊥
  whole : (p : ℕ) → free ≤ p → p < stop → (IsCovered (spans_of bs) p → ⊥) → IsCovered spans p

gap_walks : (free stop : ℕ) (c : Bool) → ltb free stop ≡ c → IsWalk free stop [] (cond c (record { start = free; stop = stop } ∷ []) [])
gap_walks free stop c e = grind arith

-- what rises from a position has none below it
none_below : (low : ℕ) (bs : List Feature) (p : ℕ) → AreRisingFrom low bs → IsCovered (spans_of bs) p → low ≤ p
none_below low [] p rises c = absurd c
none_below low (b ∷ bs) p rises c =
    elim c [
      | inl w ↦ omega (arith, rises.0, w.0)
      | inr w ↦ let up = none_below b.start bs p rises.1 w in omega (arith, rises.0, up)
    ]

apart_down : (low high : ℕ) (spans : List Span) → low ≤ high → AreApartFrom high spans → AreApartFrom low spans
apart_down low high [] h apart = tt
apart_down low high (s ∷ ss) h apart = (omega (arith, apart.0), apart.1, apart.2)

module _ (free stop : ℕ) (b : Feature) (bs : List Feature) (spans : List Span) (some : b.start < b.stop) (within : b.start < stop) (rises : AreRisingFrom b.start bs) (rest : IsWalk (max free b.stop) stop bs spans) where
  next_walks : (c : Bool) → ltb free b.start ≡ c → IsWalk free stop (b ∷ bs) (cond c (record { start = free; stop = b.start } ∷ []) [] ++ spans)
  next_walks c e = grind (arith, apart_down, none_below)

walk_walks : (free stop low : ℕ) (bs : List Feature) → AreWithin stop bs → AreRisingFrom low bs → IsWalk free stop bs (walk free stop bs)
walk_walks free stop low [] within rises = gap_walks free stop (ltb free stop) refl
walk_walks free stop low (b ∷ bs) within rises =
    next_walks free stop b bs (walk (max free b.stop) stop bs) within.0 within.1 rises.1
    (walk_walks (max free b.stop) stop b.start bs within.2 rises.1) (ltb free b.start) refl

-- such a walk finds the pieces
walk_finds : (a : Feature) (bs : List Feature) → AreWithin a.stop bs → AreRising bs → walk a.start a.stop bs ≡ pieces a bs
walk_finds a bs within rises = grind (arith, (walk_walks a.start a.stop 0 bs within rises), only_pieces, (apart_down 0 a.start (walk a.start a.stop bs) (omega arith) (walk_walks a.start a.stop 0 bs within rises).apart))

module _ (rule : HitRule) (a : Feature) where
  within_at : (b : Feature) (bs : List Feature) (c : Bool) → is_hit rule a b ≡ c → AreWithin a.stop (hits_among rule a bs) → AreWithin a.stop (cond c (b ∷ hits_among rule a bs) (hits_among rule a bs))
  within_at b bs c e rest = grind (arith, hit_overlaps)

  hits_within : (bs : List Feature) → AreWithin a.stop (hits_among rule a bs)
  hits_within [] = tt
  hits_within (b ∷ bs) = within_at b bs (is_hit rule a b) refl (hits_within bs)

  -- the lines of the pieces, by a walk over what is held
  pub walked : (held : List Feature) → AreRising held
      → lines_before a a.start (hits_among rule a held) ++ gap_lines a (free_after a.start (hits_among rule a held)) a.stop ≡ flat_map (piece_line a) (pieces a (hits_among rule a held))
  walked held rises = grind (arith, (walk_lines a a.start a.stop (hits_among rule a held)), (walk_finds a (hits_among rule a held) (hits_within held) (rising_filter (is_hit rule a) 0 held rises)))

-- a record that nothing hits is one piece, if it has a base
pub walked_alone : (a : Feature) → gap_lines a a.start a.stop ≡ flat_map (piece_line a) (pieces a [])
walked_alone a = sym (walk_lines a a.start a.stop []) ∙ ap (flat_map (piece_line a)) (walk_finds a [] tt tt)
