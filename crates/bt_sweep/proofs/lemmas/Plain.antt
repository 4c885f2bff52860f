-- Lemmas on the plain program.
use Rattle.bt_lines.proofs.Std.{◌≡◌, ◌⊎◌, ℕ, List, [], ◌∷◌, ◌++◌, refl, sym, ap, ◌∙◌, arith, append_assoc, decimal, flat_map, length, ◌+◌, ◌-◌, ◌<◌, ◌≤◌, le-leb, suc, Bool, not, ◌&&◌, ◌||◌, cond, map, list_any, reverse-append}
use Rattle.bt_bed.specs.model.Feature.{Feature, Span, record_covers}
use Rattle.bt_bed.specs.calls.Stretches.{stretches_from, with_position}
use Rattle.bt_bed.specs.model.BedLine.{bed_text}
use Rattle.bt_sweep.specs.model.Hits.{hits_among, is_hit}
use Rattle.bt_sweep.specs.model.Lines.{hit_line, line_with, lines_for, piece_line, pieces, is_left}
use Rattle.bt_sweep.specs.declared.hits.hit_rule.HitRule.{HitRule}
use Rattle.bt_sweep.specs.declared.output.shape.Shape.{Shape}
use Rattle.bt_sweep.specs.declared.output.shape.Shape.TheVariants.{Cut, OrigA, CutAndB, OrigBoth, Overlap, Once, Missing, Count, Pieces, Whole}
use Rattle.bt_sweep.specs.inside.Pieces.{piece_in, pieces_in}

-- Lemmas on the lines of a record against all others.

-- a text, a tab and more
pub tabbed : (old x y first second new : List ℕ) → first ≡ old ++ x → second ≡ first ++ 9 ∷ [] → new ≡ second ++ y → new ≡ old ++ ((x ++ 9 ∷ []) ++ y)
tabbed old x y first second new e f g = g ∙ ap (λ l. l ++ y) (f ∙ ap (λ l. l ++ 9 ∷ []) e) ∙ simp append_assoc

module _ (a : Feature) (bs : List Feature) (shape : Shape) (rule : HitRule) where
  at_shape : (s : Shape) (l : List ℕ) → shape ≡ s → lines_for s rule a bs ≡ l → lines_for shape rule a bs ≡ l
  at_shape s l is e = ap (λ (t : Shape). lines_for t rule a bs) is ∙ e

  module _ (n : ℕ) (counted : n ≡ length (hits_among rule a bs)) where
    pub once_none : shape ≡ Once → n ≡ 0 → lines_for shape rule a bs ≡ []
    unfolding lines_for
    once_none is none = at_shape Once [] is (grind arith)

    pub once_some : shape ≡ Once → (n ≡ 0 → ⊥) → lines_for shape rule a bs ≡ line_with (bed_text a ∷ [])
    unfolding lines_for
    once_some is some = at_shape Once (line_with (bed_text a ∷ [])) is (grind arith)

    pub missing_none : (shape ≡ Missing) ⊎ (shape ≡ Whole) → n ≡ 0 → lines_for shape rule a bs ≡ line_with (bed_text a ∷ [])
    unfolding lines_for
    missing_none is none = grind arith

    pub missing_some : (shape ≡ Missing) ⊎ (shape ≡ Whole) → (n ≡ 0 → ⊥) → lines_for shape rule a bs ≡ []
    unfolding lines_for
    missing_some is some = grind arith

    pub count_all : shape ≡ Count → lines_for shape rule a bs ≡ line_with (bed_text a ∷ decimal n ∷ [])
    unfolding lines_for
    count_all is = at_shape Count (line_with (bed_text a ∷ decimal n ∷ [])) is (ap (λ (m : ℕ). line_with (bed_text a ∷ decimal m ∷ [])) (sym counted))

  pub all_pieces : shape ≡ Pieces → lines_for shape rule a bs ≡ flat_map (piece_line a) (pieces a (hits_among rule a bs))
  unfolding lines_for
  all_pieces is = at_shape Pieces (flat_map (piece_line a) (pieces a (hits_among rule a bs))) is refl

  -- a line for each hit
  pub each_hit : (shape ≡ Cut) ⊎ ((shape ≡ OrigA) ⊎ ((shape ≡ CutAndB) ⊎ ((shape ≡ OrigBoth) ⊎ (shape ≡ Overlap)))) → lines_for shape rule a bs ≡ flat_map (hit_line shape a) (hits_among rule a bs)
  unfolding lines_for
  each_hit is = grind arith

-- The scan of a record's positions, from the last one on, against the definition of its pieces.

-- one more was found
pub found_push : (xs : List (ℕ × ℕ)) (x : ℕ × ℕ) → pieces_in (xs ++ x ∷ []) ≡ piece_in x ∷ pieces_in xs
found_push xs x = ap (map piece_in) (reverse-append xs (x ∷ []))

-- the next position belongs to the last of them
pub next_joined : (front : List (ℕ × ℕ)) (start stop p : ℕ) → start ≡ p + 1
    → pieces_in (front ++ (p, stop) ∷ []) ≡ with_position p (pieces_in (front ++ (start, stop) ∷ []))
unfolding with_position
next_joined front start stop p e = grind (arith, found_push)

-- or is the first one of another
pub next_apart : (front : List (ℕ × ℕ)) (start stop p : ℕ) → (start ≡ p + 1 → ⊥)
    → pieces_in ((front ++ (start, stop) ∷ []) ++ (p, p + 1) ∷ []) ≡ with_position p (pieces_in (front ++ (start, stop) ∷ []))
unfolding with_position
next_apart front start stop p other = grind (arith, found_push)

pub first_found : (p : ℕ) → pieces_in ((p, p + 1) ∷ []) ≡ with_position p []
unfolding with_position
first_found p = refl

scan_step : (test : ℕ → Bool) (first n : ℕ) → stretches_from test first (suc n) ≡ cond (test first) (with_position first (stretches_from test (first + 1) n)) (stretches_from test (first + 1) n)
unfolding stretches_from
scan_step test first n = refl

-- none was tested yet
pub scan_none : (test : ℕ → Bool) (first : ℕ) → [] ≡ stretches_from test first 0
unfolding stretches_from
scan_none test first = refl

-- one position more was tested
pub scan_next : (test : ℕ → Bool) (stop passed : ℕ) (c : Bool) (old new : List Span) → passed < stop → test ((stop - passed) - 1) ≡ c → old ≡ stretches_from test (stop - passed) passed
    → new ≡ cond c (with_position ((stop - passed) - 1) old) old → new ≡ stretches_from test (stop - (passed + 1)) (passed + 1)
scan_next test stop passed c old new less e so_far step = grind (arith, (scan_step test ((stop - passed) - 1) passed))

-- all positions were
pub scan_all : (a : Feature) (others : List Feature) (passed : ℕ) (found : List Span) → passed ≡ a.stop
    → found ≡ stretches_from (is_left a others) (a.stop - passed) passed → found ≡ pieces a others
unfolding pieces
scan_all a others passed found all so_far = grind (arith)

-- some of those that hit a has the position
pub any_hit_has : (rule : HitRule) (a : Feature) (p : ℕ) (bs : List Feature) → list_any (λ b. is_hit rule a b && record_covers p b) bs ≡ list_any (record_covers p) (hits_among rule a bs)
any_hit_has rule a p [] = refl
any_hit_has rule a p (b ∷ bs) = ap (λ c. (is_hit rule a b && record_covers p b) || c) (any_hit_has rule a p bs) ∙ (grind arith)

-- a position from the start on that none of the others has
pub left_by : (a : Feature) (others : List Feature) (p : ℕ) (taken : Bool) → a.start ≤ p → taken ≡ list_any (record_covers p) others → not taken ≡ is_left a others p
left_by a others p taken low e = ap not e ∙ sym (ap (λ c. c && not (list_any (record_covers p) others)) (le-leb a.start p low))
