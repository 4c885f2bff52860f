-- A scan of the positions of a chromosome, from the last one back to the first, for the stretches of those that pass a test.
use Rattle.std.specs.Prelude.{ℕ, List, [], ◌∷◌, cond, Bool, ◌==◌, zero, suc, ◌+◌}
use Rattle.bt_bed.specs.model.Feature.{Span}
use Rattle.bt_bed.specs.model.Positions.{AreStretchesOf, PassesBelow}

-- the position as one more stretch before the others,
-- or as the first position of the first if they touch
unfoldable pub with_position : ℕ → List Span → List Span
with_position p [] = record { start = p; stop = p + 1 } ∷ []
with_position p (s ∷ ss) =
    cond (s.start == p + 1) (record { start = p; stop = s.stop } ∷ ss)
    (record { start = p; stop = p + 1 } ∷ s ∷ ss)

-- the stretches of the positions that pass the test, among n positions from the first on
unfoldable pub stretches_from : (ℕ → Bool) → ℕ → ℕ → List Span
stretches_from test first zero = []
stretches_from test first (suc n) =
    cond (test first) (with_position first (stretches_from test (first + 1) n))
    (stretches_from test (first + 1) n)

-- a scan of the positions below n finds the stretches of those that pass
abbrev pub scan_finds_stretches : Type 0
scan_finds_stretches =
    (test : ℕ → Bool) (n : ℕ) → AreStretchesOf (PassesBelow test n) (stretches_from test 0 n)
