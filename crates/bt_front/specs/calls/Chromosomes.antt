-- The chromosomes that a survey holds.
use Rattle.std.specs.Prelude.{ℕ, Bool, false, List, [], ◌∷◌, bytes_eq, max}
use Rattle.bt_bed.specs.model.Feature.{Interval}
use Rattle.bt_front.specs.declared.survey.chromosomes.Extent.{Extent}

-- where an interval lies on its chromosome
abbrev pub placed : Interval → Extent
placed interval = record { start = interval.start; stop = interval.stop }

-- the last one widened up to this end
abbrev pub widened : ℕ → List Interval → List Interval
widened stop [] = []
widened stop (r ∷ []) = record { chrom = r.chrom; start = r.start; stop = max r.stop stop } ∷ []
widened stop (r ∷ s ∷ rs) = r ∷ widened stop (s ∷ rs)

-- Names.

-- whether the last of some names is this one
abbrev pub is_last_name : List (List ℕ) → List ℕ → Bool
is_last_name [] name = false
is_last_name (n ∷ []) name = bytes_eq n name
is_last_name (n ∷ m ∷ ns) name = is_last_name (m ∷ ns) name
