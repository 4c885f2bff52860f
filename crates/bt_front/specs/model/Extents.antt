-- The chromosomes of a text, as a survey has them.
use Rattle.std.specs.Prelude.{ℕ, Bool, true, ◌&&◌, List, [], ◌∷◌, map, Vec}
use Rattle.std.specs.Ordering.{is_lt, nat_cmp}
use Rattle.std.specs.Cmp.Lexicographic.{slice_cmp}
use Rattle.std.specs.declared.alloc.Global.{Global}
use Rattle.bt_bed.specs.model.Feature.{Interval}
use Rattle.bt_front.specs.declared.survey.chromosomes.Chromosomes.{Chromosomes}
use Rattle.bt_front.specs.declared.survey.chromosomes.Extent.{Extent}

-- a chromosome of the table, with its extent by its name
abbrev pub extent_seen : Vec ℕ Global × Extent → Interval
extent_seen entry = record { chrom = entry.0.items; start = entry.1.start; stop = entry.1.stop }

-- the extents, in the order in which the chromosomes came
unfoldable pub extents_in : Chromosomes → List Interval
extents_in chromosomes = map extent_seen chromosomes.extents.entries

-- the names of the chromosomes, in that order
abbrev pub names_in : Chromosomes → List (List ℕ)
names_in chromosomes = map (λ extent. extent.chrom) (extents_in chromosomes)

-- whether each name comes before the next one by their bytes
abbrev pub ascend_by_bytes : List (List ℕ) → Bool
ascend_by_bytes [] = true
ascend_by_bytes (n ∷ []) = true
ascend_by_bytes (n ∷ m ∷ ns) = is_lt (slice_cmp nat_cmp n m) && ascend_by_bytes (m ∷ ns)
