-- The order in which bedtools writes the hits of a record, which is that of the bins of the UCSC genome browser (Kent et al.,
-- The Human Genome Browser at UCSC, Genome Research 12, 2002; bedtools 2.30.0, `_binFirstShift` and `_binNextShift`).
use Rattle.std.specs.Prelude.{ℕ, zero, suc, ◌/◌, ◌-◌, ◌==◌, Bool, List, [], ◌∷◌, filter, flat_map, nat_le, if◌then◌else◌}
use Rattle.std.specs.List.{position_or_len}
use Rattle.bt_bed.specs.model.Feature.{Feature}
use Rattle.bt_sweep.specs.declared.hits.hit_rule.HitRule.{HitRule}
use Rattle.bt_sweep.specs.declared.output.shape.Shape.{Shape}
use Rattle.bt_sweep.specs.model.Hits.{hits_among}
use Rattle.bt_sweep.specs.model.Lines.{lines_of}

-- Bins divide a chromosome, at several levels.

-- the bin of a level that has a position: one of the first level has 16,384 bases, and one of each next level eight bins of
-- the level before it
abbrev pub bin_at : ℕ → ℕ → ℕ
bin_at zero position = position / 16384
bin_at (suc level) position = bin_at level position / 8

-- the levels, that of the smallest bins first
abbrev pub levels : List ℕ
levels = 0 ∷ 1 ∷ 2 ∷ 3 ∷ 4 ∷ 5 ∷ 6 ∷ []

-- whether one bin of a level has all of a record
abbrev pub is_within_one : Feature → ℕ → Bool
is_within_one r level = bin_at level r.start == bin_at level (r.stop - 1)

-- The level of a record: that of the smallest bin that has all of it. One that no bin has would come after all others.
unfoldable pub level_of : Feature → ℕ
level_of r = position_or_len (is_within_one r) levels

-- whether a record is on a level
abbrev pub is_on : ℕ → Feature → Bool
is_on level r = level_of r == level

-- The order of the hits of a record.

-- a record before others that are in the order of the bins of their level: in a bin it comes first, as in the file
abbrev pub before_in_bins : ℕ → Feature → List Feature → List Feature
before_in_bins level r [] = r ∷ []
before_in_bins level r (next ∷ more) =
    if nat_le (bin_at level r.start) (bin_at level next.start) then r ∷ next ∷ more
    else next ∷ before_in_bins level r more

-- the records of a level in the order of its bins, and in each bin in file order
abbrev pub in_bins : ℕ → List Feature → List Feature
in_bins level [] = []
in_bins level (r ∷ more) = before_in_bins level r (in_bins level more)

-- all levels, and what no bin has
abbrev pub all_levels : List ℕ
all_levels = 0 ∷ 1 ∷ 2 ∷ 3 ∷ 4 ∷ 5 ∷ 6 ∷ 7 ∷ []

-- hits in the order of bedtools: level by level, the smallest bins first, on each level in the order of the bins, and in
-- each bin in file order
unfoldable pub in_bin_order : List Feature → List Feature
in_bin_order found = flat_map (λ level. in_bins level (filter (is_on level) found)) all_levels

-- What intersect writes if the hits of each record are in that order.

-- of one record against all of the second input
unfoldable pub lines_by_bins : Shape → HitRule → List Feature → Feature → List ℕ
lines_by_bins shape rule second a = lines_of shape a (in_bin_order (hits_among rule a second))

-- of all records of the first input, in their order
abbrev pub intersect_by_bins : Shape → HitRule → List Feature → List Feature → List ℕ
intersect_by_bins shape rule first second = flat_map (lines_by_bins shape rule second) first
