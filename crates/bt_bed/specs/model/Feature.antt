-- Intervals and features: where they lie, their strands and bases.
use Rattle.std.specs.Prelude.{ℕ, List, [], ◌∷◌, cond, bytes_eq, Option, Some, None, map, ◌-◌, max, min, Bool, true, false, nat_le, nat_lt, ◌&&◌}
use Rattle.bt_bed.specs.declared.record.strand.Strand.{Strand}
use Rattle.bt_bed.specs.declared.record.strand.Strand.TheVariants.{Plus, Minus, Dot}

-- Stretches of a chromosome. Positions count from zero, and the stop isn't included (UCSC BED
-- description, fields chrom, chromStart and chromEnd).

-- a stretch of a chromosome, which is named by its bytes: the first three columns of a BED record,
-- or a merged run
pub record Interval : Type 0 where
  pub chrom : List ℕ
  pub start : ℕ
  pub stop : ℕ

-- a stretch of a chromosome that is known from elsewhere
pub record Span : Type 0 where
  pub start : ℕ
  pub stop : ℕ

-- a record without its chromosome
abbrev pub span_of : Interval → Span
span_of r = record { start = r.start; stop = r.stop }

-- a span as a stretch of the chromosome of this name
abbrev pub placed_on : List ℕ → Span → Interval
placed_on name s = record { chrom = name; start = s.start; stop = s.stop }

-- the records of one chromosome, in their order
abbrev pub spans_on : List ℕ → List Interval → List Span
spans_on name [] = []
spans_on name (r ∷ rs) =
    cond (bytes_eq r.chrom name) (span_of r ∷ spans_on name rs) (spans_on name rs)

-- the last of the record and those after it
abbrev pub last_from : Interval → List Interval → Interval
last_from r [] = r
last_from r (s ∷ ss) = last_from s ss

-- the last of the records, if there is one
abbrev pub last_of : List Interval → Option Interval
last_of [] = None
last_of (r ∷ rs) = Some (last_from r rs)

-- Features of a BED file: where they lie, their strand, and the columns that are kept as they are
-- (UCSC BED description, fields chrom, chromStart, chromEnd and strand).

pub record Feature : Type 0 where
  pub chrom : List ℕ
  pub start : ℕ
  pub stop : ℕ
  pub strand : Strand
  -- the columns from the fourth on, each with the tab before it
  pub rest : List ℕ

-- where a feature lies
abbrev pub interval_of : Feature → Interval
interval_of feature = record { chrom = feature.chrom; start = feature.start; stop = feature.stop }

-- where features lie, in their order
abbrev pub intervals_of : List Feature → List Interval
intervals_of features = map interval_of features

-- The bases of an interval, and those that two intervals share (UCSC BED description, fields
-- chromStart and chromEnd; bedtools manual, intersect).

-- how many bases an interval has
abbrev pub length_of : Interval → ℕ
length_of r = r.stop - r.start

-- how many bases two intervals have in common: the smaller stop less the greater start, if they
-- lie on one chromosome and this is above 0
abbrev pub shared : Interval → Interval → ℕ
shared a b = cond (bytes_eq a.chrom b.chrom) (min a.stop b.stop - max a.start b.start) 0

-- whether an interval of a chromosome has the position
abbrev pub covers : ℕ → Span → Bool
covers p s = nat_le s.start p && nat_lt p s.stop

-- whether a feature has it, on whatever chromosome that is
abbrev pub record_covers : ℕ → Feature → Bool
record_covers p r = covers p (span_of (interval_of r))

-- Strands of features (UCSC BED description, field strand).

-- whether two strands are equal; none equals none
abbrev pub is_same_strand : Strand → Strand → Bool
is_same_strand Plus Plus = true
is_same_strand Minus Minus = true
is_same_strand Dot Dot = true
is_same_strand _ _ = false
