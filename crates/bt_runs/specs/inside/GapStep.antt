-- The gaps that a complement writes as records come, exactly.
use Rattle.std.specs.Prelude.{ℕ, Bool, cond, List, [], ◌∷◌, max, min, nat_lt}
use Rattle.bt_bed.specs.model.Feature.{Interval}
use Rattle.bt_bed.specs.model.Genome.{Entry}
use Rattle.bt_runs.specs.inside.Walk.{Walk}

-- a gap of a chromosome, if it has a base
abbrev pub gap_between : List ℕ → ℕ → ℕ → List Interval
gap_between name start stop =
    cond (nat_lt start stop) (record { chrom = name; start = start; stop = stop } ∷ []) []

-- the last gap of a chromosome
abbrev pub last_gap : Entry → ℕ → List Interval
last_gap entry end = gap_between entry.name end entry.length

-- a chromosome without records: all of it, or nothing with -L
abbrev pub bare_gap : Bool → Entry → List Interval
bare_gap limit entry = cond limit [] (last_gap entry 0)

-- a record settles the gap before it, and is taken out of the last one
abbrev pub gap_walk : Bool → Walk Interval ℕ
gap_walk limit = record {
  bare = bare_gap limit;
  fresh = 0;
  left = last_gap;
  step = λ entry end r. gap_between entry.name end (min r.start entry.length);
  after = λ entry end r. max end (min r.stop entry.length);
}
