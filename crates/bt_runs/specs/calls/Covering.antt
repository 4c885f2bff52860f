-- A count of depths as its callers see it.
use Rattle.std.specs.Prelude.{◌≡◌, ℕ, ◌<◌, Bool, true, false, List, [], length, Option, Some, None, cond, nat_lt, ◌∷◌, ◌&&◌, nat_le, min, map, filter}
use Rattle.std.specs.Option.{option_map_or}
use Rattle.bt_bed.specs.model.Feature.{Feature, Span, intervals_of, Interval, last_of}
use Rattle.bt_bed.specs.model.Genome.{Entry, genome_names}
use Rattle.bt_bed.specs.declared.record.strand.Strand.{Strand}
use Rattle.bt_bed.specs.model.Order.{rank_of}
use Rattle.bt_bed.specs.model.Sorted.{Locus}
use Rattle.bt_runs.specs.calls.Engine.{EngineDef, ruled}
use Rattle.bt_runs.specs.inside.Coverage.{begun_seen, Known, begun_to, depth_walk, still_open}
use Rattle.bt_bed.specs.model.Levels.{Level}
use Rattle.bt_bed.specs.calls.LevelScan.{Begun}
use Rattle.bt_runs.specs.model.Depth.{DepthInterval, coverage, depth_lines, is_counted_by, settled_depths, levels_of, depth_of, counted_on}
use Rattle.bt_runs.specs.calls.Complementing.{AreInGenomeOrder, length_in}
use Rattle.bt_runs.specs.inside.Walk.{AreReached, Place, RuleDef, entry_at, is_reached, places, walk_step}
use Rattle.bt_runs.specs.declared.coverage.depth_rule.CurrentChrom.{CurrentChrom}
use Rattle.bt_runs.specs.declared.coverage.depths.OpenInterval.{OpenInterval}
use Rattle.bt_runs.specs.declared.engine.rule.Ruled.{Ruled}

-- What a count of depths keeps. In memory there are the ends of these records: their starts and their order exist in proofs
-- alone.

-- a span cut at a length
abbrev pub cut_at : ℕ → Span → Span
cut_at size s = record { start = s.start; stop = min s.stop size }

-- the spans that start below a length, cut there, of which those are left that end at a position
-- or past it
abbrev pub spans_open_at : ℕ → ℕ → List Span → List Span
spans_open_at size p spans =
    filter (λ s. nat_le p s.stop) (map (cut_at size) (filter (λ s. nat_lt s.start size) spans))

-- the records that are kept: the counted ones on the last record's chromosome that start below its
-- length, cut there, and that end at the last start or past it
unfoldable pub kept_records : Option Strand → List Entry → List Feature → List Span
kept_records strand entries records =
    option_map_or (λ (last : Interval).
    spans_open_at (length_in entries last.chrom) last.start (counted_on strand last.chrom records))
    (last_of (intervals_of records)) []

-- the first of the intervals that begins below a position and ends there or past it,
-- with its depth
abbrev pub begun_across : ℕ → List Level → Option Begun
begun_across p [] = None
begun_across p (l ∷ ls) =
    let begun : Begun = record { start = l.start; value = l.value } in
    cond (nat_lt l.start p && nat_le p l.stop) (Some begun) (begun_across p ls)

-- the interval that is unfinished: it begins below the last start, and isn't settled
unfoldable pub unfinished : Bool → Option Strand → List Entry → List Feature → Option Begun
unfinished zeros strand entries records =
    let values = λ (name : List ℕ). depth_of zeros (counted_on strand name records) in
    option_map_or (λ (last : Interval).
    begun_across last.start (levels_of (values last.chrom) (length_in entries last.chrom)))
    (last_of (intervals_of records)) None

-- how far the last record's chromosome is known: up to the last start, cut at its length
unfoldable pub known_place : List Entry → List Feature → List Locus
known_place entries records =
    option_map_or (λ (last : Interval).
    record { chrom = last.chrom; start = min last.start (length_in entries last.chrom) } ∷ [])
    (last_of (intervals_of records)) []

-- The rule of a count of depths.

-- The chromosomes, whether depth 0 is reported, the strand that is counted. Then the chromosome that was
-- reached with what is known of it, whether the last record lies there, and its name and length.
pub record Covering : Type 0 where
  pub entries : List Entry
  pub zeros : Bool
  pub strand : Option Strand
  pub current : Option (Place Known)
  pub is_known : Bool
  pub name : List ℕ
  pub length : ℕ

-- what is unfinished at the place that was reached, and the records that are open there
abbrev pub begun_of : Option (Place Known) → Option Begun
begun_of None = None
begun_of (Some place) = place.known.begun

abbrev pub held_of : Option (Place Known) → List Span
held_of None = []
held_of (Some place) = place.known.held

-- the records that are kept
abbrev pub kept_in : Covering → List Span
kept_in coverage = held_of coverage.current

-- it has taken the records of the past since it began
pub record IsAfter (first : Covering) (past : List Feature) (now : Covering) : Type 0 where
  pub same_entries : now.entries ≡ first.entries
  pub same_zeros : now.zeros ≡ first.zeros
  pub same_strand : now.strand ≡ first.strand
  pub place : places (λ known. known.to) now.entries now.current ≡ known_place first.entries past
  pub begun : begun_of now.current ≡ unfinished first.zeros first.strand first.entries past
  pub kept : kept_in now ≡ kept_records first.strand first.entries past
  pub reached : AreReached now.entries now.current

-- memory is needed for a record that has to be kept: it is counted, and starts below its chromosome's length
abbrev pub wants_memory : Covering → Feature → Type 0
wants_memory old r = (is_counted_by old.strand r.strand ≡ true) × (r.start < length_in old.entries r.chrom)

-- what a coverage takes, writes and keeps, until it has failed
abbrev pub covering : EngineDef Covering
covering = record {
  takes = λ first past. AreInGenomeOrder first.entries past;
  -- the lines of the settled intervals, and of all
  settled = λ first past. depth_lines (settled_depths first.zeros first.strand first.entries past);
  output = λ first past. depth_lines (coverage first.zeros first.strand first.entries past);
  -- how many records are kept
  held = λ first past. length (kept_records first.strand first.entries past);
  is_after = IsAfter;
  fault = λ now. None;
  -- no record is taken quietly: `wants_memory` says when memory may be needed
  quiet = λ first past r. ⊥;
  wants = wants_memory;
}

-- a coverage
abbrev pub coverage_engine : EngineDef (Ruled Covering)
coverage_engine = ruled covering

-- what is known once the depths are settled by a record's start, before the record is counted
abbrev pub settled_known : Bool → ℕ → Known → ℕ → Known
settled_known zeros size known start =
    cond (nat_lt size start) (record { to = size; begun = None; held = [] })
    (record { to = start; begun = begun_to zeros known start; held = still_open start known.held })

-- the chromosome that was reached has this name and this length
abbrev pub IsEntry : List Entry → Option (Place Known) → List ℕ → ℕ → Type 0
IsEntry entries None name size = ⊥
IsEntry entries (Some place) name size =
    ((entry_at entries place.rank).name ≡ name) × ((entry_at entries place.rank).length ≡ size)

-- the record's chromosome is the one that was reached, or the genome file doesn't have it
abbrev pub IsOnBy : Bool → List Entry → Option (Place Known) → List ℕ → ℕ → List ℕ → Type 0
IsOnBy true entries current name size chrom =
    (is_reached entries current chrom ≡ true) × IsEntry entries current name size
IsOnBy false entries current name size chrom =
    (is_reached entries current chrom ≡ false) × (rank_of (genome_names entries) chrom ≡ None)

abbrev pub IsOnChrom : Covering → List ℕ → Type 0
IsOnChrom coverage chrom =
    IsOnBy coverage.is_known coverage.entries coverage.current coverage.name coverage.length chrom

-- with the interval that is kept in a local
abbrev pub with_begun : Option OpenInterval → Option (Place Known) → Option (Place Known)
with_begun begun None = None
with_begun begun (Some place) =
    Some (record place { known = record place.known { begun = begun_seen begun } })

abbrev pub with_chrom : Covering → CurrentChrom → Covering
with_chrom coverage on = record coverage {
  current = with_begun on.begun coverage.current;
  is_known = on.is_known;
  name = on.name.now;
  length = on.length;
}

-- what one more record reaches, and what it settles
abbrev pub depth_step : Covering → Feature → Option (Place Known) × List DepthInterval
depth_step old r = walk_step (depth_walk old.zeros old.strand) old.entries old.current r

-- the lines of the intervals that it settles
abbrev pub next_lines : Covering → Feature → List ℕ
next_lines old r = depth_lines (depth_step old r).1

-- the record was taken, as the step says
pub record CountsRecord (old : Covering) (r : Feature) (new : Covering) : Type 0 where
  pub same_entries : new.entries ≡ old.entries
  pub same_zeros : new.zeros ≡ old.zeros
  pub same_strand : new.strand ≡ old.strand
  pub current : new.current ≡ (depth_step old r).0
  pub at : AreReached old.entries old.current → AreReached old.entries new.current

-- the rule
abbrev pub depth_rule : RuleDef Covering
depth_rule = record { engine = covering; lines = next_lines; has = CountsRecord; is_on = IsOnChrom }
