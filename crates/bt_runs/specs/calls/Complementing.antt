-- A complement and its rule as their callers see them.
use Rattle.std.specs.Prelude.{◌≡◌, ℕ, Bool, List, length, Option, None, ◌<◌, [], ◌∷◌, cond, min, bytes_eq}
use Rattle.std.specs.Option.{option_map_or}
use Rattle.bt_bed.specs.model.Feature.{Feature, intervals_of, Interval, Span, last_of, spans_on}
use Rattle.bt_bed.specs.model.BedLine.{interval_lines}
use Rattle.bt_bed.specs.model.Genome.{Entry, genome_names}
use Rattle.bt_bed.specs.model.Sorted.{Locus}
use Rattle.bt_bed.specs.calls.Orders.{AreNonEmpty, ArePlaced, AreDistinct}
use Rattle.bt_bed.specs.model.Positions.{IsCovered}
use Rattle.bt_bed.specs.model.Order.{rank_order}
use Rattle.bt_runs.specs.calls.Engine.{EngineDef, IsQuiet, ruled}
use Rattle.bt_runs.specs.model.Gaps.{complement, settled_gaps}
use Rattle.bt_runs.specs.inside.Walk.{Place, places}
use Rattle.bt_runs.specs.declared.engine.rule.Ruled.{Ruled}
use Rattle.bt_runs.specs.model.Merged.{end_of}

-- What a complement may take, where its gaps lie, and the place that it keeps.

-- a position of a chromosome of this length that none of the spans covers
pub record IsBare (size : ℕ) (spans : List Span) (p : ℕ) : Type 0 where
  pub within : p < size
  pub bare : IsCovered spans p → ⊥

-- the length of the chromosome of this name
abbrev pub length_in : List Entry → List ℕ → ℕ
length_in [] name = 0
length_in (entry ∷ entries) name =
    cond (bytes_eq entry.name name) entry.length (length_in entries name)

-- the place that is kept: the greatest end on the last record's chromosome, cut at its length
unfoldable pub kept_place : List Entry → List Feature → List Locus
kept_place entries records =
    option_map_or (λ (last : Interval). record {
      chrom = last.chrom;
      start = min (end_of (spans_on last.chrom (intervals_of records))) (length_in entries last.chrom);
    } ∷ []) (last_of (intervals_of records)) []

-- records that a complement or a coverage may take: they are in the order of the genome file, which
-- has each chromosome once, and each has a base
pub record AreInGenomeOrder (entries : List Entry) (records : List Feature) : Type 0 where
  pub distinct : AreDistinct (genome_names entries)
  pub placed : ArePlaced (rank_order (genome_names entries)) (intervals_of records)
  pub full : AreNonEmpty (intervals_of records)

-- The rule of a complement.

-- The chromosomes, whether those without records are left out, the one that was reached and how far its
-- gaps are settled. Last, how many bases the chromosome of the records has, of those that are known.
pub record Complementing : Type 0 where
  pub entries : List Entry
  pub limit : Bool
  pub current : Option (Place ℕ)
  pub bases : ℕ

-- the place that is kept
abbrev pub kept_in : Complementing → List Locus
kept_in complement = places (λ end. end) complement.entries complement.current

-- it has taken the records of the past since it began
pub record IsAfter (first : Complementing) (past : List Feature) (now : Complementing) : Type 0 where
  pub same_entries : now.entries ≡ first.entries
  pub same_limit : now.limit ≡ first.limit
  pub kept : kept_in now ≡ kept_place first.entries past

-- the lines of the settled gaps
abbrev pub settled_lines : Complementing → List Feature → List ℕ
settled_lines first past = interval_lines (settled_gaps first.limit first.entries past)

-- how many places are kept
abbrev pub held_count : Complementing → List Feature → ℕ
held_count first past = length (kept_place first.entries past)

-- what a complement takes, writes and keeps, until it has failed
abbrev pub complementing : EngineDef Complementing
complementing = record {
  takes = λ first past. AreInGenomeOrder first.entries past;
  settled = settled_lines;
  -- the lines of all gaps
  output = λ first past. interval_lines (complement first.limit first.entries past);
  held = held_count;
  is_after = IsAfter;
  fault = λ now. None;
  -- a record that settles no gap, with which no more places are kept
  quiet = λ first past r. IsQuiet (settled_lines first) (held_count first) past r;
  -- it doesn't allocate
  wants = λ old r. ⊥;
}

-- a complement
abbrev pub complement_engine : EngineDef (Ruled Complementing)
complement_engine = ruled complementing
