-- What the rule of a complement does with a record, exactly, and how far its cursor says that gaps are settled.
use Rattle.std.specs.Prelude.{◌≡◌, ◌⊎◌, ℕ, Bool, true, List, None, max, min, Option, option_map}
use Rattle.bt_bed.specs.model.Feature.{Feature}
use Rattle.bt_bed.specs.model.BedLine.{interval_lines}
use Rattle.bt_bed.specs.model.Genome.{genome_names}
use Rattle.bt_bed.specs.calls.GenomeTable.{entries}
use Rattle.bt_bed.specs.model.Order.{rank_of}
use Rattle.bt_runs.specs.calls.Complementing.{Complementing, complementing, length_in}
use Rattle.bt_runs.specs.inside.Walk.{is_reached, walk_step, Place, RuleDef}
use Rattle.bt_runs.specs.inside.GapStep.{gap_walk}
use Rattle.bt_runs.specs.declared.complement.gap_cursor.GapCursor.{GapCursor}

-- the chromosome that was reached, if one was, and the position up to which its gaps are settled
abbrev pub seen : GapCursor → Option (Place ℕ)
seen cursor = option_map (λ rank. record { rank = rank; known = cursor.end }) cursor.rank

-- a record that ends here is taken out of the gap after it
pub record Covers (old : GapCursor) (stop : ℕ) (new : GapCursor) : Type 0 where
  pub same_entries : entries new.genome.now ≡ entries old.genome.now
  pub same_rank : new.rank ≡ old.rank
  pub same_length : new.length ≡ old.length
  pub end : new.end ≡ max old.end (min stop old.length)

-- a complement with this cursor
abbrev pub complement_at : Bool → GapCursor → Complementing
complement_at limit cursor = record {
  entries = entries cursor.genome.now;
  limit = limit;
  current = seen cursor;
  bases = cursor.length;
}

-- the records are on the chromosome of this name: the one that was reached, or one that the genome file lacks
pub record StandsOnChrom (complement : Complementing) (name : List ℕ) : Type 0 where
  pub bases : complement.bases ≡ length_in complement.entries name
  pub at : (is_reached complement.entries complement.current name ≡ true)
      ⊎ (rank_of (genome_names complement.entries) name ≡ None)

-- the lines of the gaps that a record settles
abbrev pub next_gap_lines : Complementing → Feature → List ℕ
next_gap_lines old r = interval_lines (walk_step (gap_walk old.limit) old.entries old.current r).1

-- the complement with the record
abbrev pub complement_with : Complementing → Feature → Complementing
complement_with old r = record old {
  current = (walk_step (gap_walk old.limit) old.entries old.current r).0;
  bases = length_in old.entries r.chrom;
}

-- the rule
abbrev pub gap_rule : RuleDef Complementing
gap_rule = record {
  engine = complementing;
  lines = next_gap_lines;
  has = λ old r new. new ≡ complement_with old r;
  is_on = StandsOnChrom;
}
