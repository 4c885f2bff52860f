-- Lemmas on records and intervals as lines.
use Rattle.bt_lines.proofs.Std.{common_steps, ◌≡◌, ℕ, [], ◌∷◌, ◌++◌, List, Result, false, true, ◌∙◌, append_assoc, arith, drop, length, take, ◌-◌, length-drop, take_all, is_ok, subst}
use Rattle.bt_lines.specs.model.Fault.{FaultValue}
use Rattle.bt_lines.specs.calls.Faults.{write_failed}
use Rattle.bt_lines.specs.calls.Output.{Output, FailsToPut, Puts, PutsAll, span_text}
use Rattle.bt_lines.specs.declared.fault.Fault.{Fault}
use Rattle.bt_lines.proofs.lemmas.Writer.{fails_before, puts_more}
use Rattle.bt_bed.specs.model.Feature.{Interval, Feature}
use Rattle.bt_bed.specs.model.BedLine.{interval_line, bed_text}
use Rattle.bt_bed.specs.inside.FirstColumns.{bounds_text}

-- The line of an interval, put column by column, and the lines of intervals one after another.

-- the name, and what follows it
pub line_parts : (r : Interval) → r.chrom ++ span_text r.start r.stop 10 ≡ interval_line r
line_parts r = grind (arith, append_assoc)

-- by whether a call could put the bytes
pub was_put : {A : Type 0} (old new : Output) (bytes : List ℕ) (result : Result A Fault) → Puts old bytes result new → is_ok result ≡ true → PutsAll old bytes new
was_put old new bytes result p e = grind arith

pub was_cut : {A : Type 0} (old new : Output) (bytes : List ℕ) (result : Result A Fault) → Puts old bytes result new → is_ok result ≡ false → FailsToPut old bytes write_failed new
was_cut old new bytes result p e = grind arith

-- what a text of 43 bytes has from an offset on is put
pub puts_text : {A : Type 0} (old new : Output) (name text behind : List ℕ) (first : ℕ) (result : Result A Fault) → length text ≡ 43 → drop first text ≡ behind
    → Puts old (name ++ take (43 - first) (drop first text)) result new → Puts old (name ++ behind) result new
puts_text old new name text behind first result size is p = grind (arith, take_all, length-drop)

-- A record, put column by column, and what ends it.

-- what follows a name, without its line feed
pub span_is_bounds : (start stop end : ℕ) → span_text start stop end ≡ bounds_text start stop ++ end ∷ []
span_is_bounds start stop end = simp append_assoc

-- the line feed is the last byte of what follows a name
pub bounds_before_feed : (text : List ℕ) (first start stop : ℕ) → length text ≡ 43 → drop first text ≡ span_text start stop 10 → take (42 - first) (drop first text) ≡ bounds_text start stop
bounds_before_feed text first start stop l e = grind (arith, common_steps, span_is_bounds)

module _ (r : Feature) (end : List ℕ) where
  front_parts : (r.chrom ++ bounds_text r.start r.stop) ++ (r.rest ++ end) ≡ bed_text r ++ end
  front_parts = append_assoc r.chrom (bounds_text r.start r.stop) (r.rest ++ end) ∙ (simp append_assoc)

  -- the record was cut off in its name or in its bounds
  pub cut_in_front : (old new : Output) (fault : FaultValue) → FailsToPut old (r.chrom ++ bounds_text r.start r.stop) fault new → FailsToPut old (bed_text r ++ end) fault new
  cut_in_front old new fault p =
      subst (λ (l : List ℕ). FailsToPut old l fault new) front_parts (fails_before old new (r.chrom ++ bounds_text r.start r.stop) (r.rest ++ end) fault p)

  -- or after them, or put in full
  pub puts_record : {A : Type 0} (old mid new : Output) (result : Result A Fault) → PutsAll old (r.chrom ++ bounds_text r.start r.stop) mid → Puts mid (r.rest ++ end) result new
      → Puts old (bed_text r ++ end) result new
  puts_record old mid new result p q = grind (arith, front_parts, puts_more)
