-- Lemmas on bamtobed.
use Rattle.bt_lines.proofs.Std.{common_steps, ◌≡◌, ℕ, Bool, true, List, [], ◌∷◌, ◌++◌, Result, sym, ap, subst, ◌∙◌, append_assoc, append-nil, codes, length, arith, map, length-append, flat_map, flat_map-append, map-append, ◌<◌, max}
use Rattle.bt_bed.specs.model.Feature.{Span}
use Rattle.bt_lines.specs.model.Fault.{FaultValue}
use Rattle.bt_lines.specs.calls.Output.{Output, Adds, FailsToAdd, FailsToPut, Grown, Puts, PutsAll}
use Rattle.bt_lines.specs.declared.fault.Fault.{Fault}
use Rattle.bt_lines.proofs.lemmas.Writer.{cut_off, adds_some, fails_before, fails_then, grown_all, grown_more, puts_more}
use Rattle.bt_seq.specs.model.Alignment.{Alignment}
use Rattle.bt_seq.specs.model.BedLines.{bed_line, text_if}
use Rattle.bt_seq.specs.calls.Sam.{span_given}
use Rattle.bt_seq.specs.inside.Sam.{bounds_text, line_tail, marks, quality_text}

-- The BED line of an alignment, put piece by piece.

-- the pieces of a line
line_parts : (with_cigar : Bool) (a : Alignment) (s : Span) → a.chrom ++ (bounds_text s.start s.stop ++ (a.name ++ line_tail with_cigar a)) ≡ bed_line with_cigar a s
line_parts with_cigar a s = grind (arith, append_assoc)

module _ (with_cigar : Bool) (a : Alignment) where
  abbrev read_head : List ℕ
  read_head = a.name ++ (marks a.first a.last ++ quality_text with_cigar a)

  read_parts : read_head ++ text_if with_cigar (a.cigar ++ codes "\n") ≡ a.name ++ line_tail with_cigar a
  read_parts = append_assoc a.name (marks a.first a.last ++ quality_text with_cigar a) (text_if with_cigar (a.cigar ++ codes "\n"))

  -- name and tail were cut off before the CIGAR
  pub read_cut : (piece : List ℕ) (old new : Output) (fault : FaultValue) → piece ≡ marks a.first a.last ++ quality_text with_cigar a → FailsToPut old (a.name ++ piece) fault new → FailsToPut old (a.name ++ line_tail with_cigar a) fault new
  read_cut piece old new fault e p =
      subst (λ (l : List ℕ). FailsToPut old l fault new) read_parts
      (fails_before old new read_head (text_if with_cigar (a.cigar ++ codes "\n")) fault (subst (λ (l : List ℕ). FailsToPut old (a.name ++ l) fault new) e p))

  pub read_puts : {A : Type 0} (piece : List ℕ) (old mid new : Output) (result : Result A Fault) → piece ≡ marks a.first a.last ++ quality_text with_cigar a → with_cigar ≡ true
      → PutsAll old (a.name ++ piece) mid → Puts mid (a.cigar ++ codes "\n") result new → Puts old (a.name ++ line_tail with_cigar a) result new
  read_puts piece old mid new result e asked p q =
      let last : a.cigar ++ codes "\n" ≡ text_if with_cigar (a.cigar ++ codes "\n") = ap (λ (b : Bool). text_if b (a.cigar ++ codes "\n")) (sym asked) in
      subst (λ (l : List ℕ). Puts old l result new) (ap (λ l. read_head ++ l) last ∙ read_parts)
      (puts_more old mid new read_head (a.cigar ++ codes "\n") result (subst (λ (l : List ℕ). PutsAll old (a.name ++ l) mid) e p) q)

  -- the line was cut off in one of its pieces
  module _ (s : Span) (o : Output) (fault : FaultValue) where
    whole : (new : Output) → FailsToPut o (a.chrom ++ (bounds_text s.start s.stop ++ (a.name ++ line_tail with_cigar a))) fault new → FailsToPut o (bed_line with_cigar a s) fault new
    whole new p = subst (λ l. FailsToPut o l fault new) (grind (arith, append_assoc)) p

    pub cut_place : (p : Output) → FailsToPut o (a.chrom ++ bounds_text s.start s.stop) fault p → FailsToPut o (bed_line with_cigar a s) fault p
    cut_place p x =
        whole p (rw (← append_assoc a.chrom (bounds_text s.start s.stop) (a.name ++ line_tail with_cigar a)) (fails_before o p (a.chrom ++ bounds_text s.start s.stop) (a.name ++ line_tail with_cigar a) fault x))

  pub puts_line : {A : Type 0} (s : Span) (o p new : Output) (result : Result A Fault) → PutsAll o (a.chrom ++ bounds_text s.start s.stop) p → Puts p (a.name ++ line_tail with_cigar a) result new → Puts o (bed_line with_cigar a s) result new
  puts_line s o p new result x y =
      rw (← append_assoc a.chrom (bounds_text s.start s.stop) (a.name ++ line_tail with_cigar a) ∙ line_parts with_cigar a s) (puts_more o p new (a.chrom ++ bounds_text s.start s.stop) (a.name ++ line_tail with_cigar a) result x y)

  pub line_has_bytes : (s : Span) → bed_line with_cigar a s ≡ [] → ⊥
  line_has_bytes s e = grind (arith, common_steps)

  -- the line of a block alone
  pub adds_line : {A : Type 0} (s : Span) (old new : Output) (result : Result A Fault) → Puts old (bed_line with_cigar a s) result new → Adds old (flat_map (bed_line with_cigar a) (s ∷ [])) result new
  adds_line s old new result p = rw (append-nil (bed_line with_cigar a s)) (adds_some old new (bed_line with_cigar a s) result (grind (arith, common_steps)) p)

  -- the lines of blocks
  abbrev pub lines_of : List Span → List ℕ
  lines_of blocks = flat_map (bed_line with_cigar a) blocks

  one_more : (done : List Span) (s : Span) → lines_of (done ++ s ∷ []) ≡ lines_of done ++ bed_line with_cigar a s
  one_more done s = flat_map-append (bed_line with_cigar a) done (s ∷ []) ∙ ap (λ l. lines_of done ++ l) (append-nil (bed_line with_cigar a s))

  pub grown_line : (done : List Span) (s : Span) (old mid new : Output) → Grown old (lines_of done) mid → PutsAll mid (bed_line with_cigar a s) new → Grown old (lines_of (done ++ s ∷ [])) new
  grown_line done s old mid new p q =
      rw (one_more done s) (grown_more old mid new (lines_of done) (bed_line with_cigar a s) p (grown_all mid new (bed_line with_cigar a s) (line_has_bytes s) q))

  -- one of them was cut off
  pub cut_line : (done : List Span) (s : Span) (rest all : List Span) (old mid new : Output) (fault : FaultValue) → done ++ s ∷ rest ≡ all → Grown old (lines_of done) mid → FailsToPut mid (bed_line with_cigar a s) fault new
      → FailsToAdd old (lines_of all) fault new
  cut_line done s rest all old mid new fault e p q =
      let here = fails_then old mid new (lines_of done) (bed_line with_cigar a s) fault p (record { puts = q; some = grind (arith, common_steps) }) in
      let lines : (lines_of done ++ bed_line with_cigar a s) ++ lines_of rest ≡ lines_of all =
      append_assoc (lines_of done) (bed_line with_cigar a s) (lines_of rest) ∙ sym (flat_map-append (bed_line with_cigar a) done (s ∷ rest)) ∙ ap lines_of e in
      subst (λ l. FailsToAdd old l fault new) lines (cut_off old new (lines_of done ++ bed_line with_cigar a s) (lines_of rest) fault here)

pub grown_block : (with_cigar : Bool) (a : Alignment) (done : List (ℕ × ℕ)) (x : ℕ × ℕ) (old mid new : Output) → Grown old (lines_of with_cigar a (map span_given done)) mid → PutsAll mid (bed_line with_cigar a (span_given x)) new
    → Grown old (lines_of with_cigar a (map span_given (done ++ x ∷ []))) new
grown_block with_cigar a done x old mid new p q =
    subst (λ l. Grown old (lines_of with_cigar a l) new) (sym (map-append span_given done (x ∷ []))) (grown_line with_cigar a (map span_given done) (span_given x) old mid new p q)

-- Lemmas on lines that are put.

-- some bytes are put of two others
pub some_put : {A : Type 0} (old new : Output) (text end : List ℕ) (r : Result A Fault) → 0 < max (length text) (length end) → Puts old (text ++ end) r new → Adds old (text ++ end) r new
some_put old new text end r some puts = adds_some old new (text ++ end) r (λ none. let both = length-append text end in let size : length (text ++ end) ≡ 0 = ap length none in absurd (omega (arith, both, size))) puts
