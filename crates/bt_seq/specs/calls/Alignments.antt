-- How far an alignment reaches, and what can be wrong with a line of a SAM file.
use Rattle.std.specs.Prelude.{◌≡◌, ℕ, ◌+◌, List, min, Option, Some, option_map, true, Err}
use Rattle.bt_lines.specs.declared.fault.Kind.{Kind}
use Rattle.bt_bed.specs.calls.Reading.{is_of_line}
use Rattle.bt_seq.specs.declared.sam.cigar.Operation.{Operation}
use Rattle.bt_seq.specs.model.Alignment.{alignment_of, is_sam_kind}
use Rattle.bt_seq.specs.model.Cigar.{reference_length, cigar_length}

-- the smaller of a reference length, with `more` bases beside it, and a million million
abbrev pub span_with : ℕ → Option (List Operation) → Option ℕ
span_with more operations =
    option_map (λ os. min (more + reference_length os) 1000000000000) operations

-- the CIGAR is well formed, and the end is the start and its reference length
abbrev pub EndsAt : List ℕ → ℕ → ℕ → Type 0
EndsAt cigar start stop = option_map (λ length. start + length) (cigar_length cigar) ≡ Some stop

-- what is wrong with a line of a SAM file is a kind of `is_sam_kind`
abbrev pub wrong_have_sam_kinds : Type 0
wrong_have_sam_kinds =
    (text : List ℕ) (kind : Kind) → alignment_of text ≡ Err kind → is_sam_kind kind ≡ true

-- and lies at a line
abbrev pub sam_kinds_are_of_lines : Type 0
sam_kinds_are_of_lines = (kind : Kind) → is_sam_kind kind ≡ true → is_of_line kind ≡ true
