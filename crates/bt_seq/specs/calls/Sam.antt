-- Alignments, columns and blocks that are borrowed, as the definitions see them, and a converter.
use Rattle.std.specs.Prelude.{◌≡◌, ℕ, Bool, List, [], ◌∷◌, ◌++◌, map, Option, Some, None, Result, Ok, Err, option_map, option_to_list}
use Rattle.bt_bed.specs.model.Feature.{Span}
use Rattle.bt_lines.specs.model.Fault.{FaultValue}
use Rattle.bt_lines.specs.model.Lines.{pieces}
use Rattle.bt_lines.specs.declared.fault.Kind.{Kind}
use Rattle.bt_seq.specs.model.Alignment.{Alignment, Fields}
use Rattle.bt_seq.specs.model.BedLines.{blocks_in}
use Rattle.bt_seq.specs.model.Cigar.{operations_in}
use Rattle.bt_seq.specs.declared.sam.block_iter.SamBlocks.{SamBlocks}
use Rattle.bt_seq.specs.declared.sam.fields.Fields.{Fields as FieldsRef}
use Rattle.bt_seq.specs.declared.sam.SamRef.{SamRef}
use denote.Ref.{Bor}

abbrev pub alignment_lent : SamRef → Alignment
alignment_lent sam = record {
  name = sam.name.now;
  first = sam.first;
  last = sam.last;
  reverse = sam.reverse;
  chrom = sam.chrom.now;
  start = sam.start;
  stop = sam.stop;
  quality = sam.quality;
  cigar = sam.cigar.now;
}

abbrev pub alignment_seen : Result (Option SamRef) Kind → Result (Option Alignment) Kind
alignment_seen (Ok sam) = Ok (option_map alignment_lent sam)
alignment_seen (Err kind) = Err kind

abbrev pub fields_lent : FieldsRef → Fields
fields_lent fields = record {
  name = fields.name.now;
  flag = fields.flag.now;
  chrom = fields.chrom.now;
  position = fields.position.now;
  quality = fields.quality.now;
  cigar = fields.cigar.now;
}

-- the first column of a text, and what follows its tab, if there is one
abbrev pub IsCut : List ℕ → Option (Bor (List ℕ) × Bor (List ℕ)) → Type 0
IsCut text None = pieces 9 text ≡ text ∷ []
IsCut text (Some cut) = pieces 9 text ≡ cut.0.now ∷ pieces 9 cut.1.now

-- a start and a stop
abbrev pub span_given : ℕ × ℕ → Span
span_given pair = record { start = pair.0; stop = pair.1 }

-- the blocks that are still to come
abbrev pub blocks_left : SamBlocks → List Span
blocks_left blocks =
    map span_given (option_to_list blocks.whole)
    ++ blocks_in blocks.at (operations_in blocks.rest.now)

-- A converter of alignments, which keeps nothing of them: whether they are cut at each N, whether the
-- CIGAR is written, and the fault that was returned.
pub record Converting : Type 0 where
  pub split : Bool
  pub with_cigar : Bool
  pub fault : Option FaultValue
