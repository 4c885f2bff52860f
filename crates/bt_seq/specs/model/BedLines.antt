-- The blocks of an alignment, and the BED lines that are written of it.
use Rattle.std.specs.Prelude.{ℕ, ◌+◌, ◌==◌, Bool, List, [], ◌∷◌, codes, Option, Some, None, if◌then◌else◌, true, nat_lt, not, ◌++◌, flat_map, decimal}
use Rattle.bt_seq.specs.declared.sam.cigar.Operation.{Operation}
use Rattle.std.specs.List.{take_while, join_with_byte}
use Rattle.bt_bed.specs.model.Feature.{Span}
use Rattle.bt_seq.specs.model.Cigar.{reference_length, operations_of}
use Rattle.bt_seq.specs.model.Alignment.{Alignment}

-- The blocks of an alignment, one for each maximal list of its operations without N. An N is a
-- region of the reference that the read skips (Sequence Alignment/Map Format Specification, section
-- 1.4, field 6; bedtools manual, bamtobed, option -split).

-- whether an operation is an N
abbrev pub is_skip : Operation → Bool
is_skip operation = operation.letter == 78

-- a place among operations: those before it, and those from it on
pub record CigarPlace : Type 0 where
  pub before : List Operation
  pub behind : List Operation

-- all places among operations, with these before the first of them
abbrev pub cuts : List Operation → List Operation → List CigarPlace
cuts before [] = record { before = before; behind = [] } ∷ []
cuts before (operation ∷ operations) =
    record { before = before; behind = operation ∷ operations }
    ∷ cuts (before ++ operation ∷ []) operations

-- whether a block begins after these operations: there are none, or the last of them is an N
abbrev pub begins_block : List Operation → Bool
begins_block [] = true
begins_block (operation ∷ []) = is_skip operation
begins_block (operation ∷ next ∷ operations) = begins_block (next ∷ operations)

-- the operations up to the next N
abbrev pub up_to_skip : List Operation → List Operation
up_to_skip operations = take_while (λ operation. not (is_skip operation)) operations

-- a span of the reference, if it has a base
abbrev pub with_bases : ℕ → ℕ → List Span
with_bases start stop = if nat_lt start stop then record { start = start; stop = stop } ∷ [] else []

-- The block that begins at a place, if one does and it has a base. It lies after the reference
-- bases of all operations before it, and goes on up to the next N.
abbrev pub block_at : ℕ → CigarPlace → List Span
block_at start cut =
    if begins_block cut.before
    then with_bases (start + reference_length cut.before)
    (start + reference_length cut.before + reference_length (up_to_skip cut.behind)) else []

-- the blocks of operations that lie from a place of the reference on
unfoldable pub blocks_of : ℕ → List Operation → List Span
blocks_of start operations = flat_map (block_at start) (cuts [] operations)

abbrev pub blocks_in : ℕ → Option (List Operation) → List Span
blocks_in start None = []
blocks_in start (Some operations) = blocks_of start operations

-- The spans of the reference that are written of an alignment: its blocks if it is cut at each
-- N, and else all of it from its first base to its last.
abbrev pub alignment_blocks : Bool → Alignment → List Span
alignment_blocks split a =
    if split then blocks_in a.start (operations_of a.cigar)
    else record { start = a.start; stop = a.stop } ∷ []

-- The BED lines of an alignment (UCSC BED description, fields chrom to strand; bedtools manual,
-- bamtobed, options -split and -cigar).

-- a text, if it is requested
abbrev pub text_if : Bool → List ℕ → List ℕ
text_if asked text = if asked then text else []

-- the name of the read, with `/1` for the first segment of a template, and then `/2` for the last
abbrev pub read_name : Alignment → List ℕ
read_name a = a.name ++ (text_if a.first (codes "/1") ++ text_if a.last (codes "/2"))

abbrev pub strand_sign : Bool → List ℕ
strand_sign reverse = if reverse then codes "-" else codes "+"

-- the columns of a block of an alignment: chromosome, start, end, name, mapping quality and strand,
-- and the whole CIGAR if it is requested
abbrev pub bed_columns : Bool → Alignment → Span → List (List ℕ)
bed_columns with_cigar a block =
    a.chrom ∷ decimal block.start ∷ decimal block.stop ∷ read_name a ∷ decimal a.quality
    ∷ strand_sign a.reverse ∷ (if with_cigar then a.cigar ∷ [] else [])

-- its line: the columns with tabs between them, and a line feed
abbrev pub bed_line : Bool → Alignment → Span → List ℕ
bed_line with_cigar a block = join_with_byte 9 (bed_columns with_cigar a block) ++ codes "\n"

-- the lines of an alignment, one for each of its blocks
abbrev pub bed_lines : Bool → Bool → Alignment → List ℕ
bed_lines split with_cigar a = flat_map (bed_line with_cigar a) (alignment_blocks split a)
