-- Alignments and masked sequences.
use Rattle.std.specs.Prelude.{◌≡◌, ℕ, ◌+◌, ◌<◌, ◌≤◌, Bool, true, not, List, [], ◌∷◌, ◌++◌, flat_map, Some, ◌&&◌, IsTrue, Option, None, ◌⊎◌, false, Result, Ok, ◌≢◌, ◌↔◌, All, length, ⊤, bytes_eq}
use Rattle.std.specs.List.{list_all, last_or, AllByRecursion}
use Rattle.bt_bed.specs.model.Feature.{Span, Feature}
use Rattle.bt_seq.specs.model.Alignment.{Alignment}
use Rattle.bt_seq.specs.model.BedLines.{alignment_blocks, blocks_of, is_skip, with_bases}
use Rattle.bt_seq.specs.model.Cigar.{reference_length, Part, each_operation, is_letter, operations_in}
use Rattle.bt_seq.specs.calls.Alignments.{EndsAt}
use Rattle.bt_seq.specs.declared.sam.cigar.Operation.{Operation}
use Rattle.bt_lines.specs.model.Lines.{is_number, whole_text}
use Rattle.bt_bed.specs.model.Good.{Good, items_in, block_good}
use Rattle.bt_bed.specs.calls.Orders.{AreInBlocks}
use Rattle.bt_bed.specs.model.Meeting.{Rule, join_report, written, Report}
use Rattle.bt_lines.specs.model.Fault.{FaultValue}
use Rattle.bt_seq.specs.model.Masked.{line_decided, mask_rule, masked_line, mask_met}
use Rattle.bt_seq.specs.model.Fasta.{SequenceLine, sequence_good}
use Rattle.bt_seq.specs.model.SequenceBlocks.{Block, blocks_by, names_behind}
use Rattle.bt_seq.specs.declared.mask.mask_how.MaskHow.{MaskHow}
use Rattle.bt_seq.specs.calls.MaskStage.{MaskStage, held_for_line}
use Rattle.bt_seq.specs.calls.MaskState.{Masking, left_after}
use Rattle.bt_seq.specs.calls.MaskSteps.{IsOpen, GivesBed}
use Rattle.bt_lines.specs.calls.Output.{Output}
use Rattle.bt_lines.specs.declared.fault.Fault.{Fault}
use Rattle.bt_lines.specs.declared.fault.Input.TheVariants.{First, Second}
use Rattle.bt_bed.specs.declared.record.taken.Taken.{Taken}
use Rattle.bt_bed.specs.declared.record.taken.Taken.TheVariants.{Yes}

-- Laws of the operations of alignments, and of their blocks.

-- operations without an N are one block, if they cover a base
abbrev pub unskipped_are_one_block : Type 0
unskipped_are_one_block =
    (start : ℕ) (operations : List Operation)
    → list_all (λ operation. not (is_skip operation)) operations ≡ true
    → blocks_of start operations ≡ with_bases start (start + reference_length operations)

-- these blocks lie one after another from one place up to the other, each with a base
abbrev pub AreBetween : ℕ → ℕ → List Span → Type 0
AreBetween start stop [] = start ≤ stop
AreBetween start stop (block ∷ blocks) =
    (start ≤ block.start) × (block.start < block.stop) × AreBetween block.stop stop blocks

-- so do those of an alignment, from its start to its end
abbrev pub blocks_are_within : Type 0
blocks_are_within =
    (split : Bool) (a : Alignment) → a.start < a.stop → EndsAt a.cigar a.start a.stop
    → AreBetween a.start a.stop (alignment_blocks split a)

-- the bytes of a part
abbrev pub part_bytes : Part → List ℕ
part_bytes part = part.digits ++ part.letter ∷ []

-- whether a part is a number and the letter of an operation
abbrev pub is_operation : Part → Bool
is_operation part = is_number part.digits && is_letter part.letter

-- the parts are a division of the text into numbers and letters
pub record Divides (text : List ℕ) (parts : List Part) : Type 0 where
  pub whole : flat_map part_bytes parts ≡ text
  pub all : IsTrue (list_all is_operation parts)

-- a text can be divided in one way only
abbrev pub division_is_one : Type 0
division_is_one =
    (text : List ℕ) (parts others : List Part) → Divides text parts → Divides text others
    → parts ≡ others

-- the operations are those of that division
abbrev pub division_is_found : Type 0
division_is_found =
    (text : List ℕ) (parts : List Part) → Divides text parts
    → operations_in text ≡ each_operation parts

-- and if there are operations, there is a division
abbrev pub operations_are_divided : Type 0
operations_are_divided =
    (text : List ℕ) (operations : List Operation) → operations_in text ≡ Some operations
    → (parts : List Part) × (Divides text parts × (each_operation parts ≡ Some operations))

-- Laws of masked sequences.

-- what the first records of the second input make of the lines
abbrev pub early_mask_rule : MaskHow → List Feature → Rule SequenceLine
early_mask_rule how records = record {
  decided = λ line. line_decided line records;
  lines = masked_line how records;
  fault = None;
  last = None;
}

-- the lines that are decided by a prefix of each input, and so are written, begin what is written for all of the inputs
abbrev pub masked_are_a_prefix : Type 0
masked_are_a_prefix =
    (how : MaskHow) (names : List (List ℕ)) (first more_first : List SequenceLine)
    (fault : Option FaultValue)
    (second : Good Feature) (seen more : List Feature) → items_in second ≡ seen ++ more
    → AreInBlocks (seen ++ more)
    → (rest : List ℕ)
    × ((join_report (mask_rule how names second) (first ++ more_first) fault).output
    ≡ written (early_mask_rule how seen) first ++ rest)

-- if the second input has no fault, all lines are written, masked
abbrev pub faultless_are_masked : Type 0
faultless_are_masked =
    (how : MaskHow) (names : List (List ℕ)) (first : List SequenceLine) (fault : Option FaultValue)
    (second : Good Feature)
    → second.fault ≡ None
    → (join_report (mask_rule how names second) first fault).output
    ≡ flat_map (masked_line how (items_in second)) first

-- No prefix of the records taken decides all lines given: so none was taken after the first record
-- that did.
abbrev pub taken_are_first : Type 0
taken_are_first = (lines : List SequenceLine) (before rest : List Feature)
    → IsOpen (last_or None lines) (before ++ rest)
    → (before ++ rest ≡ []) ⊎ (AllByRecursion (λ line. line_decided line before ≡ true) lines → ⊥)

-- a record that leaves the line undecided and hasn't to be held is taken, and nothing is written
abbrev pub quiet_records_are_taken : Type 0
quiet_records_are_taken =
    (how : MaskHow) (full : Bool) (stage : MaskStage) (line : SequenceLine) (r : Feature)
    (out : Output)
    (answer : Result Taken Fault) (new : Masking) (grown : Output)
    → GivesBed how full stage line r out answer new grown
    → line_decided line (stage.inputs.taken ++ r ∷ []) ≡ false
    → held_for_line line (stage.inputs.taken ++ r ∷ []) ≡ held_for_line line stage.inputs.taken
    → (answer ≡ Ok Yes) × (grown ≡ out)

-- Laws of blocks and of the sequences to which they belong.

-- all that is in blocks
abbrev pub items_of : {A : Type 0} → List (Block A) → List A
items_of bs = flat_map (λ b. b.items) bs

-- a block is another than the one before it
abbrev pub AreApart : {A : Type 0} → List (Block A) → Type 0
AreApart [] = ⊤
AreApart (b ∷ []) = ⊤
AreApart (b ∷ c ∷ bs) = (bytes_eq b.chrom c.chrom ≡ false) × AreApart (c ∷ bs)

-- the records of a block lie on its chromosome, and it has one at least
pub record AreOfChrom (block : Block Feature) : Type 0 where
  pub chrom : All (λ r. r.chrom ≡ block.chrom) block.items
  pub some : 0 < length block.items

-- the blocks of a list are its maximal runs
abbrev pub blocks_are_maximal_runs : Type 0
blocks_are_maximal_runs = (records : List Feature)
    → (items_of (blocks_by (λ r. r.chrom) records) ≡ records)
    × AreApart (blocks_by (λ (r : Feature). r.chrom) records)
    × AllByRecursion AreOfChrom (blocks_by (λ r. r.chrom) records)

-- names, divided at the first of this name: those before it are others
abbrev pub DividesAt : List ℕ → List (List ℕ) → List (List ℕ) → Type 0
DividesAt name names behind =
    (before : List (List ℕ)) × (names ≡ before ++ name ∷ behind)
    × AllByRecursion (λ other. other ≢ name) before

-- a block belongs to the first sequence of its name, among those after that of the block before it
abbrev pub owners_are_first : Type 0
owners_are_first = (name : List ℕ) (names behind : List (List ℕ))
    → (names_behind name names ≡ Some behind) ↔ DividesAt name names behind

-- and to none if none of these has its name
abbrev pub unowned_find_no_name : Type 0
unowned_find_no_name = (name : List ℕ) (names : List (List ℕ))
    → (names_behind name names ≡ None) ↔ AllByRecursion (λ other. other ≢ name) names

-- A block that belongs to a sequence among the first names belongs to it among all names too. After
-- it then come the names that come after it there, and the others.
abbrev pub owners_stay : Type 0
owners_stay = (names more : List (List ℕ)) (records : List Feature) (rest : List (List ℕ))
    → left_after names records ≡ Some rest
    → left_after (names ++ more) records ≡ Some (rest ++ more)

-- and a block that among all names belongs to one of the first belongs to it among those alone
abbrev pub owners_were : Type 0
owners_were = (names more : List (List ℕ)) (records : List Feature) (rest : List (List ℕ))
    → left_after (names ++ more) records ≡ Some (rest ++ more)
    → left_after names records ≡ Some rest

-- What maskfasta writes of two texts.

-- the bytes that maskfasta writes of two whole texts, and the fault that it tells
abbrev pub mask_texts : MaskHow → Bool → List ℕ → List ℕ → Report
mask_texts how full fasta bed =
    mask_met how (sequence_good full First (whole_text fasta)) (block_good Second (whole_text bed))
