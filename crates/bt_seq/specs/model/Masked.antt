-- The masked lines of a FASTA input.
use Rattle.std.specs.Prelude.{◌++◌, ℕ, Bool, true, false, List, [], ◌∷◌, Option, Some, None, option_and_then, if◌then◌else◌, ◌+◌, ◌||◌, suc, find, is_none}
use Rattle.std.specs.List.{last_or, list_any}
use Rattle.std.specs.Option.{option_map_or}
use Rattle.bt_bed.specs.model.Feature.{Feature, record_covers}
use Rattle.bt_bed.specs.model.BedLine.{fault_at_line}
use Rattle.bt_bed.specs.model.Good.{Good, Member, items_in, or_else}
use Rattle.bt_bed.specs.model.Meeting.{Report, Rule, join_report}
use Rattle.bt_lines.specs.model.Lines.{end_bytes}
use Rattle.bt_lines.specs.declared.fault.Kind.TheVariants.{NoSequence}
use Rattle.std.specs.Char.{is_ascii_uppercase}
use Rattle.bt_lines.specs.model.Fault.{FaultValue}
use Rattle.bt_lines.specs.declared.fault.Input.TheVariants.{Second}
use Rattle.bt_seq.specs.declared.mask.mask_how.MaskHow.{MaskHow}
use Rattle.bt_seq.specs.declared.mask.mask_how.MaskHow.TheVariants.{Soft, Hard}
use Rattle.bt_seq.specs.model.SequenceBlocks.{blocks_by, owned_from, owned, own_records, block_decides}
use Rattle.bt_seq.specs.model.Fasta.{SequenceLine, is_sequence_header, bases_up_to}

-- The masked lines of a FASTA input, and how it meets a BED input (bedtools manual, maskfasta).

-- the byte that stands for a masked base (options -soft and -mc): `a` to `z` for `A` to `Z` and any
-- other byte as it was, or one byte for all
abbrev pub masked_byte : MaskHow → ℕ → ℕ
masked_byte Soft byte = if is_ascii_uppercase byte then byte + 32 else byte
masked_byte (Hard mask) byte = mask

-- bases from this position on, of which those that a record covers are replaced
abbrev pub masked_from : MaskHow → List Feature → ℕ → List ℕ → List ℕ
masked_from how records position [] = []
masked_from how records position (base ∷ bases) =
    (if list_any (record_covers position) records then masked_byte how base else base)
    ∷ masked_from how records (suc position) bases

-- the text of a line against all records: a header stays
abbrev pub masked_text : MaskHow → List Feature → SequenceLine → List ℕ
masked_text how records line =
    if is_sequence_header line.text then line.text
    else masked_from how (own_records line.names records) line.before line.text

-- the line with its line end, which stays as it was
abbrev pub masked_line : MaskHow → List Feature → SequenceLine → List ℕ
masked_line how records line = masked_text how records line ++ end_bytes line.ending

-- whether there is no name: a line comes before the first header, where it is decided at once
abbrev pub is_unnamed : List (List ℕ) → Bool
is_unnamed [] = true
is_unnamed (name ∷ names) = false

-- whether these records decide a line: nothing that follows them in order changes it
abbrev pub line_decided : SequenceLine → List Feature → Bool
line_decided line records =
    is_unnamed line.names
    || list_any (λ o. block_decides (bases_up_to line) o.left o.block.items)
    (owned line.names records)

-- the names of all sequences that have a line among these
abbrev pub names_of_sequences : List SequenceLine → List (List ℕ)
names_of_sequences lines = option_map_or (λ line. line.names) (last_or None lines) []

-- that there is no sequence for these records, reported at the first of them
abbrev pub told_at_first : List (Member Feature) → Option FaultValue
told_at_first [] = None
told_at_first (m ∷ ms) = Some (fault_at_line Second m.line NoSequence)

-- the fault of the first block that belongs to no sequence of these names, if there is one
abbrev pub no_sequence : List (List ℕ) → List (Member Feature) → Option FaultValue
no_sequence names members =
    option_and_then (λ o. told_at_first o.block.items) (find (λ o. is_none o.left)
    (owned_from (Some names) (blocks_by (λ m. m.item.chrom) members)))

-- What the good records of the second input, and its fault, make of the lines of the first. At the
-- end its first block without a sequence is reported, before its fault.
abbrev pub mask_rule : MaskHow → List (List ℕ) → Good Feature → Rule SequenceLine
mask_rule how names second = record {
  decided = λ line. is_none second.fault || line_decided line (items_in second);
  lines = masked_line how (items_in second);
  fault = second.fault;
  last = or_else (no_sequence names second.members) second.fault;
}

-- the bytes that maskfasta writes of two inputs, and the fault that it tells
abbrev pub mask_met : MaskHow → Good SequenceLine → Good Feature → Report
mask_met how first second =
    join_report (mask_rule how (names_of_sequences (items_in first)) second) (items_in first) first.fault
