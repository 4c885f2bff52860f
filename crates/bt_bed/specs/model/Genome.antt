-- The chromosomes of a genome file, in its order: a name, a tab and a length on each line. Other
-- columns are ignored, so that an index of samtools faidx is one too. Blank lines and lines that begin
-- with `#` are skipped (bedtools manual, genome file format).
use Rattle.std.specs.Prelude.{ℕ, Bool, true, ◌==◌, List, [], ◌∷◌, ◌++◌, map, Option, Some, None, Result, Ok, Err, if◌then◌else◌}
use Rattle.bt_lines.specs.model.Fault.{FaultValue}
use Rattle.bt_lines.specs.model.Lines.{Handed, TextLine, cut_fault, lines_handed, pieces, value_of}
use Rattle.bt_lines.specs.declared.fault.Input.{Input}
use Rattle.bt_lines.specs.declared.fault.Kind.{Kind}
use Rattle.bt_lines.specs.declared.fault.Kind.TheVariants.{TooFewColumns, EmptyName, BadLength, RepeatedChrom}
use Rattle.bt_bed.specs.model.BedLine.{not_skipped}
use Rattle.bt_bed.specs.model.Good.{Format, Good, good, items_in}
use Rattle.bt_bed.specs.model.Order.{is_among}

-- a chromosome's name and its length
pub record Entry : Type 0 where
  pub name : List ℕ
  pub length : ℕ

-- the names of the chromosomes, in their order
abbrev pub genome_names : List Entry → List (List ℕ)
genome_names entries = map (λ entry. entry.name) entries

-- the entry of a name and of the number that its length denotes, which isn't 0
abbrev pub entry_from : List ℕ → Option ℕ → Result Entry Kind
entry_from [] length = Err EmptyName
entry_from (byte ∷ bytes) None = Err BadLength
entry_from (byte ∷ bytes) (Some length) = if length == 0 then Err BadLength else Ok
    (record { name = byte ∷ bytes; length = length })

-- what the columns say
abbrev pub columns_give : List (List ℕ) → Result Entry Kind
columns_give [] = Err TooFewColumns
columns_give (name ∷ []) = Err TooFewColumns
columns_give (name ∷ length ∷ rest) = entry_from name (value_of length)

-- whether a line is a comment or blank
abbrev pub is_skipped : List ℕ → Bool
is_skipped [] = true
is_skipped (byte ∷ bytes) = byte == 35

-- what a line's text says: nothing, an entry, or what is wrong with it
unfoldable pub entry_of : List ℕ → Result (Option Entry) Kind
entry_of text = if is_skipped text then Ok None else not_skipped (columns_give (pieces 9 text))

-- an entry, if no entry before it has the name
abbrev pub new_entry : List (List ℕ) → Result (Option Entry) Kind → Result (Option Entry) Kind
new_entry names (Err kind) = Err kind
new_entry names (Ok None) = Ok None
new_entry names (Ok (Some entry)) = if is_among names entry.name then Err RepeatedChrom else Ok
    (Some entry)

-- entries, of which the names that come before are known
abbrev pub genome_format : Format Entry (List (List ℕ))
genome_format = record {
  begin = [];
  says = λ names line. new_entry names (entry_of line.text);
  after = λ names entry. names ++ entry.name ∷ [];
}

-- entries, or the fault if there is one
abbrev pub entries_unless : Option FaultValue → List Entry → Result (List Entry) FaultValue
entries_unless None entries = Ok entries
entries_unless (Some fault) entries = Err fault

-- all entries, or the first line's fault
abbrev pub all_or_fault : Good Entry → Result (List Entry) FaultValue
all_or_fault good = entries_unless good.fault (items_in good)

-- the entries of a genome file, or the fault of its first line at fault
abbrev pub genome_of : Input → List TextLine → Result (List Entry) FaultValue
genome_of input lines = all_or_fault (good genome_format input lines)

-- the entries, or the first fault, or else this one, if there is one
abbrev pub genome_cut : Option FaultValue → Result (List Entry) FaultValue → Result (List Entry) FaultValue
genome_cut None result = result
genome_cut (Some fault) (Ok entries) = Err fault
genome_cut (Some fault) (Err first) = Err first

-- The entries of a genome file that may have been cut off: those of the lines handed over. Instead it
-- is the fault of the first line at fault, or else the failed read after them.
abbrev pub genome_handed : Input → Handed → Result (List Entry) FaultValue
genome_handed input handed = genome_cut (cut_fault input handed)
    (genome_of input (lines_handed handed))
