-- Why a genome file leaves a call to bedtools.
use Rattle.std.specs.Prelude.{ℕ, ◌≡◌, ◌==◌, ◌&&◌, Bool, true, false, List, [], ◌∷◌, Option, Some, None, Err, if◌then◌else◌}
use Rattle.std.specs.List.{list_any}
use Rattle.std.specs.Option.{option_or}
use Rattle.bt_lines.specs.calls.Names.{fault_value}
use Rattle.bt_lines.specs.declared.device.Source.{Ghosts as Source}
use Rattle.bt_lines.specs.declared.fault.Fault.{Fault}
use Rattle.bt_lines.specs.declared.fault.Input.TheVariants.{Genome}
use Rattle.bt_lines.specs.declared.fault.Kind.{Kind}
use Rattle.bt_lines.specs.declared.fault.Kind.TheVariants.{NoMemory as NoMemoryKind, ReadFailed}
use Rattle.bt_lines.specs.model.Lines.{pieces, whole_text}
use Rattle.bt_bed.specs.model.Genome.{genome_handed}
use Rattle.drop_in.specs.calls.Looks.{IsCutOff, ReadsText}
use Rattle.drop_in.specs.declared.why.Why.{Why}
use Rattle.drop_in.specs.declared.why.Why.TheVariants.{Genome as OfGenome, NoMemory, NulInGenome, TabInComment, Unopened}

-- Lines that bedtools reads otherwise (bedtools 2.30.0, `GenomeFile::loadGenomeFileIntoMap`).

-- whether a line has a byte
abbrev pub has_byte : ℕ → List ℕ → Bool
has_byte byte line = list_any (λ b. b == byte) line

-- whether it begins with #
abbrev pub is_comment : List ℕ → Bool
is_comment [] = false
is_comment (b ∷ bs) = b == 35

-- a comment with a tab is a chromosome of bedtools, and a NUL cuts a name
abbrev pub odd_line : List ℕ → Option Why
odd_line line =
    if is_comment line && has_byte 9 line then Some TabInComment
    else (if has_byte 0 line then Some NulInGenome else None)

-- the first odd line decides
abbrev pub first_odd : List (List ℕ) → Option Why
first_odd [] = None
first_odd (line ∷ more) = option_or (odd_line line) (first_odd more)

abbrev pub odd_in : List ℕ → Option Why
odd_in text = first_odd (pieces 10 text)

-- What reading it gives.

-- a fault of a line lies in the text; the others, in what reads it
abbrev pub is_of_text : Kind → Bool
is_of_text NoMemoryKind = false
is_of_text ReadFailed = false
is_of_text kind = true

abbrev pub fault_why : Fault → Why
fault_why fault = if is_of_text fault.kind then OfGenome fault else NoMemory

-- a genome file that was opened leaves the call: a read failed, there is no memory, a line is odd, or one is at fault
pub data IsWhyOfGenome {I : Type 0} (source : Source I) (opened : I) : Why → Type 0 where
  unread : IsCutOff source opened → IsWhyOfGenome source opened (Unopened Genome)
  no_memory : IsWhyOfGenome source opened NoMemory
  odd : (text : List ℕ) (why : Why) → ReadsText source opened text → odd_in text ≡ Some why → IsWhyOfGenome source opened why
  at_fault : (text : List ℕ) (fault : Fault) → ReadsText source opened text → odd_in text ≡ None
      → genome_handed Genome (whole_text text) ≡ Err (fault_value fault) → IsWhyOfGenome source opened (OfGenome fault)

-- if the call has one
abbrev pub IsWhyOfGenomeIf : {I : Type 0} → Source I → Option I → Why → Type 0
IsWhyOfGenomeIf source None why = ⊥
IsWhyOfGenomeIf source (Some opened) why = IsWhyOfGenome source opened why
