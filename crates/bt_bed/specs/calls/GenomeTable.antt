-- What a table of chromosomes holds, and what reading one does.
use Rattle.std.specs.Prelude.{◌≡◌, ℕ, ◌-◌, ◌⊎◌, true, List, ◌++◌, take, map, Option, Some, None, Result, Ok, Err, Vec, option_map, Bool, false}
use Rattle.std.specs.Option.{option_to_list}
use Rattle.std.specs.declared.alloc.Global.{Global}
use Rattle.bt_lines.specs.declared.device.Source.{Ghosts as Source}
use Rattle.bt_lines.specs.model.Fault.{FaultValue}
use Rattle.bt_lines.specs.calls.Names.{fault_value}
use Rattle.bt_lines.specs.calls.Reader.{Hands, IsNear, IsSound, MayStillCome, end_told, source_of, input_of, lines_coming, lines_given, fault_kept, has_ended}
use Rattle.bt_lines.specs.declared.fault.Fault.{Fault}
use Rattle.bt_lines.specs.declared.fault.Kind.{Kind}
use Rattle.bt_lines.specs.declared.reader.line_reader.LineReader.{LineReader}
use Rattle.bt_lines.specs.declared.fault.Kind.TheVariants.{TooFewColumns, EmptyName, BadLength, RepeatedChrom}
use Rattle.bt_bed.specs.model.Genome.{Entry, entry_of, genome_names, genome_of, new_entry}
use Rattle.bt_bed.specs.model.BedLine.{fault_at_line}
use Rattle.bt_bed.specs.calls.Orders.{AreDistinct}
use Rattle.bt_bed.specs.calls.Reading.{ReadingFails, MemoryRanOut}
use Rattle.bt_bed.specs.declared.order.entry.EntryRef.{EntryRef}
use Rattle.bt_bed.specs.declared.order.genome.Genome.{Genome}

-- an entry that is borrowed, as the definitions have it
abbrev pub entry_lent : EntryRef → Entry
entry_lent entry = record { name = entry.name.now; length = entry.length }

abbrev pub entry_said : Result (Option EntryRef) Kind → Result (Option Entry) Kind
entry_said (Ok entry) = Ok (option_map entry_lent entry)
entry_said (Err kind) = Err kind

-- a chromosome of the table, which has its length by its name
abbrev pub entry_seen : Vec ℕ Global × ℕ → Entry
entry_seen chromosome = record { name = chromosome.0.items; length = chromosome.1 }

-- the entries of the table, in the order of the genome file
unfoldable pub entries : Genome → List Entry
entries genome = map entry_seen genome.lengths.entries

-- the names of its chromosomes, in that order
abbrev pub names_of : Genome → List (List ℕ)
names_of genome = genome_names (entries genome)

-- a line was added to the table
pub record LineAdded (text : List ℕ) (old new : Genome) : Type 0 where
  pub entry : Option Entry
  pub says : new_entry (names_of old) (entry_of text) ≡ Ok entry
  pub added : entries new ≡ entries old ++ option_to_list entry

-- whether a line of a genome file can be at fault so
abbrev pub is_genome_kind : Kind → Bool
is_genome_kind TooFewColumns = true
is_genome_kind EmptyName = true
is_genome_kind BadLength = true
is_genome_kind RepeatedChrom = true
is_genome_kind _ = false

module _ {S : Type 0} where
  -- the whole genome file was read
  pub record ReadsAll (device : Source S) (old new : LineReader S) (genome : Genome) : Type 0 where
    pub bytes : (bytes : List ℕ) × Hands device old bytes new
    pub was_going : fault_kept old ≡ None
    -- the bytes handed over were the last, and have these entries
    pub is : genome_of (input_of old) (lines_coming bytes.0 old) ≡ Ok (entries genome)
    pub distinct : AreDistinct (names_of genome)
    pub ended : has_ended new ≡ true
    pub told : end_told new ≡ true
    pub going : fault_kept new ≡ None
    pub served : device.has_failed (source_of new) ≡ device.has_failed (source_of old)

  -- a line is at fault: the last one given
  pub record EntryIsWrong (device : Source S) (old : LineReader S) (bytes : List ℕ) (new : LineReader S)
      (fault : FaultValue) : Type 0 where
    -- whatever follows, this is the file's fault
    pub is : (rest : List ℕ) → MayStillCome new rest → genome_of (input_of old) (lines_coming (bytes ++ rest) old) ≡ Err fault
    -- it is what is wrong with some text after some names
    pub kind : Kind
    pub names : List (List ℕ)
    pub text : List ℕ
    pub says : new_entry names (entry_of text) ≡ Err kind
    pub of_line : is_genome_kind kind ≡ true
    pub place : fault ≡ fault_at_line (input_of old) (lines_given new) kind
    pub going : fault_kept new ≡ None
    pub served : device.has_failed (source_of new) ≡ device.has_failed (source_of old)

  -- a line couldn't be read, and no line before it was at fault
  pub record EntryUnread (device : Source S) (old : LineReader S) (bytes : List ℕ) (new : LineReader S)
      (fault : FaultValue) : Type 0 where
    pub fails : ReadingFails device old bytes new fault
    pub given : List Entry
    pub passed : (rest : List ℕ) → MayStillCome new rest
        → genome_of (input_of old) (take (lines_given new - lines_given old) (lines_coming (bytes ++ rest) old)) ≡ Ok given

  -- why the reading stopped, once these bytes were handed over
  abbrev pub StopCause : Source S → LineReader S → List ℕ → LineReader S → FaultValue → Type 0
  StopCause device old bytes new fault =
      EntryIsWrong device old bytes new fault
      ⊎ (EntryUnread device old bytes new fault ⊎ MemoryRanOut device.has_failed old new fault)

  -- the reading stopped at a fault
  pub record ReadingStops (device : Source S)
      (old new : LineReader S) (fault : FaultValue) : Type 0 where
    pub bytes : (bytes : List ℕ) × Hands device old bytes new
    -- a fault that the reader had is returned again, and nothing is read
    pub again : (before : FaultValue) → fault_kept old ≡ Some before → (fault ≡ before) × (new ≡ old)
    -- a reader that had none meets the first
    pub first : fault_kept old ≡ None → StopCause device old bytes.0 new fault
    -- the fault of a line given comes before any other
    pub checked : (rest : List ℕ) → MayStillCome new rest → (other : FaultValue)
        → genome_of (input_of old) (take (lines_given new - lines_given old) (lines_coming (bytes.0 ++ rest) old)) ≡ Err other
        → fault ≡ other
    -- what follows the lines given and one line more is still to come, except at most a block
    pub near : fault_kept old ≡ None → IsNear old bytes.0 new

  -- what a result says
  abbrev pub GenomeAnswers : Source S → LineReader S → Result Genome Fault → LineReader S → Type 0
  GenomeAnswers device old (Ok genome) new = ReadsAll device old new genome
  GenomeAnswers device old (Err fault) new = ReadingStops device old new (fault_value fault)

  -- what reading a genome file does
  pub record ReadsGenome (device : Source S) (old : LineReader S)
      (answer : Result Genome Fault) (new : LineReader S) : Type 0 where
    pub answers : GenomeAnswers device old answer new
    pub sound : IsSound device old → IsSound device new
