-- What a run does, as contracts say it.
use Rattle.std.specs.Prelude.{◌≡◌, ◌≢◌, ℕ, ◌+◌, ◌-◌, ◌^◌, ◌≤◌, ◌⊎◌, Bool, true, List, ◌++◌, length, false, take, Option, Some, None, IfSome, Ok, Err, Result, is_some, option_map, ⊤, []}
use Rattle.bt_lines.specs.declared.device.Source.{Ghosts as Source}
use Rattle.bt_lines.specs.model.Fault.{FaultValue, read_failed}
use Rattle.bt_lines.specs.calls.Faults.{no_memory, write_failed}
use Rattle.bt_lines.specs.model.Lines.{TextLine, bytes_in, text_lines, Handed}
use Rattle.bt_lines.specs.calls.Output.{Output, block_size, IsPrefixOf, Grows}
use Rattle.bt_lines.specs.declared.fault.Input.{Input}
use Rattle.bt_lines.specs.declared.fault.Kind.{Kind}
use Rattle.bt_bed.specs.model.BedLine.{fault_at_line}
use Rattle.bt_bed.specs.model.Meeting.{Report}
use Rattle.bt_tool.specs.model.Written.{IsOneOf}
use Rattle.bt_lines.specs.calls.Names.{fault_value}
use Rattle.bt_lines.specs.declared.fault.Fault.{Fault}
use Rattle.bt_lines.specs.declared.fault.Input.TheVariants.{Genome as FromGenome, Genome, First, Second}
use Rattle.bt_bed.specs.calls.GenomeTable.{entries, names_of, is_genome_kind}
use Rattle.bt_bed.specs.calls.Orders.{AreDistinct}
use Rattle.bt_bed.specs.declared.order.genome.Genome.{Genome as GenomeTable}
use Rattle.bt_tool.specs.model.Report.{chromosomes_of, Inputs, behaviour_on, report_of, report, seen_of, texts_of}
use Rattle.bt_tool.specs.model.Behaviour.{Behaviour, behaviour_of}
use Rattle.bt_tool.specs.calls.Inputs.{CameOf, HandsUpTo, InputRead, MayHold, OfBoth, ReadsSo, ReadsSoIf, ServesIf}
use Rattle.bt_lines.specs.declared.device.Sink.{Ghosts as Sink}
use Rattle.bt_lines.specs.declared.fault.Place.{Place}
use Rattle.bt_bed.specs.model.Genome.{Entry}
use Rattle.bt_tool.specs.declared.planning.plan_type.Command.{Command}
use Rattle.bt_tool.specs.model.Options.{PlanSeen, options}
use Rattle.bt_tool.specs.model.Table.{Word}

-- What a run tells: the fault, and how far it read and wrote.

-- a fault, if there is one, is what a line says: it tells no device's failure and no refused growth
pub record IsOfInput (fault : Option FaultValue) : Type 0 where
  pub no_read : (input : Input) (line : ℕ) → fault ≢ Some (read_failed input line)
  pub no_write : fault ≢ Some write_failed
  pub no_growth : fault ≢ Some no_memory

-- a fault of a line, of one of these kinds
pub record TellsLine (Kinds : Kind → Type 0) (input : Input) (fault : FaultValue) : Type 0 where
  pub line : ℕ
  pub kind : Kind
  pub of_kind : Kinds kind
  pub is : fault ≡ fault_at_line input line kind

-- a failed read, reported only if the last read of the run failed, which its source tells, or if more bytes
-- were handed over than a text may have
pub record TellsRead {S : Type 0} (device : Source S) (input : Input)
    (read : InputRead) (after : S) (fault : FaultValue) : Type 0 where
  pub line : ℕ
  pub is : fault ≡ read_failed input line
  pub cause : ((read.failed ≡ true) × (device.has_failed after ≡ true)) ⊎ (2 ^ 63 ≤ length read.bytes)

-- a fault of an input: of a line, or of reading it
abbrev pub TellsInput : {S : Type 0} → Source S → (Kind → Type 0) → Input
    → InputRead → S → FaultValue → Type 0
TellsInput device Kinds input read after fault =
    TellsLine Kinds input fault ⊎ TellsRead device input read after fault

-- a fault of an input that may not be there: of a line, or of reading it
abbrev pub TellsInputIf : {S : Type 0} → Source S → (Kind → Type 0)
    → Input → Option InputRead → Option S → FaultValue → Type 0
TellsInputIf device Kinds input (Some read) (Some after) fault =
    TellsInput device Kinds input read after fault
TellsInputIf device Kinds input _ _ fault = ⊥

-- a fault of the output, reported only if the sink failed and its last call is one that did, or of memory
abbrev pub TellsDevice : Bool → Bool → FaultValue → Type 0
TellsDevice sink_failed last_failed fault =
    ((fault ≡ write_failed) × (sink_failed ≡ true) × (last_failed ≡ true)) ⊎ (fault ≡ no_memory)

-- a fault is reported, and it isn't a failed write
abbrev pub IsFaultButWrite : Option FaultValue → Type 0
IsFaultButWrite fault = (fault ≢ None) × (fault ≢ Some write_failed)

-- the end of an input wasn't reported, or its text has an n-th line
abbrev pub IsWithin : Bool → List ℕ → ℕ → Type 0
IsWithin told text n = (told ≡ false) ⊎ (n ≤ length (text_lines text))

-- How far an input was read by the time that this was written, for an n that is at least 1: it handed over
-- at most its first n lines and a block, and what its first n - 1 lines settle was taken, except at
-- most a block. None of these is at fault: so if a line is, n is at most its number. Unless a write failed, all
-- of it was put, and nothing more if a fault stopped the run. `Beside` says how far another input was read.
pub record ReadsNoFurther (n : ℕ) (Beside : Type 0) (faults : List TextLine → Option FaultValue)
    (settles : List TextLine → List ℕ) (text handed before took : List ℕ) (WriteFailed Stopped : Type 0)
    (put : List ℕ) : Type 0 where
  pub some : 1 ≤ n
  pub faultless : faults (take (n - 1) (text_lines text)) ≡ None
  pub read : length handed ≤ bytes_in (take n (text_lines text)) + block_size
  pub settled : length (before ++ settles (take (n - 1) (text_lines text))) ≤ length took + block_size
  pub kept : WriteFailed ⊎ (length (before ++ settles (take (n - 1) (text_lines text))) ≤ length put)
  pub exact : Stopped → put ≡ before ++ settles (take (n - 1) (text_lines text))
  pub beside : Beside

-- the report is what came: its fault, and its output after what was put before
abbrev pub IsReported : Report → List ℕ → Option FaultValue → Output → Type 0
IsReported report before fault grown =
    (fault ≡ report.fault) × (grown.put ≡ before ++ report.output)

-- no failed read is reported
abbrev pub TellsNoRead : Option FaultValue → Type 0
TellsNoRead fault = (input : Input) (line : ℕ) → fault ≢ Some (read_failed input line)

abbrev pub AnswersNoRead : {T : Type 0} → Result T Fault → Type 0
AnswersNoRead (Ok done) = ⊤
AnswersNoRead (Err fault) = TellsNoRead (Some (fault_value fault))

-- no read of an input that may not be there failed
abbrev pub NoneFailed : Option InputRead → Type 0
NoneFailed read = IfSome read (λ read. read.failed ≡ false)

-- the end of an input that may not be there was reported
abbrev pub IsReadToEnd : Option InputRead → Type 0
IsReadToEnd read = IfSome read (λ read. read.told ≡ true)

-- What reading the genome file of a run does, if it has one.

module _ {G : Type 0} (device : Source G) where
  -- the chromosomes were read, of the bytes that were handed over
  pub record KnowsChromosomes (before : Option G) (read : Option InputRead) (after : Option G)
      (table : Option GenomeTable) : Type 0 where
    pub reads : ReadsSoIf device before read after
    pub whole : (handed : Option Handed) → OfBoth CameOf read handed
        → chromosomes_of handed ≡ Ok (option_map entries table)
    pub told : (handed : Option Handed) → OfBoth MayHold read handed
        → chromosomes_of handed ≡ Ok (option_map entries table)
    -- there are some exactly if there is a file
    pub named : is_some table ≡ is_some before
    pub distinct : IfSome table (λ table. AreDistinct (names_of table))
    pub served : ServesIf device.has_failed before after
    pub no_failed : NoneFailed read
    pub ended : IsReadToEnd read

  -- the genome file is at fault, or couldn't be read
  pub record LacksChromosomes (before : Option G) (read : Option InputRead) (after : Option G)
      (fault : FaultValue) : Type 0 where
    pub reads : ReadsSoIf device before read after
    pub whole : (handed : Option Handed) → OfBoth CameOf read handed → fault ≢ no_memory
        → chromosomes_of handed ≡ Err fault
    pub told : (handed : Option Handed) → OfBoth MayHold read handed → IsOfInput (Some fault)
        → chromosomes_of handed ≡ Err fault
    pub named : TellsInputIf device (IsOneOf is_genome_kind) FromGenome read after fault
        ⊎ (fault ≡ no_memory)
    pub no_write : fault ≢ write_failed
    pub no_failed : TellsNoRead (Some fault) → NoneFailed read

  abbrev pub ReadsChromosomes : Option G → Result (Option GenomeTable) Fault → Option G → Type 0
  ReadsChromosomes before (Ok table) after = (read : Option InputRead) × KnowsChromosomes before read after table
  ReadsChromosomes before (Err fault) after =
      (read : Option InputRead) × LacksChromosomes before read after (fault_value fault)

-- What a command does with its inputs, by what they hand over; the second may not be there.

module _ {A B : Type 0} (source_a : Source A) (source_b : Source B) (behaviour : Behaviour) where
  -- the inputs were read, and what they make a command write was written:
  -- the report on what they hand over
  pub record RunsBy (first : A) (second : Option B) (out : Output) (fault : Option FaultValue)
      (first_after : A) (second_after : Option B) (grown : Output) : Type 0 where
    pub one : InputRead
    pub one_reads : ReadsSo source_a first one first_after
    pub two : Option InputRead
    pub two_reads : ReadsSoIf source_b second two second_after
    -- no write and no growth failed: the report on what was handed over, also if a read failed
    pub whole : (handed : Handed) (others : Option Handed) → CameOf one handed → OfBoth CameOf two others
        → fault ≢ Some write_failed → fault ≢ Some no_memory
        → IsReported (behaviour.report handed others) out.put fault grown
    -- no device's fault is reported: the report on the whole texts
    pub told : (handed : Handed) (others : Option Handed) → MayHold one handed → OfBoth MayHold two others
        → IsOfInput fault → IsReported (behaviour.report handed others) out.put fault grown
    -- if a write failed: the sink took a prefix of the report's output
    pub cut : fault ≡ Some write_failed → (handed : Handed) (others : Option Handed)
        → MayHold one handed → OfBoth MayHold two others → (front : List ℕ) × (rest : List ℕ)
        × ((behaviour.report handed others).output ≡ front ++ rest) × IsPrefixOf grown.took out.put front
    -- whatever else fails: a prefix of the report's output was put
    pub kept : fault ≢ Some write_failed → (handed : Handed) (others : Option Handed)
        → MayHold one handed → OfBoth MayHold two others → (front : List ℕ) × (rest : List ℕ)
        × ((behaviour.report handed others).output ≡ front ++ rest) × (grown.put ≡ out.put ++ front)
    pub grows : Grows out.took grown.took
    -- without a fault the inputs were read to their ends
    pub ended : fault ≡ None → (one.told ≡ true) × IsReadToEnd two
    -- and no source failed
    pub served : fault ≡ None
        → (source_a.has_failed first_after ≡ source_a.has_failed first)
        × ServesIf source_b.has_failed second second_after
    -- all writes served if no failed write is reported
    pub no_failed_write : fault ≢ Some write_failed → grown.sink_has_failed ≡ out.sink_has_failed
    -- how far the inputs were read, whatever happened, and whatever follows
    pub near : (n : ℕ) × ((handed : Handed) (others : Option Handed) → MayHold one handed
        → OfBoth MayHold two others → ReadsNoFurther n (IsWithin one.told handed.text n
        → HandsUpTo (behaviour.reaches others (take n (text_lines handed.text)) + block_size) two)
        behaviour.faults (behaviour.settles others) handed.text one.bytes out.put grown.took
        (grown.has_failed ≡ true) (IsFaultButWrite fault) grown.put)
    -- what the fault may be
    pub named : (told : FaultValue) → fault ≡ Some told
        → (TellsInput source_a behaviour.FirstKinds First one first_after told
        ⊎ TellsInputIf source_b behaviour.SecondKinds Second two second_after told)
        ⊎ TellsDevice grown.sink_has_failed grown.sink_last_failed told
    -- all reads served if no failed read is reported
    pub no_failed : TellsNoRead fault → (one.failed ≡ false) × NoneFailed two

-- a run of one input
abbrev pub RunsAlone : {A : Type 0} → Source A → Behaviour → A → Output → Option FaultValue → A → Output
    → Type 0
RunsAlone device behaviour first out fault new grown =
    RunsBy device device behaviour first None out fault new None grown

-- What a run gives, by what its inputs hand over.

-- what was read of the inputs
pub record InputsRead : Type 0 where
  pub genome : Option InputRead
  pub first : InputRead
  pub second : Option InputRead

-- this may have come of the inputs
pub record InputsCame (read : InputsRead) (inputs : Inputs) : Type 0 where
  pub genome_file : OfBoth CameOf read.genome inputs.genome
  pub first_input : CameOf read.first inputs.first
  pub second_input : OfBoth CameOf read.second inputs.second

-- these may be the whole texts of the inputs, what was never handed over included
pub record InputsMayHold (read : InputsRead) (inputs : Inputs) : Type 0 where
  pub genome_file : OfBoth MayHold read.genome inputs.genome
  pub first_input : MayHold read.first inputs.first
  pub second_input : OfBoth MayHold read.second inputs.second

module _ {G A B K : Type 0} (source_g : Source G) (source_a : Source A) (source_b : Source B)
    (sink : Sink K) where
  -- the reads of the inputs went so
  pub record ReadsInputs (genome : Option G) (first : A) (second : Option B) (read : InputsRead)
      (genome_after : Option G) (first_after : A) (second_after : Option B) : Type 0 where
    pub genome_file : ReadsSoIf source_g genome read.genome genome_after
    pub first_input : ReadsSo source_a first read.first first_after
    pub second_input : ReadsSoIf source_b second read.second second_after

  -- A fault of an input other than the genome file, of a kind that a line of it can have. With a
  -- genome file that is by the list of its chromosomes, and without one
  -- in the order of the names' bytes, if no chromosome is unknown.
  pub record TellsOther (command : Command) (genome : Option G) (read : InputsRead) (first_after : A)
      (second_after : Option B) (told : FaultValue) : Type 0 where
    pub chromosomes : Option (List Entry)
    pub named : is_some chromosomes ≡ is_some genome
    pub of_file : (file : Option Handed) → OfBoth MayHold read.genome file → chromosomes_of file ≡ Ok chromosomes
    pub tells : TellsInput source_a (behaviour_of command chromosomes).FirstKinds First
        read.first first_after told
        ⊎ TellsInputIf source_b (behaviour_of command chromosomes).SecondKinds Second
        read.second second_after told

  -- A run of a command. All that is said of its inputs is said of the bytes that its reads handed over, whatever
  -- follows them.
  pub record Runs (command : Command) (genome : Option G) (first : A) (second : Option B) (out : K)
      (fault : Option FaultValue) (genome_after : Option G) (first_after : A) (second_after : Option B)
      (out_after : K) : Type 0 where
    pub read : InputsRead
    pub reads : ReadsInputs genome first second read genome_after first_after second_after
    -- If the sink works and no growth is refused, the fault reported
    -- and the bytes written are those of the report on what the inputs handed over. That is so also if a
    -- read failed or an input passes 2^63 - 1 bytes.
    pub whole : (inputs : Inputs) → InputsCame read inputs
        → sink.has_failed out_after ≡ false → fault ≢ Some no_memory
        → (fault ≡ (report_of command inputs).fault)
        × (sink.took out_after ≡ sink.took out ++ (report_of command inputs).output)
    -- Whether devices fail or not: if the run ends without a
    -- fault, or tells a line's, that fault and the bytes written are
    -- those of the report on the whole texts.
    pub told : (inputs : Inputs) → InputsMayHold read inputs → IsOfInput fault
        → (fault ≡ (report_of command inputs).fault)
        × (sink.took out_after ≡ sink.took out ++ (report_of command inputs).output)
    -- Whatever read, write or growth fails, what was written is a prefix of the
    -- report's output for the whole texts, what wasn't handed over of them included.
    pub prefix : (inputs : Inputs) → InputsMayHold read inputs
        → (prefix : List ℕ) × (rest : List ℕ) × (sink.took out_after ≡ sink.took out ++ prefix)
        × ((report_of command inputs).output ≡ prefix ++ rest)
    -- However the run ends, there is an n, the same whatever follows. The first input handed over at
    -- most its first n lines and a block. What its first n - 1 lines settle was written, except at
    -- most a block if a write failed. At any other fault, running out of memory among them, what was
    -- written is exactly that. None of these n - 1 lines is at fault: so no line after one at fault was read,
    -- except for a block. If the first input's end wasn't reported, or it has an n-th line, the
    -- second handed over at most what those n lines need and a block. So if it handed over more, n is
    -- past the last line, no line of the first input is at fault, and all of them were settled.
    pub near : (n : ℕ) × ((inputs : Inputs) → InputsMayHold read inputs
        → ReadsNoFurther n (IsWithin read.first.told inputs.first.text n
        → HandsUpTo ((behaviour_on command (chromosomes_of inputs.genome)).reaches
        inputs.second (take n (text_lines inputs.first.text)) + block_size) read.second)
        (behaviour_on command (chromosomes_of inputs.genome)).faults
        ((behaviour_on command (chromosomes_of inputs.genome)).settles inputs.second) inputs.first.text
        read.first.bytes (sink.took out) (sink.took out_after) (fault ≡ Some write_failed)
        (IsFaultButWrite fault) (sink.took out_after))
    -- A run that ends without a fault has read each input to its end.
    pub ended : fault ≡ None → IsReadToEnd read.genome × (read.first.told ≡ true) × IsReadToEnd read.second
    -- None of them failed. So a failed read never ends with status 0.
    pub served : fault ≡ None
        → ServesIf source_g.has_failed genome genome_after
        × (source_a.has_failed first_after ≡ source_a.has_failed first)
        × ServesIf source_b.has_failed second second_after
    -- All writes and flushes served if no failed write is reported. So a failed write never ends with status 0,
    -- and no other fault hides one.
    pub no_failed_write : fault ≢ Some write_failed → sink.has_failed out_after ≡ sink.has_failed out
    -- All reads served if no failed read is reported, and no failed write that may have come after it.
    pub no_failed : fault ≢ Some write_failed → TellsNoRead fault
        → NoneFailed read.genome × (read.first.failed ≡ false) × NoneFailed read.second
    -- If the genome file's text is at fault, whatever follows what was read of it, no other input was touched,
    -- whatever else failed.
    pub after_genome : (file : Option Handed) → OfBoth MayHold read.genome file → (wrong : FaultValue)
        → chromosomes_of file ≡ Err wrong
        → (first_after ≡ first) × (second_after ≡ second)
    -- Nor was it after a fault that is reported of the genome file.
    pub untouched : (told : FaultValue) → fault ≡ Some told
        → (place : Place) → told.place ≡ Some place → place.input ≡ Genome
        → (first_after ≡ first) × (second_after ≡ second)
    -- Nor was it, whatever ended the run, unless the genome file was read up to its end without a fault. So
    -- it wasn't if memory ran out before that end.
    pub begun : ((first_after ≡ first) × (second_after ≡ second))
        ⊎ ((table : Option GenomeTable) × KnowsChromosomes source_g genome read.genome genome_after table)
    -- What the fault may be. It is one that a line of an input can have (without
    -- a genome file none of it, and no unknown chromosome). Or it is a failed read, only if the run's last read of
    -- that input failed, whatever its source did before, or passed the bound; a failed write, only if the sink
    -- failed, and its last call is one that failed: nothing was written after it, and nothing flushed; or running
    -- out of memory.
    pub named : (told : FaultValue) → fault ≡ Some told
        → (TellsInputIf source_g (IsOneOf is_genome_kind) Genome read.genome genome_after told
        ⊎ TellsOther command genome read first_after second_after told)
        ⊎ TellsDevice (sink.has_failed out_after) (sink.last_failed out_after) told

-- What a user sees of a run, from the words of the command line and the texts of the inputs.

module _ {G A B K : Type 0} (source_g : Source G) (source_a : Source A) (source_b : Source B)
    (sink : Sink K) where
  -- If a plan was run, these whole texts came of its inputs, the sink had taken nothing before and
  -- didn't fail, and no growth was refused, then the bytes that it took, the line that tells the fault and
  -- the exit status are those of the report on the words and the texts.
  abbrev pub ShowsReport : Type 0
  ShowsReport =
      (words : List Word) (plan : PlanSeen) (genome : Option G) (first : A) (second : Option B)
      (out : K) (fault : Option FaultValue) (genome_after : Option G) (first_after : A)
      (second_after : Option B) (out_after : K)
      (genome_text first_text second_text : List ℕ) → options words ≡ Ok plan
      → (runs : Runs source_g source_a source_b sink
      plan.command genome first second out fault genome_after first_after second_after out_after)
      → InputsCame runs.read (texts_of plan genome_text first_text second_text)
      → sink.took out ≡ [] → sink.has_failed out_after ≡ false → fault ≢ Some no_memory
      → report words genome_text first_text second_text
      ≡ seen_of plan (record { output = sink.took out_after; fault = fault })
