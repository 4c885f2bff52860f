-- Lemmas on failed reads that are kept and told, and on the genome file of a run.
use Rattle.bt_lines.proofs.Std.{Bool, false, true, refl, suc, ◌≡◌, ℕ, Option, None, Some, Err, List, ap, sym, subst, ◌∙◌, inl, inr, arith, ◌≢◌, ◌⊎◌, ◌≤◌, MatchResult, Ok, Result, false≢true, option_map, ◌-◌, ◌^◌, ◌++◌, take, drop, length, append-nil, append_assoc, take-append-drop}
use Rattle.bt_lines.specs.declared.device.Source.{Ghosts as Source}
use Rattle.bt_lines.proofs.lemmas.reader.block.ReadsLemmas.{memory_no_read, none_failed, some_is}
use Rattle.bt_lines.specs.model.Fault.{FaultValue, read_failed}
use Rattle.bt_lines.specs.calls.Faults.{no_memory, write_failed}
use Rattle.bt_lines.specs.calls.Names.{fault_value}
use Rattle.bt_lines.specs.calls.Output.{Output}
use Rattle.bt_lines.specs.calls.Reader.{IsReadFailed, bytes_taken, fault_kept as line_fault, source_of, Hands, IsSound, end_told, input_of, fault_kept, feeds_taken, lines_coming, lines_given}
use Rattle.bt_lines.specs.declared.fault.Fault.{Fault}
use Rattle.bt_lines.specs.declared.fault.Input.{Input}
use Rattle.bt_lines.specs.declared.fault.Input.TheVariants.{Genome as FromGenome}
use Rattle.bt_lines.specs.declared.fault.Kind.TheVariants.{NoMemory as OutOfMemory, ReadFailed, WriteFailed}
use Rattle.bt_lines.specs.declared.reader.line_reader.LineReader.{LineReader}
use Rattle.bt_bed.specs.model.BedLine.{fault_at_line}
use Rattle.bt_bed.specs.calls.Reading.{AnswersFault, Cause, MemberReader, is_of_line}
use Rattle.bt_bed.specs.declared.order.genome.Genome.{Genome as GenomeTable}
use Rattle.bt_bed.specs.model.Genome.{Entry, genome_of}
use Rattle.bt_lines.specs.model.Lines.{Handed, text_lines, whole_text}
use Rattle.bt_lines.specs.calls.Line.{line_feeds}
use Rattle.bt_bed.specs.calls.GenomeTable.{entries, EntryIsWrong, EntryUnread, ReadsAll, ReadingStops, StopCause, is_genome_kind}
use Rattle.bt_tool.specs.model.Report.{chromosomes_of, of_file}
use Rattle.bt_tool.specs.model.Behaviour.{behaviour_of}
use Rattle.bt_tool.specs.calls.Inputs.{CameOf, InputRead, MayHold, OfBoth, ReadsSo}
use Rattle.bt_tool.specs.calls.Run.{IsOfInput, TellsInputIf, RunsBy, AnswersNoRead, TellsNoRead, KnowsChromosomes, LacksChromosomes}
use Rattle.bt_tool.specs.inside.Feed.{Flushes, IsKeptBelow}
use Rattle.bt_tool.specs.model.Written.{IsOneOf}
use Rattle.bt_tool.specs.declared.planning.plan_type.Command.{Command}
use Rattle.bt_tool.proofs.lemmas.running.members.CursorLemmas.{ReadOf, below_bound, came_is_all, came_is_cut, past_bound, read_of}
use Rattle.bt_lines.proofs.lemmas.reader.lines.TextLemmas.{whole_count, whole_front}

-- a reader that keeps no fault keeps no failed read
pub none_tells : (kept : Option FaultValue) → kept ≡ None → TellsNoRead kept
none_tells kept none input line e = let apart : None ≡ Some (read_failed input line) = sym none ∙ e in cc

pub none_below : {S A State : Type 0} (reader : MemberReader S A State) (lines : LineReader S) → reader.fault ≡ None → IsKeptBelow reader lines
none_below reader lines none input line e = absurd (none_tells reader.fault none input line e)

-- nor does one that ran out of memory
memory_tells : (kept : Option FaultValue) → kept ≡ Some no_memory → TellsNoRead kept
memory_tells kept is input line e = memory_no_read input line (some_is no_memory (read_failed input line) (sym is ∙ e))

-- what a reader of members reports is kept by its reader of lines, if it is a failed read
module _ {S A State : Type 0} {device : Source S} {old new : MemberReader S A State} {fault : FaultValue} where
  cause_kept : {bytes : List ℕ} → Cause device old bytes fault new → (input : Input) (line : ℕ) → fault ≡ read_failed input line → line_fault new.below ≡ Some (read_failed input line)
  cause_kept (inl wrong) input line e = let kind : ReadFailed ≡ wrong.kind = ap (λ (f : FaultValue). f.kind) (sym e ∙ wrong.place) in absurd (false≢true (ap is_of_line kind ∙ wrong.of_line))
  cause_kept (inr (inl unread)) input line e = unread.fails.kept ∙ ap Some e
  cause_kept (inr (inr ran)) input line e = absurd (memory_no_read input line (sym ran.is ∙ e))

  -- and if it isn't, that one keeps none
  cause_none : {bytes : List ℕ} → Cause device old bytes fault new → TellsNoRead (Some fault) → TellsNoRead (line_fault new.below)
  cause_none (inl wrong) never = none_tells (line_fault new.below) wrong.going
  cause_none (inr (inl unread)) never = λ input line e. never input line (sym unread.fails.kept ∙ e)
  cause_none (inr (inr ran)) never =
      elim ran.checked [
        | inl kept ↦ memory_tells (line_fault new.below) kept.0
        | inr unkept ↦ none_tells (line_fault new.below) unkept.going
      ]

  pub told_kept : old.fault ≡ None → AnswersFault device old fault new → IsKeptBelow new new.below
  told_kept none answers input line e = cause_kept (answers.first none) input line (some_is fault (read_failed input line) (sym answers.kept ∙ e))

  pub told_none : old.fault ≡ None → AnswersFault device old fault new → TellsNoRead (Some fault) → TellsNoRead (line_fault new.below)
  told_none none answers never = cause_none (answers.first none) never

-- of a reader of lines itself
pub line_none : (kept : Option FaultValue) (fault : FaultValue) → kept ≡ Some fault → TellsNoRead (Some fault) → TellsNoRead kept
line_none kept fault is never input line e = never input line (sym is ∙ e)

pub kept_there : {S A State : Type 0} (reader : MemberReader S A State) (lines : LineReader S) → reader.below ≡ lines → IsKeptBelow reader lines → IsKeptBelow reader reader.below
kept_there reader lines is kept = rw is kept

-- a flush hides no failed read, unless a write failed
pub flushed_no_read : (old new : Output) (fault answer : Option FaultValue) → Flushes old fault answer new → answer ≢ Some write_failed → TellsNoRead answer → TellsNoRead fault
flushed_no_read old new fault answer flush no_write never = grind arith

-- the genome file was read, or its fault reported, and then the other inputs
module _ {A B : Type 0} (source_a : Source A) (source_b : Source B) (command : Command) (first : A) (second : Option B) (out : Output) (fault : Option FaultValue) (first_after : A)
    (second_after : Option B) (grown : Output) where
  -- the output was written by the chromosomes that were read, or the run ended with their fault
  abbrev pub WritesOutput : Result (Option GenomeTable) Fault → Type 0
  WritesOutput chromosomes = MatchResult chromosomes
      (λ table. RunsBy source_a source_b (behaviour_of command (option_map entries table)) first second out fault first_after second_after grown)
      (λ wrong. (fault ≡ Some (fault_value wrong)) × (first_after ≡ first) × (second_after ≡ second) × (grown ≡ out))

  -- if no failed read is reported, the genome file has none
  pub genome_no_read : (chromosomes : Result (Option GenomeTable) Fault) → WritesOutput chromosomes → TellsNoRead fault → AnswersNoRead chromosomes
  genome_no_read chromosomes written never = grind arith

-- Lemmas on the genome file of a run, if it has one.

module _ {G : Type 0} {device : Source G} {genome after : G} {old : LineReader G} (new : LineReader G) (source : source_of old ≡ genome) (ended : source_of new ≡ after) (input : input_of old ≡ FromGenome)
    (fresh : bytes_taken old ≡ 0) (unfed : feeds_taken old ≡ 0) (none_given : lines_given old ≡ 0) (clear : fault_kept old ≡ None) (untold : end_told old ≡ false) (all : (rest : List ℕ) → lines_coming rest old ≡ text_lines rest) (sound : IsSound device old) where
  -- what is so of the lines of each text that the file may have
  of_whole : (rest : List ℕ) (result : Result (List Entry) FaultValue) → genome_of (input_of old) (lines_coming rest old) ≡ result → chromosomes_of (Some (whole_text rest)) ≡ of_file result
  of_whole rest result is = ap of_file (ap (λ i. genome_of i (text_lines rest)) (sym input) ∙ ap (genome_of (input_of old)) (sym (all rest)) ∙ is)

  module _ {bytes : List ℕ} (hands : Hands device old bytes new) where
    unfoldable pub of_genome : ReadOf device old bytes new
    of_genome = read_of device hands untold clear

    abbrev pub read : InputRead
    read = record { bytes = bytes; told = end_told new; failed = of_genome.failed }

    reads_so : ReadsSo device genome read after
    reads_so =
        subst (λ (s : G). ReadsSo device s read after) source
        (subst (λ (s : G). ReadsSo device (source_of old) read s) ended (record { went = of_genome.reads }))

    -- if no failed read is kept, none failed
    not_failed : TellsNoRead (fault_kept new) → of_genome.failed ≡ false
    not_failed never = false_by of_genome.failed of_genome.kept
      where
        false_by : (failed : Bool) → (failed ≡ true → IsReadFailed (fault_kept new)) → failed ≡ false
        false_by true kept = let is = kept refl in absurd (never is.0 is.1 is.2)
        false_by false kept = refl

    counted : length bytes ≡ bytes_taken new
    counted = omega (arith, hands.counted, fresh)

    -- if no read failed, and the bound wasn't passed
    came_all : {handed : Handed} → CameOf read handed → fault_kept new ≡ None → IsSound device new → MayHold read handed
    came_all came going next = came_is_all came (λ e. none_failed (fault_kept new) going (of_genome.kept e)) (below_bound (length bytes) (omega (arith, counted, next.within going)))

  module _ {table : GenomeTable} (reads : ReadsAll device old new table) (next : IsSound device new) where
    abbrev hands : Hands device old reads.bytes.0 new
    hands = reads.bytes.1

    tells : (handed : Handed) → MayHold (read hands) handed → chromosomes_of (Some handed) ≡ Ok (Some (entries table))
    tells handed holds =
        let none : reads.bytes.0 ++ holds.rest ≡ reads.bytes.0 = ap (λ l. reads.bytes.0 ++ l) (holds.follows reads.told) ∙ append-nil reads.bytes.0 in
        ap (λ h. chromosomes_of (Some h)) (holds.is ∙ ap whole_text none) ∙ of_whole reads.bytes.0 (Ok (entries table)) reads.is

    tells_held : (handed : Option Handed) → OfBoth MayHold (Some (read hands)) handed → chromosomes_of handed ≡ Ok (Some (entries table))
    tells_held None holds = absurd holds
    tells_held (Some handed) holds = tells handed holds

    tells_read : (handed : Option Handed) → OfBoth CameOf (Some (read hands)) handed → chromosomes_of handed ≡ Ok (Some (entries table))
    tells_read None came = absurd came
    tells_read (Some handed) came = tells handed (came_all hands came reads.going next)

    knows_read : KnowsChromosomes device (Some genome) (Some (read hands)) (Some after) (Some table)
    knows_read = record {
      reads = reads_so hands;
      whole = tells_read;
      told = tells_held;
      named = refl;
      distinct = reads.distinct;
      served = sym (ap device.has_failed ended) ∙ reads.served ∙ ap device.has_failed source;
      no_failed = not_failed hands (none_tells (line_fault new) reads.going);
      ended = reads.told;
    }

    pub knows_all : (read : Option InputRead) × KnowsChromosomes device (Some genome) read (Some after) (Some table)
    knows_all = (Some (read hands), knows_read)

  module _ (fault : FaultValue) (bytes : (bytes : List ℕ) × Hands device old bytes new) (next : IsSound device new) where
    abbrev was : InputRead
    was = read bytes.1

    -- the bytes that were cut off by a failed read
    unread_text : EntryUnread device old bytes.0 new fault → (handed : Handed) → CameOf was handed → chromosomes_of (Some handed) ≡ Err fault
    unread_text unread handed came =
        let front = take (2 ^ 63 - 1) bytes.0 in
        let more = drop (2 ^ 63 - 1) bytes.0 ++ came.rest in
        let text : front ++ more ≡ bytes.0 ++ came.rest = sym (append_assoc front (drop (2 ^ 63 - 1) bytes.0) came.rest) ∙ ap (λ l. l ++ came.rest) (take-append-drop (2 ^ 63 - 1) bytes.0) in
        let same : line_feeds (take (2 ^ 63 - 1 - bytes_taken old) bytes.0) ≡ line_feeds front = ap (λ n. line_feeds (take (2 ^ 63 - 1 - n) bytes.0)) fresh in
        let given : lines_given new ≡ line_feeds front = omega (arith, unread.fails.cut (record { within = sound.within }), unfed, same) in
        let first : genome_of FromGenome (take (line_feeds front) (text_lines (front ++ more))) ≡ Ok unread.given =
        ap (λ t. genome_of FromGenome (take (line_feeds front) (text_lines t))) text
        ∙ ap (λ n. genome_of FromGenome (take n (text_lines (bytes.0 ++ came.rest)))) (sym (omega (arith, given, none_given)))
        ∙ ap (λ i. genome_of i (take (lines_given new - lines_given old) (text_lines (bytes.0 ++ came.rest)))) (sym input)
        ∙ ap (λ l. genome_of (input_of old) (take (lines_given new - lines_given old) l)) (sym (all (bytes.0 ++ came.rest))) ∙ unread.passed came.rest came.follows in
        let kept : IsReadFailed (fault_kept new) = (input_of old, suc (lines_given new), unread.fails.kept ∙ ap Some unread.fails.is) in
        let cut : handed ≡ record { text = front; is_cut = true } = came_is_cut came (λ e. past_bound (length bytes.0) (omega (arith, counted bytes.1, (of_genome bytes.1).past e kept))) in
        grind (arith, whole_front, whole_count)

    wrong_text : EntryIsWrong device old bytes.0 new fault → (handed : Handed) → MayHold was handed → chromosomes_of (Some handed) ≡ Err fault
    wrong_text wrong handed holds = ap (λ h. chromosomes_of (Some h)) holds.is ∙ of_whole (bytes.0 ++ holds.rest) (Err fault) (wrong.is holds.rest holds.follows)

    whole_by : StopCause device old bytes.0 new fault → fault ≢ no_memory → (handed : Option Handed) → OfBoth CameOf (Some was) handed → chromosomes_of handed ≡ Err fault
    whole_by cause memory None reads = absurd reads
    whole_by (inl wrong) memory (Some handed) came = wrong_text wrong handed (came_all bytes.1 came wrong.going next)
    whole_by (inr (inl unread)) memory (Some handed) came = unread_text unread handed came
    whole_by (inr (inr ran)) memory (Some handed) came = absurd (memory ran.is)

    told_by : StopCause device old bytes.0 new fault → (handed : Option Handed) → OfBoth MayHold (Some was) handed → IsOfInput (Some fault) → chromosomes_of handed ≡ Err fault
    told_by cause None holds of_input = absurd holds
    told_by (inl wrong) (Some handed) holds of_input = wrong_text wrong handed holds
    told_by (inr (inl unread)) (Some handed) holds of_input = absurd (of_input.no_read (input_of old) (suc (lines_given new)) (ap Some unread.fails.is))
    told_by (inr (inr ran)) (Some handed) holds of_input = absurd (of_input.no_growth (ap Some ran.is))

    cause_by : EntryUnread device old bytes.0 new fault → (failed : Bool) → (of_genome bytes.1).failed ≡ failed → (device.has_failed (source_of new) ≡ true) ⊎ (2 ^ 63 ≤ bytes_taken new)
        → (((of_genome bytes.1).failed ≡ true) × (device.has_failed after ≡ true)) ⊎ (2 ^ 63 ≤ length bytes.0)
    cause_by unread true e (inl failed) = inl (e, ap device.has_failed (sym ended) ∙ failed)
    cause_by unread true e (inr past) = inr (omega (arith, counted bytes.1, past))
    cause_by unread false e cause = inr (omega (arith, counted bytes.1, (of_genome bytes.1).past e (input_of old, suc (lines_given new), unread.fails.kept ∙ ap Some unread.fails.is)))

    named_by : StopCause device old bytes.0 new fault → TellsInputIf device (IsOneOf is_genome_kind) FromGenome (Some was) (Some after) fault ⊎ (fault ≡ no_memory)
    named_by (inl wrong) = inl (inl (record { line = lines_given new; kind = wrong.kind; of_kind = wrong.of_line; is = wrong.place ∙ ap (λ i. fault_at_line i (lines_given new) wrong.kind) input }))
    named_by (inr (inl unread)) = inl (inr (record {
      line = suc (lines_given new);
      is = unread.fails.is ∙ ap (λ i. read_failed i (suc (lines_given new))) input;
      cause = cause_by unread (of_genome bytes.1).failed refl unread.fails.cause;
    }))
    named_by (inr (inr ran)) = inr ran.is

    no_write_by : StopCause device old bytes.0 new fault → fault ≢ write_failed
    no_write_by (inl wrong) e = absurd (false≢true (ap (λ (f : FaultValue). is_genome_kind f.kind) (sym e ∙ wrong.place) ∙ wrong.of_line))
    no_write_by (inr (inl unread)) e = let apart : WriteFailed ≡ ReadFailed = ap (λ (f : FaultValue). f.kind) (sym e ∙ unread.fails.is) in cc
    no_write_by (inr (inr ran)) e = let apart : WriteFailed ≡ OutOfMemory = ap (λ (f : FaultValue). f.kind) (sym e ∙ ran.is) in cc

    -- if no failed read is reported, none is kept
    none_by : StopCause device old bytes.0 new fault → TellsNoRead (Some fault) → TellsNoRead (line_fault new)
    none_by (inl wrong) never = none_tells (line_fault new) wrong.going
    none_by (inr (inl unread)) never = line_none (line_fault new) fault unread.fails.kept never
    none_by (inr (inr ran)) never = λ other line e. ran.no_read (other, line, e)

    lacks_by : StopCause device old bytes.0 new fault → LacksChromosomes device (Some genome) (Some was) (Some after) fault
    lacks_by cause = record { reads = reads_so bytes.1; whole = λ handed reads memory. whole_by cause memory handed reads; told = told_by cause; named = named_by cause; no_write = no_write_by cause; no_failed = λ never. not_failed bytes.1 (none_by cause never) }

  pub lacks_read : {fault : FaultValue} → ReadingStops device old new fault → IsSound device new → (read : Option InputRead) × LacksChromosomes device (Some genome) read (Some after) fault
  lacks_read {fault} stops next = (Some (read stops.bytes.1), lacks_by fault stops.bytes next (stops.first clear))
