-- Lemmas on a run, from its devices to the report on what its inputs hand over.
use Rattle.bt_lines.proofs.Std.{common_steps, ◌≡◌, ℕ, Bool, true, false, List, [], ◌++◌, length, Option, None, Some, Ok, Err, refl, sym, ap, ◌∙◌, subst, append-nil, append_assoc, arith, inl, inr, ◌⊎◌, ◌≢◌, Result, is_some, option_map, append_cancel_left, ◌≤◌, ◌+◌}
use Rattle.bt_lines.specs.declared.device.Sink.{Ghosts as Sink}
use Rattle.bt_lines.specs.declared.device.Source.{Ghosts as Source}
use Rattle.bt_lines.proofs.lemmas.reader.block.ReadsLemmas.{some_is}
use Rattle.bt_tool.proofs.lemmas.running.feed.FeedLemmas.{took_more_than}
use Rattle.bt_lines.proofs.lemmas.Writer.{grows_both, grows_nothing}
use Rattle.bt_lines.specs.model.Fault.{FaultValue}
use Rattle.bt_lines.specs.calls.Faults.{write_failed, no_memory}
use Rattle.bt_lines.specs.model.Lines.{Handed}
use Rattle.bt_lines.specs.calls.Names.{fault_value}
use Rattle.bt_lines.specs.calls.Output.{Output, IsPrefixOf, Grows}
use Rattle.bt_lines.specs.declared.fault.Fault.{Fault}
use Rattle.bt_lines.specs.declared.fault.Input.{Input}
use Rattle.bt_lines.specs.declared.fault.Input.TheVariants.{First, Second, Genome as FromGenome}
use Rattle.bt_lines.specs.declared.fault.Place.{Place}
use Rattle.bt_bed.specs.model.Genome.{Entry}
use Rattle.bt_bed.specs.calls.GenomeTable.{entries, is_genome_kind}
use Rattle.bt_bed.specs.model.Good.{good_after}
use Rattle.bt_bed.specs.declared.order.genome.Genome.{Genome}
use Rattle.bt_runs.specs.model.Depth.{settled_depths}
use Rattle.bt_runs.specs.model.Gaps.{settled_gaps}
use Rattle.bt_bed.specs.model.Meeting.{Report}
use Rattle.bt_tool.specs.model.Written.{IsOneOf}
use Rattle.bt_tool.specs.calls.Run.{InputsRead, KnowsChromosomes, LacksChromosomes, ReadsChromosomes, IsFaultButWrite, IsOfInput, ReadsNoFurther, TellsDevice, TellsInput, TellsInputIf, TellsNoRead, RunsBy, Runs, TellsOther, ShowsReport}
use Rattle.bt_tool.specs.inside.Feed.{Flushes, FlushesAll, FlushFails, StaysFailed}
use Rattle.bt_tool.specs.model.Report.{Inputs, behaviour_on, chromosomes_of, report_of, report_on, answer_of, report, texts_of}
use Rattle.bt_tool.specs.model.Behaviour.{behaviour_of}
use Rattle.bt_tool.specs.calls.Inputs.{InputRead}
use Rattle.bt_tool.specs.calls.CommandLine.{ReportsAnswer}
use Rattle.bt_tool.specs.declared.planning.plan_type.Command.{Command}
use Rattle.bt_tool.proofs.lemmas.running.whole.OwnFailureLemmas.{WritesOutput, flushed_no_read}
use Rattle.bt_tool.proofs.lemmas.running.feed.WritingLemmas.{near_as, none_failed, none_read, none_up_to, reads_none, reads_nothing}
use Rattle.bt_tool.specs.model.Options.{options}
use Rattle.bt_tool.specs.model.Table.{Word}
use Rattle.bt_tool.specs.declared.options.usage.Usage.{Usage}
use Rattle.bt_runs.proofs.lemmas.merge.StrandSettling.{no_strand_settled}

-- whether a fault lies in the genome file
abbrev is_of_genome : Input → Bool
is_of_genome FromGenome = true
is_of_genome First = false
is_of_genome Second = false

abbrev lies_in_genome : Option Place → Bool
lies_in_genome None = false
lies_in_genome (Some place) = is_of_genome place.input

lies : (o : Option Place) (place : Place) → o ≡ Some place → place.input ≡ FromGenome → lies_in_genome o ≡ true
lies o place e is = ap lies_in_genome e ∙ ap is_of_genome is

-- what a sink took is a prefix of the output, if it's a prefix of what was put
cut_front : (before took front rest output : List ℕ) → Grows before took → output ≡ front ++ rest → IsPrefixOf took before front
    → (front : List ℕ) × (rest : List ℕ) × (took ≡ before ++ front) × (output ≡ front ++ rest)
unfolding IsPrefixOf
cut_front before took front rest output g o f =
    let same : front ≡ g.0 ++ f.0 = append_cancel_left before front (g.0 ++ f.0) (sym f.1 ∙ ap (λ l. l ++ f.0) g.1 ∙ append_assoc before g.0 f.0) in
    (g.0, f.0 ++ rest, g.1, o ∙ ap (λ l. l ++ rest) same ∙ append_assoc g.0 f.0 rest)

-- a fault from before a flush
module _ (out mid new : Output) (fault answer : Option FaultValue) where
  front_by : {output : List ℕ} → out.put ≡ out.took → Grows out.took mid.took → Grows mid.took new.took
      → (fault ≢ Some write_failed → (front : List ℕ) × (rest : List ℕ) × (output ≡ front ++ rest) × (mid.put ≡ out.put ++ front))
      → (fault ≡ Some write_failed → (front : List ℕ) × (rest : List ℕ) × (output ≡ front ++ rest) × IsPrefixOf mid.took out.put front)
      → (FlushesAll mid fault answer new ⊎ FlushFails mid fault answer new) ⊎ StaysFailed mid fault answer new
      → (front : List ℕ) × (rest : List ℕ) × (new.took ≡ out.took ++ front) × (output ≡ front ++ rest)
  unfolding IsPrefixOf
  front_by same grows more kept cut (inl (inl all)) =
      let k = kept all.was in
      (k.0, k.1, all.taken ∙ k.3 ∙ ap (λ l. l ++ k.0) same, k.2)
  front_by {output} same grows more kept cut (inl (inr fails)) =
      let k = kept fails.was in
      cut_front out.took new.took k.0 k.1 output (grows_both out.took mid.took new.took grows more) k.2
      (fails.front.0, fails.front.1 ∙ append-nil mid.put ∙ k.3 ∙ ap (λ l. l ++ k.0) same)
  front_by {output} same grows more kept cut (inr stays) =
      let c = cut stays.was in
      cut_front out.took new.took c.0 c.1 output (grows_both out.took mid.took new.took grows more) c.2
      (c.3.0, ap (λ (o : Output). o.took ++ c.3.0) stays.unchanged ∙ c.3.1 ∙ ap (λ l. l ++ c.0) same)

  whole_by : (told : Option FaultValue) (whole : List ℕ) → (fault ≢ Some write_failed → fault ≢ Some no_memory → (fault ≡ told) × (mid.put ≡ whole)) → (fault ≡ Some write_failed → mid.sink_has_failed ≡ true)
      → new.sink_has_failed ≡ false → answer ≢ Some no_memory → (FlushesAll mid fault answer new ⊎ FlushFails mid fault answer new) ⊎ StaysFailed mid fault answer new
      → (answer ≡ told) × (new.took ≡ whole)
  whole_by told whole gives writing served memory p1 = grind arith

  told_by : (told : Option FaultValue) (whole : List ℕ) → (IsOfInput fault → (fault ≡ told) × (mid.put ≡ whole)) → IsOfInput answer → (FlushesAll mid fault answer new ⊎ FlushFails mid fault answer new) ⊎ StaysFailed mid fault answer new
      → (answer ≡ told) × (new.took ≡ whole)
  told_by told whole gives is p1 = grind arith

  -- what was put before the flush was taken with it, unless a write failed
  pub kept_by : (size : ℕ) → (mid.has_failed ≡ true) ⊎ (size ≤ length mid.put) → (FlushesAll mid fault answer new ⊎ FlushFails mid fault answer new) ⊎ StaysFailed mid fault answer new
      → (answer ≡ Some write_failed) ⊎ (size ≤ length new.took)
  kept_by size kept p1 = grind arith

  -- and at a fault nothing else
  pub exact_by : (bytes : List ℕ) → (IsFaultButWrite fault → mid.put ≡ bytes) → IsFaultButWrite answer → (FlushesAll mid fault answer new ⊎ FlushFails mid fault answer new) ⊎ StaysFailed mid fault answer new
      → new.took ≡ bytes
  exact_by bytes is stops p1 = grind arith

  -- unless a failed write is reported, the fault is the one from before, and the sink has served in the flush too
  pub served_by : (FlushesAll mid fault answer new ⊎ FlushFails mid fault answer new) ⊎ StaysFailed mid fault answer new → answer ≢ Some write_failed → (fault ≡ answer) × (new.sink_has_failed ≡ mid.sink_has_failed)
  served_by (inl (inl all)) other = (sym all.same_fault, all.sink_served)
  served_by (inl (inr fails)) other = absurd (other fails.is)
  served_by (inr stays) other = absurd (other stays.is)

  -- without a fault there was none before
  pub none_before : (FlushesAll mid fault answer new ⊎ FlushFails mid fault answer new) ⊎ StaysFailed mid fault answer new → answer ≡ None → fault ≡ None
  none_before ends none = (served_by ends (λ is. (let apart : None ≡ Some write_failed = sym none ∙ is in cc))).0 ∙ none

  -- the fault that is reported is the one before the flush, or a failed write
  pub named_by : {P : FaultValue → Type 0} → ((t : FaultValue) → fault ≡ Some t → P t ⊎ TellsDevice mid.sink_has_failed mid.sink_last_failed t)
      → (FlushesAll mid fault answer new ⊎ FlushFails mid fault answer new) ⊎ StaysFailed mid fault answer new
      → (t : FaultValue) → answer ≡ Some t → P t ⊎ TellsDevice new.sink_has_failed new.sink_last_failed t
  named_by named p1 t e = grind arith

  -- where it lies
  pub placed_by : (t : FaultValue) → answer ≡ Some t → lies_in_genome t.place ≡ true
      → (FlushesAll mid fault answer new ⊎ FlushFails mid fault answer new) ⊎ StaysFailed mid fault answer new → fault ≡ Some t
  placed_by t e lies p1 = grind arith

-- no line settles nothing
none_settle : (command : Command) (chromosomes : Option (List Entry)) (second : Option Handed) → (behaviour_of command chromosomes).settles second [] ≡ []
unfolding good_after settled_gaps settled_depths
none_settle command chromosomes second = grind (arith, no_strand_settled)

-- and none is at fault
none_at_fault : (command : Command) (chromosomes : Result (Option (List Entry)) FaultValue) → (behaviour_on command chromosomes).faults [] ≡ None
unfolding good_after
none_at_fault command chromosomes = grind arith

-- chromosomes that were read aren't at fault
other_chromosomes : (chromosomes : Result (Option (List Entry)) FaultValue) (entries : Option (List Entry)) (wrong : FaultValue) → chromosomes ≡ Ok entries → chromosomes ≡ Err wrong → ⊥
other_chromosomes chromosomes entries wrong o e = cc

-- there are chromosomes exactly if a table of them is there
named_by_table : (table : Option Genome) → is_some (option_map entries table) ≡ is_some table
named_by_table None = refl
named_by_table (Some table) = refl

-- a failed write is reported only if the sink failed
write_by : {P : Type 0} (b last : Bool) → (P → ⊥) → P ⊎ TellsDevice b last write_failed → b ≡ true
write_by b last other p1 = grind arith

-- an input that wasn't touched was read at most up to its first line
near_untouched : (Beside : Type 0) → Beside → (command : Command) (chromosomes : Result (Option (List Entry)) FaultValue) (second : Option Handed) {text before more : List ℕ} → Grows before more
    → (Failed Stops : Type 0) {later : List ℕ} → Failed ⊎ (length (before ++ []) ≤ length later) → (Stops → later ≡ before ++ [])
    → ReadsNoFurther 1 Beside (behaviour_on command chromosomes).faults ((behaviour_on command chromosomes).settles second) text [] before more Failed Stops later
near_untouched Beside has command chromosomes second g Failed Stops kept exact = grind (arith, common_steps, none_settle, none_at_fault, (ap length g.1))

-- a run writes to an output over a sink, which it gives back
pub record WritesOver {K : Type 0} (sink : Sink K) (out out_after : K) (begun new : Output) : Type 0 where
  pub put : begun.put ≡ sink.took out
  pub took : begun.took ≡ sink.took out
  pub served : begun.sink_has_failed ≡ sink.has_failed out
  pub took_after : sink.took out_after ≡ new.took
  pub failed_after : sink.has_failed out_after ≡ new.sink_has_failed
  pub last_after : sink.last_failed out_after ≡ new.sink_last_failed

module _ {G A B K : Type 0} (source_g : Source G) (source_a : Source A) (source_b : Source B) {sink : Sink K} (command : Command) (genome genome_after : Option G) (first first_after : A) (second second_after : Option B)
    {out out_after : K} {begun mid new : Output} (writes_over : WritesOver sink out out_after begun new) {fault answer : Option FaultValue} (flushes : Flushes mid fault answer new) where
  begun_same : begun.put ≡ begun.took
  begun_same = writes_over.put ∙ sym writes_over.took

  abbrev RunsSo : Type 0
  RunsSo = Runs source_g source_a source_b sink command genome first second out answer genome_after first_after second_after out_after

  abbrev GenomeTells : InputsRead → FaultValue → Type 0
  GenomeTells read t = TellsInputIf source_g (IsOneOf is_genome_kind) FromGenome read.genome genome_after t

  abbrev OthersTell : InputsRead → FaultValue → Type 0
  OthersTell read t = TellsOther source_g source_a source_b sink command genome read first_after second_after t

  -- the chromosomes were read, and the output written by them
  module _ (table : Option Genome) {genome_read : Option InputRead} (knows : KnowsChromosomes source_g genome genome_read genome_after table) (writes : RunsBy source_a source_b (behaviour_of command (option_map entries table)) first second begun fault first_after second_after mid) where
    abbrev chromosomes : Option (List Entry)
    chromosomes = option_map entries table

    -- what was read of the inputs
    abbrev read : InputsRead
    read = record { genome = genome_read; first = writes.one; second = writes.two }

    abbrev reported : Inputs → Report
    reported inputs = (behaviour_of command chromosomes).report inputs.first inputs.second

    abbrev Tells : FaultValue → Type 0
    Tells t = TellsInput source_a (behaviour_of command chromosomes).FirstKinds First writes.one first_after t ⊎ TellsInputIf source_b (behaviour_of command chromosomes).SecondKinds Second writes.two second_after t

    write_of_others : Tells write_failed → ⊥
    write_of_others p1 = grind arith

    others_elsewhere : (t : FaultValue) → Tells t ⊎ TellsDevice mid.sink_has_failed mid.sink_last_failed t → lies_in_genome t.place ≡ true → ⊥
    others_elsewhere t p1 lies = grind arith

    sink_failed : fault ≡ Some write_failed → mid.sink_has_failed ≡ true
    sink_failed e = write_by mid.sink_has_failed mid.sink_last_failed write_of_others (writes.named write_failed e)

    of_others : (t : FaultValue) → Tells t ⊎ TellsDevice mid.sink_has_failed mid.sink_last_failed t → (GenomeTells read t ⊎ OthersTell read t) ⊎ TellsDevice mid.sink_has_failed mid.sink_last_failed t
    of_others t (inl tells) = inl (inr (record { chromosomes = chromosomes; named = named_by_table table ∙ knows.named; of_file = knows.told; tells = tells }))
    of_others t (inr device) = inr device

    report_is : (inputs : Inputs) → chromosomes_of inputs.genome ≡ Ok chromosomes → report_of command inputs ≡ reported inputs
    unfolding report_of
    report_is inputs e = ap (λ c. report_on command c inputs.first inputs.second) e

    pub runs_written : RunsSo
    runs_written = record {
      read = read;
      reads = record { genome_file = knows.reads; first_input = writes.one_reads; second_input = writes.two_reads };
      whole = λ inputs reads served memory.
          let same = report_is inputs (knows.whole inputs.genome reads.genome_file) in
          let w = whole_by begun mid new fault answer (reported inputs).fault (begun.put ++ (reported inputs).output)
          (λ write growth. writes.whole inputs.first inputs.second reads.first_input reads.second_input write growth)
          sink_failed (sym writes_over.failed_after ∙ served) memory flushes.ends in
          subst (λ (r : Report). (answer ≡ r.fault) × (sink.took out_after ≡ sink.took out ++ r.output)) (sym same) (w.0, writes_over.took_after ∙ w.1 ∙ ap (λ l. l ++ (reported inputs).output) writes_over.put);
      told = λ inputs holds is.
          let same = report_is inputs (knows.told inputs.genome holds.genome_file) in
          let w = told_by begun mid new fault answer (reported inputs).fault (begun.put ++ (reported inputs).output)
          (λ of_input. writes.told inputs.first inputs.second holds.first_input holds.second_input of_input) is flushes.ends in
          subst (λ (r : Report). (answer ≡ r.fault) × (sink.took out_after ≡ sink.took out ++ r.output)) (sym same) (w.0, writes_over.took_after ∙ w.1 ∙ ap (λ l. l ++ (reported inputs).output) writes_over.put);
      prefix = λ inputs holds.
          let f = front_by begun mid new fault answer begun_same writes.grows flushes.grows
          (λ other. writes.kept other inputs.first inputs.second holds.first_input holds.second_input) (λ is. writes.cut is inputs.first inputs.second holds.first_input holds.second_input) flushes.ends in
          (f.0, f.1, writes_over.took_after ∙ f.2 ∙ ap (λ l. l ++ f.0) writes_over.took, ap (λ (r : Report). r.output) (report_is inputs (knows.told inputs.genome holds.genome_file)) ∙ f.3);
      near = (
        writes.near.0,
        λ inputs holds.
            let near = writes.near.1 inputs.first inputs.second holds.first_input holds.second_input in
            rw (knows.told inputs.genome holds.genome_file, writes_over.took_after, ← writes_over.put) (near_as _ _ (λ beside. beside) (λ lines. refl) (λ lines. refl) (mid.has_failed ≡ true)
            (answer ≡ Some write_failed) (IsFaultButWrite fault) (IsFaultButWrite answer) (λ size. took_more_than mid.took new.took size flushes.grows) (λ size kept. kept_by begun mid new fault answer size kept flushes.ends)
            (λ bytes is stops. exact_by begun mid new fault answer bytes is stops flushes.ends) near),
      );
      ended = λ none. (let ends = writes.ended (none_before begun mid new fault answer flushes.ends none) in (knows.ended, ends.0, ends.1));
      served = λ none. (let serves = writes.served (none_before begun mid new fault answer flushes.ends none) in (knows.served, serves.0, serves.1));
      no_failed_write = λ other.
          let was = served_by begun mid new fault answer flushes.ends other in
          writes_over.failed_after ∙ was.1 ∙ writes.no_failed_write (λ is. other (sym was.0 ∙ is)) ∙ writes_over.served;
      no_failed = λ no_write never. (let none = flushed_no_read mid new fault answer flushes no_write never in (knows.no_failed, (writes.no_failed none).0, (writes.no_failed none).1));
      after_genome = λ file holds wrong e. absurd (other_chromosomes (chromosomes_of file) chromosomes wrong (knows.told file holds) e);
      untouched = λ t e place at is.
          let there = lies t.place place at is in
          absurd (others_elsewhere t (writes.named t (placed_by begun mid new fault answer t e there flushes.ends)) there);
      begun = inr (table, knows);
      named = λ t e.
          rw (writes_over.failed_after, writes_over.last_after) (named_by begun mid new fault answer (λ t e. of_others t (writes.named t e)) flushes.ends t e);
    }

  -- the genome file is at fault, and nothing else was touched
  module _ (wrong : FaultValue) {genome_read : Option InputRead} (lacks : LacksChromosomes source_g genome genome_read genome_after wrong) (stops : (fault ≡ Some wrong) × (first_after ≡ first) × (second_after ≡ second) × (mid ≡ begun)) where
    -- nothing was read of the others
    abbrev read_wrong : InputsRead
    read_wrong = record { genome = genome_read; first = record { bytes = []; told = false; failed = false }; second = none_read second }

    report_wrong : (inputs : Inputs) → chromosomes_of inputs.genome ≡ Err wrong → report_of command inputs ≡ record { output = []; fault = Some wrong }
    unfolding report_of
    report_wrong inputs e = ap (λ c. report_on command c inputs.first inputs.second) e

    begun_put : mid.put ≡ sink.took out ++ []
    begun_put = ap (λ (o : Output). o.put) stops.3 ∙ writes_over.put ∙ sym (append-nil (sink.took out))

    mid_grows : Grows begun.took mid.took
    mid_grows = subst (λ (o : Output). Grows begun.took o.took) (sym stops.3) (grows_nothing begun.took)

    no_write : fault ≡ Some write_failed → ⊥
    no_write e = lacks.no_write (some_is wrong write_failed (sym stops.0 ∙ e))

    no_end : answer ≡ None → ⊥
    no_end none = let apart : None ≡ Some wrong = sym (none_before begun mid new fault answer flushes.ends none) ∙ stops.0 in cc

    genome_named : (t : FaultValue) → TellsInputIf source_g (IsOneOf is_genome_kind) FromGenome genome_read genome_after wrong ⊎ (wrong ≡ no_memory) → wrong ≡ t
        → (GenomeTells read_wrong t ⊎ OthersTell read_wrong t) ⊎ TellsDevice mid.sink_has_failed mid.sink_last_failed t
    genome_named t (inl tells) e = inl (inl (subst (GenomeTells read_wrong) e tells))
    genome_named t (inr ran) e = inr (inr (sym e ∙ ran))

    pub runs_wrong : RunsSo
    runs_wrong = record {
      read = read_wrong;
      reads = record { genome_file = lacks.reads; first_input = rw stops.1 (reads_nothing source_a first); second_input = rw stops.2 (reads_none source_b second) };
      whole = λ inputs reads served memory.
          let w = whole_by begun mid new fault answer (Some wrong) (sink.took out ++ [])
          (λ write growth. (stops.0, begun_put)) (λ e. absurd (no_write e)) (sym writes_over.failed_after ∙ served) memory flushes.ends in
          let same = report_wrong inputs (lacks.whole inputs.genome reads.genome_file (λ e. memory (w.0 ∙ ap Some e))) in
          subst (λ (r : Report). (answer ≡ r.fault) × (sink.took out_after ≡ sink.took out ++ r.output)) (sym same) (w.0, writes_over.took_after ∙ w.1);
      told = λ inputs holds is.
          let w = told_by begun mid new fault answer (Some wrong) (sink.took out ++ []) (λ of_input. (stops.0, begun_put)) is flushes.ends in
          let same = report_wrong inputs (lacks.told inputs.genome holds.genome_file (subst IsOfInput w.0 is)) in
          subst (λ (r : Report). (answer ≡ r.fault) × (sink.took out_after ≡ sink.took out ++ r.output)) (sym same) (w.0, writes_over.took_after ∙ w.1);
      prefix = λ inputs holds.
          let f = front_by begun mid new fault answer begun_same mid_grows flushes.grows
          (λ other. ([], (report_of command inputs).output, refl, ap (λ (o : Output). o.put) stops.3 ∙ sym (append-nil begun.put))) (λ is. absurd (no_write is)) flushes.ends in
          (f.0, f.1, writes_over.took_after ∙ f.2 ∙ ap (λ l. l ++ f.0) writes_over.took, f.3);
      near = (
        1,
        λ inputs holds.
            rw writes_over.took_after (near_untouched _ (λ within. none_up_to _ second)
            command (chromosomes_of inputs.genome) inputs.second (subst (λ l. Grows l new.took) writes_over.took (grows_both begun.took mid.took new.took mid_grows flushes.grows))
            (answer ≡ Some write_failed) (IsFaultButWrite answer) (kept_by begun mid new fault answer (length (sink.took out ++ [])) (inr (omega (arith, ap length begun_put))) flushes.ends)
            (λ other. exact_by begun mid new fault answer (sink.took out ++ []) (λ was. begun_put) other flushes.ends)),
      );
      ended = λ none. absurd (no_end none);
      served = λ none. absurd (no_end none);
      no_failed_write = λ other. writes_over.failed_after ∙ (served_by begun mid new fault answer flushes.ends other).1 ∙ ap (λ (o : Output). o.sink_has_failed) stops.3 ∙ writes_over.served;
      no_failed = λ no_write never. (lacks.no_failed (subst TellsNoRead stops.0 (flushed_no_read mid new fault answer flushes no_write never)), refl, none_failed second);
      after_genome = λ file holds wrong e. (stops.1, stops.2);
      untouched = λ t e place at is. (stops.1, stops.2);
      begun = inl (stops.1, stops.2);
      named = λ t e.
          rw (writes_over.failed_after, writes_over.last_after) (named_by begun mid new fault answer (λ t e. genome_named t lacks.named (some_is wrong t (sym stops.0 ∙ e))) flushes.ends t e);
    }

  pub runs_by : (chromosomes : Result (Option Genome) Fault) → ReadsChromosomes source_g genome chromosomes genome_after → WritesOutput source_a source_b command first second begun fault first_after second_after mid chromosomes → RunsSo
  runs_by (Ok table) knows writes = runs_written table knows.1 writes
  runs_by (Err wrong) lacks stops = runs_wrong (fault_value wrong) lacks.1 stops

-- What a user sees of a run is the report.

pub usage_reported : (words : List Word) (usage : Usage) → options words ≡ Err usage → ReportsAnswer words (Err usage)
unfolding report
usage_reported words usage e = λ genome first second. ap (λ answer. answer_of words answer genome first second) e

module _ {G A B K : Type 0} (source_g : Source G) (source_a : Source A) (source_b : Source B) (sink : Sink K) where
  pub shows_report : ShowsReport source_g source_a source_b sink
  unfolding report
  shows_report words plan genome first second out fault genome_after first_after second_after out_after genome_text first_text second_text asked runs read empty served memory =
      let gives = runs.whole (texts_of plan genome_text first_text second_text) read served memory in
      grind arith
