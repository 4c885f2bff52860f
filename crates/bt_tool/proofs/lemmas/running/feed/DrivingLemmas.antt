-- Lemmas on driving an engine, from the records that it takes to the report on what its input hands over.
use Rattle.bt_lines.proofs.Std.{false, ◌≡◌, ℕ, suc, ◌-◌, true, List, [], ◌++◌, take, Option, None, Some, Ok, refl, sym, ap, ◌∙◌, subst, append-nil, append_assoc, arith, inl, inr, ◌⊎◌, ◌≢◌, ⊤, map-append, Bool, ◌∷◌, flat_map-append}
use Rattle.bt_lines.specs.declared.device.Source.{Ghosts as Source}
use Rattle.bt_lines.proofs.lemmas.reader.block.ReadsLemmas.{some_is}
use Rattle.bt_lines.proofs.lemmas.Writer.{grows_both}
use Rattle.bt_lines.specs.model.Fault.{FaultValue, read_failed}
use Rattle.bt_lines.specs.calls.Faults.{write_failed, no_memory}
use Rattle.bt_lines.specs.model.Lines.{Handed, whole_text, text_lines, TextLine}
use Rattle.bt_lines.specs.calls.Output.{Output, IsPrefixOf, HoldsBlock, FailsToAdd, Grown, SinkFailed}
use Rattle.bt_lines.specs.calls.Reader.{Hands, source_of, input_of, lines_given, GivesEnd, GivesFault, GivesLine, IsKept, IsSound, bytes_taken, end_told, fault_kept, feeds_taken, lines_coming}
use Rattle.bt_lines.specs.declared.fault.Input.TheVariants.{First}
use Rattle.bt_lines.specs.declared.fault.Kind.{Kind}
use Rattle.bt_bed.specs.model.Feature.{Feature, intervals_of, Interval}
use Rattle.bt_bed.specs.calls.Orders.{AreNonEmpty, IsTotal, ArePlaced}
use Rattle.bt_bed.specs.model.BedLine.{fault_at_line, interval_line, interval_lines}
use Rattle.bt_bed.specs.model.Good.{Format, Good, Member, good, good_handed, items_in, bed_format}
use Rattle.bt_bed.proofs.lemmas.read.good.SaidLemmas.{first_from}
use Rattle.bt_lines.proofs.lemmas.reader.lines.TextLemmas.{lines_are_numbered}
use Rattle.bt_bed.specs.calls.Reading.{IsBeyond, MemberReader}
use Rattle.bt_bed.specs.model.Order.{Order}
use Rattle.bt_bed.specs.model.Sorted.{sorting_of}
use Rattle.bt_bed.specs.calls.SortedReader.{view_with}
use Rattle.bt_bed.specs.calls.Records.{order_in, view_of}
use Rattle.bt_runs.specs.calls.Engine.{SettledBegins, SettledStays}
use Rattle.bt_bed.specs.declared.order.ChromOrder.{Ghosts}
use Rattle.bt_bed.specs.declared.read.records.Records.{Records}
use Rattle.bt_bed.proofs.lemmas.Definitions.{placed_good, non_empty_good, placed_lines}
use Rattle.bt_tool.specs.calls.Run.{IsFaultButWrite, IsReported, IsWithin, ReadsNoFurther, TellsDevice, TellsInput, TellsNoRead, RunsBy, RunsAlone}
use Rattle.bt_tool.specs.model.Behaviour.{of_members, of_records}
use Rattle.bt_tool.specs.calls.Inputs.{InputRead, MayHold, OfBoth}
use Rattle.bt_tool.proofs.lemmas.running.members.CursorLemmas.{Came, BeginsAt, at_whole, came_whole, good_whole, handed_to, not_failed, read, reads_so, says_fault, begins_over, tells_read}
use Rattle.bt_tool.specs.inside.Feed.{BeginsWith, FeedStopCause, WhateverComes, CutsLines, PutsLines, FeedsAll, FeedsUpTo, TookButBlock, IsReadFor, member_items, LineRefused, sam_reader, IsFresh, IsKeptBelow, PassesMembers}
use Rattle.bt_bed.specs.model.Meeting.{Report}
use Rattle.bt_tool.specs.model.Written.{members_report, members_settle, report_by, Written, IsOneOf, alignment_lines, alignments_written, merge_written, pooled_written, coverage_written}
use Rattle.bt_tool.proofs.lemmas.running.feed.FeedLemmas.{GoesOn, front_all, took_later, Fed, fails_writing, fed_all, fed_none, fed_up_to, goes_same, put_more, text_grows}
use Rattle.bt_tool.proofs.lemmas.running.feed.WritingLemmas.{is_whole, alone_writes}
use Rattle.bt_tool.proofs.lemmas.running.members.SeenLemmas.{PutsFront, puts_front}
use Rattle.std.specs.Option.{option_map_or}
use Rattle.bt_lines.specs.declared.fault.Input.{Input}
use Rattle.bt_lines.specs.declared.reader.line_reader.LineReader.{LineReader}
use Rattle.bt_seq.specs.model.Alignment.{Alignment, alignment_of, sam_format, is_sam_kind}
use Rattle.bt_seq.specs.model.BedLines.{bed_lines}
use Rattle.bt_seq.specs.calls.Sam.{Converting}
use Rattle.bt_seq.proofs.lemmas.Sam.{kinds_of_lines, wrong_kinds}
use Rattle.bt_tool.proofs.lemmas.running.whole.OwnFailureLemmas.{none_tells}
use Rattle.bt_tool.proofs.lemmas.running.members.MemberLemmas.{IsStopped, came, passes_none, passes_some, read_line}
use Rattle.bt_bed.proofs.lemmas.read.good.ReadingLemmas.{Going as Steps, going_end, going_start as steps_start, going_unread, going_wrong, good_at_first}
use Rattle.bt_bed.specs.model.Genome.{Entry}
use Rattle.bt_runs.specs.model.Gaps.{settled_gaps}
use Rattle.bt_runs.specs.calls.Complementing.{AreInGenomeOrder as AreTakenBy}
use Rattle.bt_runs.specs.model.Merged.{merged_runs, places_of, settled_strand_runs, strand_runs}
use Rattle.bt_runs.specs.calls.MergedRuns.{AreMergeable, settled_runs}
use Rattle.bt_runs.specs.calls.Merging.{merge_begun, merge_engine}
use Rattle.bt_runs.specs.declared.merge.Kind.{Kind as MergeKind}
use Rattle.bt_runs.specs.declared.merge.Kind.TheVariants.{PerStrand, Unstranded}
use Rattle.bt_runs.specs.declared.merge.merge_strand.MergeStrand.{MergeStrand}
use Rattle.bt_runs.proofs.lemmas.order.FileOrder.{ordered_come}
use Rattle.bt_runs.proofs.lemmas.merge.SettledRuns.{runs_begin, runs_stay}
use Rattle.bt_runs.proofs.lemmas.merge.StrandSettling.{begin, no_strand_settled, stay}
use Rattle.bt_bed.specs.declared.record.strand.Strand.{Strand}
use Rattle.bt_runs.specs.model.Depth.{coverage, depth_line, depth_lines, settled_depths}
use Rattle.bt_runs.proofs.lemmas.coverage.DepthSteps.{settles_depths}
use Rattle.bt_runs.proofs.lemmas.definitions.Standing.{begins, stays}

items_both : {A : Type 0} (past rest : List (Member A)) → member_items (past ++ rest) ≡ member_items past ++ member_items rest
items_both past rest = map-append (λ m. m.item) past rest

pub sorted_start : {S O : Type 0} {ghosts : Ghosts O} (records : Records S O ghosts) → (view_of records).format ≡ bed_format (sorting_of (order_in records))
unfolding view_of view_with order_in
sorted_start records = refl

-- the good records of a text are in order
pub records_sorted : (Taken : List Feature → Type 0) (order : Order) → IsTotal order → ((past : List Feature) → ArePlaced order (intervals_of past) → AreNonEmpty (intervals_of past) → Taken past)
    → (text : List ℕ) → Taken (member_items (good (bed_format (sorting_of order)) First (text_lines text)).members)
records_sorted Taken order total takes text = grind (arith, (placed_good First order (whole_text text) total), (non_empty_good First order (whole_text text)))

-- the input is read from its beginning up to `last`, and no later record changes a line that is settled
pub record IsDriven {S A State : Type 0} (written : Written A) (Taken : List A → Type 0) (format : Format A State) (old : MemberReader S A State) (first : S) (new : MemberReader S A State) (last : S) : Type 0 where
  pub stays : (past more : List A) → Taken (past ++ more) → (rest : List ℕ) × (written.settled (past ++ more) ≡ written.settled past ++ rest)
  pub begins : (past more : List A) → Taken (past ++ more) → (rest : List ℕ) × (written.whole (past ++ more) ≡ written.settled past ++ rest)
  pub taken : (text : List ℕ) → Taken (member_items (good format First (text_lines text)).members)
  pub starts : BeginsAt format First first old
  pub ended : source_of new.below ≡ last
  -- a failed read that is kept is kept below
  pub kept : IsKeptBelow new new.below

module _ {S A State : Type 0} {written : Written A} {Taken : List A → Type 0} (device : Source S) {format : Format A State} {old : MemberReader S A State} {first : S} {new : MemberReader S A State} {last : S}
    (driven : IsDriven written Taken format old first new last) (kinds : Kind → Type 0) (Sorted : List A → Type 0) (out : Output) {bytes : List ℕ} (hands : Hands device old.below bytes new.below) where
  -- what is good of what was handed over
  abbrev good_of : Handed → Good A
  good_of handed = good_handed format First handed

  abbrev report : Handed → Report
  report = members_report written format

  abbrev one : InputRead
  one = read device old driven.starts new driven.ended hands

  of_text : {handed : Handed} → MayHold one handed → (P : Good A → Type 0) → WhateverComes old bytes new P → P (good_of handed)
  of_text = at_whole device old driven.starts new driven.ended hands

  -- the report, by these members and the fault
  report_of : (handed : Handed) (past : List (Member A)) (fault : Option FaultValue) → ((good_of handed).members ≡ past) × ((good_of handed).fault ≡ fault)
      → report handed ≡ report_by written (member_items past) fault
  report_of handed past fault says = grind arith

  begins_by : (items past rest : List A) (fault : Option FaultValue) → items ≡ past ++ rest → Taken items → (more : List ℕ) × ((report_by written items fault).output ≡ written.settled past ++ more)
  begins_by items past rest None e t = let b = driven.begins past rest (subst Taken e t) in (b.0, ap written.whole e ∙ b.1)
  begins_by items past rest (Some fault) e t = let b = driven.stays past rest (subst Taken e t) in (b.0, ap written.settled e ∙ b.1)

  -- a prefix of the records gives a prefix of the output
  begins_output : (handed : Handed) (past : List (Member A)) → MayHold one handed → BeginsWith old bytes past new
      → (rest : List ℕ) × ((report handed).output ≡ written.settled (member_items past) ++ rest)
  begins_output handed past holds b =
      let text = bytes ++ holds.rest in
      let here = of_text holds (λ good. (rest : List (Member A)) × (good.members ≡ past ++ rest)) b in
      let taken : Taken (items_in (good_of handed)) = subst (λ h. Taken (items_in (good_of h))) (sym holds.is) (subst (λ (g : Good A). Taken (items_in g)) (sym (good_whole format First text)) (driven.taken text)) in
      begins_by (items_in (good_of handed)) (member_items past) (member_items here.0) (good_of handed).fault (ap member_items here.1 ∙ items_both past here.0) taken

  -- how far the input was read
  near_by : {handed : Handed} → MayHold one handed
      → {past : List (Member A)} (read : IsReadFor device old bytes past past new) → {grown : Output} → TookButBlock out (written.settled (member_items past)) grown
      → (Stopped : Type 0) → (Stopped → PutsLines out (written.settled (member_items past)) grown)
      → ReadsNoFurther (suc read.to.count) (IsWithin one.told handed.text (suc read.to.count) → ⊤) (λ lines. (good format First lines).fault) (members_settle written format) handed.text bytes out.put grown.took (grown.has_failed ≡ true) Stopped grown.put
  near_by holds {past = past} read {grown = grown} kept Stopped exact =
      let text = bytes ++ holds.rest in
      let count = read.to.count in
      let b = subst (λ (g : Good A). (rest : List (Member A)) × (g.members ≡ past ++ rest) × IsBeyond count (record { members = rest; fault = g.fault })) (driven.starts.good text) (read.to.behind holds.rest holds.follows) in
      let on_first : good format First (take count (text_lines text)) ≡ record { members = past; fault = None } =
      first_from format First count 1 format.begin (text_lines text) (omega arith) (lines_are_numbered 1 text) b.1 refl read.low b.2 in
      let on_lines : written.settled (member_items past) ≡ members_settle written format (take count (text_lines text)) =
      sym (ap (λ (g : Good A). written.settled (items_in g)) on_first) in
      let settled = subst (λ l. TookButBlock out l grown) on_lines kept in
      let less : suc count - 1 ≡ count = omega arith in
      subst (λ (h : Handed). ReadsNoFurther (suc count) (IsWithin one.told h.text (suc count) → ⊤) (λ lines. (good format First lines).fault) (members_settle written format) h.text bytes out.put grown.took (grown.has_failed ≡ true) Stopped grown.put) (sym holds.is) (record {
        some = omega arith;
        faultless = rw less (ap (λ (g : Good A). g.fault) on_first);
        read = handed_to device old driven.starts new driven.ended hands count holds.rest holds.follows read.to.near;
        settled = rw less settled.took;
        kept = rw less settled.put;
        exact = rw less (λ stops. exact stops ∙ ap (λ l. out.put ++ l) on_lines);
        beside = λ within. tt;
      })

  module _ (fault : FaultValue) (grown : Output) where
    abbrev Cause : List (Member A) → Type 0
    Cause past = FeedStopCause written.settled kinds Sorted device old out bytes past fault new grown

    -- the report, by what the fault of the input says of it
    reported_by : (past : List (Member A)) (handed : Handed) → Came one (Some fault) handed
        → Some fault ≢ Some write_failed → Some fault ≢ Some no_memory → Cause past → IsReported (report handed) out.put (Some fault) grown
    reported_by past handed came write memory (inl taking) =
        elim taking.cause [
          | inl behind ↦
              let is = report_of handed past (Some fault) (says_fault device old driven.starts new driven.ended hands kinds past fault handed came driven.kept behind) in
              (sym (ap (λ (r : Report). r.fault) is), taking.puts ∙ ap (λ (r : Report). out.put ++ r.output) (sym is))
          | inr lacks ↦ absurd (memory (ap Some lacks.is))
        ]
    reported_by past handed came write memory (inr writing) = absurd (write (ap Some writing.is))

    puts_by : (past : List (Member A)) → Cause past → fault ≢ write_failed → PutsFront out (written.settled (member_items past)) grown
    puts_by past (inl taking) other = puts_front out (written.settled (member_items past)) grown taking.puts
    puts_by past (inr writing) other = absurd (other writing.is)

    no_failed_by : (past : List (Member A)) → Cause past → fault ≢ write_failed → grown.sink_has_failed ≡ out.sink_has_failed
    no_failed_by past (inl taking) other = (taking.works).sink_served
    no_failed_by past (inr writing) other = absurd (other writing.is)

    cut_by : (past : List (Member A)) → Cause past → fault ≡ write_failed → CutsLines out (written.settled (member_items past)) grown
    cut_by past p1 e = grind arith

  -- what the fault is
  named_by : {fault : FaultValue} {past : List (Member A)} {grown : Output} → FeedStopCause written.settled kinds Sorted device old out bytes past fault new grown
      → (TellsInput device kinds First one last fault ⊎ ⊥) ⊎ TellsDevice grown.sink_has_failed grown.sink_last_failed fault
  named_by {fault} (inl taking) =
      elim taking.cause [
        | inl fails ↦ elim fails [
          | inl wrong ↦ inl (inl (inl (record { line = wrong.line; kind = wrong.kind; of_kind = wrong.of_kind; is = wrong.is ∙ ap (λ i. fault_at_line i wrong.line wrong.kind) driven.starts.input_is })))
          | inr unread ↦ inl (inl (inr (tells_read device old driven.starts new driven.ended hands unread driven.kept)))
        ]
        | inr lacks ↦ inr (inr lacks.is)
      ]
  named_by (inr writing) = inr (inl (writing.is, writing.cuts.sink_failed.0, writing.cuts.sink_failed.1))

module _ {S A State : Type 0} {written : Written A} {Taken : List A → Type 0} (device : Source S) {format : Format A State} {old : MemberReader S A State} {first : S} {new : MemberReader S A State} {last : S}
    (driven : IsDriven written Taken format old first new last) (kinds : Kind → Type 0) (Sorted : List A → Type 0) (out : Output) where
  -- a command of one input wrote so
  abbrev pub WritesOne : Option FaultValue → Output → Type 0
  WritesOne fault grown = RunsBy device device (of_members kinds written format) first None out fault last None grown

  pub drives_fault : {fault : FaultValue} {grown : Output} → (TellsNoRead (Some fault) → TellsNoRead (fault_kept new.below)) → FeedsUpTo written.settled kinds Sorted device old out fault new grown → WritesOne (Some fault) grown
  drives_fault {fault} {grown} none fed =
      let hands = fed.took.bytes.1 in
      record {
        one = read device old driven.starts new driven.ended hands;
        one_reads = reads_so device old driven.starts new driven.ended hands;
        two = None;
        two_reads = tt;
        whole = λ one two reads others write memory. reported_by device driven kinds Sorted out hands fault grown fed.past one (inl reads) write memory fed.cause;
        told = λ one two holds others is. reported_by device driven kinds Sorted out hands fault grown fed.past one (inr (is_whole holds is)) is.no_write is.no_growth fed.cause;
        cut = λ is one two holds others.
            let more = begins_output device driven kinds Sorted out hands one fed.past holds fed.begins in
            (written.settled (member_items fed.past), more.0, more.1, (cut_by device driven kinds Sorted out hands fault grown fed.past fed.cause (some_is fault write_failed is)).front);
        kept = λ other one two holds others.
            let more = begins_output device driven kinds Sorted out hands one fed.past holds fed.begins in
            let part = puts_by device driven kinds Sorted out hands fault grown fed.past fed.cause (λ is. other (ap Some is)) in
            (part.front, part.rest ++ more.0, more.1 ∙ ap (λ l. l ++ more.0) part.parts ∙ append_assoc part.front part.rest more.0, part.puts);
        grows = fed.took.grows;
        ended = λ e. cc;
        served = λ e. cc;
        no_failed_write = λ other. no_failed_by device driven kinds Sorted out hands fault grown fed.past fed.cause (λ is. other (ap Some is));
        near = (
          suc fed.took.read.to.count,
          λ one two holds others. near_by device driven kinds Sorted out hands holds fed.took.read fed.took.kept
              (IsFaultButWrite (Some fault)) (λ stops. fed.exact (λ is. stops.1 (ap Some is))),
        );
        named = λ told e. subst (λ t. (TellsInput device kinds First (read device old driven.starts new driven.ended hands) last t ⊎ ⊥) ⊎ TellsDevice grown.sink_has_failed grown.sink_last_failed t) (some_is fault told e)
            (named_by device driven kinds Sorted out hands fed.cause);
        no_failed = λ never. (not_failed device old driven.starts new driven.ended hands (none never), tt);
      }

  module _ {Stands : List A → Type 0} {grown : Output} (fed : FeedsAll written.settled kinds Sorted device Stands old out new grown) {finished : Output} (goes : GoesOn grown finished) where
    abbrev all_hands : Hands device old.below fed.took.bytes.0 new.below
    all_hands = fed.took.bytes.1

    abbrev all_read : InputRead
    all_read = read device old driven.starts new driven.ended all_hands

    -- the report if all records were taken
    report_all : (other : Option FaultValue) (handed : Handed) → Came all_read other handed → members_report written format handed ≡ report_by written (member_items fed.past) None
    report_all other handed came =
        report_of device driven kinds Sorted out all_hands handed fed.past None
        (came_whole device old driven.starts new driven.ended all_hands came fed.clear fed.within (λ good. (good.members ≡ fed.past) × (good.fault ≡ None)) fed.whole)

    report_whole : (one : Handed) → MayHold all_read one → members_report written format one ≡ report_by written (member_items fed.past) None
    report_whole one holds = report_of device driven kinds Sorted out all_hands one fed.past None (of_text device driven kinds Sorted out all_hands holds (λ good. (good.members ≡ fed.past) × (good.fault ≡ None)) fed.whole)

    near_end : (fault : Option FaultValue) → (IsFaultButWrite fault → ⊥) → (one : Handed) (two : Option Handed) → MayHold all_read one → OfBoth MayHold None two
        → ReadsNoFurther (suc fed.took.read.to.count) (IsWithin all_read.told one.text (suc fed.took.read.to.count) → ⊤) (λ lines. (good format First lines).fault) (members_settle written format) one.text fed.took.bytes.0 out.put finished.took (finished.has_failed ≡ true) (IsFaultButWrite fault) finished.put
    near_end fault never handed two holds others =
        near_by device driven kinds Sorted out all_hands holds fed.took.read
        (took_later out grown finished (written.settled (member_items fed.took.before)) fed.took.grows goes fed.took.kept) (IsFaultButWrite fault) (λ stops. absurd (never stops))

    pub drives_all : (rest : List ℕ) → written.whole (member_items fed.past) ≡ written.settled (member_items fed.past) ++ rest → finished.put ≡ grown.put ++ rest → finished.sink_has_failed ≡ grown.sink_has_failed → WritesOne None finished
    drives_all rest is appends works =
        let put_all : finished.put ≡ out.put ++ written.whole (member_items fed.past) =
        text_grows grown.put finished.put out.put (written.settled (member_items fed.past)) rest (written.whole (member_items fed.past)) is appends fed.puts in
        let ends : (other : Option FaultValue) (handed : Handed) → Came all_read other handed → IsReported (members_report written format handed) out.put None finished =
        λ other handed came.
        let all = report_all other handed came in
        (sym (ap (λ r. r.fault) all), put_all ∙ ap (λ r. out.put ++ r.output) (sym all)) in
        record {
          one = all_read;
          one_reads = reads_so device old driven.starts new driven.ended all_hands;
          two = None;
          two_reads = tt;
          whole = λ one two reads others write memory. ends None one (inl reads);
          told = λ one two holds others is. ends None one (inr (is_whole holds is));
          cut = λ e. cc;
          kept = λ other one two holds others.
              (written.whole (member_items fed.past), [], ap (λ r. r.output) (report_whole one holds) ∙ sym (append-nil (written.whole (member_items fed.past))), put_all);
          grows = grows_both out.took grown.took finished.took fed.took.grows goes.took;
          ended = λ e. (fed.told, tt);
          served = λ e. (ap device.has_failed (sym driven.ended) ∙ fed.served ∙ ap device.has_failed driven.starts.source, tt);
          no_failed_write = λ other. works ∙ fed.works.sink_served;
          near = (suc fed.took.read.to.count, near_end None (λ stops. stops.0 refl));
          named = λ told e. cc;
          no_failed = λ never. (not_failed device old driven.starts new driven.ended all_hands (none_tells (fault_kept new.below) fed.clear), tt);
        }

    pub drives_cut : {fault : FaultValue} → fault ≡ write_failed → (rest : List ℕ) → written.whole (member_items fed.past) ≡ written.settled (member_items fed.past) ++ rest
        → IsPrefixOf finished.took grown.put rest → SinkFailed finished → WritesOne (Some fault) finished
    drives_cut {fault} is rest whole front sink = record {
      one = all_read;
      one_reads = reads_so device old driven.starts new driven.ended all_hands;
      two = None;
      two_reads = tt;
      whole = λ one two reads others write memory. absurd (write (ap Some is));
      told = λ one two holds others of_input. absurd (of_input.no_write (ap Some is));
      cut = λ e one two holds others. (
        written.whole (member_items fed.past),
        [],
        ap (λ r. r.output) (report_whole one holds) ∙ sym (append-nil (written.whole (member_items fed.past))),
        front_all finished.took grown.put out.put (written.settled (member_items fed.past)) rest (written.whole (member_items fed.past)) whole fed.puts front,
      );
      kept = λ other. absurd (other (ap Some is));
      grows = grows_both out.took grown.took finished.took fed.took.grows goes.took;
      ended = λ e. cc;
      served = λ e. cc;
      no_failed_write = λ other. absurd (other (ap Some is));
      near = (suc fed.took.read.to.count, near_end (Some fault) (λ stops. stops.1 (ap Some is)));
      named = λ told e. inr (inl (sym (some_is fault told e) ∙ is, sink.0, sink.1));
      no_failed = λ never. (not_failed device old driven.starts new driven.ended all_hands (none_tells (fault_kept new.below) fed.clear), tt);
    }

-- Lemmas on writing the alignments of an input, line by line.

-- an alignment on its line
abbrev member_on : TextLine → Alignment → Member Alignment
member_on line a = record { line = line.number; item = a }

kept_of : {S : Type 0} (device : Source S) (reader : LineReader S) → IsSound device reader → IsKept device reader
kept_of device reader sound = record { within = sound.within }

module _ {S : Type 0} (split cigar : Bool) (device : Source S) where
  abbrev lines_of : List Alignment → List ℕ
  lines_of = alignment_lines split cigar

  abbrev Any : List Alignment → Type 0
  Any past = ⊤

  -- the lines so far were read, and their alignments written
  pub record Going (old : LineReader S) (out : Output) (now : LineReader S) (grown : Output) : Type 0 where
    pub past : List (Member Alignment)
    pub fed : Fed lines_of device (sam_reader old) out past (sam_reader now) grown
    pub sound : IsSound device now

  module _ (old : LineReader S) (out : Output) where
    pub going_start : IsFresh device (sam_reader old) → HoldsBlock out.took out.put → Going old out old out
    going_start fresh block = record { past = []; fed = fed_none lines_of device (sam_reader old) out fresh refl block; sound = fresh.sound }

    module _ {now : LineReader S} {grown : Output} (g : Going old out now grown) where
      abbrev UpTo : FaultValue → MemberReader S Alignment ⊤ → Output → Type 0
      UpTo fault new later = FeedsUpTo lines_of (IsOneOf is_sam_kind) Any device (sam_reader old) out fault new later

      abbrev steps : Steps device (sam_reader now) (sam_reader now)
      steps = steps_start device (sam_reader now) refl refl

      -- after the last line
      pub converts_all : (new : LineReader S) → GivesEnd device now new → (IsSound device now → IsSound device new)
          → FeedsAll lines_of (IsOneOf is_sam_kind) Any device Any (sam_reader old) out (sam_reader new) grown
      converts_all new ends sound =
          fed_all g.fed (record {
            ends = going_end device (sam_reader now) (sam_reader now) (sam_reader new) steps ends refl refl (record { state = refl; format = refl }) (λ same fault. ap sam_reader same);
            kept = λ was. kept_of device new (sound g.sound);
          }) tt tt

      up_to : (new : MemberReader S Alignment ⊤) (fault : FaultValue) → IsStopped device (sam_reader now) fault new → UpTo fault new grown
      up_to new fault stopped = fed_up_to g.fed (λ state line kind says. wrong_kinds line.text kind says) stopped tt

      -- the reader reported a fault
      pub stops_reading : (new : LineReader S) (fault : FaultValue) → GivesFault device now fault new → (IsSound device now → IsSound device new) → UpTo fault (sam_reader new) grown
      stops_reading new fault gives sound =
          up_to (sam_reader new) fault (record {
            answers = going_unread device (sam_reader now) (sam_reader now) (sam_reader new) fault steps gives gives.kept refl (record { state = refl; format = refl }) (λ same fault. ap sam_reader same);
            kept = λ was. kept_of device new (sound g.sound);
          })

      -- a line was given
      module _ {new : LineReader S} {line : TextLine} (gives : GivesLine device now line new) (sound : IsSound device now → IsSound device new) where
        kept : IsKept device now → IsKept device new
        kept was = kept_of device new (sound g.sound)

        abbrev pub stopped_at : FaultValue → MemberReader S Alignment ⊤
        stopped_at fault = record { format = sam_format; below = new; state = tt; buffered = []; fault = Some fault }

        -- it is at fault
        pub stops_at_line : (fault : FaultValue) (later : Output) → LineRefused (input_of old) line grown fault later → UpTo fault (stopped_at fault) later
        stops_at_line fault later refused =
            let of_sam = wrong_kinds line.text refused.kind refused.says in
            subst (λ o. UpTo fault (stopped_at fault) o) (sym refused.unchanged)
            (up_to (stopped_at fault) fault (record {
              answers = going_wrong device (sam_reader now) steps (came device now new line gives) refl refl (record { state = refl; format = refl }) kept refused.says
                  (kinds_of_lines refused.kind of_sam) (refused.is ∙ ap (λ i. fault_at_line i line.number refused.kind) (sym g.fed.passes.bytes.1.same_input));
              kept = kept;
            }))

        pushed : (a : Alignment) → lines_of (member_items g.past ++ a ∷ []) ≡ lines_of (member_items g.past) ++ bed_lines split cigar a
        pushed a = flat_map-append (bed_lines split cigar) (member_items g.past) (a ∷ []) ∙ ap (λ l. lines_of (member_items g.past) ++ l) (append-nil (bed_lines split cigar a))

        abbrev with_it : (a : Alignment) → alignment_of line.text ≡ Ok (Some a) → PassesMembers device (sam_reader old) (g.past ++ member_on line a ∷ []) (sam_reader new)
        with_it a says = passes_some g.fed.passes (sam_reader new) gives kept refl refl gives.goes says refl

        -- the lines of its alignment couldn't be written
        pub stops_writing : (converting : Converting) → converting.split ≡ split → converting.with_cigar ≡ cigar → {fault : FaultValue} {later : Output} → ((said : Alignment) × (alignment_of line.text ≡ Ok (Some said)) × FailsToAdd grown (bed_lines converting.split converting.with_cigar said) fault later)
            → UpTo fault (sam_reader new) later
        stops_writing converting same same_cigar unwritten =
            let a = unwritten.0 in
            let fails = unwritten.2.puts in
            let lines = bed_lines converting.split converting.with_cigar a in
            let is : lines ≡ bed_lines split cigar a = ap (λ s. bed_lines s converting.with_cigar a) same ∙ ap (λ c. bed_lines split c a) same_cigar in
            fails_writing a (map-append (λ m. m.item) g.past (member_on line a ∷ [])) (with_it a unwritten.1)
            (read_line g.fed.passes (sam_reader new) gives kept refl refl gives.goes unwritten.1 refl)
            g.fed.put tt lines (pushed a ∙ ap (λ l. lines_of (member_items g.past) ++ l) (sym is)) fails.is fails.front fails.failed fails.sink_failed fails.grows

        -- what is settled with these members was put
        goes_with : (past : List (Member Alignment)) (bytes : List ℕ) (later : Output) → PassesMembers device (sam_reader old) past (sam_reader new) → lines_of (member_items past) ≡ lines_of (member_items g.past) ++ bytes → Grown grown bytes later
            → Going old out new later
        goes_with past bytes later passes more writes = record {
          past = past;
          fed = record { passes = passes; put = rw more (put_more out grown later (lines_of (member_items g.past)) bytes g.fed.put writes) };
          sound = sound g.sound;
        }

        goes_by : (said : Option Alignment) (later : Output) → alignment_of line.text ≡ Ok said → Grown grown (option_map_or (bed_lines split cigar) said []) later → Going old out new later
        goes_by None later says writes =
            goes_with g.past [] later (passes_none g.fed.passes (sam_reader new) gives kept refl refl gives.goes says refl) (sym (append-nil (lines_of (member_items g.past)))) writes
        goes_by (Some a) later says writes = goes_with (g.past ++ member_on line a ∷ []) (bed_lines split cigar a) later (with_it a says) (ap lines_of (map-append (λ m. m.item) g.past (member_on line a ∷ [])) ∙ pushed a) writes

        -- what it says was written
        pub going_line : {converting after : Converting} → converting.split ≡ split → converting.with_cigar ≡ cigar → {later : Output} → ((said : Option Alignment) × (alignment_of line.text ≡ Ok said) × Grown grown (option_map_or (bed_lines converting.split converting.with_cigar) said []) later × (after ≡ converting)) → Going old out new later
        going_line {converting} same same_cigar {later} written =
            let are : bed_lines converting.split converting.with_cigar ≡ bed_lines split cigar = ap (λ s. bed_lines s converting.with_cigar) same ∙ ap (bed_lines split) same_cigar in
            goes_by written.0 later written.1 (subst (λ (f : Alignment → List ℕ). Grown grown (option_map_or f written.0 []) later) are written.2)

-- a line that was refused is no failed read
pub refused_no_read : (input : Input) (line : TextLine) (out : Output) (fault : FaultValue) (grown : Output) → LineRefused input line out fault grown → (other : Input) (at : ℕ) → Some fault ≡ Some (read_failed other at) → ⊥
refused_no_read input line out fault grown refused other at e = grind (arith, (kinds_of_lines refused.kind (wrong_kinds line.text refused.kind refused.says)))

-- a reader that has given nothing yet, over the input of a run
pub record IsFreshReader {S : Type 0} (device : Source S) (first : S) (reader : LineReader S) : Type 0 where
  pub source : source_of reader ≡ first
  pub input : input_of reader ≡ First
  pub taken : bytes_taken reader ≡ 0
  pub fed : feeds_taken reader ≡ 0
  pub given : lines_given reader ≡ 0
  pub going : fault_kept reader ≡ None
  pub untold : end_told reader ≡ false
  pub lines : (rest : List ℕ) → lines_coming rest reader ≡ text_lines rest
  pub sound : IsSound device reader

module _ {S : Type 0} (split cigar : Bool) {device : Source S} {first : S} {reader : LineReader S} (fresh_reader : IsFreshReader device first reader) where
  starts_reader : BeginsAt sam_format First first (sam_reader reader)
  starts_reader = begins_over device (sam_reader reader) refl fresh_reader.taken fresh_reader.fed fresh_reader.source fresh_reader.input fresh_reader.going fresh_reader.untold fresh_reader.lines (λ going. good_at_first device (sam_reader reader) going refl)

  more_lines : (past more : List Alignment) → ⊤ → (rest : List ℕ) × (alignment_lines split cigar (past ++ more) ≡ alignment_lines split cigar past ++ rest)
  more_lines past more h = (alignment_lines split cigar more, flat_map-append (bed_lines split cigar) past more)

  module _ {converting : Converting} (same : converting ≡ record { split = split; with_cigar = cigar; fault = None }) (out : Output) (new : MemberReader S Alignment ⊤) {last : S} (ended : source_of new.below ≡ last) (grown : Output) where
    abbrev Writes : Option FaultValue → Type 0
    Writes fault = RunsBy device device (of_members (IsOneOf is_sam_kind) (alignments_written split cigar) sam_format) first None out fault last None grown

    module _ (kept : IsKeptBelow new new.below) where
      driven : IsDriven (alignments_written split cigar) (λ past. ⊤) sam_format (sam_reader reader) first new last
      driven = record { stays = more_lines; begins = more_lines; taken = λ text. tt; starts = starts_reader; ended = ended; kept = kept }

      -- all of the input was read
      pub writes_all : FeedsAll (alignment_lines converting.split converting.with_cigar) (IsOneOf is_sam_kind) (λ past. ⊤) device (λ past. ⊤) (sam_reader reader) out new grown → Writes None
      writes_all fed =
          let is = subst (λ (m : Converting). FeedsAll (alignment_lines m.split m.with_cigar) (IsOneOf is_sam_kind) (λ past. ⊤) device (λ past. ⊤) (sam_reader reader) out new grown) same fed in
          drives_all device driven (IsOneOf is_sam_kind) (λ past. ⊤) out is (goes_same grown) [] (sym (append-nil _)) (sym (append-nil grown.put)) refl

      -- or it was read up to a fault
      pub writes_up_to : {fault : FaultValue} → (TellsNoRead (Some fault) → TellsNoRead (fault_kept new.below)) → FeedsUpTo (alignment_lines converting.split converting.with_cigar) (IsOneOf is_sam_kind) (λ past. ⊤) device (sam_reader reader) out fault new grown → Writes (Some fault)
      writes_up_to {fault} none fed =
          drives_fault device driven (IsOneOf is_sam_kind) (λ past. ⊤) out none (subst (λ (m : Converting). FeedsUpTo (alignment_lines m.split m.with_cigar) (IsOneOf is_sam_kind) (λ past. ⊤) device (sam_reader reader) out fault new grown) same fed)

-- Lemmas on the lines that an engine writes, from its intervals, and on the report that they make.

-- intervals that stay give lines that stay
pub lines_stay : (settled : List Feature → List Interval) (Taken : List Feature → Type 0) → SettledStays settled Taken → SettledStays (λ records. interval_lines (settled records)) Taken
lines_stay settled Taken stays past more taken = grind (arith, (flat_map-append interval_line (settled past) (stays past more taken).0))

-- and intervals that begin a whole, lines that begin its lines
pub lines_begin : (settled whole : List Feature → List Interval) (Taken : List Feature → Type 0) → SettledBegins settled whole Taken → SettledBegins (λ records. interval_lines (settled records)) (λ records. interval_lines (whole records)) Taken
lines_begin settled whole Taken begins past more taken = grind (arith, (flat_map-append interval_line (settled past) (begins past more taken).0))

-- what a merge writes, chromosomes as they come
abbrev pub merge_as_they_come : MergeKind → Written Feature
merge_as_they_come merge = record { whole = merge_engine.output merge; settled = merge_engine.settled merge }

-- a merge that has taken no record has settled nothing
pub merge_begins : (merge : MergeKind) → merge_engine.settled merge [] ≡ []
unfolding settled_runs
merge_begins merge = grind (arith, no_strand_settled)

-- what it has settled stays, and begins the whole
pub merge_stays : (merge : MergeKind) → SettledStays (merge_engine.settled merge) AreMergeable
merge_stays (Unstranded merge) = lines_stay (settled_runs merge.rule.gap merge.rule.strand) AreMergeable (runs_stay merge.rule.gap merge.rule.strand)
merge_stays (PerStrand merge) = lines_stay (λ records. places_of (settled_strand_runs merge.rule.gap records)) AreMergeable (λ past more taken.
    let s = stay merge.rule.gap past more taken in
    (places_of s.0, ap places_of s.1 ∙ map-append (λ item. item.run) (settled_strand_runs merge.rule.gap past) s.0))

pub merge_begins_whole : (merge : MergeKind) → SettledBegins (merge_engine.settled merge) (merge_engine.output merge) AreMergeable
merge_begins_whole (Unstranded merge) = lines_begin (settled_runs merge.rule.gap merge.rule.strand) (merged_runs merge.rule.gap merge.rule.strand) AreMergeable (runs_begin merge.rule.gap merge.rule.strand)
merge_begins_whole (PerStrand merge) = lines_begin (λ records. places_of (settled_strand_runs merge.rule.gap records)) (λ records. places_of (strand_runs merge.rule.gap records)) AreMergeable (λ past more taken.
    let s = begin merge.rule.gap past more taken in
    (places_of s.0, ap places_of s.1 ∙ map-append (λ item. item.run) (settled_strand_runs merge.rule.gap past) s.0))

-- a complement that has taken no record has settled nothing
pub complement_begins : (limit : Bool) (entries : List Entry) → interval_lines (settled_gaps limit entries []) ≡ []
unfolding settled_gaps
complement_begins limit entries = refl

-- the records of a report are in order
module _ {order : Order} (total : IsTotal order) where
  -- merged runs come in that order
  pooled_same : (d : ℕ) (strand : MergeStrand) (records : List Feature) → ArePlaced order (intervals_of records)
      → interval_lines (merged_runs d strand records) ≡ (pooled_written order d strand).whole records
  pooled_same d strand records placed = ap interval_lines (sym (ordered_come order d strand records total placed))

  pooled_settled : (d : ℕ) (strand : MergeStrand) (records : List Feature) → ArePlaced order (intervals_of records)
      → interval_lines (settled_runs d strand records) ≡ (pooled_written order d strand).settled records
  unfolding settled_runs
  pooled_settled d strand records placed = grind (arith, ordered_come)

  settled_same : (d : ℕ) (strand : MergeStrand) (records : List Feature) → ArePlaced order (intervals_of records)
      → merge_engine.settled (merge_begun d strand) records ≡ (merge_written order d strand).settled records
  settled_same d strand records placed = grind (arith, pooled_settled)

  report_same : (d : ℕ) (strand : MergeStrand) (records : List Feature) (fault : Option FaultValue) → ArePlaced order (intervals_of records)
      → report_by (merge_as_they_come (merge_begun d strand)) records fault ≡ report_by (merge_written order d strand) records fault
  report_same d strand records fault placed = grind (arith, pooled_settled, pooled_same)

  -- a merge ran as the command says
  pub merge_runs : {A : Type 0} (device : Source A) (d : ℕ) (strand : MergeStrand) (merge : MergeKind) → merge ≡ merge_begun d strand
      → (first : A) (out : Output) (fault : Option FaultValue) (new : A) (grown : Output)
      → RunsAlone device (of_records order (merge_as_they_come merge)) first out fault new grown
      → RunsAlone device (of_records order (merge_written order d strand)) first out fault new grown
  merge_runs device d strand merge begun first out fault new grown runs =
      alone_writes device device (of_records order (merge_written order d strand))
      (λ one two. ap (λ m. members_report (merge_as_they_come m) (bed_format (sorting_of order)) one) begun ∙ (grind (arith, report_same, placed_good)))
      (λ two lines. ap (λ m. members_settle (merge_as_they_come m) (bed_format (sorting_of order)) lines) begun ∙ (grind (arith, settled_same, placed_lines)))
      (λ lines. refl) (λ t read tells. tells) runs

module _ (entries : List Entry) (zeros : Bool) (strand : Option Strand) where
  -- a coverage that has taken no record has settled nothing
  pub coverage_begins : (coverage_written entries zeros strand).settled [] ≡ []
  unfolding settled_depths
  coverage_begins = refl

  -- the lines of settled intervals stay
  pub depths_stay : SettledStays (coverage_written entries zeros strand).settled (AreTakenBy entries)
  depths_stay past more taken =
      let s = stays (settled_depths zeros strand entries) (coverage zeros strand entries) (AreTakenBy entries) (settles_depths zeros strand entries) past more taken in
      (depth_lines s.0, ap depth_lines s.1 ∙ flat_map-append depth_line (settled_depths zeros strand entries past) s.0)

  -- and begin the lines of all
  pub depths_begin : SettledBegins (coverage_written entries zeros strand).settled (coverage_written entries zeros strand).whole (AreTakenBy entries)
  depths_begin past more taken =
      let s = begins (settled_depths zeros strand entries) (coverage zeros strand entries) (AreTakenBy entries) (settles_depths zeros strand entries) past more taken in
      (depth_lines s.0, ap depth_lines s.1 ∙ flat_map-append depth_line (settled_depths zeros strand entries past) s.0)
