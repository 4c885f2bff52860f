use Rattle.bt_lines.proofs.Std.{Bool, ap, ◌∙◌, ◌≡◌, None, Result, Ok, Err, sym, option_map}
use Rattle.std.specs.Result.{result_err}
use Rattle.bt_lines.specs.declared.device.Source.{Ghosts as Source}
use Rattle.bt_lines.specs.declared.fault.Fault.{Fault}
use Rattle.bt_lines.specs.declared.reader.line_reader.LineReader.{LineReader}
use Rattle.bt_lines.specs.calls.Names.{fault_value}
use Rattle.bt_lines.specs.calls.Output.{Output}
use Rattle.bt_lines.specs.calls.Reader.{fault_kept, source_of}
use Rattle.bt_seq.specs.calls.Sam.{Converting}
use Rattle.bt_seq.specs.model.Alignment.{is_sam_kind, sam_format}
use Rattle.bt_tool.specs.calls.Run.{AnswersNoRead, RunsAlone, TellsNoRead}
use Rattle.bt_tool.specs.inside.Feed.{ConvertsAll}
use Rattle.bt_tool.specs.model.Behaviour.{of_members}
use Rattle.bt_tool.specs.model.Written.{IsOneOf, alignments_written}
use Rattle.bt_tool.proofs.lemmas.running.feed.DrivingLemmas.{IsFreshReader, writes_all, writes_up_to}
use Rattle.bt_tool.proofs.lemmas.running.whole.OwnFailureLemmas.{kept_there}
use Rattle.bt_tool.proofs.loops.converting.convert.Goals as goal

-- the alignments of all lines were written, or those up to a fault
writes_alignments : {S T : Type 0} {split cigar : Bool} {device : Source S} {first last : S} {old : LineReader S} → IsFreshReader device first old
    → {converting : Converting} → converting ≡ record { split = split; with_cigar = cigar; fault = None } → {out grown : Output} (new : LineReader S) → source_of new ≡ last
    → (answer : Result T Fault) → ConvertsAll device converting old out answer new grown → (AnswersNoRead answer → TellsNoRead (fault_kept new))
    → RunsAlone device (of_members (IsOneOf is_sam_kind) (alignments_written split cigar) sam_format) first out (option_map fault_value (result_err answer)) last grown
writes_alignments {split = split} {cigar = cigar} fresh same {out} {grown} new ended (Ok done) written none =
    writes_all split cigar fresh same out written.0 (ap source_of written.1 ∙ ended) grown (kept_there written.0 new written.1 written.3) written.2
writes_alignments {split = split} {cigar = cigar} fresh same {out} {grown} new ended (Err fault) written none =
    writes_up_to split cigar fresh same out written.0 (ap source_of written.1 ∙ ended) grown (kept_there written.0 new written.1 written.3) (λ never. rw written.1 (none never)) written.2

pub returns : goal.returns
returns g c =
    let reader = c.new-lines.ensures in
    let fresh : IsFreshReader g.A.Source c.args.first c.new-lines.result = record {
      source = reader.source;
      input = reader.input;
      taken = reader.none_taken.0;
      fed = reader.none_fed;
      given = reader.none_given;
      going = reader.going.0;
      untold = reader.going.2;
      lines = reader.lines;
      sound = reader.sound;
    } in
    let done = c.convert_all-converted in
    rw c.err.ensures.value (writes_alignments fresh c.new-converter.ensures done.new.lines (sym c.into_source.ensures) done.result done.ensures.converts done.ensures.none_kept)
