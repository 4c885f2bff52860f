-- What real inputs hand over, and what a run over them gives.
use Rattle.std.proofs.Common.{inl, inr}
use Rattle.bt_lines.proofs.Std.{◌≡◌, ◌∙◌, ◌++◌, ℕ, Bool, List, [], Option, Some, None, IfSome, refl, sym, ap, subst, append-nil, append_assoc, true, false, option_map}
use Rattle.bt_lines.specs.calls.Device.{ReadsOn, begun, gave}
use Rattle.bt_lines.specs.model.Lines.{whole_text}
use Rattle.bt_tool.specs.calls.Inputs.{InputRead, MayHold, OfBoth, ReadsAs, ReadsSo, ReadsSoIf}
use Rattle.bt_tool.specs.model.Options.{PlanSeen}
use Rattle.bt_tool.specs.model.Report.{report_of}
use Rattle.bt_tool.specs.model.Table.{Word}
use Rattle.bt_files.specs.calls.Ending.{OpensIf, ReportsItsRun}
use Rattle.bt_files.specs.calls.Opened.{opened_handed, opened_source, output_sink}
use Rattle.bt_files.specs.calls.RealFiles.{IsReadOf, IsRealRun, real_files_get_their_report, system_files}
use Rattle.bt_files.specs.declared.carrying_out.OpenedFiles.{OpenedFiles}
use Rattle.bt_files.specs.declared.message.Message.{Message}
use Rattle.bt_files.specs.declared.opened.Opened.{Opened}
use Rattle.bt_files.specs.declared.output.Output.{Output}
use Rattle.bt_files.specs.declared.system_files.SystemFiles.{SystemFiles}

-- reads that succeeded add their bytes
handed_on : {before after : Opened} {bytes : List ℕ} → ReadsOn opened_source.is_read before bytes after → opened_handed after ≡ opened_handed before ++ bytes
handed_on {before} begun = sym (append-nil (opened_handed before))
handed_on {before} (gave {bytes} reads piece after read) =
    read.1 ∙ ap (λ l. l ++ piece) (handed_on reads) ∙ append_assoc (opened_handed before) bytes piece

-- so do those of a run, whether the last one reported the end, or failed
handed_as : (told failed : Bool) (before after : Opened) (bytes : List ℕ) → ReadsAs told failed opened_source.is_read before bytes after → opened_handed after ≡ opened_handed before ++ bytes
handed_as false false before after bytes reads = handed_on reads
handed_as true false before after bytes reads = reads.tells.1 ∙ append-nil (opened_handed reads.before) ∙ handed_on reads.served
handed_as false true before after bytes reads = reads.fails.1 ∙ handed_on reads.served
handed_as true true before after bytes reads = absurd reads

-- of an input that handed over nothing before, they are all that it handed over
all_handed : (before after : Opened) (read : InputRead) → opened_handed before ≡ [] → ReadsSo opened_source before read after → IsReadOf read after
all_handed before after read none reads = sym (handed_as read.told read.failed before after read.bytes reads.went ∙ ap (λ l. l ++ read.bytes) none)

all_handed_if : (before after : Option Opened) (read : Option InputRead) → IfSome before (λ input. opened_handed input ≡ []) → ReadsSoIf opened_source before read after → OfBoth IsReadOf read after
all_handed_if None None None none reads = tt
all_handed_if (Some before) (Some after) (Some read) none reads = all_handed before after read none reads
all_handed_if None None (Some read) none reads = absurd reads
all_handed_if None (Some after) None none reads = absurd reads
all_handed_if None (Some after) (Some read) none reads = absurd reads
all_handed_if (Some before) None None none reads = absurd reads
all_handed_if (Some before) None (Some read) none reads = absurd reads
all_handed_if (Some before) (Some after) None none reads = absurd reads

-- an input that was opened has handed over nothing
none_handed : (before after : SystemFiles) (name : Option Word) (input : Option Opened) → OpensIf system_files before name input after → IfSome input (λ opened. opened_handed opened ≡ [])
none_handed before after None None opens = tt
none_handed before after (Some name) (Some input) opens = opens.none
none_handed before after None (Some input) opens = absurd opens
none_handed before after (Some name) None opens = absurd opens

-- what was handed over may be the whole text
holds : (read : InputRead) (input : Opened) → IsReadOf read input → MayHold read (whole_text (opened_handed input))
holds read input is = record { rest = []; follows = λ told. refl; is = ap whole_text (sym is ∙ sym (append-nil read.bytes)) }

holds_if : (read : Option InputRead) (input : Option Opened) → OfBoth IsReadOf read input → OfBoth MayHold read (option_map (λ input. whole_text (opened_handed input)) input)
holds_if None None is = tt
holds_if (Some read) (Some input) is = holds read input is
holds_if None (Some input) is = absurd is
holds_if (Some read) None is = absurd is

-- a run over real files, and what its inputs may hold
run_of : (before : SystemFiles) (plan : PlanSeen) (message : Message) (left : Option (OpenedFiles Opened Output)) (after : SystemFiles) (run : OpenedFiles Opened Output) (ran : ReportsItsRun system_files opened_source output_sink before plan message left after) → left ≡ Some run → IsRealRun plan run ran.ran.report.read ran.fault
run_of before plan message left after run ran left_is =
    let report = ran.ran.report in
    let same : run ≡ record { genome = ran.genome_after; first = ran.first_after; second = ran.second_after; output = ran.out_after } = (let is = sym left_is ∙ ran.left_so in cc) in
    let inputs = ran.opened.inputs in
    let first_so = inputs.first_so in
    let genome_is = all_handed_if ran.genome ran.genome_after report.read.genome (none_handed before first_so.between plan.names.genome ran.genome first_so.genome_first) report.reads.genome_file in
    let first_is = all_handed ran.first ran.first_after report.read.first first_so.then_first.none report.reads.first_input in
    let second_is = all_handed_if ran.second ran.second_after report.read.second (none_handed inputs.between ran.opened.between plan.names.second ran.second inputs.then_second) report.reads.second_input in
    let none = ran.opened.then_output.none in
    subst (λ r. IsRealRun plan r report.read ran.fault) (sym same) (record {
      genome_file = genome_is;
      first_input = first_is;
      second_input = second_is;
      handed = record {
        genome_file = holds_if report.read.genome ran.genome_after genome_is;
        first_input = holds report.read.first ran.first_after first_is;
        second_input = holds_if report.read.second ran.second_after second_is;
      };
      told = λ of_input texts may.
          let said = report.told texts may of_input in
          (said.0, said.1 ∙ ap (λ l. l ++ (report_of plan.command texts).output) none);
      prefix = λ texts may.
          let said = report.prefix texts may in
          (said.1, said.3 ∙ ap (λ l. l ++ said.1) (sym (said.2 ∙ ap (λ l. l ++ said.0) none)));
    })

no_run : (P : OpenedFiles Opened Output → Type 0) (left : Option (OpenedFiles Opened Output)) → left ≡ None → IfSome left P
no_run P left is = subst (λ run. IfSome run P) (sym is) tt

pub real_run : real_files_get_their_report
real_run before plan message left after (inl unopened) = no_run _ left unopened.1
real_run before plan message None after (inr ran) = tt
real_run before plan message (Some run) after (inr ran) =
    (ran.ran.report.read, ran.fault, run_of before plan message (Some run) after run ran refl, ran.reports)
