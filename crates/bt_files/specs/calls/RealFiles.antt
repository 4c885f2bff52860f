-- What a run over the system's files gives: its inputs are files or standard input, its output is a file or standard output.
use Rattle.std.specs.Prelude.{◌≡◌, List, ℕ, ◌++◌, Option, IfSome, option_map, ⊤}
use Rattle.bt_lines.specs.model.Fault.{FaultValue}
use Rattle.bt_lines.specs.model.Lines.{whole_text}
use Rattle.bt_tool.specs.calls.Inputs.{InputRead, OfBoth}
use Rattle.bt_tool.specs.calls.Run.{InputsMayHold, InputsRead, IsOfInput}
use Rattle.bt_tool.specs.model.Options.{PlanSeen}
use Rattle.bt_tool.specs.model.Report.{Inputs, report_of}
use Rattle.bt_files.specs.calls.Ending.{Ends, ReportsRun}
use Rattle.bt_files.specs.calls.Opened.{IsUnused, IsUnwritten, opened_handed, opened_source, output_sink, output_took}
use Rattle.bt_files.specs.declared.carrying_out.OpenedFiles.{OpenedFiles}
use Rattle.bt_files.specs.declared.files.Files.{Ghosts as Files}
use Rattle.bt_files.specs.declared.message.Message.{Message}
use Rattle.bt_files.specs.declared.opened.Opened.{Opened}
use Rattle.bt_files.specs.declared.output.Output.{Output}
use Rattle.bt_files.specs.declared.system_files.SystemFiles.{SystemFiles}

-- the system's files
abbrev pub system_files : Files SystemFiles Opened Output
system_files = record {
  opens = λ before name input after. IsUnused name input;
  creates = λ before name output after. IsUnwritten name output;
  refuses = λ before name after. ⊤;
}

-- what the inputs of a run handed over, as whole texts
abbrev pub handed_texts : OpenedFiles Opened Output → Inputs
handed_texts run = record {
  genome = option_map (λ input. whole_text (opened_handed input)) run.genome;
  first = whole_text (opened_handed run.first);
  second = option_map (λ input. whole_text (opened_handed input)) run.second;
}

-- these bytes were read of the input
abbrev pub IsReadOf : InputRead → Opened → Type 0
IsReadOf read input = read.bytes ≡ opened_handed input

-- How a run over real files left them, by what was read and the fault that it ended with, or without one. A failed read, of
-- which the fault tells, may also be an input of 2^63 bytes or more.
pub record IsRealRun (plan : PlanSeen) (run : OpenedFiles Opened Output) (read : InputsRead) (fault : Option FaultValue)
    : Type 0 where
  -- what was read of each input is all that it handed over
  pub genome_file : OfBoth IsReadOf read.genome run.genome
  pub first_input : IsReadOf read.first run.first
  pub second_input : OfBoth IsReadOf read.second run.second
  -- so that may be their whole texts
  pub handed : InputsMayHold read (handed_texts run)
  -- If no device's failure and no refused growth is reported, the fault and the bytes that the output took are those of the
  -- report on these texts, or on any others that the inputs may hold.
  pub told : IsOfInput fault → (inputs : Inputs) → InputsMayHold read inputs
      → (fault ≡ (report_of plan.command inputs).fault)
      × (output_took run.output ≡ (report_of plan.command inputs).output)
  -- whatever failed, those bytes begin the report's output
  pub prefix : (inputs : Inputs) → InputsMayHold read inputs
      → (rest : List ℕ) × ((report_of plan.command inputs).output ≡ output_took run.output ++ rest)

-- If the plan was run, it was so, over real files, and how it ended is reported.
abbrev pub ReportsRealRun : PlanSeen → Message → Option (OpenedFiles Opened Output) → Type 0
ReportsRealRun plan message left = IfSome left (λ run. (read : InputsRead) × (fault : Option FaultValue)
    × IsRealRun plan run read fault × ReportsRun plan fault message)

-- each plan that is carried out over them ends so
abbrev pub real_files_get_their_report : Type 0
real_files_get_their_report =
    (before : SystemFiles) (plan : PlanSeen) (message : Message) (left : Option (OpenedFiles Opened Output))
    (after : SystemFiles) → Ends system_files opened_source output_sink before plan message left after
    → ReportsRealRun plan message left
