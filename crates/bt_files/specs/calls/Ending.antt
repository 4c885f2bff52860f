-- How carrying out a plan ends, as standard error and the exit status report it.
use Rattle.std.specs.Prelude.{◌≡◌, ◌⊎◌, [], true, Option, None, Some}
use Rattle.bt_lines.specs.calls.Faults.{write_failed}
use Rattle.bt_lines.specs.declared.device.Sink.{Ghosts as Sink}
use Rattle.bt_lines.specs.declared.device.Source.{Ghosts as Source}
use Rattle.bt_lines.specs.model.Fault.{FaultValue}
use Rattle.bt_tool.specs.calls.Run.{Runs}
use Rattle.bt_tool.specs.model.Options.{PlanSeen}
use Rattle.bt_tool.specs.model.Report.{fault_text, status_of}
use Rattle.bt_tool.specs.declared.planning.plan_type.Command.{Command}
use Rattle.bt_tool.specs.model.Table.{Word, tool_name, tool_of}
use Rattle.bt_files.specs.calls.Message.{Says, cannot_open_text, message_seen}
use Rattle.bt_files.specs.declared.carrying_out.OpenedFiles.{OpenedFiles}
use Rattle.bt_files.specs.declared.files.Files.{Ghosts as Files}
use Rattle.bt_files.specs.declared.message.Message.{Message}

-- a run ended without a fault, of which nothing is said; or with this one
abbrev pub ReportsRun : PlanSeen → Option FaultValue → Message → Type 0
ReportsRun plan None message = message_seen message.line ≡ [] × message.status ≡ 0
ReportsRun plan (Some fault) message = Says (fault_text plan fault) (status_of (Some fault)) message

-- no file was opened, and no output made
abbrev pub LeavesAll : {F T : Type 0} → F → Option T → F → Type 0
LeavesAll before left after = (left ≡ None) × (after ≡ before)

-- The files of a plan are opened in their order, each once. In what follows, files are those before and those after.

module _ {F I O : Type 0} (ghosts : Files F I O) where
  -- the input is the file of this name, if there is one
  abbrev pub OpensIf : F → Option Word → Option I → F → Type 0
  OpensIf before None None after = after ≡ before
  OpensIf before (Some name) (Some input) after = ghosts.opens before name input after
  OpensIf before _ _ after = ⊥

  -- the genome file was opened, if the plan has one, and then the first input
  pub record AfterFirst (before : F) (plan : PlanSeen) (genome : Option I) (first : I) (after : F) : Type 0 where
    pub between : F
    pub genome_first : OpensIf before plan.names.genome genome between
    pub then_first : ghosts.opens between plan.names.first first after

  -- and then the second input, if the plan has one
  pub record AfterSecond (before : F) (plan : PlanSeen) (genome : Option I) (first : I) (second : Option I) (after : F)
      : Type 0 where
    pub between : F
    pub first_so : AfterFirst before plan genome first between
    pub then_second : OpensIf between plan.names.second second after

  -- and then the output was made
  pub record AfterOutput (before : F) (plan : PlanSeen) (genome : Option I) (first : I) (second : Option I) (output : O)
      (after : F) : Type 0 where
    pub between : F
    pub inputs : AfterSecond before plan genome first second between
    pub then_output : ghosts.creates between plan.names.output output after

  -- a file of this name wasn't opened, which is reported
  pub record ReportsUnopened (before : F) (plan : PlanSeen) (name : Word) (message : Message) (after : F) : Type 0 where
    pub refused : ghosts.refuses before name after
    pub says : Says (cannot_open_text (tool_name (tool_of plan.command)) name) 1 message

  -- the first file of the plan that can't be opened is reported, and no later one was tried
  pub data CannotBegin (before : F) (plan : PlanSeen) (message : Message) (after : F) : Type 0 where
    no_genome : (name : Word) → plan.names.genome ≡ Some name → ReportsUnopened before plan name message after
        → CannotBegin before plan message after
    no_first : (genome : Option I) (between : F) (name : Word)
        → OpensIf before plan.names.genome genome between → plan.names.first ≡ name
        → ReportsUnopened between plan name message after → CannotBegin before plan message after
    no_second : (genome : Option I) (first : I) (between : F) (name : Word)
        → AfterFirst before plan genome first between → plan.names.second ≡ Some name
        → ReportsUnopened between plan name message after → CannotBegin before plan message after
    no_output : (genome : Option I) (first : I) (second : Option I) (between : F) (name : Word)
        → AfterSecond before plan genome first second between → plan.names.output ≡ Some name
        → ReportsUnopened between plan name message after → CannotBegin before plan message after

module _ {I O : Type 0} (source : Source I) (sink : Sink O) where
  -- a command was run over opened files, and ended with this fault, or without one: all that is said of it
  pub record RunsOver (command : Command) (genome : Option I) (first : I) (second : Option I) (out : O)
      (fault : Option FaultValue) (genome_after : Option I) (first_after : I) (second_after : Option I) (out_after : O)
      : Type 0 where
    pub report : Runs source source source sink command genome first second out fault
        genome_after first_after second_after out_after
    pub flushed : (fault ≡ Some write_failed) ⊎ (sink.is_flushed out_after ≡ true)

module _ {F I O : Type 0} (ghosts : Files F I O) (source : Source I) (sink : Sink O) where
  -- The plan's command was run once, over the files that it names, and ended with this fault, or without one. That is
  -- reported, and the files are as they were then.
  pub record ReportsItsRun (before : F) (plan : PlanSeen) (message : Message) (left : Option (OpenedFiles I O)) (after : F)
      : Type 0 where
    pub fault : Option FaultValue
    pub genome : Option I
    pub first : I
    pub second : Option I
    pub out : O
    pub genome_after : Option I
    pub first_after : I
    pub second_after : Option I
    pub out_after : O
    pub opened : AfterOutput ghosts before plan genome first second out after
    pub ran : RunsOver source sink plan.command genome first second out fault genome_after first_after second_after out_after
    pub left_so : left ≡ Some (record {
      genome = genome_after;
      first = first_after;
      second = second_after;
      output = out_after;
    })
    pub reports : ReportsRun plan fault message

  -- the plan was carried out; or it couldn't be, and no output was made
  abbrev pub Ends : F → PlanSeen → Message → Option (OpenedFiles I O) → F → Type 0
  Ends before plan message left after =
      (CannotBegin ghosts before plan message after × (left ≡ None)) ⊎ ReportsItsRun before plan message left after
