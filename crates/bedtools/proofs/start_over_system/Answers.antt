use Rattle.std.proofs.Common.{inl, inr}
use Rattle.std.specs.Prelude.{◌⊎◌}
use Rattle.bt_lines.proofs.Std.{Option, subst, sym}
use Rattle.bt_tool.specs.model.Options.{PlanSeen}
use Rattle.bt_files.specs.calls.Ending.{Ends, LeavesAll}
use Rattle.bt_files.specs.calls.Message.{SaysNoMemory}
use Rattle.bt_files.specs.calls.Opened.{opened_source, output_sink}
use Rattle.bt_files.specs.calls.RealFiles.{ReportsRealRun, real_files_get_their_report, system_files}
use Rattle.bt_files.specs.declared.carrying_out.OpenedFiles.{OpenedFiles}
use Rattle.bt_files.specs.declared.message.Message.{Message}
use Rattle.bt_files.specs.declared.opened.Opened.{Opened}
use Rattle.bt_files.specs.declared.output.Output.{Output}
use Rattle.bt_files.specs.declared.system_files.SystemFiles.{SystemFiles}
use Rattle.bedtools.proofs.start_over_system.Goals as goal

pub returns-clause-usage : goal.returns-clause-usage
returns-clause-usage c usage asked =
    let told = c.start.ensures.usage usage asked in
    (told.0, told.1.0)

-- a plan was carried out, or there was no memory for it
reported : (before after : SystemFiles) (plan : PlanSeen) (message : Message) (left : Option (OpenedFiles Opened Output)) → real_files_get_their_report → Ends system_files opened_source output_sink before plan message left after ⊎ (SaysNoMemory message × LeavesAll before left after) → ReportsRealRun plan message left
reported before after plan message left law (inl ends) = law before plan message left after ends
reported before after plan message left law (inr none) = subst (λ left. ReportsRealRun plan message left) (sym none.1.0) tt

pub returns-clause-run : goal.returns-clause-run
returns-clause-run c plan asked =
    reported _ _ plan c.start.result.message c.start.result.left c.real_files_get_their_report.ensures (c.start.ensures.run plan asked)
