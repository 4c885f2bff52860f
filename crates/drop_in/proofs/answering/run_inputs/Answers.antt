use Rattle.std.specs.Prelude.{is_some}
use Rattle.bt_lines.proofs.Std.{◌≡◌, ◌∙◌, Bool, ap, refl, subst}
use Rattle.bt_files.specs.calls.Ending.{Ends}
use Rattle.bt_tool.specs.calls.Plan.{plan_seen}
use Rattle.bt_tool.specs.model.Options.{PlanSeen}
use Rattle.drop_in.specs.calls.Call.{plan_by}
use Rattle.drop_in.specs.calls.Inputs.{front_files, front_source}
use Rattle.drop_in.proofs.answering.run_inputs.Goals as goal

pub returns : goal.returns
returns g c =
    let is : plan_seen c.with_order-plan.result ≡ plan_by (is_some c.args.inputs.genome) (plan_seen c.args.plan) =
    c.with_order-plan.ensures ∙ ap (λ (has : Bool). plan_by has (plan_seen c.args.plan)) c.is_some.ensures in record {
      front = c.ready-front.result;
      front_after = c.carry_out-finished.new.files;
      ready = c.ready-front.ensures;
      ends = subst (λ (plan : PlanSeen). Ends (front_files g.F.Files) (front_source g.I.Source) g.F.Output.Sink c.ready-front.result plan
          c.carry_out-finished.result.message c.carry_out-finished.result.left c.carry_out-finished.new.files) is c.carry_out-finished.ensures;
      left_below = refl;
    }
