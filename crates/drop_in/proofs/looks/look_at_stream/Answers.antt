use Rattle.std.proofs.Common.{rules}
use Rattle.bt_lines.proofs.Std.{Result, refl, subst}
use Rattle.bt_front.specs.declared.survey.Survey.{Survey}
use Rattle.bt_front.specs.declared.survey.trouble.Trouble.{Trouble}
use Rattle.drop_in.specs.calls.Looks.{SurveysStream}
use Rattle.drop_in.specs.calls.Looks.LeavesStream.{by_text}
use Rattle.drop_in.proofs.looks.look_at_stream.Goals as goal

pub returns-in-Ok-surveyed-clause-sees : goal.returns-in-Ok-surveyed-clause-sees
returns-in-Ok-surveyed-clause-sees g c = record {
  opened = c.in-Ok.source;
  stream = c.survey_stream-surveyed.result.1;
  opens = c.in-Ok.ensures.opens;
  surveys = subst (λ (r : Result Survey Trouble). SurveysStream g.F.Input.Source c.in-Ok.source c.survey_stream-surveyed.result.1 r)
      c.in-Ok-surveyed.is c.survey_stream-surveyed.ensures;
  reading = refl;
}

pub returns-in-Err-surveyed-clause-leaves : goal.returns-in-Err-surveyed-clause-leaves
returns-in-Err-surveyed-clause-leaves g c =
    by_text c.in-Ok.source c.survey_stream-surveyed.result.1 c.in-Err-surveyed.trouble refl c.in-Ok.ensures.opens
    (subst (λ (r : Result Survey Trouble). SurveysStream g.F.Input.Source c.in-Ok.source c.survey_stream-surveyed.result.1 r)
    c.in-Err-surveyed.is c.survey_stream-surveyed.ensures) (search rules)
