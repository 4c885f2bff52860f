use Rattle.bt_lines.proofs.Std.{List, ap, refl, subst, ℕ, ◌∙◌}
use Rattle.bt_front.specs.calls.Survey.{IsTroubleOf}
use Rattle.bt_front.specs.model.Survey.{IsSurveyOf}
use Rattle.drop_in.specs.calls.Looks.LeavesGzip.{by_text, not_unzipped}
use Rattle.drop_in.specs.calls.Whys.{unzipped_why}
use Rattle.drop_in.proofs.gzip.look_at_gzip.Goals as goal

pub returns-in-Err-clause-leaves : goal.returns-in-Err-clause-leaves
returns-in-Err-clause-leaves g c = not_unzipped c.in-Err.ensures.leaves

pub returns-in-Ok-survey_text-clause-sees : goal.returns-in-Ok-survey_text-clause-sees
returns-in-Ok-survey_text-clause-sees g c = record {
  text = c.in-Ok.text;
  unzipped = c.in-Ok.ensures.gives;
  survey = subst (λ (bytes : List ℕ). IsSurveyOf bytes c.in-Ok-survey_text.survey) c.as_slice.ensures.value c.in-Ok-survey_text.ensures.surveys;
  reading = refl;
}

pub returns-in-Err-survey_text-clause-leaves : goal.returns-in-Err-survey_text-clause-leaves
returns-in-Err-survey_text-clause-leaves g c =
    by_text c.in-Ok.text.items c.in-Err-survey_text.trouble c.in-Ok.ensures.gives
    (subst (λ (bytes : List ℕ). IsTroubleOf bytes c.in-Err-survey_text.trouble) c.as_slice.ensures.value c.in-Err-survey_text.ensures.leaves)
    (c.unzipped_why.ensures
    ∙ ap (λ (bytes : List ℕ). unzipped_why c.args.input c.in-Err-survey_text.trouble bytes) c.as_slice-in-Err-survey_text.ensures.value)
