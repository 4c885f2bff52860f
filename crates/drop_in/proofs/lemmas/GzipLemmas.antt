-- Lemmas on gzip files: surveys of texts in memory.
use Rattle.std.specs.Prelude.{IfErr, IfOk}
use Rattle.bt_lines.proofs.Std.{ℕ, Err, List, Ok, Result, subst, sym}
use Rattle.bt_lines.specs.calls.Device.{TellsText}
use Rattle.bt_lines.specs.declared.device.Source.{Ghosts as Source}
use Rattle.bt_front.proofs.lemmas.survey.ReadLemmas.{leaves_told, survey_told}
use Rattle.bt_front.specs.calls.Survey.{IsTroubleOf, LeavesText, ReadsSurvey, Surveys}
use Rattle.bt_front.specs.declared.survey.Survey.{Survey}
use Rattle.bt_front.specs.declared.survey.trouble.Trouble.{Trouble}
use Rattle.bt_front.specs.model.Survey.{IsSurveyOf}

-- A survey of a source that tells a text is one of that text.
module _ {S : Type 0} (device : Source S) (before after : S) (text : List ℕ) (tells : TellsText device.is_read before text) where
  pub surveys_text : (survey : Survey) → Surveys device before after survey → IsSurveyOf text survey
  surveys_text survey surveys =
      subst (λ (bytes : List ℕ). IsSurveyOf bytes survey) (sym (survey_told device before after text tells survey surveys)) surveys.is

  pub leaves_text : (trouble : Trouble) → LeavesText device before after trouble → IsTroubleOf text trouble
  leaves_text trouble leaves =
      let told = leaves_told device before after text tells trouble leaves in
      subst (λ (bytes : List ℕ). IsTroubleOf bytes trouble) (sym told.1) (leaves.is told.0 told.2)

  pub surveyed_text : (result : Result Survey Trouble) → ReadsSurvey device before after result → IfOk result (IsSurveyOf text)
  surveyed_text (Ok survey) surveys = surveys_text survey surveys
  surveyed_text (Err trouble) leaves = tt

  pub left_text : (result : Result Survey Trouble) → ReadsSurvey device before after result → IfErr result (IsTroubleOf text)
  left_text (Ok survey) surveys = tt
  left_text (Err trouble) leaves = leaves_text trouble leaves
