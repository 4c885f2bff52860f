use Rattle.bt_front.proofs.lemmas.survey.ReadLemmas.{leaves_told, survey_told}
use Rattle.bt_front.proofs.laws.surveys_tell_the_text.Goals as goal

pub returns : goal.returns
returns g c before after text tells = (survey_told g.S.Source before after text tells, leaves_told g.S.Source before after text tells)
