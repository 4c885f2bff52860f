-- What a verdict that takes a call says of its command.
use Rattle.bt_lines.proofs.Std.{◌≡◌, Bool, List, Ok, Option, Result, false, not, refl, true}
use Rattle.bt_bed.specs.model.Genome.{Entry}
use Rattle.bt_front.specs.declared.survey.Survey.{Survey}
use Rattle.bt_front.specs.declared.verdict.reason.InOrderOf.{InOrderOf}
use Rattle.bt_front.specs.declared.verdict.reason.Reason.{Reason}
use Rattle.bt_front.specs.declared.verdict.reason.Reason.TheVariants.{NoSurvey}
use Rattle.bt_front.specs.declared.words.Asked.{Asked}
use Rattle.bt_front.specs.model.Verdict.{has_survey, verdict_of}
use Rattle.bt_front.specs.model.Words.{Row, first_of, or_reason}
use Rattle.std.specs.Prelude.{◌∷◌}

-- the test of the first row didn't hold
first_row : (test : Bool) (reason : Reason) (rows : List (Row Reason)) (rest : Result InOrderOf Reason) (order : InOrderOf)
    → or_reason (first_of ((not test, reason) ∷ rows)) rest ≡ Ok order → test ≡ true
first_row true reason rows rest order is = refl
first_row false reason rows rest order is = cc

-- what is taken has surveys
pub taken_has_survey : (asked : Asked) (one : Survey) (other : Option Survey) (given : Option (List Entry)) (order : InOrderOf)
    → verdict_of asked one other given ≡ Ok order → has_survey asked.command ≡ true
taken_has_survey asked one other given order is = first_row (has_survey asked.command) NoSurvey _ _ order is
