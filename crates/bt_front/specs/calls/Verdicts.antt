-- What a verdict promises of a run.
use Rattle.std.specs.Prelude.{◌≡◌, ℕ, ⊤, List, Option, Some, None, Ok, option_map}
use Rattle.bt_lines.specs.model.Lines.{Handed, whole_text}
use Rattle.bt_bed.specs.model.Genome.{Entry, genome_names}
use Rattle.bt_tool.specs.model.Report.{chromosomes_of, report_of}
use Rattle.bt_tool.specs.declared.planning.plan_type.Command.{Command}
use Rattle.bt_tool.specs.declared.planning.plan_type.Command.TheVariants.{Intersect, Subtract}
use Rattle.bt_front.specs.declared.survey.Survey.{Survey}
use Rattle.bt_front.specs.declared.words.Asked.{Asked}
use Rattle.bt_front.specs.declared.verdict.reason.InOrderOf.{InOrderOf}
use Rattle.bt_front.specs.declared.verdict.reason.InOrderOf.TheVariants.{Found}
use Rattle.bt_front.specs.model.Fitting.{common_names, order_text}
use Rattle.bt_front.specs.model.Survey.{IsSurveyOf}
use Rattle.bt_front.specs.model.Verdict.{names_seen, second_names, verdict_of}

-- a survey is that of a text, if there is one
abbrev pub IsSurveyOfAny : Option (List ℕ) → Option Survey → Type 0
IsSurveyOfAny None None = ⊤
IsSurveyOfAny None (Some survey) = ⊥
IsSurveyOfAny (Some text) None = ⊥
IsSurveyOfAny (Some text) (Some survey) = IsSurveyOf text survey

-- surveys are those of the texts
pub record AreSurveysOf (first : List ℕ) (second : Option (List ℕ)) (one : Survey) (other : Option Survey) : Type 0 where
  pub first_is : IsSurveyOf first one
  pub second_is : IsSurveyOfAny second other

-- the chromosomes by which a run goes are those of the genome file, if one is given; or they are in the order that was
-- found
abbrev pub GoesBy : InOrderOf → Option (List Entry) → Survey → Option Survey → Option (List Entry) → Type 0
GoesBy Found given one other used = (entries : List Entry) × (used ≡ Some entries)
    × (common_names (names_seen one) (second_names other) ≡ Some (genome_names entries))
GoesBy _ given one other used = used ≡ given

-- how many records may be held, which is this program's own option
abbrev pub limit_of : Command → Option ℕ
limit_of (Intersect shape rule held) = held
limit_of (Subtract whole rule held) = held
limit_of _ = None

-- What is taken is finished: if texts are as surveyed, and the verdict takes what is asked of them, then the report on
-- them, by the chromosomes of the verdict's order, has no fault.
abbrev pub taken_is_finished : Type 0
taken_is_finished = (asked : Asked) (first : List ℕ) (second : Option (List ℕ)) (one : Survey) (other : Option Survey)
    (given used : Option (List Entry)) (order : InOrderOf) (genome : Option Handed)
    → AreSurveysOf first second one other → verdict_of asked one other given ≡ Ok order
    → GoesBy order given one other used → chromosomes_of genome ≡ Ok used → limit_of asked.command ≡ None
    → (report_of asked.command (record {
      genome = genome;
      first = whole_text first;
      second = option_map whole_text second;
    })).fault ≡ None

-- The order that is found is used: the genome file of the names that are found, in which the texts have all chromosomes, gives
-- a run that order.
abbrev pub found_order_is_used : Type 0
found_order_is_used = (first : List ℕ) (second : Option (List ℕ)) (one : Survey) (other : Option Survey)
    (names : List (List ℕ)) → AreSurveysOf first second one other
    → common_names (names_seen one) (second_names other) ≡ Some names
    → (used : Option (List Entry)) × GoesBy Found None one other used
    × (chromosomes_of (Some (whole_text (order_text names))) ≡ Ok used)
