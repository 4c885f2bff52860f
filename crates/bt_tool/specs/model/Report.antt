-- What a run gives. Its top is `report`, near the end.
use Rattle.std.specs.Prelude.{ℕ, List, [], Option, Some, None, unwrap_or, Result, Ok, Err, option_map}
use Rattle.bt_lines.specs.model.Lines.{Handed, whole_text}
use Rattle.bt_bed.specs.model.Genome.{Entry, genome_handed}
use Rattle.bt_bed.specs.model.Meeting.{Report}
use Rattle.bt_tool.specs.declared.planning.plan_type.Command.{Command}
use Rattle.bt_lines.specs.model.Fault.{FaultValue, InputNames, line_of}
use Rattle.bt_lines.specs.declared.fault.Input.TheVariants.{Genome}
use Rattle.bt_tool.specs.model.Options.{Named, PlanSeen, options}
use Rattle.bt_tool.specs.model.Table.{Word, tool_name, tool_of}
use Rattle.bt_tool.specs.model.Usage.{usage_text}
use Rattle.bt_tool.specs.declared.options.usage.Usage.{Usage}
use Rattle.bt_tool.specs.model.Behaviour.{Behaviour, behaviour_of}

-- What the inputs of a run hand over to it.

-- what came of each input; one that the plan doesn't have is `None`
pub record Inputs : Type 0 where
  pub genome : Option Handed
  pub first : Handed
  pub second : Option Handed

-- What a command does with its inputs: the report on what they hand over, what the first lines of
-- the first input settle and need. Then which faults a line of each can have.

-- What a run gives: the bytes written, the fault reported and the exit status, from the words of the
-- command line and what its inputs hand over.

-- the chromosomes that a genome file has, or its fault
abbrev pub of_file : Result (List Entry) FaultValue → Result (Option (List Entry)) FaultValue
of_file (Ok entries) = Ok (Some entries)
of_file (Err fault) = Err fault

-- The chromosomes of the genome file, or its fault. A run without a genome file has no list of them,
-- which isn't an empty one: it goes by the bytes of the names.
abbrev pub chromosomes_of : Option Handed → Result (Option (List Entry)) FaultValue
chromosomes_of None = Ok None
chromosomes_of (Some genome) = of_file (genome_handed Genome genome)

-- What a command does by the chromosomes of its genome file. The file's fault comes before all else:
-- nothing is written, settled or needed.
abbrev pub behaviour_on : Command → Result (Option (List Entry)) FaultValue → Behaviour
behaviour_on command (Ok chromosomes) = behaviour_of command chromosomes
behaviour_on command (Err fault) = record {
  report = λ first second. record { output = []; fault = Some fault };
  settles = λ second lines. [];
  faults = λ lines. None;
  reaches = λ second lines. 0;
  FirstKinds = λ kind. ⊥;
  SecondKinds = λ kind. ⊥;
}

abbrev pub report_on : Command → Result (Option (List Entry)) FaultValue → Handed → Option Handed → Report
report_on command chromosomes = (behaviour_on command chromosomes).report

-- the report of a command on what its inputs hand over
unfoldable pub report_of : Command → Inputs → Report
report_of command inputs =
    report_on command (chromosomes_of inputs.genome) inputs.first inputs.second

-- the names of inputs; an input that a plan doesn't have has none
abbrev pub names_in : Named → InputNames
names_in names = record {
  genome = unwrap_or names.genome [];
  first = names.first;
  second = unwrap_or names.second [];
}

-- the line that tells a fault of a run of the plan
abbrev pub fault_text : PlanSeen → FaultValue → List ℕ
fault_text plan fault = line_of (tool_name (tool_of plan.command)) (names_in plan.names) fault

-- the exit status of a run
abbrev pub status_of : Option FaultValue → ℕ
status_of None = 0
status_of (Some fault) = 1

-- what a user sees: the bytes on standard output, the line on standard error, if there is one,
-- and the exit status
pub record Seen : Type 0 where
  pub output : List ℕ
  pub line : Option (List ℕ)
  pub status : ℕ

-- what a user sees of the report of a plan
abbrev pub seen_of : PlanSeen → Report → Seen
seen_of plan report = record {
  output = report.output;
  line = option_map (fault_text plan) report.fault;
  status = status_of report.fault;
}

-- the texts of the inputs that a plan has
abbrev pub texts_of : PlanSeen → List ℕ → List ℕ → List ℕ → Inputs
texts_of plan genome first second = record {
  genome = option_map (λ name. whole_text genome) plan.names.genome;
  first = whole_text first;
  second = option_map (λ name. whole_text second) plan.names.second;
}

-- what a user sees: a fault of the words, or what the plan's run gives
abbrev pub answer_of : List Word → Result PlanSeen Usage → List ℕ → List ℕ → List ℕ → Seen
answer_of words (Err usage) genome first second =
    record { output = []; line = Some (usage_text words usage); status = 2 }
answer_of words (Ok plan) genome first second =
    seen_of plan (report_of plan.command (texts_of plan genome first second))

-- what the words and the whole texts of the inputs give
unfoldable pub report : List Word → List ℕ → List ℕ → List ℕ → Seen
report words genome first second = answer_of words (options words) genome first second
