-- Runs without a fault: the records of their inputs, what they write, and the inputs of the next run in a pipe.
use Rattle.std.specs.Prelude.{◌≡◌, ℕ, List, Option, None, Some, Ok}
use Rattle.bt_lines.specs.model.Lines.{Handed, whole_text}
use Rattle.bt_lines.specs.declared.fault.Input.TheVariants.{First, Second}
use Rattle.bt_bed.specs.model.Feature.{Feature}
use Rattle.bt_bed.specs.model.Good.{items_in, bed_good}
use Rattle.bt_bed.specs.model.Genome.{Entry}
use Rattle.bt_tool.specs.model.Report.{Inputs, chromosomes_of, report_of}
use Rattle.bt_tool.specs.model.Behaviour.{order_in_use, or_empty}
use Rattle.bt_tool.specs.declared.planning.plan_type.Command.{Command}

-- a run without a fault, by the chromosomes of its genome file, or without one
pub record RunsWithoutFault (command : Command) (inputs : Inputs) (chromosomes : Option (List Entry))
    : Type 0 where
  pub genome : chromosomes_of inputs.genome ≡ Ok chromosomes
  pub faultless : (report_of command inputs).fault ≡ None

-- a run without a fault that writes this
pub record RunWrites (command : Command) (inputs : Inputs) (bytes : List ℕ) : Type 0 where
  pub output : (report_of command inputs).output ≡ bytes
  pub faultless : (report_of command inputs).fault ≡ None

-- the records of the inputs
abbrev pub first_records : Option (List Entry) → Inputs → List Feature
first_records chromosomes inputs =
    items_in (bed_good First (order_in_use chromosomes) inputs.first)

abbrev pub second_records : Option (List Entry) → Inputs → List Feature
second_records chromosomes inputs =
    items_in (bed_good Second (order_in_use chromosomes) (or_empty inputs.second))

-- the inputs of the next run in a pipe: the output of the first run instead of its first input
abbrev pub piped : Command → Inputs → Inputs
piped command inputs = record {
  genome = inputs.genome;
  first = whole_text (report_of command inputs).output;
  second = inputs.second;
}

-- the second input alone, as the first of a command, by this genome file
abbrev pub second_alone : Option Handed → Inputs → Inputs
second_alone genome inputs =
    record { genome = genome; first = or_empty inputs.second; second = None }

-- what a command writes of the second input alone
abbrev pub of_second : Command → Inputs → List ℕ
of_second command inputs = (report_of command (second_alone inputs.genome inputs)).output

-- the inputs with that instead of the second
abbrev pub with_second_input : Command → Inputs → Inputs
with_second_input command inputs = record {
  genome = inputs.genome;
  first = inputs.first;
  second = Some (whole_text (of_second command inputs));
}

-- the inputs that these texts are, without a genome file
abbrev pub two_texts : List ℕ → List ℕ → Inputs
two_texts first second =
    record { genome = None; first = whole_text first; second = Some (whole_text second) }
