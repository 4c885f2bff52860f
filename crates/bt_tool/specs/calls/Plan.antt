-- A plan and a refusal as contracts see them.
use Rattle.std.specs.Prelude.{◌≡◌, ℕ, ⊤, Err, IsOk, List, String, map, option_map, string_bytes}
use Rattle.std.specs.declared.alloc.Global.{Global}
use Rattle.bt_tool.specs.declared.planning.plan_type.Plan.{Plan}
use Rattle.bt_tool.specs.declared.options.usage.Refusal.{Refusal}
use Rattle.bt_tool.specs.declared.options.usage.Refusal.TheVariants.{Usage, NoMemory}
use Rattle.bt_tool.specs.model.Options.{PlanSeen, options}
use Rattle.bt_tool.specs.model.Table.{Word}
use Rattle.bt_tool.specs.calls.CommandLine.{IsTellable}

-- the words, as their bytes
abbrev pub words_seen : List (String Global) → List Word
words_seen words = map string_bytes words

abbrev pub plan_seen : Plan → PlanSeen
plan_seen plan = record {
  command = plan.command;
  names = record {
    genome = option_map string_bytes plan.genome;
    first = string_bytes plan.first;
    second = option_map string_bytes plan.second;
    output = option_map string_bytes plan.output;
  };
}

-- the fault of these words; memory runs out only if they have a plan
abbrev pub IsRefusalOf : List Word → Refusal → Type 0
IsRefusalOf words (Usage usage) = options words ≡ Err usage
IsRefusalOf words NoMemory = IsOk (options words)

-- a fault that can be reported of this many words
abbrev pub CanBeTold : ℕ → Refusal → Type 0
CanBeTold count (Usage usage) = IsTellable usage count
CanBeTold count NoMemory = ⊤
