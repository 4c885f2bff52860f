-- What the words of a call ask for, or why it isn't run here.
use Rattle.std.specs.Prelude.{◌≡◌, Bool, false, true, List, [], ◌∷◌, bytes_eq, codes, Option, Some, None, Ok, Err, IsOk, ℕ, ◌-◌, ◌≤◌, slice_get}
use Rattle.bt_lines.specs.declared.fault.Input.{Input}
use Rattle.bt_lines.specs.declared.fault.Input.TheVariants.{First, Genome, Second}
use Rattle.bt_front.specs.model.Words.{asked_of}
use Rattle.bt_tool.specs.calls.Plan.{plan_seen}
use Rattle.bt_tool.specs.declared.planning.plan_type.Command.{Command}
use Rattle.bt_tool.specs.declared.planning.plan_type.Command.TheVariants.{BamToBed, Intersect, MaskFasta, Subtract}
use Rattle.bt_front.specs.declared.words.word_reason.WordReason.{WordReason}
use Rattle.bt_tool.specs.declared.options.usage.Usage.{Usage as UsageFault}
use Rattle.bt_tool.specs.model.Options.{PlanSeen, options}
use Rattle.bt_tool.specs.model.Table.{Word}
use Rattle.drop_in.specs.calls.Call.{asked_by}
use Rattle.drop_in.specs.calls.Names.{is_of_standard_input}
use Rattle.drop_in.specs.declared.why.Why.{Why}
use Rattle.drop_in.specs.declared.why.Why.TheVariants.{Alignments, CoverageForm, Limit, Mask, NoMemory, Usage, Words}
use Rattle.drop_in.specs.declared.words.Request.{Request}

-- whether the first word is this one
abbrev pub names_command : List Word → Word → Bool
names_command [] name = false
names_command (word ∷ words) name = bytes_eq word name

-- why a command isn't run here: it limits the records that are held, or its inputs aren't BED
abbrev pub command_why : Command → Option Why
command_why (Intersect shape rule (Some held)) = Some Limit
command_why (Subtract whole rule (Some held)) = Some Limit
command_why (MaskFasta how full) = Some Mask
command_why (BamToBed split cigar) = Some Alignments
command_why _ = None

-- the words have this plan, and ask for this
pub record AsksFor (words : List Word) (request : Request) : Type 0 where
  pub plan : options words ≡ Ok (plan_seen request.plan)
  pub asked : asked_of words (plan_seen request.plan) ≡ Ok (asked_by request)
  pub run_here : command_why request.plan.command ≡ None

-- what the words say leaves the call
pub data IsWhyOfWords (words : List Word) : Why → Type 0 where
  -- there is no memory for their plan
  no_memory : IsOk (options words) → IsWhyOfWords words NoMemory
  converts : names_command words (codes "bamtobed") ≡ true → IsWhyOfWords words Alignments
  -- a form of genomecov of which there is no plan
  other_form : (usage : UsageFault) → names_command words (codes "genomecov") ≡ true → options words ≡ Err usage
      → IsWhyOfWords words CoverageForm
  no_plan : (usage : UsageFault) → options words ≡ Err usage → IsWhyOfWords words (Usage usage)
  -- the command isn't run here
  not_here : (plan : PlanSeen) (why : Why) → options words ≡ Ok plan → command_why plan.command ≡ Some why
      → IsWhyOfWords words why
  -- bedtools takes the words
  not_ours : (plan : PlanSeen) (reason : WordReason) → options words ≡ Ok plan → asked_of words plan ≡ Err reason
      → IsWhyOfWords words (Words reason)

-- the value of an option is at this place, counted from 1: the word before it is the option
pub record IsValueOf (words : List Word) (option value : Word) (place : ℕ) : Type 0 where
  pub option_before : slice_get words (place - 2) ≡ Some option
  pub value_there : slice_get words (place - 1) ≡ Some value
  pub past_command : 3 ≤ place

-- The word that a stream of this name replaces, which an option names: none (0) if it is standard input by its name.
pub data IsStreamWord (words : List Word) (option name : Word) : ℕ → Type 0 where
  stays : is_of_standard_input name ≡ true → IsStreamWord words option name 0
  replaced : (place : ℕ) → IsValueOf words option name place → IsStreamWord words option name place

-- the option that names an input of a command
abbrev pub option_of : Command → Input → Word
option_of command Genome = codes "-g"
option_of command Second = codes "-b"
option_of (Intersect shape rule held) First = codes "-a"
option_of (Subtract whole rule held) First = codes "-a"
option_of command First = codes "-i"
