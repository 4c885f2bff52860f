-- Items and results of a command line, faults that can be reported, and what is reported.
use Rattle.std.specs.Prelude.{ℕ, ◌<◌, ◌≤◌, List, ◌++◌, IsTrue, ◌≡◌, Some, All, length, None, Result, Err, MatchOption, drop}
use Rattle.bt_tool.specs.declared.options.usage.Usage.{Usage}
use Rattle.bt_tool.specs.model.Table.{Word, Table, fits, takes, table_of}
use Rattle.bt_tool.specs.declared.options.takes.Takes.{Takes}
use Rattle.bt_tool.specs.model.Usage.{names_word, Item, words_spelled, no_command}
use Rattle.bt_tool.specs.declared.options.tool.Tool.{Tool}
use Rattle.bt_tool.specs.model.Options.{PlanSeen, fault_past, checked, command_of}
use Rattle.bt_tool.specs.declared.options.usage.Refusal.{Refusal}
use Rattle.bt_tool.specs.declared.options.usage.Refusal.TheVariants.{Usage as InWords, NoMemory}
use Rattle.bt_tool.specs.model.Report.{answer_of, report}

-- the table has the option, and it may have this value or none
abbrev pub IsItem : Table → Item → Type 0
IsItem table item =
    (kind : Takes) × (takes table item.option ≡ Some kind) × IsTrue (fits kind item.value)

-- the longest prefix of the words that divides into items is divided into these
pub record IsLongestDivision (table : Table) (words : List Word) (items : List Item) : Type 0 where
  pub allowed : All (IsItem table) items
  pub front : (rest : List Word) × (words ≡ words_spelled items ++ rest)
  pub longest : (others : List Item) (rest : List Word) → All (IsItem table) others
      → words ≡ words_spelled others ++ rest → length (words_spelled others) ≤ length (words_spelled items)

-- the result for the words after a command, by the items of their longest division
pub record AnswersPlan (tool : Tool) (words : List Word) (answer : Result PlanSeen Usage)
    : Type 0 where
  pub items : List Item
  pub division : IsLongestDivision (table_of tool) words items
  pub at_fault : (usage : Usage) → fault_past (table_of tool) 1 items words ≡ Some usage
      → answer ≡ Err usage
  pub all_divided : fault_past (table_of tool) 1 items words ≡ None
      → answer ≡ checked tool items

-- the result for all the words
abbrev pub AnswersAll : List Word → Result PlanSeen Usage → Type 0
AnswersAll words answer =
    MatchOption (command_of words) (answer ≡ Err no_command)
    (λ tool. AnswersPlan tool (drop 1 words) answer)

-- a fault that can be reported of this many words
pub record IsTellable (usage : Usage) (count : ℕ) : Type 0 where
  pub at_least : 1 ≤ usage.number
  pub at_most : usage.number ≤ 7
  pub in_words : IsTrue (names_word usage.number) → usage.word < count

-- what a user sees of these words is what such an answer gives, whatever the texts of the inputs
abbrev pub ReportsAnswer : List Word → Result PlanSeen Usage → Type 0
ReportsAnswer words answer = (genome first second : List ℕ)
    → report words genome first second ≡ answer_of words answer genome first second

-- a refusal answers so, unless memory ran out
abbrev pub ReportsRefusal : List Word → Refusal → Type 0
ReportsRefusal words (InWords usage) = ReportsAnswer words (Err usage)
ReportsRefusal words NoMemory = Unit {0}
