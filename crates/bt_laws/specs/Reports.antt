-- What holds of every command line.
use Rattle.std.specs.Prelude.{◌≡◌, ◌≢◌, ◌↔◌, List, ◌∷◌, ◌++◌, ℕ, None, Some, Err, Result, All, length}
use Rattle.bt_tool.specs.declared.options.usage.Usage.{Usage}
use Rattle.bt_tool.specs.model.Usage.{Item, items_of, words_spelled}
use Rattle.bt_tool.specs.calls.CommandLine.{IsLongestDivision, IsTellable, AnswersAll}
use Rattle.bt_tool.specs.model.Options.{PlanSeen, last_item, options, word_fault}
use Rattle.bt_tool.specs.model.Table.{Word, Table}

-- the longest prefix that divides into items divides in one way, the one that is read
abbrev pub LongestDivisionIsUnique : Type 0
LongestDivisionIsUnique = (table : Table) (words : List Word) (items : List Item)
    → IsLongestDivision table words items ↔ (items ≡ items_of table words)

-- there is one result for a list of words, the one that is given
abbrev pub AnswerIsUnique : Type 0
AnswerIsUnique = (words : List Word) (answer : Result PlanSeen Usage)
    → AnswersAll words answer ↔ (answer ≡ options words)

-- no word is at fault exactly if all words divide into items
abbrev pub FaultIsOfWhatIsLeft : Type 0
FaultIsOfWhatIsLeft = (table : Table) (at : ℕ) (words : List Word)
    → (word_fault table at words ≡ None) ↔ (words_spelled (items_of table words) ≡ words)

-- an item that no later item of its option follows is the option's last
abbrev pub LastItemCounts : Type 0
LastItemCounts = (items later : List Item) (item : Item)
    → All (λ other. other.option ≢ item.option) later
    → last_item item.option (items ++ item ∷ later) ≡ Some item

-- each fault has its number, and if it is one word's, that word's index
abbrev pub FaultsCanBeTold : Type 0
FaultsCanBeTold = (words : List Word) (usage : Usage)
    → options words ≡ Err usage → IsTellable usage (length words)
