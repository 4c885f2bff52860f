-- The words of a command line divide into items in one way.
use Rattle.bt_lines.proofs.Std.{rules, ◌≡◌, ◌≢◌, ℕ, ◌≤◌, Bool, false, List, [], ◌∷◌, ◌++◌, length, Option, Some, None, refl, arith, append_assoc, length-append, All, bytes_eq, Result, ◌↔◌, flat_map-append, All-head, All-tail, drop-append_seam, drop-length, bytes_eq-Decides}
use Rattle.bt_tool.specs.model.Usage.{Item, items_of, words_spelled}
use Rattle.bt_tool.specs.calls.CommandLine.{IsItem, IsLongestDivision, AnswersPlan, AnswersAll}
use Rattle.bt_laws.specs.Reports.{AnswerIsUnique, FaultIsOfWhatIsLeft, LastItemCounts, LongestDivisionIsUnique}
use Rattle.bt_tool.specs.model.Options.{PlanSeen, asked, command_of, last_item, options, word_fault}
use Rattle.bt_tool.specs.model.Table.{Word, Table, table_of}
use Rattle.bt_tool.specs.declared.options.usage.Usage.{Usage}
use Rattle.bt_tool.proofs.lemmas.Options.{items_of-item}
use Rattle.bt_tool.proofs.lemmas.Division.{allowed, divided}

-- the words begin with the items
abbrev Front : List Word → List Item → Type 0
Front words items = (rest : List Word) × (words ≡ words_spelled items ++ rest)

front : (table : Table) (words : List Word) → Front words (items_of table words)
front table words = grind (arith, (divided table Front (λ words. (words, refl)) (λ item rest items h spells. grind arith) words))

-- if the words begin with other items, these are the first of those that are read
items_of-spelled : (table : Table) (others : List Item) (rest : List Word)
    → All (IsItem table) others
    → items_of table (words_spelled others ++ rest) ≡ others ++ items_of table rest
items_of-spelled table [] rest h = refl
items_of-spelled table (item ∷ others) rest h = grind (arith, (items_of-spelled table others rest (All-tail (IsItem table) item others h)), All-head, append_assoc, items_of-item)

items_of-IsLongest : (table : Table) (words : List Word)
    → IsLongestDivision table words (items_of table words)
items_of-IsLongest table words = grind (arith, allowed, front, items_of-spelled, flat_map-append, length-append)

spelled-none : (items : List Item) → length (words_spelled items) ≤ 0 → items ≡ []
spelled-none [] h = refl
spelled-none (item ∷ items) h = grind arith

longest-items_of : (table : Table) (words : List Word) (items : List Item)
    → IsLongestDivision table words items → items ≡ items_of table words
longest-items_of table words items h = grind (arith, (items_of-spelled table items (h.front.0) h.allowed), (front table words), allowed, flat_map-append, length-append, spelled-none, rules)

pub division-unique : LongestDivisionIsUnique
division-unique table words items = grind (arith, (items_of-IsLongest table words), (longest-items_of table words items))

no_fault-all : (table : Table) (at : ℕ) (words : List Word) → word_fault table at words ≡ None
    → words_spelled (items_of table words) ≡ words
unfolding word_fault
no_fault-all table at words e = grind (arith, (front table words), drop-append_seam, rules)

pub fault-of_left : FaultIsOfWhatIsLeft
unfolding word_fault
fault-of_left table at words = grind (arith, no_fault-all, drop-length)

other_text : (a b : Word) (same : Bool) → bytes_eq a b ≡ same → a ≢ b → same ≡ false
other_text a b same e h = search rules

abbrev IsOther : Word → Item → Type 0
IsOther option other = other.option ≢ option

last_item-none : (option : Word) (items : List Item)
    → All (IsOther option) items → last_item option items ≡ None
last_item-none option [] h = refl
last_item-none option (item ∷ items) h =
    let later = last_item-none option items (All-tail (IsOther option) item items h) in
    grind (arith, (other_text item.option option (bytes_eq item.option option) refl (All-head (IsOther option) item items h)))

pub last_item-counts : LastItemCounts
last_item-counts [] later item h = grind (arith, last_item-none, bytes_eq-Decides)
last_item-counts (first ∷ items) later item h = rw (last_item-counts items later item h) refl

-- the result of any longest division is that of the items that are read
answer-by : (command : _) (words : List Word) (answer : Result PlanSeen Usage)
    (fault : Option Usage) → word_fault (table_of command) 1 words ≡ fault
    → AnswersPlan command words answer → answer ≡ asked command words
unfolding word_fault
answer-by command words answer (Some usage) f a = grind (arith, (longest-items_of (table_of command) words a.items a.division))
answer-by command words answer None f a = grind (arith, (longest-items_of (table_of command) words a.items a.division))

asked-answers : (command : _) (words : List Word)
    → AnswersPlan command words (asked command words)
unfolding word_fault
asked-answers command words = grind (arith, (items_of-IsLongest (table_of command) words))

answer-named : (words : List Word) (answer : Result PlanSeen Usage) (named : Option _)
    → command_of words ≡ named → AnswersAll words answer ↔ (answer ≡ options words)
unfolding options
answer-named words answer None n = rw (n, options) (λ e. e, λ e. e)
answer-named words answer (Some command) n = grind (arith, answer-by, asked-answers)

pub answer-unique : AnswerIsUnique
answer-unique words answer = answer-named words answer (command_of words) refl
