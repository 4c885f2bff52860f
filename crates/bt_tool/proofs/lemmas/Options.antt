-- Lemmas on the words of a command line.
use Rattle.bt_lines.proofs.Std.{common_steps, rules, ◌≡◌, ℕ, ◌+◌, ◌<◌, ◌≤◌, Bool, true, false, List, [], ◌∷◌, length, Option, Some, None, Err, drop, refl, sym, ap, ◌∙◌, arith, length-drop, Result, Ok, is_some, if◌then◌else◌, IfErr, cond, subst, All, String, bytes_eq, option_and_then, string_bytes, unwrap_or, option_or, length-map, All-head, All-tail, not, option_map, IsSome, list_any, false≢true, or_parts, ◌++◌, add-zero, drop_of_length-le, drop-cons, get_or, drop-map}
use Rattle.bt_tool.specs.declared.options.tool.Tool.{Tool}
use Rattle.bt_tool.specs.declared.options.usage.Usage.{Usage}
use Rattle.bt_tool.specs.model.Usage.{Item, items_of, no_command, unknown_option, required_missing, options_exclusive, input_named_twice, words_of, value_missing, bad_value}
use Rattle.bt_tool.specs.calls.CommandLine.{IsTellable, IsItem, ReportsAnswer, ReportsRefusal}
use Rattle.bt_tool.specs.model.Options.{asked, checked, command_of, fault_together, options, word_fault, last_item, plan_of, value_of, command_by, is_given, output_by, value_if_any}
use Rattle.bt_tool.specs.model.Table.{Word, Table, table_of, takes, fits, tool_of}
use Rattle.bt_tool.specs.calls.Plan.{plan_seen, IsRefusalOf, words_seen}
use Rattle.bt_tool.specs.model.Report.{report}
use Rattle.bt_tool.specs.declared.planning.plan_type.Plan.{Plan}
use Rattle.bt_tool.specs.declared.options.usage.Refusal.{Refusal}
use Rattle.std.specs.declared.alloc.Global.{Global}
use Rattle.bt_lines.specs.model.Lines.{max_number, value_of as number_of}
use Rattle.bt_tool.specs.calls.Given.{items_of_words}
use Rattle.bt_tool.specs.calls.Lent.{table_lent}
use Rattle.bt_tool.specs.calls.Limits.{is_limit, IsNamedBy}
use Rattle.bt_tool.specs.declared.options.given.Given.{Given}
use Rattle.bt_tool.specs.declared.options.table.Table.{Table as Lent}
use Rattle.bt_tool.specs.declared.options.takes.Takes.TheVariants.{FileName}
use Rattle.bt_tool.proofs.lemmas.Fraction.{limit-or}
use Rattle.bt_tool.proofs.lemmas.Division.{allowed}
use Rattle.bt_tool.specs.declared.options.takes.Takes.{Takes}

-- What a list of words means, from the parts of it that the code finds one after another.

module _ (words : List Word) where
  pub options-no_command : command_of words ≡ None → options words ≡ Err no_command
  unfolding options
  options-no_command h = rw (h, options) refl

  pub options-command : (command : Tool) → command_of words ≡ Some command
      → options words ≡ asked command (drop 1 words)
  unfolding options
  options-command command h = rw (h, options) refl

  pub options-fault : (command : Tool) (usage : Usage) → command_of words ≡ Some command
      → word_fault (table_of command) 1 (drop 1 words) ≡ Some usage → options words ≡ Err usage
  options-fault command usage h g = options-command command h ∙ rw (g, asked) refl

  pub options-checked : (command : Tool) → command_of words ≡ Some command
      → word_fault (table_of command) 1 (drop 1 words) ≡ None
      → options words ≡ checked command (items_of (table_of command) (drop 1 words))
  options-checked command h g = options-command command h ∙ rw (g, asked) refl

word_fault-tellable : (table : Table) (at : ℕ) (words : List Word) (usage : Usage)
    → word_fault table at words ≡ Some usage → IsTellable usage (at + length words)
unfolding word_fault
word_fault-tellable table at words usage e = grind (arith, common_steps, length-drop)

command_of-some : (words : List Word) (command : Tool) → command_of words ≡ Some command
    → 1 + length (drop 1 words) ≡ length words
command_of-some words command e = grind arith

together-tellable : (missing exclusive twice : Bool) (usage : Usage) (count : ℕ)
    → (if missing then Some required_missing else (if exclusive then Some options_exclusive else
    (if twice then Some input_named_twice else None))) ≡ Some usage
    → IsTellable usage count
together-tellable missing exclusive twice usage count e = grind arith

refused-by : (command : Tool) (items : List Item) (fault : Option Usage) (usage : Usage)
    → fault_together (table_of command) items ≡ fault → checked command items ≡ Err usage
    → fault ≡ Some usage
refused-by command items fault usage f e = grind arith

checked-tellable : (command : Tool) (items : List Item) (usage : Usage) (count : ℕ)
    → checked command items ≡ Err usage → IsTellable usage count
checked-tellable command items usage count e = grind (arith, (together-tellable _ _ _ usage count (refused-by command items _ usage refl e)))

asked-tellable : (command : Tool) (words : List Word) (fault : Option Usage) (usage : Usage)
    → word_fault (table_of command) 1 words ≡ fault → asked command words ≡ Err usage
    → IsTellable usage (1 + length words)
asked-tellable command words None usage f e = grind (arith, (checked-tellable command (items_of (table_of command) words) usage (1 + length words) (rw (f, asked) at e)))
asked-tellable command words (Some told) usage f e = grind (arith, (word_fault-tellable (table_of command) 1 words told f))

named-tellable : (words : List Word) (named : Option Tool) (usage : Usage)
    → command_of words ≡ named → options words ≡ Err usage → IsTellable usage (length words)
named-tellable words None usage n e =
    let same : no_command ≡ usage = (let s = options-no_command words n in cc) in
    rw (← same) (grind arith)
named-tellable words (Some command) usage n e =
    let rest = drop 1 words in
    let told = asked-tellable command rest (word_fault (table_of command) 1 rest) usage refl
    (sym (options-command words command n) ∙ e) in
    rw (← command_of-some words command n) told

-- whatever fault the words have can be reported
pub options-tellable : (words : List Word) (usage : Usage) → options words ≡ Err usage
    → IsTellable usage (length words)
options-tellable words usage e = named-tellable words (command_of words) usage refl e

pub reports_plan : (words : List Word) (plan : Plan) → options words ≡ Ok (plan_seen plan) → ReportsAnswer words (Ok (plan_seen plan))
unfolding report
reports_plan words plan h = grind arith

refusal_reports : (words : List Word) (refusal : Refusal) → IsRefusalOf words refusal → ReportsRefusal words refusal
unfolding report
refusal_reports words refusal h = grind arith

pub reports_refusal : {T : Type 0} (words : List Word) (result : Result T Refusal) → IfErr result (IsRefusalOf words) → IfErr result (ReportsRefusal words)
reports_refusal words result h = grind (arith, refusal_reports)

-- Lemmas on the items of a command line.

-- what the words mean, once they divide into items
pub options-given : (words : List (String Global)) (given : Given) (tool : Tool)
    → table_lent given.table.now ≡ table_of tool → given.words.now ≡ words
    → command_of (words_seen words) ≡ Some tool
    → options (words_seen words) ≡ checked tool (items_of_words given)
options-given words given tool table same named =
    let known : command_of (words_seen given.words.now) ≡ Some tool =
    ap (λ w. command_of (words_seen w)) same ∙ named in
    let whole : word_fault (table_of tool) 1 (drop 1 (words_seen given.words.now)) ≡ None =
    ap (λ t. word_fault t 1 (drop 1 (words_seen given.words.now))) (sym table) ∙ given.no_fault in
    let items : items_of (table_of tool) (drop 1 (words_seen given.words.now)) ≡ items_of_words given =
    ap (λ t. items_of t (drop 1 (words_seen given.words.now))) (sym table) in
    ap (λ w. options (words_seen w)) (sym same)
    ∙ options-checked (words_seen given.words.now) tool known whole ∙ ap (checked tool) items

-- the table that the words were read by is that of the tool
pub same_table : (mine given : Lent) (table : Table) → mine ≡ given → table_lent given ≡ table
    → table_lent mine ≡ table
same_table mine given table same is = ap table_lent same ∙ is

-- and of the items together
pub together_at : (items : List Item) (given : Lent) (table : Table) (fault : Option Usage)
    → table_lent given ≡ table → fault_together (table_lent given) items ≡ fault
    → fault_together table items ≡ fault
together_at items given table fault same e = ap (λ t. fault_together t items) (sym same) ∙ e

module _ (words : List (String Global)) (tool : Tool) (named : command_of (words_seen words) ≡ Some tool) (table : Lent) (is : table_lent table ≡ table_of tool) where
  -- a word is at fault by that table
  pub fault-word : (usage : Usage) → word_fault (table_lent table) 1 (drop 1 (words_seen words)) ≡ Some usage → options (words_seen words) ≡ Err usage
  fault-word usage e = options-fault (words_seen words) tool usage named (ap (λ t. word_fault t 1 (drop 1 (words_seen words))) (sym is) ∙ e)

  -- or the items together are, or the words mean a plan
  module _ (given : Given) (mine : given.table.now ≡ table) (same : given.words.now ≡ words) where
    checked-by : (fault : Option Usage) → fault_together (table_lent given.table.now) (items_of_words given) ≡ fault
        → (options (words_seen words) ≡ checked tool (items_of_words given)) × (fault_together (table_of tool) (items_of_words given) ≡ fault)
    checked-by fault e =
        let table_is = same_table given.table.now table (table_of tool) mine is in
        (options-given words given tool table_is same named, together_at (items_of_words given) given.table.now (table_of tool) fault table_is e)

    pub fault-items : (usage : Usage) → fault_together (table_lent given.table.now) (items_of_words given) ≡ Some usage → options (words_seen words) ≡ Err usage
    fault-items usage e = let by = checked-by (Some usage) e in by.0 ∙ rw (by.1, checked) refl

    pub plan-items : fault_together (table_lent given.table.now) (items_of_words given) ≡ None → options (words_seen words) ≡ Ok (plan_of tool (items_of_words given))
    plan-items e = let by = checked-by None e in by.0 ∙ rw (by.1, checked) refl

-- a fault that the words mean can be reported of them
pub fault-tellable : (words : List (String Global)) (usage : Usage) → options (words_seen words) ≡ Err usage → IsTellable usage (length words)
fault-tellable words usage e = subst (IsTellable usage) (length-map words string_bytes) (options-tellable (words_seen words) usage e)

-- the last item of an option is an item of that option
record IsLast (table : Table) (option : Word) (item : Item) : Type 0 where
  allowed : IsItem table item
  named : item.option ≡ option

chosen-last : (table : Table) (option : Word) (x : Item) (test : Bool) (later : Option Item) (item : Item)
    → bytes_eq x.option option ≡ test → IsItem table x
    → ((other : Item) → later ≡ Some other → IsLast table option other)
    → option_or later (cond test (Some x) None) ≡ Some item → IsLast table option item
chosen-last table option x test later item same h rest e = search rules

last-is : (table : Table) (option : Word) (items : List Item) (item : Item) → All (IsItem table) items → last_item option items ≡ Some item → IsLast table option item
last-is table option [] item h e = cc
last-is table option (x ∷ xs) item h e =
    chosen-last table option x (bytes_eq x.option option) (last_item option xs) item refl (All-head (IsItem table) x xs h)
    (λ other f. last-is table option xs other (All-tail (IsItem table) x xs h) f) e

-- an option that takes a file name has a value
valued-last : (table : Table) (option : Word) (last : Option Item) → takes table option ≡ Some FileName
    → ((item : Item) → last ≡ Some item → IsLast table option item)
    → option_and_then (λ item. item.value) last ≡ None → last ≡ None
valued-last table option last has h e = grind arith

-- an option that takes a file name and is given has a value
pub valued : (given : Given) (option : Word) → takes (table_lent given.table.now) option ≡ Some FileName
    → value_of (items_of_words given) option ≡ None → last_item option (items_of_words given) ≡ None
valued given option file e =
    let table = table_lent given.table.now in
    let items = items_of_words given in
    valued-last table option (last_item option items) file
    (λ item f. last-is table option items item (allowed table (drop 1 (words_seen given.words.now))) f) e

-- a number that a text denotes has at most twelve digits
pub number-limit : (text : List ℕ) (n : ℕ) → number_of text ≡ Some n → n ≤ max_number
unfolding number_of
number-limit text n e = grind arith

pub number-limit-or : (text : List ℕ) → unwrap_or (number_of text) 0 ≤ max_number
number-limit-or text = limit-or max_number (number_of text) (number-limit text)

limits : (o : Option ℕ) → ((n : ℕ) → o ≡ Some n → n ≤ max_number) → is_limit o ≡ true
limits o h = grind arith

-- it can be the limit of what is held
pub number-is_limit : (text : List ℕ) → is_limit (number_of text) ≡ true
number-is_limit text = limits (number_of text) (number-limit text)

-- Lemmas on the names of a plan: an option that is required names something.

given-among : (items : List Item) (option : Word) (required : List Word)
    → list_any (λ option. not (is_given items option)) required ≡ false
    → list_any (bytes_eq option) required ≡ true → is_given items option ≡ true
given-among items option [] h k = absurd (false≢true k)
given-among items option (other ∷ others) h k = grind (arith, (given-among items option others (or_parts (not (is_given items other)) _ h).1), rules)

not-given : (items : List Item) (option : Word) → last_item option items ≡ None
    → is_given items option ≡ true → ⊥
not-given items option e h = false≢true (sym (ap is_some e) ∙ h)

some-value : (value : Option Word) → (value ≡ None → ⊥) → IsSome value
some-value value h = grind arith

some-copy : (copy : Option (String Global)) (value : Option Word)
    → option_map string_bytes copy ≡ value → IsSome value → IsSome copy
some-copy copy value e h = grind arith

-- the copy of a name is there if its option is required, and isn't if there is no such option
pub named : (given : Given) (table : Table) (option : Option Word) (copy : Option (String Global))
    → table_lent given.table.now ≡ table → fault_together table (items_of_words given) ≡ None
    → ((word : Word) → option ≡ Some word → takes table word ≡ Some FileName)
    → option_map string_bytes copy ≡ value_if_any (items_of_words given) option → IsNamedBy table option copy
named given table None copy same none file e = ((λ h. absurd (false≢true h)), λ _. grind arith)
named given table (Some option) copy same none file e = (
  (λ h. some-copy copy (value_of (items_of_words given) option) e
      (some-value (value_of (items_of_words given) option) (λ v.
      not-given (items_of_words given) option
      (valued given option (ap (λ t. takes t option) same ∙ file option refl) v)
      (given-among (items_of_words given) option table.required (grind arith)
      (grind arith))))),
  λ h. absurd (false≢true (sym h)),
)

-- no command requires the name of its output
pub named-output : (tool : Tool) (items : List Item) (copy : Option (String Global))
    → option_map string_bytes copy ≡ output_by (value_if_any items (table_of tool).output)
    → IsNamedBy (table_of tool) (table_of tool).output copy
named-output tool items copy e = grind arith

pub tool-by : (tool : Tool) (items : List Item) → tool_of (command_by tool items) ≡ tool
tool-by tool items = grind arith

-- How a list of words is divided, one item after another.

-- the words from an index on
pub words-from : (words : List (String Global)) (at : ℕ) (word : String Global)
    → at < length words → word ≡ get_or words at word
    → drop at (words_seen words) ≡ string_bytes word ∷ drop (at + 1) (words_seen words)
words-from words at word h e = grind (arith, drop-cons, drop-map)

pub words-end : (words : List (String Global)) (at : ℕ)
    → length words ≤ at → drop at (words_seen words) ≡ []
words-end words at h = rw (drop-map string_bytes at words, drop_of_length-le words h) refl

-- two words from an index on
pub words-pair : (words : List (String Global)) (at : ℕ) (word value : String Global)
    → at + 1 < length words
    → word ≡ get_or words at word → value ≡ get_or words (at + 1) value
    → drop at (words_seen words)
    ≡ string_bytes word ∷ string_bytes value ∷ drop (at + 2) (words_seen words)
words-pair words at word value h e f = grind (arith, words-from)

items_of-alone : (table : Table) (kind : Takes) (option : Word) (rest : List Word)
    → takes table option ≡ Some kind → fits kind None ≡ true
    → items_of table (option ∷ rest)
    ≡ record { option = option; value = None } ∷ items_of table rest
unfolding items_of
items_of-alone table kind option rest h g = grind arith

items_of-valued : (table : Table) (kind : Takes) (option value : Word) (rest : List Word)
    → takes table option ≡ Some kind → fits kind (Some value) ≡ true
    → items_of table (option ∷ value ∷ rest)
    ≡ record { option = option; value = Some value } ∷ items_of table rest
unfolding items_of
items_of-valued table kind option value rest h g = grind arith

-- words that begin with an item
pub items_of-item : (table : Table) (item : Item) (rest : List Word)
    → IsItem table item → items_of table (words_of item ++ rest) ≡ item ∷ items_of table rest
items_of-item table item rest p1 = grind (arith, items_of-alone, items_of-valued)

-- a fault lies past each item
word_fault-item : (table : Table) (at : ℕ) (item : Item) (rest : List Word) → IsItem table item
    → word_fault table at (words_of item ++ rest)
    ≡ word_fault table (at + length (words_of item)) rest
unfolding word_fault
word_fault-item table at item rest h = grind (arith, items_of-item)

word_fault-unknown : (table : Table) (at : ℕ) (option : Word) (rest : List Word)
    → takes table option ≡ None
    → word_fault table at (option ∷ rest) ≡ Some (unknown_option at)
unfolding items_of word_fault
word_fault-unknown table at option rest h = grind arith

word_fault-missing : (table : Table) (kind : Takes) (at : ℕ) (option : Word)
    → takes table option ≡ Some kind → fits kind None ≡ false
    → word_fault table at (option ∷ []) ≡ Some (value_missing at)
unfolding items_of word_fault
word_fault-missing table kind at option h g = rw (h, g, items_of, add-zero, h) refl

word_fault-bad : (table : Table) (kind : Takes) (at : ℕ) (option value : Word) (rest : List Word)
    → takes table option ≡ Some kind → fits kind None ≡ false → fits kind (Some value) ≡ false
    → word_fault table at (option ∷ value ∷ rest) ≡ Some (bad_value at)
unfolding items_of word_fault
word_fault-bad table kind at option value rest h g i = rw (h, g, i, items_of, add-zero, h) refl

-- the fault of the word at an index, if no item begins there
module _ (table : Table) (words : List (String Global)) (at : ℕ) (word : String Global)
    (is_word : word ≡ get_or words at word) where
  pub unknown-at : at < length words → takes table (string_bytes word) ≡ None
      → word_fault table at (drop at (words_seen words)) ≡ Some (unknown_option at)
  unknown-at h none = grind (arith, words-from, word_fault-unknown)

  module _ (kind : Takes) (has : takes table (string_bytes word) ≡ Some kind)
      (not_alone : fits kind None ≡ false) where
    pub missing-at : at < length words → length words ≤ at + 1
        → word_fault table at (drop at (words_seen words)) ≡ Some (value_missing at)
    missing-at h last = grind (arith, words-from, words-end, word_fault-missing)

    pub bad-at : (value : String Global) → at + 1 < length words
        → value ≡ get_or words (at + 1) value → fits kind (Some (string_bytes value)) ≡ false
        → word_fault table at (drop at (words_seen words)) ≡ Some (bad_value at)
    bad-at value h is_value bad = grind (arith, words-pair, word_fault-bad)

-- the words from an index on are still to come: all words give what these give
pub record HasReadWords (table : Table) (words : List Word) (at : ℕ) : Type 0 where
  pub fault : word_fault table 1 (drop 1 words) ≡ word_fault table at (drop at words)

-- and if these do not name an option, what is kept of it
pub record Reads (table : Table) (words : List Word) (option : Word) (at : ℕ) (kept : Option Item) : Type 0 where
  pub fault : word_fault table 1 (drop 1 words) ≡ word_fault table at (drop at words)
  pub last : last_item option (items_of table (drop 1 words)) ≡ option_or (last_item option (items_of table (drop at words))) kept

fault-moves : (table : Table) (words : List Word) (at : ℕ) (item : Item)
    → IsItem table item → drop at words ≡ words_of item ++ drop (at + length (words_of item)) words
    → word_fault table at (drop at words) ≡ word_fault table (at + length (words_of item)) (drop (at + length (words_of item)) words)
fault-moves table words at item h here = rw here (word_fault-item table at item (drop (at + length (words_of item)) words) h)

pub reads-on-item : (table : Table) (words : List Word) (at : ℕ) (item : Item)
    → IsItem table item → drop at words ≡ words_of item ++ drop (at + length (words_of item)) words
    → HasReadWords table words at → HasReadWords table words (at + length (words_of item))
reads-on-item table words at item h here reads = record { fault = reads.fault ∙ fault-moves table words at item h here }

pub reads-item : (table : Table) (words : List Word) (option : Word) (at : ℕ) (kept next : Option Item) (item : Item)
    → next ≡ option_or (if bytes_eq item.option option then Some item else None) kept
    → IsItem table item → drop at words ≡ words_of item ++ drop (at + length (words_of item)) words
    → Reads table words option at kept → Reads table words option (at + length (words_of item)) next
reads-item table words option at kept next item sets h here reads = grind (arith, fault-moves, items_of-item)

word_fault-end : (table : Table) (at : ℕ) → word_fault table at [] ≡ None
unfolding word_fault items_of
word_fault-end table at = refl

items_of-end : (table : Table) → items_of table [] ≡ []
unfolding items_of
items_of-end table = refl

pub reads-end : (table : Table) (words : List Word) (option : Word) (at : ℕ) (kept : Option Item)
    → drop at words ≡ [] → Reads table words option at kept → kept ≡ last_item option (items_of table (drop 1 words))
reads-end table words option at kept over reads = sym (reads.last ∙ rw (over, items_of-end table) refl)

pub reads-on-end : (table : Table) (words : List Word) (at : ℕ) → drop at words ≡ [] → HasReadWords table words at → word_fault table 1 (drop 1 words) ≡ None
reads-on-end table words at over reads = reads.fault ∙ rw over (word_fault-end table at)
