-- The options of a command line are those of the items into which it divides.
use Rattle.bt_lines.proofs.Std.{arith, ◌≡◌, ℕ, ◌+◌, ◌<◌, ◌≤◌, Bool, true, false, List, [], ◌∷◌, ◌++◌, Option, Some, None, Result, Ok, Err, refl, sym, ap, ◌∙◌, subst, bytes_eq, codes, drop, drop-cons, drop-drop, drop-map, drop_of_length-le, get_or, length, map, not, cond, if◌then◌else◌, ◌||◌, false≢true}
use Rattle.std.specs.Prelude.{IsOk, String, find, option_map, is_some, string_bytes}
use Rattle.std.specs.declared.alloc.Global.{Global}
use Rattle.bt_bed.specs.model.Order.{is_among}
use Rattle.bt_bed.proofs.lemmas.parse.NameLemmas.{same_name}
use Rattle.bt_tool.specs.model.Table.{Word, Row, Table, command_named, table_of, takes, tool_name, tool_of, fits}
use Rattle.bt_tool.specs.calls.Plan.{words_seen}
use Rattle.bt_runs.specs.declared.merge.merge_strand.MergeStrand.TheVariants.{All}
use Rattle.bt_sweep.specs.declared.hits.hit_rule.HitRule.{HitRule}
use Rattle.bt_sweep.specs.declared.output.shape.Shape.TheVariants.{Cut}
use Rattle.bt_tool.specs.declared.planning.plan_type.Command.TheVariants as does
use Rattle.bt_tool.specs.declared.options.usage.Usage.{Usage}
use Rattle.bt_tool.specs.model.Usage.{Item, items_of, words_of, words_spelled}
use Rattle.bt_tool.specs.model.Options.{PlanSeen, asked, bad_word_fault, command_of, fault_past, is_given, last_item, mask_how_by, options, word_fault}
use Rattle.bt_front.specs.model.Words.{has_repeated, items_in, option_names}
use Rattle.bt_front.specs.inside.Options.{options_in, takes_value, width}

-- the first option, and those after it and its value
more_one : (word : Word) (valued : Bool) → takes_value word ≡ valued → options_in (word ∷ []) ≡ word ∷ options_in (drop (if valued then 2 else 1) (word ∷ []))
unfolding options_in
more_one word true e = refl
more_one word false e = refl

more_two : (word next : Word) (rest : List Word) (valued : Bool) → takes_value word ≡ valued → options_in (word ∷ next ∷ rest) ≡ word ∷ options_in (drop (if valued then 2 else 1) (word ∷ next ∷ rest))
unfolding options_in
more_two word next rest true e = rw e refl
more_two word next rest false e = rw e refl

pub options_more : (word : Word) (rest : List Word) → options_in (word ∷ rest) ≡ word ∷ options_in (drop (width word) (word ∷ rest))
options_more word [] = more_one word (takes_value word) refl
options_more word (next ∷ rest) = more_two word next rest (takes_value word) refl

pub options_none : options_in [] ≡ []
unfolding options_in
options_none = refl

-- a table has a value for the options that take one, and for no others
abbrev Agrees : List Row → Type 0
Agrees [] = Unit {0}
Agrees (row ∷ rows) = (fits row.takes None ≡ not (takes_value row.option)) × Agrees rows

found : (row : Row) (rows : List Row) (word : Word) (kind : _) (is : Bool) → bytes_eq word row.option ≡ is
    → (fits row.takes None ≡ not (takes_value row.option))
    → (option_map (λ row. row.takes) (find (λ row. bytes_eq word row.option) rows) ≡ Some kind → fits kind None ≡ not (takes_value word))
    → option_map (λ row. row.takes) (cond is (Some row) (find (λ row. bytes_eq word row.option) rows)) ≡ Some kind
    → fits kind None ≡ not (takes_value word)
found row rows word kind true e agrees later f =
    let same : word ≡ row.option = same_name word row.option e in
    let taken : row.takes ≡ kind = cc in
    rw (← taken) (rw same agrees)
found row rows word kind false e agrees later f = later f

found_in : (rows : List Row) → Agrees rows → (word : Word) (kind : _)
    → option_map (λ row. row.takes) (find (λ row. bytes_eq word row.option) rows) ≡ Some kind
    → fits kind None ≡ not (takes_value word)
found_in [] agrees word kind f = absurd (cc)
found_in (row ∷ rows) agrees word kind f =
    found row rows word kind (bytes_eq word row.option) refl agrees.0 (found_in rows agrees.1 word kind) f

-- what holds of all holds of the one that is found
abbrev AllOf : {X : Type 0} → (X → Type 0) → List X → Type 0
AllOf P [] = Unit {0}
AllOf P (x ∷ xs) = P x × AllOf P xs

one_found : {X : Type 0} (P : X → Type 0) (test : X → Bool) (x : X) (xs : List X) (is : Bool) (y : X) → P x
    → (find test xs ≡ Some y → P y) → cond is (Some x) (find test xs) ≡ Some y → P y
one_found P test x xs true y p later e = let same : x ≡ y = cc in subst P same p
one_found P test x xs false y p later e = later e

all_found : {X : Type 0} (P : X → Type 0) (test : X → Bool) (xs : List X) → AllOf P xs → (y : X) → find test xs ≡ Some y → P y
all_found P test [] all y e = absurd (cc)
all_found P test (x ∷ xs) all y e = one_found P test x xs (test x) y all.0 (all_found P test xs all.1 y) e

-- each command has such a table
abbrev a_rule : HitRule
a_rule = record { billionths = 0; both = false; same_strand = false }

named_agrees : (word : Word) (tool : _) → command_named word ≡ Some tool → Agrees (table_of tool).options
unfolding takes_value
named_agrees word tool e =
    let tools = (tool_of (does.Merge 0 All) ∷ tool_of (does.Complement false) ∷ tool_of (does.Intersect Cut a_rule None)
    ∷ tool_of (does.Subtract false a_rule None) ∷ tool_of (does.Coverage false None) ∷ tool_of (does.BamToBed false false)
    ∷ tool_of (does.MaskFasta (mask_how_by []) false) ∷ []) in
    let all : AllOf (λ tool. Agrees (table_of tool).options) tools =
    ((refl, (refl, (refl, (refl, (refl, tt))))), ((refl, (refl, (refl, tt))), ((refl, (refl, (refl, (refl, (refl, (refl, (refl, (refl, (refl, (refl, (refl, (refl, (refl, (refl, tt)))))))))))))), ((refl, (refl, (refl, (refl, (refl, (refl, (refl, tt))))))), ((refl, (refl, (refl, (refl, (refl, tt))))), ((refl, (refl, (refl, tt))), ((refl, (refl, (refl, (refl, (refl, (refl, tt)))))), tt))))))) in
    all_found (λ tool. Agrees (table_of tool).options) (λ tool. bytes_eq word (tool_name tool)) tools all tool e

tool_agrees : (words : List Word) (tool : _) → command_of words ≡ Some tool → Agrees (table_of tool).options
tool_agrees [] tool e = absurd (cc)
tool_agrees (word ∷ words) tool e = named_agrees word tool e

-- whether all words are read as items
abbrev AreRead : Table → List Word → Type 0
AreRead table words = drop (length (words_spelled (items_of table words))) words ≡ []

module _ (table : Table) (agrees : (word : Word) (kind : _) → takes table word ≡ Some kind → fits kind None ≡ not (takes_value word)) where
  names_one : (word : Word) (kind : Option _) → takes table word ≡ kind → AreRead table (word ∷ []) → option_names (items_of table (word ∷ [])) ≡ options_in (word ∷ [])
  unfolding items_of options_in
  names_one word kind e read = grind arith

  names_more : (word value : Word) (rest : List Word) (kind : _) (alone valued : Bool) → takes table word ≡ Some kind → fits kind None ≡ alone → fits kind (Some value) ≡ valued
      → (AreRead table (value ∷ rest) → option_names (items_of table (value ∷ rest)) ≡ options_in (value ∷ rest))
      → (AreRead table rest → option_names (items_of table rest) ≡ options_in rest)
      → AreRead table (word ∷ value ∷ rest) → option_names (items_of table (word ∷ value ∷ rest)) ≡ options_in (word ∷ value ∷ rest)
  unfolding items_of options_in
  names_more word value rest kind true valued e f g one two read =
      let single : takes_value word ≡ false = grind (arith, (agrees word kind e)) in
      rw (e, f, single, items_of) (ap (λ names. word ∷ names) (one (rw (e, f, items_of) at read)))
  names_more word value rest kind false true e f g one two read =
      let double : takes_value word ≡ true = grind (arith, (agrees word kind e)) in
      rw (e, f, g, double, items_of) (ap (λ names. word ∷ names) (two (rw (e, f, g, items_of) at read)))
  names_more word value rest kind false false e f g one two read = grind arith

  names_two : (word value : Word) (rest : List Word) (kind : Option _) → takes table word ≡ kind
      → (AreRead table (value ∷ rest) → option_names (items_of table (value ∷ rest)) ≡ options_in (value ∷ rest))
      → (AreRead table rest → option_names (items_of table rest) ≡ options_in rest)
      → AreRead table (word ∷ value ∷ rest) → option_names (items_of table (word ∷ value ∷ rest)) ≡ options_in (word ∷ value ∷ rest)
  unfolding items_of
  names_two word value rest None e one two read = grind arith
  names_two word value rest (Some kind) e one two read = names_more word value rest kind (fits kind None) (fits kind (Some value)) e refl refl one two read

  names_read : (words : List Word) → AreRead table words → option_names (items_of table words) ≡ options_in words
  unfolding items_of options_in
  names_read [] read = refl
  names_read (word ∷ []) read = names_one word (takes table word) refl read
  names_read (word ∷ value ∷ rest) read = names_two word value rest (takes table word) refl (names_read (value ∷ rest)) (names_read rest) read

-- no word is past the items if none is at fault
none_past : (table : Table) (at : ℕ) (words : List Word) → bad_word_fault table at words ≡ None → words ≡ []
none_past table at [] e = refl
none_past table at (word ∷ []) e = grind arith
none_past table at (word ∷ value ∷ rest) e = grind arith

all_read : (table : Table) (words : List Word) → word_fault table 1 words ≡ None → AreRead table words
unfolding word_fault
all_read table words e = none_past table (1 + length (words_spelled (items_of table words))) (drop (length (words_spelled (items_of table words))) words) e

no_fault : (tool : _) (words : List Word) (fault : Option Usage) → word_fault (table_of tool) 1 words ≡ fault → IsOk (asked tool words) → fault ≡ None
no_fault tool words None e ok = refl
no_fault tool words (Some usage) e ok = absurd (false≢true (rw (e, asked) at ok))

-- the options of a command line that has a plan
names_planned : (words : List Word) (tool : Option _) → command_of words ≡ tool → IsOk (options words) → option_names (items_in words) ≡ options_in (drop 1 words)
unfolding options
names_planned words None e ok = absurd (false≢true (rw (e, options) at ok))
names_planned words (Some tool) e ok =
    let rest = drop 1 words in
    let none = no_fault tool rest (word_fault (table_of tool) 1 rest) refl (rw (e, options) at ok) in
    rw (e, items_in) (names_read (table_of tool) (λ word kind. found_in (table_of tool).options (tool_agrees words tool e) word kind) rest (all_read (table_of tool) rest none))

pub names_are : (words : List Word) → IsOk (options words) → option_names (items_in words) ≡ options_in (drop 1 words)
names_are words ok = names_planned words (command_of words) refl ok

-- whether an option is given is whether it is among them
pub given_among : (items : List Item) (option : Word) → is_given items option ≡ is_among (option_names items) option
given_among [] option = refl
given_among (item ∷ items) option = grind (arith, (given_among items option))

-- whether an option is given from a word on
pub given_in : (words : List Word) (option : Word) → IsOk (options words) → is_given (items_in words) option ≡ is_among (options_in (drop 1 words)) option
given_in words option ok = given_among (items_in words) option ∙ ap (λ names. is_among names option) (names_are words ok)

-- The words one after another.

words_from : (words : List (String Global)) (at : ℕ) (word : String Global) → at < length words → word ≡ get_or words at word
    → drop at (words_seen words) ≡ string_bytes word ∷ drop (at + 1) (words_seen words)
words_from words at word h e = grind (arith, drop-cons, drop-map)

words_end : (words : List (String Global)) (at : ℕ) → length words ≤ at → drop at (words_seen words) ≡ []
words_end words at h = rw (drop-map string_bytes at words, drop_of_length-le words h) refl

module _ (words : List (String Global)) (at : ℕ) where
  module _ (word : String Global) (h : at < length words) (e : word ≡ get_or words at word) where
    -- the option at a word, and those after it and its value
    options_at : options_in (drop at (words_seen words)) ≡ string_bytes word ∷ options_in (drop (at + width (string_bytes word)) (words_seen words))
    options_at =
        let from = words_from words at word h e in
        let more = options_more (string_bytes word) (drop (at + 1) (words_seen words)) in
        ap options_in from ∙ more ∙ ap (λ rest. string_bytes word ∷ options_in (drop (width (string_bytes word)) rest)) (sym from)
        ∙ ap (λ rest. string_bytes word ∷ options_in rest) (grind (arith, drop-drop))

    module _ (shown : Word) (is_shown : shown ≡ string_bytes word) where
      -- the option is found there, or further on
      pub found_at : (option : Word) (from : ℕ) (is : Bool) → is ≡ bytes_eq shown option → is ≡ true
          → is_among (options_in (drop from (words_seen words))) option ≡ is_among (options_in (drop at (words_seen words))) option
          → true ≡ is_among (options_in (drop from (words_seen words))) option
      found_at option from is i t kept = grind (arith, options_at)

      pub passed_at : (option : Word) (from count : ℕ) (is : Bool) → is ≡ bytes_eq shown option → is ≡ false → count ≡ width shown
          → is_among (options_in (drop from (words_seen words))) option ≡ is_among (options_in (drop at (words_seen words))) option
          → is_among (options_in (drop from (words_seen words))) option ≡ is_among (options_in (drop (at + count) (words_seen words))) option
      passed_at option from count is i t c kept = grind (arith, options_at)

      -- the option is repeated, or others further on are
      pub repeated_at : (count : ℕ) (is : Bool) → count ≡ width shown → is ≡ is_among (options_in (drop (at + count) (words_seen words))) shown → is ≡ true
          → has_repeated (options_in (drop 1 (words_seen words))) ≡ has_repeated (options_in (drop at (words_seen words)))
          → true ≡ has_repeated (options_in (drop 1 (words_seen words)))
      repeated_at count is c i t kept = grind (arith, options_at)

      pub single_at : (count : ℕ) (is : Bool) → count ≡ width shown → is ≡ is_among (options_in (drop (at + count) (words_seen words))) shown → is ≡ false
          → has_repeated (options_in (drop 1 (words_seen words))) ≡ has_repeated (options_in (drop at (words_seen words)))
          → has_repeated (options_in (drop 1 (words_seen words))) ≡ has_repeated (options_in (drop (at + count) (words_seen words)))
      single_at count is c i t kept = grind (arith, options_at)

  -- no option comes after the last word
  pub none_at : (option : Word) (from : ℕ) → length words ≤ at
      → is_among (options_in (drop from (words_seen words))) option ≡ is_among (options_in (drop at (words_seen words))) option
      → false ≡ is_among (options_in (drop from (words_seen words))) option
  none_at option from h kept = sym (kept ∙ ap (λ rest. is_among (options_in rest) option) (words_end words at h) ∙ ap (λ names. is_among names option) options_none)

  pub none_repeated : length words ≤ at
      → has_repeated (options_in (drop 1 (words_seen words))) ≡ has_repeated (options_in (drop at (words_seen words)))
      → false ≡ has_repeated (options_in (drop 1 (words_seen words)))
  none_repeated h kept = sym (kept ∙ ap (λ rest. has_repeated (options_in rest)) (words_end words at h) ∙ ap has_repeated options_none)
