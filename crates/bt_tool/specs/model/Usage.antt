-- The items of a command line, and its faults.
use Rattle.std.specs.Prelude.{ℕ, Bool, List, [], ◌∷◌, ◌++◌, ◌&&◌, codes, if◌then◌else◌, nat_eq, nat_le, slice_index_or, false, true, Option, Some, None, flat_map, option_to_list}
use Rattle.bt_tool.specs.declared.options.usage.Usage.{Usage}
use Rattle.bt_tool.specs.model.Table.{Word, Table, fits, takes}

-- The faults of a command line, and what is reported of each.

abbrev pub no_command : Usage
no_command = record { number = 1; word = 0 }

-- these three name the option by its index among the words
abbrev pub unknown_option : ℕ → Usage
unknown_option at = record { number = 2; word = at }

abbrev pub value_missing : ℕ → Usage
value_missing at = record { number = 3; word = at }

abbrev pub bad_value : ℕ → Usage
bad_value at = record { number = 4; word = at }

abbrev pub required_missing : Usage
required_missing = record { number = 5; word = 0 }

abbrev pub options_exclusive : Usage
options_exclusive = record { number = 6; word = 0 }

abbrev pub input_named_twice : Usage
input_named_twice = record { number = 7; word = 0 }

-- whether a fault of this number is that of one word
abbrev pub names_word : ℕ → Bool
names_word number = nat_le 2 number && nat_le number 4

abbrev pub usage_phrase : ℕ → List ℕ
usage_phrase number =
    if nat_eq number 1 then codes "no or unknown command"
    else (if nat_eq number 2 then codes "unknown option"
    else (if nat_eq number 3 then codes "value missing"
    else (if nat_eq number 4 then codes "bad value"
    else (if nat_eq number 5 then codes "required option missing"
    else (if nat_eq number 6 then codes "options exclude one another"
    else codes "standard input named twice")))))

-- the line on standard error, with its line feed
abbrev pub usage_text : List Word → Usage → List ℕ
usage_text words usage =
    codes "bedtools: " ++ usage_phrase usage.number
    ++ (if names_word usage.number then codes ": " ++ slice_index_or words usage.word [] else [])
    ++ 10 ∷ []

-- How the words after the command are divided into items.

-- an option as it was given once, with its value if it has one
pub record Item : Type 0 where
  pub option : Word
  pub value : Option Word

-- the one or two words of an item
abbrev pub words_of : Item → List Word
words_of item = item.option ∷ option_to_list item.value

-- the words of some items, one after another
abbrev pub words_spelled : List Item → List Word
words_spelled items = flat_map words_of items

-- the items into which the longest such prefix is divided
unfoldable pub items_of : Table → List Word → List Item
items_of table [] = []
items_of table (option ∷ []) = elim (takes table option) [
  | None ↦ []
  | Some kind ↦ elim (fits kind None) [
    | true ↦ record { option = option; value = None } ∷ []
    | false ↦ []
  ]
]
items_of table (option ∷ value ∷ rest) = elim (takes table option) [
  | None ↦ []
  | Some kind ↦ elim (fits kind None) [
    | true ↦ record { option = option; value = None } ∷ items_of table (value ∷ rest)
    | false ↦ elim (fits kind (Some value)) [
      | true ↦ record { option = option; value = Some value } ∷ items_of table rest
      | false ↦ []
    ]
  ]
]
