-- The options of a command line, by the words alone.
use Rattle.std.specs.Prelude.{ℕ, Bool, List, [], ◌∷◌, bytes_eq, codes, if◌then◌else◌}
use Rattle.std.specs.List.{list_any}
use Rattle.bt_tool.specs.model.Table.{Word}

-- whether a word is an option whose value is the next word: it is so for every command that has the option
unfoldable pub takes_value : Word → Bool
takes_value word = list_any (bytes_eq word)
    (codes "-i" ∷ codes "-a" ∷ codes "-b" ∷ codes "-g" ∷ codes "-f" ∷ codes "-d" ∷ codes "-S"
    ∷ codes "-held" ∷ codes "-strand" ∷ codes "-fi" ∷ codes "-bed" ∷ codes "-fo" ∷ codes "-mc" ∷ [])

-- how many words an option and its value are
abbrev pub width : Word → ℕ
width option = if takes_value option then 2 else 1

-- the options of words that are options with their values
unfoldable pub options_in : List Word → List Word
options_in [] = []
options_in (option ∷ []) = option ∷ []
options_in (option ∷ value ∷ rest) =
    option ∷ (if takes_value option then options_in rest else options_in (value ∷ rest))
