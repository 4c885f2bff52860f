-- The words of a command line divide into items in one way.
use Rattle.bt_lines.proofs.Std.{arith, ◌≡◌, Bool, true, false, List, [], ◌∷◌, ◌++◌, Option, Some, None, refl, All, All-nil, All-cons}
use Rattle.bt_tool.specs.model.Usage.{Item, items_of, words_of}
use Rattle.bt_tool.specs.calls.CommandLine.{IsItem}
use Rattle.bt_tool.specs.model.Table.{Word, Table, fits, takes}
use Rattle.bt_tool.specs.declared.options.takes.Takes.{Takes}

-- an induction over the division
module _ (table : Table) (P : List Word → List Item → Type 0)
    (stop : (words : List Word) → P words [])
    (step : (item : Item) (rest : List Word) (items : List Item)
    → IsItem table item → P rest items → P (words_of item ++ rest) (item ∷ items)) where
  divided-one-kind : (option : Word) (kind : Takes) (alone : Bool)
      → takes table option ≡ Some kind → fits kind None ≡ alone
      → P (option ∷ []) (items_of table (option ∷ []))
  unfolding items_of
  divided-one-kind option kind true f g =
      rw (f, g, items_of) (step (record { option = option; value = None }) [] [] (kind, f, g) (stop []))
  divided-one-kind option kind false f g = rw (f, g, items_of) (stop (option ∷ []))

  divided-one : (option : Word) (found : Option Takes) → takes table option ≡ found
      → P (option ∷ []) (items_of table (option ∷ []))
  unfolding items_of
  divided-one option None f = rw (f, items_of) (stop (option ∷ []))
  divided-one option (Some kind) f = divided-one-kind option kind (fits kind None) f refl

  divided-more-kind : (option value : Word) (rest : List Word) (kind : Takes)
      (alone valued : Bool) → takes table option ≡ Some kind
      → fits kind None ≡ alone → fits kind (Some value) ≡ valued
      → P (value ∷ rest) (items_of table (value ∷ rest)) → P rest (items_of table rest)
      → P (option ∷ value ∷ rest) (items_of table (option ∷ value ∷ rest))
  unfolding items_of
  divided-more-kind option value rest kind true valued f g h one two =
      rw (f, g, items_of) (step (record { option = option; value = None }) (value ∷ rest) (items_of table (value ∷ rest)) (kind, f, g) one)
  divided-more-kind option value rest kind false true f g h one two =
      rw (f, g, h, items_of) (step (record { option = option; value = Some value }) rest (items_of table rest) (kind, f, h) two)
  divided-more-kind option value rest kind false false f g h one two = grind arith

  divided-more : (option value : Word) (rest : List Word) (found : Option Takes)
      → takes table option ≡ found
      → P (value ∷ rest) (items_of table (value ∷ rest)) → P rest (items_of table rest)
      → P (option ∷ value ∷ rest) (items_of table (option ∷ value ∷ rest))
  unfolding items_of
  divided-more option value rest None f one two = grind arith
  divided-more option value rest (Some kind) f one two = grind (arith, (divided-more-kind option value rest kind (fits kind None) (fits kind (Some value)) f refl refl one two))

  pub divided : (words : List Word) → P words (items_of table words)
  unfolding items_of
  divided [] = stop []
  divided (option ∷ []) = divided-one option (takes table option) refl
  divided (option ∷ value ∷ rest) = grind (arith, (divided (value ∷ rest)), (divided rest), divided-more)

pub allowed : (table : Table) (words : List Word) → All (IsItem table) (items_of table words)
allowed table words =
    divided table (λ _ items. All (IsItem table) items) (λ _. All-nil (IsItem table))
    (λ item rest items h all. All-cons (IsItem table) item items h all) words
