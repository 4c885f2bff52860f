-- Lemmas on lists of options that are borrowed, and on the first of them that passes a test.
use Rattle.bt_lines.proofs.Std.{common_steps, ◌≡◌, ℕ, Bool, true, false, cond, List, [], ◌∷◌, Some, None, map, refl, sym, ap, arith, find, option_map, ◌||◌, bytes_eq, not, ◌&&◌, ◌==◌, length, list_any, false≢true}
use Rattle.bt_tool.specs.model.Usage.{Item, input_named_twice, options_exclusive}
use Rattle.bt_tool.specs.model.Options.{fault_together, has_exclusive, is_given, lacks_one_of, lacks_option, named_by, overwrites, reads_twice}
use Rattle.bt_tool.specs.model.Table.{Table, Word, takes}
use Rattle.bt_tool.specs.calls.Lent.{table_lent}
use Rattle.bt_tool.specs.declared.options.table.Table.{Table as Lent}
use denote.Ref.{Bor}

pub list_any_of-map : {X Y : Type 0} (h : Y → X) (p : X → Bool) (ys : List Y)
    → list_any p (map h ys) ≡ list_any (λ y. p (h y)) ys
list_any_of-map h p [] = refl
list_any_of-map h p (y ∷ ys) = ap (λ b. p (h y) || b) (list_any_of-map h p ys)

found-map : {X Y : Type 0} (h : Y → X) (p : X → Bool) (y : Y) (ys : List Y) (b : Bool)
    → find p (map h ys) ≡ option_map h (find (λ y. p (h y)) ys)
    → cond b (Some (h y)) (find p (map h ys)) ≡ option_map h (cond b (Some y) (find (λ y. p (h y)) ys))
found-map h p y ys b e = grind arith

pub find_of-map : {X Y : Type 0} (h : Y → X) (p : X → Bool) (ys : List Y)
    → find p (map h ys) ≡ option_map h (find (λ y. p (h y)) ys)
find_of-map h p [] = refl
find_of-map h p (y ∷ ys) = found-map h p y ys (p (h y)) (find_of-map h p ys)

-- what an option takes, by the row that is found
pub takes_lent : (table : Lent) (word : Word)
    → takes (table_lent table) word
    ≡ option_map (λ row. row.takes) (find (λ row. bytes_eq word row.option.now) table.options.now)
takes_lent table word = grind (arith, find_of-map)

module _ (table : Lent) (items : List Item) where
  -- whether a required option is missing, among those of the borrowed table
  required-lent : list_any (λ option. not (is_given items option)) (table_lent table).required
      ≡ list_any (λ option. not (is_given items option.now)) table.required.now
  required-lent = list_any_of-map (λ option. option.now) (λ option. not (is_given items option)) table.required.now

  pub lacks-required : list_any (λ option. not (is_given items option.now)) table.required.now ≡ true
      → lacks_option (table_lent table) items ≡ true
  lacks-required h = rw (required-lent, h) refl

  pub lacks-by_one : list_any (λ option. not (is_given items option.now)) table.required.now ≡ false
      → lacks_option (table_lent table) items ≡ lacks_one_of (table_lent table).one_of items
  lacks-by_one h = rw (required-lent, h) refl

  pub exclusive-lent : has_exclusive (table_lent table) items
      ≡ list_any (λ pair. is_given items pair.0.now && is_given items pair.1.now) table.exclusive.now
  exclusive-lent = grind (arith, list_any_of-map)

-- of two tests the first settles it, or the second does
pub or-first : (a b : Bool) → a ≡ true → true ≡ (a || b)
or-first a b e = rw e refl

pub or-second : (a b : Bool) → a ≡ false → b ≡ (a || b)
or-second a b e = rw e refl

-- there are no options of which one has to be given
pub lacks-none : (options : List (Bor (List ℕ))) (items : List Item) → (length options == 0) ≡ true
    → lacks_one_of (map (λ option. option.now) options) items ≡ false
lacks-none options items e = grind (arith, common_steps)

-- none of the options of which there are some is given
pub lacks-one : (options : List (Bor (List ℕ))) (items : List Item) → (length options == 0) ≡ false
    → lacks_one_of (map (λ option. option.now) options) items
    ≡ not (list_any (λ option. is_given items option.now) options)
lacks-one [] items some = absurd (false≢true (sym some))
lacks-one (option ∷ options) items some = grind (arith, list_any_of-map)

-- the first thing that is wrong with the items together, or nothing
module _ (table : Table) (items : List Item) (lacks : lacks_option table items ≡ false) where
  pub together-exclusive : (has_exclusive table items || overwrites (named_by table items)) ≡ true
      → fault_together table items ≡ Some options_exclusive
  together-exclusive e = rw (lacks, e) refl

  pub together-twice : (has_exclusive table items || overwrites (named_by table items)) ≡ false
      → reads_twice (named_by table items) ≡ true
      → fault_together table items ≡ Some input_named_twice
  together-twice e t = rw (lacks, e, t) refl

  pub together-none : (has_exclusive table items || overwrites (named_by table items)) ≡ false
      → reads_twice (named_by table items) ≡ false → fault_together table items ≡ None
  together-none e t = rw (lacks, e, t) refl
