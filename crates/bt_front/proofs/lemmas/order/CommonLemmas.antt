-- An order that fits two inputs, one name after another, and its genome file.
use Rattle.bt_lines.proofs.Std.{arith, ◌≡◌, ℕ, suc, ◌+◌, ◌-◌, ◌<◌, ◌≤◌, Bool, true, false, List, [], ◌∷◌, ◌++◌, Option, Some, None, add-one, append_assoc, drop, drop_of_length-le, flat_map, flat_map-append, is_some, le-ltb, length, lt-ltb, option_map, refl, sym, ap, ◌∙◌, slice_get, take, take-length, take_more, append-nil, get_or, get_or-drop, length-drop}
use Rattle.std.proofs.lemmas.Option.{get_or_from_slice_get, slice_get_within}
use Rattle.bt_bed.specs.model.Order.{rank_of}
use Rattle.bt_front.specs.model.Fitting.{common_at, common_from, entry_text, names_between, order_text}
use Rattle.bt_front.proofs.lemmas.order.FittingLemmas.{at_drop}

mapped_some : {A B : Type 0} (f : A → B) (o : Option A) → is_some (option_map f o) ≡ is_some o
mapped_some f None = refl
mapped_some f (Some x) = refl

mapped_twice : {A B C : Type 0} (f : B → C) (g : A → B) (h : A → C) → ((x : A) → f (g x) ≡ h x) → (o : Option A)
    → option_map f (option_map g o) ≡ option_map h o
mapped_twice f g h same None = refl
mapped_twice f g h same (Some x) = ap (λ y. Some y) (same x)

-- the text of names, after a text
abbrev pub text_after : List ℕ → List (List ℕ) → List ℕ
text_after text names = text ++ order_text names

-- the lines of one name more
pub one_more : (names : List (List ℕ)) (from at : ℕ) (name : List ℕ) → slice_get names at ≡ Some name → from ≤ at
    → order_text (take ((at + 1) - from) (drop from names)) ≡ order_text (take (at - from) (drop from names)) ++ entry_text name
one_more names from at name is below =
    let inside = slice_get_within names at name is in
    let room : at - from < length (drop from names) = omega (arith, length-drop from names) in
    let count : (at + 1) - from ≡ (at - from) + 1 = omega arith in
    let there : from + (at - from) ≡ at = omega arith in
    let here : get_or (drop from names) (at - from) name ≡ name =
    get_or-drop from names (at - from) name ∙ ap (λ n. get_or names n name) there ∙ get_or_from_slice_get names at name name is in
    ap (λ n. order_text (take n (drop from names))) count
    ∙ ap order_text (take_more (drop from names) (at - from) name room)
    ∙ flat_map-append entry_text (take (at - from) (drop from names)) (get_or (drop from names) (at - from) name ∷ [])
    ∙ ap (λ n. order_text (take (at - from) (drop from names)) ++ (entry_text n ++ [])) here
    ∙ ap (λ more. order_text (take (at - from) (drop from names)) ++ more) (append-nil (entry_text name))

-- the names from a place on are those up to their end
pub all_between : (names : List (List ℕ)) (next : ℕ) → names_between names next (length names) ≡ drop next names
all_between names next =
    ap (λ n. take n (drop next names)) (sym (length-drop next names)) ∙ take-length (drop next names)

module _ (second first : List (List ℕ)) (at next : ℕ) where
  pub all_common : length first ≤ at → common_from second next (drop at first) ≡ Some (drop next second)
  unfolding common_from
  all_common past = rw (drop_of_length-le first past, common_from) refl

  module _ (name : List ℕ) (is : slice_get first at ≡ Some name) where
    from_here : common_from second next (drop at first)
        ≡ common_at second next name (rank_of second name) (λ now. common_from second now (drop (at + 1) first))
    unfolding common_from
    from_here = rw (at_drop first at name is, common_from) refl

    pub no_order : (place : ℕ) → rank_of second name ≡ Some place → place < next → common_from second next (drop at first) ≡ None
    no_order place found less = from_here ∙ rw (found, lt-ltb place next less) refl

    module _ (none : rank_of second name ≡ None) where
      goes_on : common_from second next (drop at first) ≡ option_map (λ names. name ∷ names) (common_from second next (drop (at + 1) first))
      goes_on = from_here ∙ rw none refl

      pub some_next : is_some (common_from second next (drop at first)) ≡ is_some (common_from second next (drop (at + 1) first))
      some_next = ap is_some goes_on ∙ mapped_some (λ names. name ∷ names) (common_from second next (drop (at + 1) first))

      pub text_next : (text : List ℕ) → option_map (text_after text) (common_from second next (drop at first))
          ≡ option_map (text_after (text ++ entry_text name)) (common_from second next (drop (at + 1) first))
      text_next text =
          ap (option_map (text_after text)) goes_on
          ∙ mapped_twice (text_after text) (λ names. name ∷ names) (text_after (text ++ entry_text name))
          (λ names. sym (append_assoc text (entry_text name) (order_text names))) (common_from second next (drop (at + 1) first))

    module _ (place : ℕ) (found : rank_of second name ≡ Some place) (enough : next ≤ place) where
      abbrev others : List (List ℕ)
      others = names_between second next place

      skips : common_from second next (drop at first)
          ≡ option_map (λ names. others ++ name ∷ names) (common_from second (place + 1) (drop (at + 1) first))
      skips = from_here ∙ rw (found, le-ltb place next enough, add-one place) refl

      pub some_placed : is_some (common_from second next (drop at first)) ≡ is_some (common_from second (place + 1) (drop (at + 1) first))
      some_placed = ap is_some skips ∙ mapped_some (λ names. others ++ name ∷ names) (common_from second (place + 1) (drop (at + 1) first))

      longer : (text : List ℕ) (names : List (List ℕ)) → text_after text (others ++ name ∷ names)
          ≡ text_after ((text ++ order_text others) ++ entry_text name) names
      longer text names =
          ap (λ more. text ++ more) (flat_map-append entry_text others (name ∷ names))
          ∙ sym (append_assoc text (order_text others) (entry_text name ++ order_text names))
          ∙ sym (append_assoc (text ++ order_text others) (entry_text name) (order_text names))

      pub text_placed : (text : List ℕ) → option_map (text_after text) (common_from second next (drop at first))
          ≡ option_map (text_after ((text ++ order_text others) ++ entry_text name)) (common_from second (place + 1) (drop (at + 1) first))
      text_placed text =
          ap (option_map (text_after text)) skips
          ∙ mapped_twice (text_after text) (λ names. others ++ name ∷ names) (text_after ((text ++ order_text others) ++ entry_text name))
          (longer text) (common_from second (place + 1) (drop (at + 1) first))

      -- the text of a name and of those before it
      pub placed_step : (text middle after : List ℕ) (now : ℕ) → after ≡ middle ++ entry_text name → middle ≡ text ++ order_text others
          → now ≡ place + 1 → option_map (text_after after) (common_from second now (drop (at + 1) first))
          ≡ option_map (text_after text) (common_from second next (drop at first))
      placed_step text middle after now one two same =
          rw (one, two, same) (sym (text_placed text))

    pub next_step : rank_of second name ≡ None → (text middle after : List ℕ) (now : ℕ) → after ≡ middle ++ entry_text name → middle ≡ text
        → now ≡ next → option_map (text_after after) (common_from second now (drop (at + 1) first))
        ≡ option_map (text_after text) (common_from second next (drop at first))
    next_step none text middle after now one two same = rw (one, two, same) (sym (text_next none text))
