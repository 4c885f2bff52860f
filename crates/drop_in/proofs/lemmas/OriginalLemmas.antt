-- Lists that are gone through up to a place.
use Rattle.bt_lines.proofs.Std.{arith, ◌≡◌, ℕ, ◌+◌, ◌<◌, true, false, List, [], ◌∷◌, ◌++◌, All, All-push, length, length-map, map, take, drop, take_more, take-append-drop, get_or, append_assoc, bytes_eq, sym, ap, subst, ◌∙◌, or_left, or_right, suc, zero}
use Rattle.std.proofs.Math.ListN.{get_or-map}
use Rattle.bt_bed.specs.model.Order.{is_among}
use Rattle.bt_bed.proofs.lemmas.order.TableLemmas.{among_push}
use Rattle.drop_in.specs.calls.Original.{name_in}

-- the elements up to a place, with the one at the place
module _ (names : List (List ℕ)) (n : ℕ) (name : List ℕ) (within : n < length names) (is : name ≡ get_or names n name) where
  one_more : take (n + 1) names ≡ take n names ++ name ∷ []
  one_more = take_more names n name within ∙ ap (λ x. take n names ++ x ∷ []) (sym is)

  -- a list around its element at a place
  pub around : names ≡ take n names ++ name ∷ drop (n + 1) names
  around = sym (take-append-drop (n + 1) names) ∙ ap (λ front. front ++ drop (n + 1) names) one_more
      ∙ append_assoc (take n names) (name ∷ []) (drop (n + 1) names)

  -- what is so of the elements before a place, and of the one there
  pub all_more : (P : List ℕ → Type 0) → All P (take n names) → P name → All P (take (n + 1) names)
  all_more P before here = subst (All P) (sym one_more) (All-push P (take n names) name before here)

-- the file of the folder at a place
pub named : (folders : List (List ℕ)) (n : ℕ) (folder name : List ℕ) → n < length folders
    → folder ≡ get_or folders n folder → name ≡ name_in folder
    → (n < length (map name_in folders)) × (name ≡ get_or (map name_in folders) n name)
named folders n folder name within is said =
    subst (λ name. (n < length (map name_in folders)) × (name ≡ get_or (map name_in folders) n name)) (sym said)
    (omega (arith, within, length-map folders name_in), sym (get_or-map name_in folders n folder ∙ ap name_in (sym is)))

-- a name that is the one at a place is among the names
pub among_at : (names : List (List ℕ)) (n : ℕ) (one name : List ℕ) → n < length names → one ≡ get_or names n one
    → bytes_eq one name ≡ true → is_among names name ≡ true
among_at [] n one name within is same = absurd (omega (arith, within))
among_at (x ∷ xs) zero one name within is same = or_left _ _ (subst (λ o. bytes_eq o name ≡ true) is same)
among_at (x ∷ xs) (suc n) one name within is same =
    or_right (bytes_eq x name) _ (among_at xs n one name (omega (arith, within)) is same)

-- a name isn't among the names up to a place, nor is it the one there
pub none_more : (names : List (List ℕ)) (name : List ℕ) (n : ℕ) (one : List ℕ) → n < length names
    → one ≡ get_or names n one → is_among (take n names) name ≡ false → bytes_eq one name ≡ false
    → is_among (take (n + 1) names) name ≡ false
none_more names name n one within is before here =
    subst (λ front. is_among front name ≡ false) (sym (one_more names n one within is)) (among_push (take n names) one name before here)
