-- The order of ranks is total. The proof is here since the order of a genome cites it as its law.
use Rattle.std.specs.Prelude.{◌≡◌, ℕ, suc, Bool, true, false, cond, List, [], ◌∷◌, Option, Some, None, option_map, is_some, bytes_eq, refl, slice_get}
use Rattle.std.specs.Ordering.{ordering_reverse}
use Rattle.std.specs.Cmp.{nat_cmp_total, ranked, tied_itself}
use Rattle.std.specs.Cmp.Lexicographic.{bytes_decides}
use Rattle.std.specs.declared.cmp.Ordering.TheVariants.{Less, Equal}
use Rattle.std.proofs.Common.{sym, ap, subst}
use Rattle.std.proofs.lemmas.Bool.{false≢true}
use Rattle.bt_bed.specs.model.Order.{rank_of, compare_ranks}
use Rattle.bt_bed.specs.calls.Orders.{ranks_are_total}

compared_same : (o : Option ℕ) → compare_ranks o o ≡ Equal
compared_same None = refl
compared_same (Some rank) = tied_itself nat_cmp_total rank

compared_swapped : (o p : Option ℕ) → compare_ranks p o ≡ ordering_reverse (compare_ranks o p)
compared_swapped None None = refl
compared_swapped None (Some y) = refl
compared_swapped (Some x) None = refl
compared_swapped (Some x) (Some y) = nat_cmp_total.antisymm y x

compared_ascends : (o p q : Option ℕ) → is_some o ≡ true → is_some p ≡ true → is_some q ≡ true
    → compare_ranks o p ≡ Less → compare_ranks p q ≡ Less → compare_ranks o q ≡ Less
compared_ascends None p q one two three e f = absurd (false≢true one)
compared_ascends (Some x) None q one two three e f = absurd (false≢true two)
compared_ascends (Some x) (Some y) None one two three e f = absurd (false≢true three)
compared_ascends (Some x) (Some y) (Some z) one two three e f = nat_cmp_total.trans x y z e f

-- the name at a rank, given those of the others
named_by : (n name : List ℕ) (ns : List (List ℕ)) (b : Bool) (o : Option ℕ) (rank : ℕ) → bytes_eq n name ≡ b
    → ((k : ℕ) → o ≡ Some k → slice_get ns k ≡ Some name)
    → cond b (Some 0) (option_map (λ k. suc k) o) ≡ Some rank → slice_get (n ∷ ns) rank ≡ Some name
named_by n name ns true o rank e others is =
    let first : 0 ≡ rank = cc in
    subst (λ k. slice_get (n ∷ ns) k ≡ Some name) first (ap (λ l. Some l) ((bytes_decides n name).0 e))
named_by n name ns false None rank e others is = cc
named_by n name ns false (Some k) rank e others is =
    let later : suc k ≡ rank = cc in
    subst (λ k. slice_get (n ∷ ns) k ≡ Some name) later (others k refl)

named : (names : List (List ℕ)) (name : List ℕ) (rank : ℕ) → rank_of names name ≡ Some rank
    → slice_get names rank ≡ Some name
named [] name rank is = cc
named (n ∷ ns) name rank is = named_by n name ns (bytes_eq n name) (rank_of ns name) rank refl (named ns name) is

-- names of equal ranks are one
equal_by : (names : List (List ℕ)) (a b : List ℕ) (o p : Option ℕ) → rank_of names a ≡ o → rank_of names b ≡ p
    → is_some o ≡ true → is_some p ≡ true → compare_ranks o p ≡ Equal → a ≡ b
equal_by names a b None p first second known also e = absurd (false≢true known)
equal_by names a b (Some x) None first second known also e = absurd (false≢true also)
equal_by names a b (Some x) (Some y) first second known also e =
    let same : x ≡ y = ranked x y Equal (sym e) in
    let one : slice_get names x ≡ Some a = named names a x first in
    let other : slice_get names y ≡ Some b = named names b y second in
    cc

pub ranks_total : ranks_are_total
ranks_total names = record {
  same = λ name known. compared_same (rank_of names name);
  equal = λ a b. equal_by names a b (rank_of names a) (rank_of names b) refl refl;
  swapped = λ a b one two. compared_swapped (rank_of names a) (rank_of names b);
  ascends =
      λ a b c one two three. compared_ascends (rank_of names a) (rank_of names b) (rank_of names c)
      one two three;
}
