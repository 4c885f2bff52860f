-- What holds of all elements of a list, of all pairs, or of some, by recursion.
use Rattle.bt_lines.proofs.Std.{inl, inr, ◌⊎◌, ◌||◌, list_any, or_from, or_left, or_right, or_cases, cases_Bool, ◌≡◌, Bool, true, false, cond, List, [], ◌∷◌, ◌++◌, map, filter, refl, ap, ap₂, ◌∙◌, suc, arith, flat_map, AllByRecursion, AllPairs, map-append, All-from_recursion, recursion_from_All, AllPairs-cons}

module _ {A : Type 0} where
  pub all_front : (P : A → Type 0) (xs ys : List A) → AllByRecursion P (xs ++ ys) → AllByRecursion P xs
  all_front P [] ys h = tt
  all_front P (x ∷ xs) ys h = (h.0, all_front P xs ys h.1)

  pub all_back : (P : A → Type 0) (xs ys : List A) → AllByRecursion P (xs ++ ys) → AllByRecursion P ys
  all_back P [] ys h = h
  all_back P (x ∷ xs) ys h = all_back P xs ys h.1

  pub all_both : (P : A → Type 0) (xs ys : List A) → AllByRecursion P xs → AllByRecursion P ys → AllByRecursion P (xs ++ ys)
  all_both P [] ys h k = k
  all_both P (x ∷ xs) ys h k = (h.0, all_both P xs ys h.1 k)

  pub all_so : (P Q : A → Type 0) (xs : List A) → ((x : A) → P x → Q x) → AllByRecursion P xs → AllByRecursion Q xs
  all_so P Q [] f h = tt
  all_so P Q (x ∷ xs) f h = (f x h.0, all_so P Q xs f h.1)

  pub all_any : (P : A → Type 0) (xs : List A) → ((x : A) → P x) → AllByRecursion P xs
  all_any P [] f = tt
  all_any P (x ∷ xs) f = (f x, all_any P xs f)

  filter_by : (P : A → Type 0) (b : Bool) (x : A) (xs : List A) → P x → AllByRecursion P xs → AllByRecursion P (cond b (x ∷ xs) xs)
  filter_by P b x xs p h = grind arith

  pub all_filter : (P : A → Type 0) (t : A → Bool) (xs : List A) → AllByRecursion P xs → AllByRecursion P (filter t xs)
  all_filter P t [] h = tt
  all_filter P t (x ∷ xs) h = filter_by P (t x) x (filter t xs) h.0 (all_filter P t xs h.1)

  pub filter_all : (t : A → Bool) (xs : List A) → AllByRecursion (λ x. t x ≡ true) xs → filter t xs ≡ xs
  filter_all t [] h = refl
  filter_all t (x ∷ xs) h = ap (λ b. cond b (x ∷ filter t xs) (filter t xs)) h.0 ∙ ap (λ l. x ∷ l) (filter_all t xs h.1)

  pub filter_none : (t : A → Bool) (xs : List A) → AllByRecursion (λ x. t x ≡ false) xs → filter t xs ≡ []
  filter_none t [] h = refl
  filter_none t (x ∷ xs) h = ap (λ b. cond b (x ∷ filter t xs) (filter t xs)) h.0 ∙ filter_none t xs h.1

  pub filter_same : (t u : A → Bool) (xs : List A) → AllByRecursion (λ x. t x ≡ u x) xs → filter t xs ≡ filter u xs
  filter_same t u [] h = refl
  filter_same t u (x ∷ xs) h = ap (λ b. cond b (x ∷ filter t xs) (filter t xs)) h.0 ∙ ap (λ l. cond (u x) (x ∷ l) l) (filter_same t u xs h.1)

  pub flat_map_same : {B : Type 0} (f g : A → List B) (xs : List A) → AllByRecursion (λ x. f x ≡ g x) xs → flat_map f xs ≡ flat_map g xs
  flat_map_same f g [] h = refl
  flat_map_same f g (x ∷ xs) h = ap₂ (λ a b. a ++ b) h.0 (flat_map_same f g xs h.1)

  pub map_same : {B : Type 0} (f g : A → B) (xs : List A) → AllByRecursion (λ x. f x ≡ g x) xs → map f xs ≡ map g xs
  map_same f g [] h = refl
  map_same f g (x ∷ xs) h = ap₂ (λ a b. a ∷ b) h.0 (map_same f g xs h.1)

  pub all_map : {B : Type 0} (P : B → Type 0) (f : A → B) (xs : List A) → AllByRecursion (λ x. P (f x)) xs → AllByRecursion P (map f xs)
  all_map P f [] h = tt
  all_map P f (x ∷ xs) h = (h.0, all_map P f xs h.1)

-- what is so of the elements that pass
pub all_unfilter : {A : Type 0} (P : A → Type 0) (t : A → Bool) (xs : List A) → AllByRecursion P (filter t xs) → AllByRecursion (λ x. t x ≡ true → P x) xs
all_unfilter P t [] h = tt
all_unfilter P t (x ∷ xs) h = elim (cases_Bool (t x)) [
  | inl y ↦ let both = rw y at h in (λ e. both.0, all_unfilter P t xs both.1)
  | inr n ↦ (λ e. absurd (cc), all_unfilter P t xs (rw n at h))
]

pub all_flat_map : {A B : Type 0} (P : B → Type 0) (f : A → List B) (xs : List A) → AllByRecursion (λ x. AllByRecursion P (f x)) xs → AllByRecursion P (flat_map f xs)
all_flat_map P f [] h = tt
all_flat_map P f (x ∷ xs) h = all_both P (f x) (flat_map f xs) h.0 (all_flat_map P f xs h.1)

-- all pairs, with their sides exchanged
pub all_swapped : {A B : Type 0} (P : A → B → Type 0) (xs : List A) (ys : List B) → AllByRecursion (λ x. AllByRecursion (P x) ys) xs → AllByRecursion (λ y. AllByRecursion (λ x. P x y) xs) ys
all_swapped P xs [] h = tt
all_swapped P xs (y ∷ ys) h = (all_so (λ x. AllByRecursion (P x) (y ∷ ys)) (λ x. P x y) xs (λ x k. k.0) h, all_swapped P xs ys (all_so (λ x. AllByRecursion (P x) (y ∷ ys)) (λ x. AllByRecursion (P x) ys) xs (λ x k. k.1) h))

-- ---- lists of mapped elements

module _ {A B : Type 0} where
  pub all_unmap : (P : B → Type 0) (f : A → B) (xs : List A) → AllByRecursion P (map f xs) → AllByRecursion (λ x. P (f x)) xs
  all_unmap P f [] h = tt
  all_unmap P f (x ∷ xs) h = (h.0, all_unmap P f xs h.1)

  pub map_map : {C : Type 0} (f : A → B) (g : B → C) (h : A → C) (xs : List A) → AllByRecursion (λ x. g (f x) ≡ h x) xs → map g (map f xs) ≡ map h xs
  map_map f g h [] is = refl
  map_map f g h (x ∷ xs) is = ap₂ (λ a b. a ∷ b) is.0 (map_map f g h xs is.1)

  pub map_flat : {C : Type 0} (h : B → C) (f : A → List B) (g : A → List C) (xs : List A) → ((x : A) → map h (f x) ≡ g x) → map h (flat_map f xs) ≡ flat_map g xs
  map_flat h f g [] e = refl
  map_flat h f g (x ∷ xs) e = map-append h (f x) (flat_map f xs) ∙ ap₂ (λ a b. a ++ b) (e x) (map_flat h f g xs e)

pub all_zip : {A : Type 0} (P Q R : A → Type 0) (xs : List A) → ((x : A) → P x → Q x → R x) → AllByRecursion P xs → AllByRecursion Q xs → AllByRecursion R xs
all_zip P Q R [] f h k = tt
all_zip P Q R (x ∷ xs) f h k = (f x h.0 k.0, all_zip P Q R xs f h.1 k.1)

-- ---- each element and each later one

abbrev pub EachPair : {A : Type 0} → (A → A → Type 0) → List A → Type 0
EachPair R [] = Unit {0}
EachPair R (x ∷ xs) = AllByRecursion (R x) xs × EachPair R xs

pub pairs_all : {A : Type 0} (R : A → A → Type 0) (xs : List A) → EachPair R xs → AllPairs R xs
pairs_all R [] h = λ i j d below within. absurd (omega (arith, within))
pairs_all R (x ∷ xs) h = AllPairs-cons R x xs (All-from_recursion (R x) xs h.0) (pairs_all R xs h.1)

pub pairs_each : {A : Type 0} (R : A → A → Type 0) (xs : List A) → AllPairs R xs → EachPair R xs
pairs_each R [] h = tt
pairs_each R (x ∷ xs) h = (
  recursion_from_All (R x) xs (λ k d within. h 0 (suc k) d (omega arith) (omega (arith, within))),
  pairs_each R xs (λ i j d below within. h (suc i) (suc j) d (omega (arith, below)) (omega (arith, within))),
)

-- What holds of some element.

abbrev pub Some_of : {A : Type 0} → (A → Type 0) → List A → Type 0
Some_of P [] = ⊥
Some_of P (x ∷ xs) = P x ⊎ Some_of P xs

pub all_and : {A : Type 0} (P Q : A → Type 0) (xs : List A) → AllByRecursion P xs → AllByRecursion Q xs → AllByRecursion (λ x. P x × Q x) xs
all_and P Q [] e d = tt
all_and P Q (x ∷ xs) e d = ((e.0, d.0), all_and P Q xs e.1 d.1)

-- some one of them is such that it is so of it
pub some_each : {A : Type 0} (P Q R : A → Type 0) → ((x : A) → P x → Q x → R x) → (xs : List A) → Some_of P xs → AllByRecursion Q xs → Some_of R xs
some_each P Q R h (x ∷ xs) (inl p) e = inl (h x p e.0)
some_each P Q R h (x ∷ xs) (inr p) e = inr (some_each P Q R h xs p e.1)
some_each P Q R h [] p e = absurd p

pub some_weaker : {A : Type 0} (P R : A → Type 0) → ((x : A) → P x → R x) → (xs : List A) → Some_of P xs → Some_of R xs
some_weaker P R h xs p = some_each P (λ x. Unit {0}) R (λ x q u. h x q) xs p (all_any (λ x. Unit {0}) xs (λ x. tt))

-- what is so of each one is so, if there is one
pub some_out : {A : Type 0} (P : A → Type 0) (R : Type 0) → ((x : A) → P x → R) → (xs : List A) → Some_of P xs → R
some_out P R h [] p = absurd p
some_out P R h (x ∷ xs) (inl p) = h x p
some_out P R h (x ∷ xs) (inr p) = some_out P R h xs p

-- and so is what is so if one of them is such, and something is so of each
pub some_with : {A : Type 0} (P Q : A → Type 0) (R : Type 0) → ((x : A) → P x → Q x → R) → (xs : List A) → Some_of P xs → AllByRecursion Q xs → R
some_with P Q R h [] p e = absurd p
some_with P Q R h (x ∷ xs) (inl p) e = h x p e.0
some_with P Q R h (x ∷ xs) (inr p) e = some_with P Q R h xs p e.1

pub some_left : {A : Type 0} (P : A → Type 0) (xs ys : List A) → Some_of P xs → Some_of P (xs ++ ys)
some_left P (x ∷ xs) ys (inl p) = inl p
some_left P (x ∷ xs) ys (inr p) = inr (some_left P xs ys p)
some_left P [] ys p = absurd p

pub some_right : {A : Type 0} (P : A → Type 0) (xs ys : List A) → Some_of P ys → Some_of P (xs ++ ys)
some_right P [] ys p = p
some_right P (x ∷ xs) ys p = inr (some_right P xs ys p)

pub some_map : {A B : Type 0} (P : B → Type 0) (f : A → B) (xs : List A) → Some_of (λ x. P (f x)) xs → Some_of P (map f xs)
some_map P f (x ∷ xs) (inl p) = inl p
some_map P f (x ∷ xs) (inr p) = inr (some_map P f xs p)
some_map P f [] p = absurd p

-- a test that some element passes, or none
pub any_from : {A : Type 0} (test : A → Bool) (xs : List A) → Some_of (λ x. test x ≡ true) xs → list_any test xs ≡ true
any_from test [] p = absurd p
any_from test (x ∷ xs) (inl p) = or_left (test x) (list_any test xs) p
any_from test (x ∷ xs) (inr p) = or_right (test x) (list_any test xs) (any_from test xs p)

pub any_some : {A : Type 0} (test : A → Bool) (xs : List A) → list_any test xs ≡ true → Some_of (λ x. test x ≡ true) xs
any_some test [] t = cc
any_some test (x ∷ xs) t = elim (or_cases (test x) (list_any test xs) t) [ inl p ↦ inl p | inr p ↦ inr (any_some test xs p) ]

pub none_from : {A : Type 0} (test : A → Bool) (xs : List A) → AllByRecursion (λ x. test x ≡ false) xs → list_any test xs ≡ false
none_from test [] e = refl
none_from test (x ∷ xs) e = or_from (test x) (list_any test xs) e.0 (none_from test xs e.1)

pub none_each : {A : Type 0} (test : A → Bool) (xs : List A) → list_any test xs ≡ false → AllByRecursion (λ x. test x ≡ false) xs
none_each test [] f = tt
none_each test (x ∷ xs) f = elim (cases_Bool (test x)) [
  | inl t ↦ let both = or_left (test x) (list_any test xs) t in absurd (cc)
  | inr n ↦ elim (cases_Bool (list_any test xs)) [
    | inl t ↦ let both = or_right (test x) (list_any test xs) t in absurd (cc)
    | inr g ↦ (n, none_each test xs g)
  ]
]

-- tests that agree on each element
pub any_same : {A : Type 0} (test other : A → Bool) (xs : List A) → AllByRecursion (λ x. test x ≡ other x) xs → list_any test xs ≡ list_any other xs
any_same test other [] e = refl
any_same test other (x ∷ xs) e = ap₂ (λ (a b : Bool). a || b) e.0 (any_same test other xs e.1)

pub filter_passes : {A : Type 0} (test : A → Bool) (xs : List A) → AllByRecursion (λ x. test x ≡ true) (filter test xs)
filter_passes test [] = tt
filter_passes {A} test (x ∷ xs) = grind (arith, (filter_passes test xs))

-- a filter of mapped elements, which all pass, or none
pub filter_map_all : {A B : Type 0} (f : A → B) (test : B → Bool) (xs : List A) → ((x : A) → test (f x) ≡ true) → filter test (map f xs) ≡ map f xs
filter_map_all f test xs all = filter_all test (map f xs) (all_map (λ y. test y ≡ true) f xs (all_any (λ x. test (f x) ≡ true) xs all))

pub filter_map_none : {A B : Type 0} (f : A → B) (test : B → Bool) (xs : List A) → ((x : A) → test (f x) ≡ false) → filter test (map f xs) ≡ []
filter_map_none f test xs all = filter_none test (map f xs) (all_map (λ y. test y ≡ false) f xs (all_any (λ x. test (f x) ≡ false) xs all))

-- a filter of changed elements, if the change doesn't change the test
pub filter_changed : {A : Type 0} (f : A → A) (test : A → Bool) (xs : List A) → AllByRecursion (λ x. test (f x) ≡ test x) xs → filter test (map f xs) ≡ map f (filter test xs)
filter_changed f test [] e = refl
filter_changed f test (x ∷ xs) e = grind (arith, (filter_changed f test xs e.1))

-- a change that leaves each element
pub map_leaves : {A : Type 0} (f : A → A) (xs : List A) → AllByRecursion (λ x. f x ≡ x) xs → map f xs ≡ xs
map_leaves f [] e = refl
map_leaves f (x ∷ xs) e = ap₂ (λ y ys. y ∷ ys) e.0 (map_leaves f xs e.1)
