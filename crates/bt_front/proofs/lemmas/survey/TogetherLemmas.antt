-- Lemmas on names that come together, and on each name once.
use Rattle.bt_lines.proofs.Std.{arith, common_steps, ◌≡◌, ◌∙◌, ℕ, ◌++◌, ◌&&◌, ◌||◌, append-nil, Bool, List, [], ◌∷◌, and_parts, ap, bytes_eq, cases_Bool, false, true, false≢true, not, or_parts, refl, subst, sym, ◌⊎◌, inl, inr}
use Rattle.bt_bed.specs.calls.Orders.{AreDistinct}
use Rattle.bt_bed.specs.model.Order.{is_among}
use Rattle.bt_bed.proofs.lemmas.parse.NameLemmas.{same_name, name_eq, name_eq-sym}
use Rattle.bt_front.specs.calls.Chromosomes.{is_last_name}
use Rattle.bt_front.specs.model.Survey.{are_together, distinct, is_first_name, without}

and_none : (b : Bool) → (b && false) ≡ false
and_none true = refl
and_none false = refl

-- equal names are the same name
same : (a b : List ℕ) → bytes_eq a b ≡ true → a ≡ b
same a b e = same_name a b e

itself : (a : List ℕ) → bytes_eq a a ≡ true
itself a = name_eq a a refl

-- a name among others that isn't another one
pub apart : (ns : List (List ℕ)) (c n : List ℕ) → is_among ns c ≡ true → is_among ns n ≡ false → bytes_eq c n ≡ false
apart ns c n is isnt = elim (cases_Bool (bytes_eq c n)) [
  | inl e ↦ (let also : is_among ns n ≡ true = rw (sym (same c n e)) is in absurd (false≢true (sym isnt ∙ also)))
  | inr e ↦ e
]

pub among_push : (ns : List (List ℕ)) (c n : List ℕ) → is_among (ns ++ c ∷ []) n ≡ (is_among ns n || bytes_eq c n)
among_push [] c n = grind (arith, common_steps)
among_push (m ∷ ns) c n = grind (arith, common_steps, among_push ns c n)

-- ---- the names but one

without_push : (name c : List ℕ) (ns : List (List ℕ)) → without name (ns ++ c ∷ []) ≡ without name ns ++ without name (c ∷ [])
without_push name c [] = refl
without_push name c (n ∷ ns) = grind (arith, common_steps, without_push name c ns)

without_none : (name : List ℕ) (ns : List (List ℕ)) → is_among ns name ≡ false → without name ns ≡ ns
without_none name [] e = refl
without_none name (n ∷ ns) e =
    let parts = or_parts (bytes_eq n name) (is_among ns name) e in
    rw (parts.0, without_none name ns parts.1) refl

without_twice : (name : List ℕ) (ns : List (List ℕ)) → without name (without name ns) ≡ without name ns
without_twice name [] = refl
without_twice name (n ∷ ns) = grind (arith, common_steps, without_twice name ns)

-- the name itself isn't among them
among_without_self : (name : List ℕ) (ns : List (List ℕ)) → is_among (without name ns) name ≡ false
among_without_self name [] = refl
among_without_self name (n ∷ ns) = grind (arith, common_steps, among_without_self name ns)

-- another is if it was
among_without : (name n : List ℕ) (ns : List (List ℕ)) → bytes_eq name n ≡ false → is_among (without name ns) n ≡ is_among ns n
among_without name n [] e = refl
among_without name n (m ∷ ns) e = elim (cases_Bool (bytes_eq m name)) [
  | inl is ↦ (let other : bytes_eq m n ≡ false = rw (same m name is) e in rw (is, other, among_without name n ns e) refl)
  | inr isnt ↦ rw (isnt, among_without name n ns e) refl
]

-- ---- each name once

pub among_distinct : (ns : List (List ℕ)) (n : List ℕ) → is_among (distinct ns) n ≡ is_among ns n
among_distinct [] n = refl
among_distinct (m ∷ ns) n = elim (cases_Bool (bytes_eq m n)) [
  | inl is ↦ rw is refl
  | inr isnt ↦ rw (isnt, among_without m n (distinct ns) isnt, among_distinct ns n) refl
]

without_distinct : (name : List ℕ) (ns : List (List ℕ)) → AreDistinct ns → AreDistinct (without name ns)
without_distinct name [] d = tt
without_distinct name (n ∷ ns) d = elim (cases_Bool (bytes_eq n name)) [
  | inl is ↦ rw is (without_distinct name ns d.1)
  | inr isnt ↦ rw isnt (among_without name n ns (name_eq-sym name n ∙ isnt) ∙ d.0, without_distinct name ns d.1)
]

pub distinct_once : (ns : List (List ℕ)) → AreDistinct (distinct ns)
distinct_once [] = tt
distinct_once (n ∷ ns) = (among_without_self n (distinct ns), without_distinct n (distinct ns) (distinct_once ns))

-- a new name goes last
pub distinct_new : (ns : List (List ℕ)) (c : List ℕ) → is_among ns c ≡ false → distinct (ns ++ c ∷ []) ≡ distinct ns ++ c ∷ []
distinct_new [] c e = refl
distinct_new (n ∷ ns) c e =
    let parts = or_parts (bytes_eq n c) (is_among ns c) e in
    let other : bytes_eq c n ≡ false = name_eq-sym c n ∙ parts.0 in
    rw (distinct_new ns c parts.1, without_push n c (distinct ns), other) refl

-- one that came before changes nothing
pub distinct_old : (ns : List (List ℕ)) (c : List ℕ) → is_among ns c ≡ true → distinct (ns ++ c ∷ []) ≡ distinct ns
distinct_old [] c e = absurd (false≢true e)
distinct_old (n ∷ ns) c e = elim (cases_Bool (is_among ns c)) [
  | inl is ↦ rw (distinct_old ns c is) refl
  | inr isnt ↦ (let first : bytes_eq n c ≡ true = grind (arith, common_steps) in
      let last : bytes_eq c n ≡ true = name_eq-sym c n ∙ first in
      rw (distinct_new ns c isnt, without_push n c (distinct ns), last) (rw append-nil refl))
]

-- the first name twice
once_first : (n m : List ℕ) (ns : List (List ℕ)) → n ≡ m → distinct (n ∷ m ∷ ns) ≡ distinct (m ∷ ns)
once_first n m ns e = subst (λ (l : List ℕ). distinct (l ∷ m ∷ ns) ≡ distinct (m ∷ ns)) (sym e) twice
  where
    twice : distinct (m ∷ m ∷ ns) ≡ distinct (m ∷ ns)
    twice = rw (itself m, without_twice m (distinct ns)) refl

-- ---- names that come together

tail : (n : List ℕ) (ns : List (List ℕ)) → are_together (n ∷ ns) ≡ true → are_together ns ≡ true
tail n ns e = (and_parts (is_first_name n ns || not (is_among ns n)) (are_together ns) e).1

first_or_new : (a b : Bool) → (a || not b) ≡ true → a ≡ false → b ≡ false
first_or_new true b e h = absurd (false≢true (sym h))
first_or_new false true e h = absurd (false≢true e)
first_or_new false false e h = refl

-- a name that isn't the next one doesn't come again
gone : (n m : List ℕ) (ns : List (List ℕ)) → are_together (n ∷ m ∷ ns) ≡ true → bytes_eq m n ≡ false → is_among (m ∷ ns) n ≡ false
gone n m ns e isnt =
    first_or_new (bytes_eq m n) (is_among (m ∷ ns) n) (and_parts (is_first_name n (m ∷ ns) || not (is_among (m ∷ ns) n)) (are_together (m ∷ ns)) e).0 isnt

pub last_among : (ns : List (List ℕ)) (c : List ℕ) → is_last_name ns c ≡ true → is_among ns c ≡ true
last_among [] c e = e
last_among (n ∷ []) c e = rw e refl
last_among (n ∷ m ∷ ns) c e = grind (arith, common_steps, last_among (m ∷ ns) c e)

-- the last of the names is the last of each once
pub last_distinct : (ns : List (List ℕ)) (c : List ℕ) → are_together ns ≡ true → is_last_name (distinct ns) c ≡ is_last_name ns c
last_distinct [] c e = refl
last_distinct (n ∷ []) c e = refl
last_distinct (n ∷ m ∷ ns) c e = elim (cases_Bool (bytes_eq m n)) [
  | inl is ↦ (let rest : are_together (m ∷ ns) ≡ true = tail n (m ∷ ns) e in
      let name : n ≡ m = sym (same m n is) in
      let once : distinct (n ∷ m ∷ ns) ≡ distinct (m ∷ ns) = once_first n m ns name in
      ap (λ l. is_last_name l c) once ∙ last_distinct (m ∷ ns) c rest)
  | inr isnt ↦ (let rest : are_together (m ∷ ns) ≡ true = tail n (m ∷ ns) e in
      let new : is_among (m ∷ ns) n ≡ false = gone n m ns e isnt in
      let all : without n (distinct (m ∷ ns)) ≡ distinct (m ∷ ns) = without_none n (distinct (m ∷ ns)) (among_distinct (m ∷ ns) n ∙ new) in
      rw all (last_distinct (m ∷ ns) c rest))
]

-- the last name again
pub together_again : (ns : List (List ℕ)) (c : List ℕ) → are_together ns ≡ true → is_last_name ns c ≡ true → are_together (ns ++ c ∷ []) ≡ true
together_again [] c e last = absurd (false≢true last)
together_again (n ∷ []) c e last = rw (name_eq-sym c n, last) refl
together_again (n ∷ m ∷ ns) c e last =
    let rest : are_together (m ∷ ns) ≡ true = tail n (m ∷ ns) e in
    let again = together_again (m ∷ ns) c rest last in
    elim (cases_Bool (bytes_eq m n)) [
      | inl is ↦ rw (is, again) refl
      | inr isnt ↦ (let new : is_among (m ∷ ns) n ≡ false = gone n m ns e isnt in
          let other : bytes_eq c n ≡ false = apart (m ∷ ns) c n (last_among (m ∷ ns) c last) new in
          rw (isnt, again, among_push ns c n, (or_parts (bytes_eq m n) (is_among ns n) new).1, other) refl)
    ]

-- a new one
pub together_new : (ns : List (List ℕ)) (c : List ℕ) → are_together ns ≡ true → is_among ns c ≡ false → are_together (ns ++ c ∷ []) ≡ true
together_new [] c e new = refl
together_new (n ∷ []) c e new =
    let parts = or_parts (bytes_eq n c) false new in rw (name_eq-sym c n, parts.0) refl
together_new (n ∷ m ∷ ns) c e new =
    let rest : are_together (m ∷ ns) ≡ true = tail n (m ∷ ns) e in
    let parts = or_parts (bytes_eq n c) (is_among (m ∷ ns) c) new in
    let again = together_new (m ∷ ns) c rest parts.1 in
    elim (cases_Bool (bytes_eq m n)) [
      | inl is ↦ rw (is, again) refl
      | inr isnt ↦ (let none : is_among (m ∷ ns) n ≡ false = gone n m ns e isnt in
          let other : bytes_eq c n ≡ false = name_eq-sym c n ∙ parts.0 in
          rw (isnt, again, among_push ns c n, (or_parts (bytes_eq m n) (is_among ns n) none).1, other) refl)
    ]

-- one that came before, and isn't the last
pub comes_back : (ns : List (List ℕ)) (c : List ℕ) → are_together ns ≡ true → is_among ns c ≡ true → is_last_name ns c ≡ false → are_together (ns ++ c ∷ []) ≡ false
comes_back [] c e is last = absurd (false≢true is)
comes_back (n ∷ []) c e is last = absurd (false≢true (sym last ∙ grind (arith, common_steps)))
comes_back (n ∷ m ∷ ns) c e is last = elim (cases_Bool (is_among (m ∷ ns) c)) [
  | inl among ↦ (let rest : are_together (m ∷ ns) ≡ true = tail n (m ∷ ns) e in
      let back = comes_back (m ∷ ns) c rest among last in
      rw back (and_none _))
  | inr isnt ↦ (let first : bytes_eq n c ≡ true = grind (arith, common_steps) in
      let parts = or_parts (bytes_eq m c) (is_among ns c) isnt in
      let name : n ≡ c = same n c first in
      rw (name, parts.0, among_push ns c c, parts.1, itself c) refl)
]
