-- A scan of the positions finds the intervals of equal value, and no other list has them.
use Rattle.bt_lines.proofs.Std.{◌≡◌, ℕ, zero, suc, ◌+◌, ◌<◌, ◌≤◌, inl, inr, List, [], ◌∷◌, ◌++◌, refl, sym, ap, ◌∙◌, subst, arith, ◌==◌, Option, Some, None, cases_Bool, cases_lt, eq-eqb, eqb-true}
use Rattle.bt_bed.specs.model.Levels.{AreDisjointFrom, AreLevelsOf, DiffersFromNext, HasValue, Level, OneList}
use Rattle.bt_bed.specs.calls.LevelScan.{Begun, begun_after, ended_after, levels_from, next_begun, next_ended, scanned}

-- a scan of one more position
pub levels_more : (value : ℕ → Option ℕ) (p n : ℕ) (begun : Option Begun) → levels_from value p (suc n) begun ≡ next_ended p (value p) begun ++ levels_from value (p + 1) n (next_begun p (value p) begun)
unfolding begun_after ended_after
levels_more value p n begun = grind arith

-- two lists of intervals that have the same values are one list
pub value_from : (first : ℕ) (xs : List Level) (p v : ℕ) → AreDisjointFrom first xs → HasValue xs p v → first ≤ p
value_from first [] p v d h = absurd h
value_from first (x ∷ xs) p v d (inl w) = omega (arith, d.0, w.0)
value_from first (x ∷ xs) p v d (inr w) = let h = value_from x.stop xs p v d.3 w in omega (arith, d.0, d.1)

value_from_start : (first : ℕ) (x : Level) (xs : List Level) (p v : ℕ) → AreDisjointFrom first (x ∷ xs) → HasValue (x ∷ xs) p v → x.start ≤ p
value_from_start first x xs p v d p1 = grind (arith, value_from)

-- below its stop the first interval alone has a value
value_first : (first : ℕ) (x : Level) (xs : List Level) (p v : ℕ) → AreDisjointFrom first (x ∷ xs) → p < x.stop → HasValue (x ∷ xs) p v → x.value ≡ v
value_first first x xs p v d l p1 = grind (arith, value_from)

stop_differs : (first : ℕ) (x : Level) (xs : List Level) → AreDisjointFrom first (x ∷ xs) → HasValue (x ∷ xs) x.stop x.value → ⊥
stop_differs first x xs d p1 = grind (arith, value_from)

-- what the first list has, the second has too
abbrev pub IsWithin : List Level → List Level → Type 0
IsWithin xs ys = (p v : ℕ) → HasValue xs p v → HasValue ys p v

start_up_to : (f g : ℕ) (x y : Level) (xs ys : List Level) → AreDisjointFrom f (x ∷ xs) → AreDisjointFrom g (y ∷ ys) → IsWithin (x ∷ xs) (y ∷ ys) → y.start ≤ x.start
start_up_to f g x y xs ys a b within = value_from_start g y ys x.start x.value b (within x.start x.value (inl (omega arith, a.1, refl)))

same_value : (f g : ℕ) (x y : Level) (xs ys : List Level) → AreDisjointFrom f (x ∷ xs) → AreDisjointFrom g (y ∷ ys) → IsWithin (x ∷ xs) (y ∷ ys) → x.start ≡ y.start → y.value ≡ x.value
same_value f g x y xs ys a b within e = value_first g y ys x.start x.value b (omega (arith, b.1)) (within x.start x.value (inl (omega arith, a.1, refl)))

stop_up_to : (f g : ℕ) (x y : Level) (xs ys : List Level) → AreDisjointFrom f (x ∷ xs) → AreDisjointFrom g (y ∷ ys) → IsWithin (x ∷ xs) (y ∷ ys) → x.start ≡ y.start → x.stop ≤ y.stop
stop_up_to f g x y xs ys a b within e =
    let v = same_value f g x y xs ys a b within e in
    elim (cases_lt y.stop x.stop) [
      | inl l ↦ grind (arith, (stop_differs g y ys b (subst (λ v. HasValue (y ∷ ys) y.stop v) (sym v) (within y.stop x.value (inl (omega (arith, b.1), l, refl))))))
      | inr h ↦ h
    ]

same_level : (x y : Level) → x.start ≡ y.start → x.stop ≡ y.stop → x.value ≡ y.value → x ≡ y
same_level x y s e v = grind arith

same_levels : (f g : ℕ) (xs ys : List Level) → AreDisjointFrom f xs → AreDisjointFrom g ys → IsWithin xs ys → IsWithin ys xs → xs ≡ ys
same_levels f g [] [] a b to back = refl
same_levels f g [] (y ∷ ys) a b to back = absurd (back y.start y.value (inl (omega arith, b.1, refl)))
same_levels f g (x ∷ xs) [] a b to back = absurd (to x.start x.value (inl (omega arith, a.1, refl)))
same_levels f g (x ∷ xs) (y ∷ ys) a b to back =
    let low = start_up_to f g x y xs ys a b to in
    let high = start_up_to g f y x ys xs b a back in
    let starts : x.start ≡ y.start = omega arith in
    let short = stop_up_to f g x y xs ys a b to starts in
    let long = stop_up_to g f y x ys xs b a back (sym starts) in
    let stops : x.stop ≡ y.stop = omega arith in
    let heads = same_level x y starts stops (sym (same_value f g x y xs ys a b to starts)) in
    grind (arith, (same_levels x.stop y.stop xs ys a.3 b.3 (grind (arith, value_from)) (grind (arith, value_from))))

-- the list has the values of n positions before an end, from a first one on
record IsScanOf (value : ℕ → Option ℕ) (first end : ℕ) (levels : List Level) : Type 0 where
  disjoint : AreDisjointFrom first levels
  within : (q v : ℕ) → HasValue levels q v → (q < end) × (value q ≡ Some v)
  whole : (q v : ℕ) → first ≤ q → q < end → value q ≡ Some v → HasValue levels q v

-- what has begun has the values from where it began
abbrev pub IsBegun : (ℕ → Option ℕ) → ℕ → ℕ → Option Begun → Type 0
IsBegun value first p None = first ≡ p
IsBegun value first p (Some begun) = (first ≡ begun.start) × (first < p) × ((q : ℕ) → first ≤ q → q < p → value q ≡ Some begun.value)

pub looser : (f g : ℕ) (xs : List Level) → g ≤ f → AreDisjointFrom f xs → AreDisjointFrom g xs
looser f g [] h d = tt
looser f g (x ∷ xs) h d = (omega (arith, d.0), d.1, d.2, d.3)

differs_before : (value : ℕ → Option ℕ) (begun : Begun) (p end : ℕ) (rest : List Level) → ((v : ℕ) → value p ≡ Some v → begun.value ≡ v → ⊥) → IsScanOf value p end rest → DiffersFromNext (record { start = begun.start; stop = p; value = begun.value }) rest
differs_before value begun p end [] other scan = tt
differs_before value begun p end (m ∷ ms) other scan = λ touch same.
    other m.value (subst (λ n. value n ≡ Some m.value) (sym touch) (scan.within m.start m.value (inl (omega arith, scan.disjoint.1, refl))).1) same

-- an ended interval before a scan that begins where it ends
one_before : (value : ℕ → Option ℕ) (begun : Begun) (first p end : ℕ) (rest : List Level) → IsBegun value first p (Some begun) → p ≤ end → IsScanOf value p end rest → ((v : ℕ) → value p ≡ Some v → begun.value ≡ v → ⊥)
    → IsScanOf value first end (record { start = begun.start; stop = p; value = begun.value } ∷ rest)
one_before value begun first p end rest b up scan other = grind (arith, (differs_before value begun p end rest other scan))

-- a position without a value before a scan
skips : (value : ℕ → Option ℕ) (p end : ℕ) (levels : List Level) → value p ≡ None → IsScanOf value (p + 1) end levels → IsScanOf value p end levels
skips value p end levels none scan = grind (arith, looser)

-- the scan of the rest, whatever has begun
abbrev ScansRest : (ℕ → Option ℕ) → ℕ → ℕ → (Option Begun → List Level) → Type 0
ScansRest value p end rest = (first : ℕ) (begun : Option Begun) → IsBegun value first p begun → IsScanOf value first end (rest begun)

begins_here : (value : ℕ → Option ℕ) (p v : ℕ) → value p ≡ Some v → IsBegun value p (p + 1) (Some (record { start = p; value = v }))
begins_here value p v e = (refl, omega arith, λ q low high. let same : q ≡ p = omega arith in ap value same ∙ e)

one_scan : (value : ℕ → Option ℕ) (first p end : ℕ) (begun : Option Begun) (v : Option ℕ) (rest : Option Begun → List Level) → value p ≡ v → p < end → IsBegun value first p begun → ScansRest value (p + 1) end rest
    → IsScanOf value first end (next_ended p v begun ++ rest (next_begun p v begun))
one_scan value first p end None None rest e below b scan = grind (arith, (skips value p end (rest None) e (scan (p + 1) None refl)))
one_scan value first p end None (Some v) rest e below b scan =
    rw b (scan p (Some (record { start = p; value = v })) (begins_here value p v e))
one_scan value first p end (Some begun) None rest e below b scan =
    one_before value begun first p end (rest None) b (omega arith) (skips value p end (rest None) e (scan (p + 1) None refl)) (λ w is same. let bare : None ≡ Some w = sym e ∙ is in cc)
one_scan value first p end (Some begun) (Some v) rest e below b scan = elim (cases_Bool (begun.value == v)) [
  | inl t ↦
      let same = eqb-true begun.value v t in
      rw t (scan first (Some begun) (grind arith))
  | inr f ↦
      let other : begun.value ≡ v → ⊥ = λ same. let t = eq-eqb begun.value v same in cc in
      rw f (one_before value begun first p end (rest (Some (record { start = p; value = v }))) b (omega arith) (scan p (Some (record { start = p; value = v })) (begins_here value p v e)) (λ w is same. let here : Some v ≡ Some w = sym e ∙ is in other (cc)))
]

scans : (value : ℕ → Option ℕ) (n first p end : ℕ) (begun : Option Begun) → p + n ≡ end → IsBegun value first p begun → IsScanOf value first end (levels_from value p n begun)
unfolding begun_after ended_after
scans value zero first p end begun is b = grind arith
scans value (suc n) first p end begun is b =
    rw (levels_more value p n begun) (one_scan value first p end begun (value p) (levels_from value (p + 1) n) refl (omega arith) b
    (λ first begun next. scans value n first (p + 1) end begun (omega arith) next))

-- the scan of all positions finds the list
pub are_scanned : (value : ℕ → Option ℕ) (size : ℕ) → AreLevelsOf value size (scanned value size)
are_scanned value size = grind (arith, (scans value size 0 0 size None (omega arith) refl))

-- and no other list is
pub only_scanned : (value : ℕ → Option ℕ) (size : ℕ) (levels : List Level) → AreLevelsOf value size levels → levels ≡ scanned value size
only_scanned value size levels h = grind (arith, (are_scanned value size), same_levels)

abbrev pub one_list : (value : ℕ → Option ℕ) (size : ℕ) → OneList value size
one_list value size = record { levels = scanned value size; are = are_scanned value size; only = only_scanned value size }
