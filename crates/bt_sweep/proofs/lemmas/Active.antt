-- Lemmas on held records.
use Rattle.bt_lines.proofs.Std.{◌≡◌, Bool, true, ◌&&◌, cond, List, [], ◌∷◌, refl, filter, arith, ℕ, ◌<◌, false, None, Some, sym, ap, ◌∙◌, subst, rules, length, nat_eq, nat_lt, IsSome, BTreeMap, get, nat_cmp, eq-eqb, eqb-true, lt-ltb, length-filter, ◌+◌, ◌-◌, ◌≤◌, ◌++◌, zero, suc, add-one, append_assoc, drop, length-append, nat_le, option_to_list, slice_index_or, take, or-false, le-ltb, leb-false, ltb-false, ltb-true, or_parts, All, AllByRecursion, list_any, slice_get, IsNonDecreasingBy, IsPartitionPoint, get_or-drop, get_or_default, length-drop, take-append-drop, All-filter, filter-append, recursion_from_All, IsNonDecreasingBy-filter, IsNonDecreasingBy-push}
use Rattle.bt_bed.specs.model.Feature.{Feature}
use Rattle.bt_sweep.specs.inside.Held.{CountsEnds, count_ending_at, if_some}
use Rattle.bt_sweep.specs.calls.Held.{HaveBases}

-- Lemmas on filters of lists.

module _ {X : Type 0} (p q : X → Bool) where
  narrow_at : (x : X) (xs : List X) (c d : Bool) → p x ≡ c → q x ≡ d → (c ≡ true → d ≡ true) → filter p (filter q xs) ≡ filter p xs
      → filter p (cond d (x ∷ filter q xs) (filter q xs)) ≡ cond c (x ∷ filter p xs) (filter p xs)
  narrow_at x xs c d e f h rest = grind arith

  -- what the first test accepts, the second accepts: then it leaves out none of them
  pub filter-wider : ((x : X) → p x ≡ true → q x ≡ true) → (xs : List X) → filter p (filter q xs) ≡ filter p xs
  filter-wider h [] = refl
  filter-wider h (x ∷ xs) = narrow_at x xs (p x) (q x) refl refl (h x) (filter-wider h xs)

module _ {X : Type 0} (p q r : X → Bool) where
  both_at : (x : X) (xs : List X) (c d : Bool) → q x ≡ c → r x ≡ d → p x ≡ (c && d) → filter r (filter q xs) ≡ filter p xs
      → filter r (cond c (x ∷ filter q xs) (filter q xs)) ≡ cond (p x) (x ∷ filter p xs) (filter p xs)
  both_at x xs c d e f h rest = grind arith

  -- two tests, one after the other, are one
  pub filter-both : ((x : X) → p x ≡ (q x && r x)) → (xs : List X) → filter r (filter q xs) ≡ filter p xs
  filter-both h [] = refl
  filter-both h (x ∷ xs) = both_at x xs (q x) (r x) refl refl (h x) (filter-both h xs)

-- Lemmas on how many held records end where.

abbrev ends_at : ℕ → Feature → Bool
ends_at stop r = nat_eq r.stop stop

as_length : (stop : ℕ) (xs : List Feature) → count_ending_at stop xs ≡ length (filter (ends_at stop) xs)
as_length stop xs = sym (length-filter (ends_at stop) xs)

some_of : (n : ℕ) → 0 < n → IsSome (if_some n)
some_of n h = subst (λ (b : Bool). IsSome (cond b (Some n) None)) (sym (lt-ltb 0 n h)) (search rules)

none_pass : (xs : List Feature) → filter (λ r. false) xs ≡ []
none_pass [] = refl
none_pass (x ∷ xs) = none_pass xs

module _ (place : ℕ) where
  abbrev stays : Feature → Bool
  stays r = nat_lt place r.stop

  stay_rec : (xs : List Feature) → ((stop : ℕ) → 0 < length (filter (ends_at stop) xs) → place < stop) → xs ≡ filter stays xs
  stay_rec [] h = refl
  stay_rec (x ∷ xs) h = grind (arith, (eq-eqb x.stop x.stop refl), (stay_rec xs (λ stop some. h stop (grind arith))))

  -- if each end that is counted lies after the place, no record has ended there
  pub none_ended : (ends : BTreeMap ℕ ℕ) (xs : List Feature) → CountsEnds ends xs → ((stop : ℕ) → IsSome (get nat_cmp ends stop) → place < stop) → xs ≡ filter stays xs
  none_ended ends xs counts behind = grind (arith, (stay_rec xs (λ stop some. behind stop (subst IsSome (sym (counts stop)) (some_of (count_ending_at stop xs) (omega (arith, some, as_length stop xs)))))))

  module _ (stop : ℕ) (xs : List Feature) where
    stop_stays : nat_lt place stop ≡ true → (x : Feature) → ends_at stop x ≡ true → stays x ≡ true
    stop_stays h x e = ap (nat_lt place) (eqb-true x.stop stop e) ∙ h

    kept_by : (c : Bool) → nat_lt place stop ≡ c → if_some (count_ending_at stop (filter stays xs)) ≡ cond c (if_some (count_ending_at stop xs)) None
    kept_by true h = grind (arith, (as_length stop (filter stays xs)), (filter-wider (ends_at stop) stays (stop_stays h) xs), (as_length stop xs))
    kept_by false h = grind (arith, (as_length stop (filter stays xs)), (filter-both (λ r. false) stays (ends_at stop) (λ x. grind arith) xs), (none_pass xs))

    -- of the records that haven't ended at the place as many end anywhere after it, and none elsewhere
    pub kept_ends : if_some (count_ending_at stop (filter stays xs)) ≡ cond (nat_lt place stop) (if_some (count_ending_at stop xs)) None
    kept_ends = kept_by (nat_lt place stop) refl

-- Lemmas on a queue of held records.

abbrev start_of : Feature → ℕ
start_of r = r.start

-- with one more that starts where the last does or after it
pub rises_push : (xs : List Feature) (last y : Feature) (n : ℕ) → n ≡ length xs → last ≡ slice_index_or xs (n - 1) last → last.start ≤ y.start
    → IsNonDecreasingBy (λ r. r.start) xs → IsNonDecreasingBy (λ r. r.start) (xs ++ y ∷ [])
rises_push xs last y n is at h rises =
    IsNonDecreasingBy-push start_of xs y rises (λ d some.
    omega (arith, ap start_of (get_or_default xs (length xs - 1) d last (omega (arith, some)) ∙ ap (λ k. slice_index_or xs (k - 1) last) (sym is) ∙ sym at), h))

-- whether the one at an index passes a test
passes_at : {X : Type 0} (p : X → Bool) (xs : List X) (i : ℕ) (d : X) → i < length xs → list_any p (option_to_list (slice_get xs i)) ≡ p (slice_index_or xs i d)
passes_at p [] i d h = absurd (omega (arith, h))
passes_at p (x ∷ xs) zero d h = or-false (p x)
passes_at p (x ∷ xs) (suc i) d h = passes_at p xs i d (omega (arith, h))

-- the first `n` start before a place, or those from `n` on start there or after it
abbrev pub ComeBefore : ℕ → List Feature → ℕ → Type 0
ComeBefore place xs n = (i : ℕ) (d : Feature) → i < n → nat_lt (slice_index_or xs i d).start place ≡ true

abbrev pub ComeFrom : ℕ → List Feature → ℕ → Type 0
ComeFrom place xs n = (i : ℕ) (d : Feature) → n ≤ i → i < length xs → nat_lt (slice_index_or xs i d).start place ≡ false

module _ (place : ℕ) (xs : List Feature) (rises : IsNonDecreasingBy (λ r. r.start) xs) (middle : ℕ) (h : middle < length xs) where
  -- if one starts before the place, so do those before it
  pub come_before : list_any (λ r. nat_lt r.start place) (option_to_list (slice_get xs middle)) ≡ true → ComeBefore place xs (middle + 1)
  come_before e = λ i d low.
      lt-ltb _ place (omega (arith, rises i middle d (omega (arith, low)) h, ltb-true _ place (sym (passes_at (λ r. nat_lt r.start place) xs middle d h) ∙ e)))

  -- if one starts there or after it, so do those after it in the list
  pub come_from : list_any (λ r. nat_lt r.start place) (option_to_list (slice_get xs middle)) ≡ false → ComeFrom place xs middle
  come_from e = λ i d low high.
      le-ltb _ place (omega (arith, rises middle i d low high, ltb-false _ place (sym (passes_at (λ r. nat_lt r.start place) xs middle d h) ∙ e)))

pub come_to : (place : ℕ) (xs : List Feature) (low high : ℕ) → low ≡ high → ComeBefore place xs low → ComeFrom place xs high
    → IsPartitionPoint (λ (r : Feature). nat_lt r.start place ≡ true) (λ (r : Feature). nat_lt r.start place ≡ false) xs high
come_to place xs low high same before rest = (λ i d first h. subst (λ (n : ℕ). ComeBefore place xs n) same before i d h, rest)

module _ {X : Type 0} (p : X → Bool) where
  record Splits (xs : List X) (i : ℕ) : Type 0 where
    x : X
    behind : drop i xs ≡ x ∷ drop (suc i) xs
    before : take (suc i) xs ≡ take i xs ++ x ∷ []

  splits : (xs : List X) (i : ℕ) → i < length xs → Splits xs i
  splits [] i h = absurd (omega (arith, h))
  splits (x ∷ xs) zero h = record { x = x; behind = refl; before = refl }
  splits (y ∷ xs) (suc i) h = grind (arith, (splits xs i (omega (arith, h))))

  module _ (xs items : List X) (i : ℕ) (h : i < length xs) (so_far : items ≡ drop i xs ++ filter p (take i xs)) where
    split : Splits xs i
    split = splits xs i h

    abbrev kept : List X
    kept = filter p (take i xs)

    parts : items ≡ split.x ∷ (drop (suc i) xs ++ kept)
    parts = so_far ∙ ap (λ l. l ++ kept) split.behind

    one_more : kept ++ filter p (take 1 items) ≡ filter p (take (suc i) xs)
    one_more = ap (λ l. kept ++ filter p (take 1 l)) parts ∙ sym (filter-append p (take i xs) (split.x ∷ [])) ∙ ap (filter p) (sym split.before)

    -- the first of them is visited
    pub passed_next : drop 1 items ++ filter p (take 1 items) ≡ drop (i + 1) xs ++ filter p (take (i + 1) xs)
    passed_next = grind (arith, parts, append_assoc, one_more)

    pub kept_next : length kept + length (filter p (take 1 items)) ≡ length (filter p (take (i + 1) xs))
    kept_next = rw add-one (sym (length-append kept (filter p (take 1 items))) ∙ ap length one_more)

module _ {X : Type 0} (p : X → Bool) where
  pass_rec : (xs : List X) → AllByRecursion (λ x. p x ≡ true) xs → filter p xs ≡ xs
  pass_rec [] all = refl
  pass_rec (x ∷ xs) all = ap (λ b. cond b (x ∷ filter p xs) (filter p xs)) all.0 ∙ ap (λ l. x ∷ l) (pass_rec xs all.1)

  all_pass : (xs : List X) → All (λ x. p x ≡ true) xs → filter p xs ≡ xs
  all_pass xs all = pass_rec xs (recursion_from_All (λ x. p x ≡ true) xs all)

module _ (place : ℕ) where
  none_rec : (xs : List Feature) → list_any (λ r. nat_le r.stop place) xs ≡ false → AllByRecursion (λ x. stays place x ≡ true) xs
  none_rec [] e = tt
  none_rec (x ∷ xs) e =
      let parts = or_parts (nat_le x.stop place) (list_any (λ r. nat_le r.stop place) xs) e in
      (lt-ltb place x.stop (leb-false x.stop place parts.0), none_rec xs parts.1)

  module _ (xs : List Feature) (n : ℕ) (within : n ≤ length xs) (bases : HaveBases xs)
      (at : IsPartitionPoint (λ (r : Feature). nat_lt r.start place ≡ true) (λ (r : Feature). nat_lt r.start place ≡ false) xs n) where
    rest_stays : All (λ r. stays place r ≡ true) (drop n xs)
    rest_stays k d h = grind (arith, length-drop, get_or-drop)

    -- those that have ended are dropped: all of them start before the place
    pub dropped : filter (stays place) (take n xs) ++ drop n xs ≡ filter (stays place) xs
    dropped = grind (arith, (all_pass (stays place) (drop n xs) rest_stays), (filter-append (stays place) (take n xs) (drop n xs)), (take-append-drop n xs))

    -- if none of those that start before has ended, there is none
    pub none_dropped : list_any (λ r. nat_le r.stop place) (take n xs) ≡ false → xs ≡ filter (stays place) xs
    none_dropped none = grind (arith, (take-append-drop n xs), (pass_rec (stays place) (take n xs) (none_rec (take n xs) none)), dropped)

-- they rise and have bases if others did of which they are some
pub rises_on : (p : Feature → Bool) (xs items : List Feature) → items ≡ filter p xs → IsNonDecreasingBy (λ r. r.start) xs → IsNonDecreasingBy (λ r. r.start) items
rises_on p xs items is rises = subst (IsNonDecreasingBy start_of) (sym is) (IsNonDecreasingBy-filter start_of p xs rises)

pub bases_on : (p : Feature → Bool) (xs items : List Feature) → items ≡ filter p xs → HaveBases xs → HaveBases items
bases_on p xs items is bases = subst HaveBases (sym is) (All-filter p (λ b. b.start < b.stop) xs bases)
