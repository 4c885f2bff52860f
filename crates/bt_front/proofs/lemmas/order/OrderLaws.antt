-- The order that is found fits both inputs, and one is found if there is one.
use Rattle.bt_lines.proofs.Std.{arith, ◌≡◌, ℕ, suc, zero, ◌+◌, ◌-◌, ◌<◌, ◌≤◌, ◌⊎◌, inl, inr, Bool, true, false, add-one, ◌&&◌, ◌||◌, List, [], ◌∷◌, ◌++◌, Option, Some, None, and_parts, ap, append-nil, false_from_ne_true, or_left, or_right, append_assoc, bytes_eq, cases_lt, cond, drop, drop-drop, drop_of_length-le, false≢true, is_some, le-leb, le-ltb, leb, leb-true, length, length-append, lt-ltb, ltb, option_map, or_from, or_parts, refl, slice_get, subst, sym, take, take-append-drop, ◌∙◌}
use Rattle.bt_bed.specs.model.Order.{is_among, rank_of, rank_order}
use Rattle.bt_bed.specs.calls.Orders.{AreDistinct}
use Rattle.bt_bed.proofs.lemmas.order.OrderLemmas.{among_ranked}
use Rattle.bt_bed.proofs.lemmas.parse.NameLemmas.{cases_name, name_eq, name_ne-sym, same_name}
use Rattle.bt_front.specs.calls.Orders.{IsCommonOrder, found_order_fits, order_is_found}
use Rattle.bt_front.specs.model.Fitting.{are_in_order, common_at, common_from, names_between}
use Rattle.bt_front.proofs.lemmas.order.FittingLemmas.{after, ascends, ascends_zero, at_drop, rank_within}

abbrev Names : Type 0
Names = List (List ℕ)

-- Ranks that ascend.

lowest_by : (least : ℕ) (o : Option ℕ) (rest : ℕ → Bool) → after least o rest ≡ true
    → (r : ℕ) × (o ≡ Some r) × (least ≤ r) × (rest (suc r) ≡ true)
lowest_by least None rest e = absurd (false≢true e)
lowest_by least (Some r) rest e =
    let parts = and_parts (leb least r) (rest (suc r)) e in (r, refl, leb-true least r parts.0, parts.1)

module _ (names : Names) where
  first_rank : (n : List ℕ) (ns : Names) (least : ℕ) → ascends names least (n ∷ ns) ≡ true
      → (r : ℕ) × (rank_of names n ≡ Some r) × (least ≤ r) × (ascends names (suc r) ns ≡ true)
  first_rank n ns least e = lowest_by least (rank_of names n) (λ now. ascends names now ns) e

  ascends_lower : (ms : Names) (least lower : ℕ) → lower ≤ least → ascends names least ms ≡ true → ascends names lower ms ≡ true
  ascends_lower [] least lower below e = refl
  ascends_lower (m ∷ ms) least lower below e =
      let first = first_rank m ms least e in
      let enough : lower ≤ first.0 = omega (arith, first.2) in
      rw (first.1, le-leb lower first.0 enough) first.3

  rank_at_least : (ns : Names) (least j : ℕ) (b : List ℕ) (y : ℕ) → ascends names least ns ≡ true → slice_get ns j ≡ Some b
      → rank_of names b ≡ Some y → least ≤ y
  rank_at_least [] least j b y e there ranked = absurd (cc)
  rank_at_least (n ∷ ns) least zero b y e there ranked =
      let first = first_rank n ns least e in
      let same : n ≡ b = cc in
      let rank : rank_of names b ≡ Some first.0 = subst (λ (m : List ℕ). rank_of names m ≡ Some first.0) same first.1 in
      let equal : first.0 ≡ y = cc in
      omega (arith, first.2)
  rank_at_least (n ∷ ns) least (suc j) b y e there ranked =
      let first = first_rank n ns least e in
      let more = rank_at_least ns (suc first.0) j b y first.3 there ranked in
      omega (arith, first.2)

  rank_before : (ns : Names) (least i j : ℕ) (a b : List ℕ) (x y : ℕ) → ascends names least ns ≡ true → slice_get ns i ≡ Some a
      → slice_get ns j ≡ Some b → i < j → rank_of names a ≡ Some x → rank_of names b ≡ Some y → x < y
  rank_before [] least i j a b x y e here there less one two = absurd (cc)
  rank_before (n ∷ ns) least zero zero a b x y e here there less one two = absurd (omega arith)
  rank_before (n ∷ ns) least zero (suc j) a b x y e here there less one two =
      let first = first_rank n ns least e in
      let same : n ≡ a = cc in
      let rank : rank_of names a ≡ Some first.0 = subst (λ (m : List ℕ). rank_of names m ≡ Some first.0) same first.1 in
      let equal : first.0 ≡ x = cc in
      let more = rank_at_least ns (suc first.0) j b y first.3 there two in
      omega arith
  rank_before (n ∷ ns) least (suc i) zero a b x y e here there less one two = absurd (omega arith)
  rank_before (n ∷ ns) least (suc i) (suc j) a b x y e here there less one two =
      let first = first_rank n ns least e in
      rank_before ns (suc first.0) i j a b x y first.3 here there (omega arith) one two

-- the name at a rank
named_by : (n name : List ℕ) (ns : Names) (b : Bool) (o : Option ℕ) (rank : ℕ) → bytes_eq n name ≡ b
    → ((k : ℕ) → o ≡ Some k → slice_get ns k ≡ Some name)
    → cond b (Some 0) (option_map (λ k. suc k) o) ≡ Some rank → slice_get (n ∷ ns) rank ≡ Some name
named_by n name ns true o rank e others is =
    let first : 0 ≡ rank = cc in
    subst (λ k. slice_get (n ∷ ns) k ≡ Some name) first (ap (λ l. Some l) (same_name n name e))
named_by n name ns false None rank e others is = absurd (cc)
named_by n name ns false (Some k) rank e others is =
    let later : suc k ≡ rank = cc in
    subst (λ k. slice_get (n ∷ ns) k ≡ Some name) later (others k refl)

named : (names : Names) (name : List ℕ) (rank : ℕ) → rank_of names name ≡ Some rank → slice_get names rank ≡ Some name
named [] name rank is = absurd (cc)
named (n ∷ ns) name rank is = named_by n name ns (bytes_eq n name) (rank_of ns name) rank refl (named ns name) is

-- No order fits if none is found.

none_of : {A B : Type 0} (f : A → B) (o : Option A) → option_map f o ≡ None → o ≡ None
none_of f None e = refl
none_of f (Some x) e = absurd (cc)

module _ (second names : Names) (sorted : ascends names 0 second ≡ true) where
  -- the names before this place have lower ranks
  abbrev Below : ℕ → ℕ → Type 0
  Below next least = (k : ℕ) (m : List ℕ) (x : ℕ) → k < next → slice_get second k ≡ Some m → rank_of names m ≡ Some x → x < least

  below_placed : (n : List ℕ) (place r : ℕ) → slice_get second place ≡ Some n → rank_of names n ≡ Some r → Below (suc place) (suc r)
  below_placed n place r there ranked k m x less here one = elim (cases_lt k place) [
    | inl before ↦ let h = rank_before names second 0 k place m n x r sorted here there before one ranked in omega arith
    | inr not_before ↦
        let at : k ≡ place = omega arith in
        let same : slice_get second place ≡ Some m = subst (λ i. slice_get second i ≡ Some m) at here in
        let equal : m ≡ n = cc in
        let rank : rank_of names n ≡ Some x = subst (λ (o : List ℕ). rank_of names o ≡ Some x) equal one in
        let ranks : x ≡ r = cc in
        omega arith
  ]

  no_common_by : (n : List ℕ) (next r : ℕ) (rest : ℕ → Option Names) (o : Option ℕ) → rank_of second n ≡ o → rank_of names n ≡ Some r
      → ((now : ℕ) → Below now (suc r) → rest now ≡ None → ⊥) → (least : ℕ) → least ≤ r → Below next least
      → common_at second next n o rest ≡ None → ⊥
  no_common_by n next r rest None e ranked goes least enough below none =
      goes next (λ k m x less here one. let h = below k m x less here one in omega arith) (none_of (λ more. n ∷ more) (rest next) none)
  no_common_by n next r rest (Some place) e ranked goes least enough below none = elim (cases_lt place next) [
    | inl less ↦ let h = below place n r less (named second n place e) ranked in omega arith
    | inr past ↦
        goes (suc place) (below_placed n place r (named second n place e) ranked)
        (none_of (λ more. names_between second next place ++ n ∷ more) (rest (suc place)) (rw (le-ltb place next past) at none))
  ]

  no_common : (first : Names) (next least : ℕ) → Below next least → common_from second next first ≡ None → ascends names least first ≡ true → ⊥
  unfolding common_from
  no_common [] next least below none e = absurd (cc)
  no_common (n ∷ ns) next least below none e =
      let first = first_rank names n ns least e in
      no_common_by n next first.0 (λ now. common_from second now ns) (rank_of second n) refl first.1
      (λ now under gone. no_common ns now (suc first.0) under gone first.3) least first.2 below none

pub found_if_any : order_is_found
found_if_any first second names none one two =
    no_common second names (ascends_zero names second ∙ two) first 0 0 (λ k m x less. absurd (omega arith)) none (ascends_zero names first ∙ one)

-- The order that is found.

-- the first name of a list, and what follows it in the order that is found
record Step (second : Names) (next : ℕ) (n : List ℕ) (ns rest : Names) : Type 0 where
  others : Names
  now : ℕ
  more : Names
  whole : rest ≡ others ++ n ∷ more
  goes : common_from second now ns ≡ Some more
  -- the name isn't in the second list, or comes there after the others
  left : ((others ≡ []) × (now ≡ next) × (rank_of second n ≡ None))
      ⊎ ((place : ℕ) × (rank_of second n ≡ Some place) × (next ≤ place) × (now ≡ suc place) × (others ≡ names_between second next place))

mapped : {A B : Type 0} (f : A → B) (o : Option A) (y : B) → option_map f o ≡ Some y → (x : A) × (o ≡ Some x) × (y ≡ f x)
mapped f None y e = absurd (cc)
mapped f (Some x) y e = let same : f x ≡ y = cc in (x, refl, sym same)

step_by : (second : Names) (next : ℕ) (n : List ℕ) (ns rest : Names) (o : Option ℕ) → rank_of second n ≡ o
    → common_at second next n o (λ now. common_from second now ns) ≡ Some rest → Step second next n ns rest
step_by second next n ns rest None e is =
    let m = mapped (λ names. n ∷ names) (common_from second next ns) rest is in
    record { others = []; now = next; more = m.0; whole = m.2; goes = m.1; left = inl (refl, refl, e) }
step_by second next n ns rest (Some place) e is = elim (cases_lt place next) [
  | inl less ↦ absurd (no_some (rw (lt-ltb place next less) at is))
  | inr past ↦
      let m = mapped (λ names. names_between second next place ++ n ∷ names) (common_from second (suc place) ns) rest
      (rw (le-ltb place next past) at is) in
      record {
        others = names_between second next place;
        now = suc place;
        more = m.0;
        whole = m.2;
        goes = m.1;
        left = inr (place, e, past, refl, refl);
      }
]
  where
    no_some : {A : Type 0} {x : A} → None ≡ Some x → ⊥
    no_some same = absurd (cc)

first_step : (second : Names) (next : ℕ) (n : List ℕ) (ns rest : Names) → common_from second next (n ∷ ns) ≡ Some rest → Step second next n ns rest
unfolding common_from
first_step second next n ns rest e = step_by second next n ns rest (rank_of second n) refl e

at_end : (second : Names) (next : ℕ) (rest : Names) → common_from second next [] ≡ Some rest → rest ≡ drop next second
unfolding common_from
at_end second next rest e = let same : drop next second ≡ rest = cc in sym same

-- what is left of the second list at a name's place
left_at : (second : Names) (next place : ℕ) (n : List ℕ) → rank_of second n ≡ Some place → next ≤ place
    → drop next second ≡ names_between second next place ++ n ∷ drop (suc place) second
left_at second next place n found past =
    let there : next + (place - next) ≡ place = omega arith in
    sym (take-append-drop (place - next) (drop next second))
    ∙ ap (λ ns. names_between second next place ++ ns) (drop-drop (place - next) next second ∙ ap (λ k. drop k second) there
    ∙ at_drop second place n (named second n place found) ∙ ap (λ k. n ∷ drop k second) (add-one place))

-- Names among others.

among_append : (xs ys : Names) (name : List ℕ) → is_among (xs ++ ys) name ≡ (is_among xs name || is_among ys name)
among_append [] ys name = refl
among_append (x ∷ xs) ys name = rw (among_append xs ys name) (or_more (bytes_eq x name) (is_among xs name) (is_among ys name))
  where
    or_more : (a b c : Bool) → (a || (b || c)) ≡ ((a || b) || c)
    or_more true b c = refl
    or_more false b c = refl

among_middle : (pre : Names) (n : List ℕ) (more : Names) (name : List ℕ) → is_among (pre ++ n ∷ more) name ≡ false → bytes_eq n name ≡ false
among_middle [] n more name e = (or_parts (bytes_eq n name) (is_among more name) e).0
among_middle (p ∷ pre) n more name e =
    among_middle pre n more name (or_parts (bytes_eq p name) (is_among (pre ++ n ∷ more) name) e).1

rank_here : (pre : Names) (n : List ℕ) (more : Names) → AreDistinct (pre ++ n ∷ more) → rank_of (pre ++ n ∷ more) n ≡ Some (length pre)
rank_here [] n more distinct = rw (name_eq n n refl) refl
rank_here (p ∷ pre) n more distinct =
    let other = name_ne-sym n p (among_middle pre n more p distinct.0) in
    rw (other, rank_here pre n more distinct.1) refl

-- The order fits the lists.

module _ (names : Names) (distinct : AreDistinct names) where
  -- a name at this place begins ranks that ascend from there
  begins : (pre : Names) (n : List ℕ) (more ms : Names) → names ≡ pre ++ n ∷ more → ascends names (suc (length pre)) ms ≡ true
      → ascends names (length pre) (n ∷ ms) ≡ true
  begins pre n more ms whole e =
      let rank : rank_of names n ≡ Some (length pre) =
      ap (λ (ns : Names). rank_of ns n) whole ∙ rank_here pre n more (subst AreDistinct whole distinct) in
      rw (rank, le-leb (length pre) (length pre) (omega arith)) e

  one_longer : (pre : Names) (n : List ℕ) → length (pre ++ n ∷ []) ≡ suc (length pre)
  one_longer pre n = length-append pre (n ∷ []) ∙ omega arith

  -- names of the order one after another ascend, if what comes after them does
  runs : (xs pre ys tail : Names) → names ≡ pre ++ (xs ++ ys) → ascends names (length (pre ++ xs)) tail ≡ true
      → ascends names (length pre) (xs ++ tail) ≡ true
  runs [] pre ys tail whole e = ap (λ (ns : Names). ascends names (length ns) tail) (sym (append-nil pre)) ∙ e
  runs (x ∷ xs) pre ys tail whole e =
      let next = runs xs (pre ++ x ∷ []) ys tail (whole ∙ sym (append_assoc pre (x ∷ []) (xs ++ ys)))
      (ap (λ (ns : Names). ascends names (length ns) tail) (append_assoc pre (x ∷ []) xs) ∙ e) in
      begins pre x (xs ++ ys) (xs ++ tail) whole (ap (λ k. ascends names k (xs ++ tail)) (sym (one_longer pre x)) ∙ next)

  module _ (second : Names) where
    abbrev Fits : Names → Names → ℕ → Type 0
    Fits pre ms least = ascends names (length pre) ms ≡ true

    fits_both : (first : Names) (next : ℕ) (rest pre : Names) → names ≡ pre ++ rest → common_from second next first ≡ Some rest
        → (ascends names (length pre) first ≡ true) × (ascends names (length pre) (drop next second) ≡ true)
    fits_both [] next rest pre whole e =
        let end = at_end second next rest e in
        let all : names ≡ pre ++ (drop next second ++ []) =
        whole ∙ ap (λ (ns : Names). pre ++ ns) (end ∙ sym (append-nil (drop next second))) in
        (refl, ap (ascends names (length pre)) (sym (append-nil (drop next second))) ∙ runs (drop next second) pre [] [] all refl)
    fits_both (n ∷ ns) next rest pre whole e =
        let step = first_step second next n ns rest e in
        let front = pre ++ step.others in
        let there : names ≡ front ++ n ∷ step.more =
        whole ∙ ap (λ (ns : Names). pre ++ ns) step.whole ∙ sym (append_assoc pre step.others (n ∷ step.more)) in
        let later = fits_both ns step.now step.more (front ++ n ∷ []) (there ∙ sym (append_assoc front (n ∷ []) step.more)) step.goes in
        let tail : ascends names (suc (length front)) ns ≡ true =
        ap (λ k. ascends names k ns) (sym (one_longer front n)) ∙ later.0 in
        let after_it : ascends names (suc (length front)) (drop step.now second) ≡ true =
        ap (λ k. ascends names k (drop step.now second)) (sym (one_longer front n)) ∙ later.1 in
        let short : length pre ≤ length front = omega (arith, length-append pre step.others) in (
          ascends_lower names (n ∷ ns) (length front) (length pre) short (begins front n step.more ns there tail),
          elim step.left [
            | inl alone ↦
                ap (λ k. ascends names (length pre) (drop k second)) (sym alone.1)
                ∙ ascends_lower names (drop step.now second) (suc (length front)) (length pre) (omega arith) after_it
            | inr placed ↦
                let left = left_at second next placed.0 n placed.1 placed.2 in
                let same : drop next second ≡ step.others ++ n ∷ drop step.now second =
                left ∙ ap (λ (ns : Names). ns ++ n ∷ drop (suc placed.0) second) (sym placed.4)
                ∙ ap (λ k. step.others ++ n ∷ drop k second) (sym placed.3) in
                ap (ascends names (length pre)) same
                ∙ runs step.others pre (n ∷ step.more) (n ∷ drop step.now second) (whole ∙ ap (λ (ns : Names). pre ++ ns) step.whole)
                (begins front n step.more (drop step.now second) there after_it)
          ],
        )

-- Each name comes once.

distinct_drop : (k : ℕ) (ns : Names) → AreDistinct ns → AreDistinct (drop k ns)
distinct_drop zero ns d = d
distinct_drop (suc k) [] d = d
distinct_drop (suc k) (n ∷ ns) d = distinct_drop k ns d.1

among_drop : (k : ℕ) (ns : Names) (name : List ℕ) → is_among ns name ≡ false → is_among (drop k ns) name ≡ false
among_drop zero ns name e = e
among_drop (suc k) [] name e = refl
among_drop (suc k) (n ∷ ns) name e = among_drop k ns name (or_parts (bytes_eq n name) (is_among ns name) e).1

among_take : (k : ℕ) (ns : Names) (name : List ℕ) → is_among ns name ≡ false → is_among (take k ns) name ≡ false
among_take zero ns name e = refl
among_take (suc k) [] name e = refl
among_take (suc k) (n ∷ ns) name e =
    let parts = or_parts (bytes_eq n name) (is_among ns name) e in
    or_from (bytes_eq n name) (is_among (take k ns) name) parts.0 (among_take k ns name parts.1)

distinct_take : (k : ℕ) (ns : Names) → AreDistinct ns → AreDistinct (take k ns)
distinct_take zero ns d = tt
distinct_take (suc k) [] d = tt
distinct_take (suc k) (n ∷ ns) d = (among_take k ns n d.0, distinct_take k ns d.1)

distinct_both : (xs ys : Names) → AreDistinct xs → AreDistinct ys → ((m : List ℕ) → is_among xs m ≡ true → is_among ys m ≡ false)
    → AreDistinct (xs ++ ys)
distinct_both [] ys one two apart = two
distinct_both (x ∷ xs) ys one two apart = (
  among_append xs ys x ∙ or_from (is_among xs x) (is_among ys x) one.0 (apart x (or_left (bytes_eq x x) (is_among xs x) (name_eq x x refl))),
  distinct_both xs ys one.1 two (λ m e. apart m (or_right (bytes_eq x m) (is_among xs m) e)),
)

-- where a name is
taken_by : (b : Bool) (k : ℕ) (n : List ℕ) (ns : Names) (m : List ℕ) → bytes_eq n m ≡ b → (b || is_among (take k ns) m) ≡ true
    → (is_among (take k ns) m ≡ true → (i : ℕ) × (i < k) × (slice_get ns i ≡ Some m))
    → (i : ℕ) × (i < suc k) × (slice_get (n ∷ ns) i ≡ Some m)
taken_by true k n ns m e among more = (0, omega arith, ap (λ x. Some x) (same_name n m e))
taken_by false k n ns m e among more = let there = more among in (suc there.0, omega (arith, there.1), there.2)

taken_there : (k : ℕ) (ns : Names) (m : List ℕ) → is_among (take k ns) m ≡ true → (i : ℕ) × (i < k) × (slice_get ns i ≡ Some m)
taken_there zero ns m e = absurd (false≢true e)
taken_there (suc k) [] m e = absurd (false≢true e)
taken_there (suc k) (n ∷ ns) m e = taken_by (bytes_eq n m) k n ns m refl e (taken_there k ns m)

dropped_there : (next : ℕ) (ns : Names) (i : ℕ) (m : List ℕ) → slice_get (drop next ns) i ≡ Some m
    → (j : ℕ) × (j ≡ next + i) × (slice_get ns j ≡ Some m)
dropped_there zero ns i m e = (i, omega arith, e)
dropped_there (suc next) [] i m e = absurd (cc)
dropped_there (suc next) (n ∷ ns) i m e = let there = dropped_there next ns i m e in (suc there.0, omega (arith, there.1), there.2)

-- a name at a place has a rank up to it
ranked_by : (b : Bool) (o : Option ℕ) (k : ℕ) → (b ≡ false → (p : ℕ) × (o ≡ Some p) × (p ≤ k))
    → (p : ℕ) × (cond b (Some 0) (option_map (λ r. suc r) o) ≡ Some p) × (p ≤ suc k)
ranked_by true o k more = (0, refl, omega arith)
ranked_by false o k more = let there = more refl in (suc there.0, rw there.1 refl, omega (arith, there.2))

rank_first : (ns : Names) (k : ℕ) (m : List ℕ) → slice_get ns k ≡ Some m → (p : ℕ) × (rank_of ns m ≡ Some p) × (p ≤ k)
rank_first [] k m e = absurd (cc)
rank_first (n ∷ ns) zero m e = let same : n ≡ m = cc in (0, rw (name_eq n m same) refl, omega arith)
rank_first (n ∷ ns) (suc k) m e = ranked_by (bytes_eq n m) (rank_of ns m) k (λ other. rank_first ns k m e)

-- a name at a place doesn't come after it
gone_after : (ns : Names) (k j : ℕ) (m : List ℕ) → AreDistinct ns → slice_get ns k ≡ Some m → k < j → is_among (drop j ns) m ≡ false
gone_after [] k j m d e less = absurd (cc)
gone_after (n ∷ ns) k zero m d e less = absurd (omega arith)
gone_after (n ∷ ns) zero (suc j) m d e less =
    let same : n ≡ m = cc in among_drop j ns m (subst (λ (x : List ℕ). is_among ns x ≡ false) same d.0)
gone_after (n ∷ ns) (suc k) (suc j) m d e less = gone_after ns k j m d.1 e (omega arith)

module _ (second : Names) where
  between_there : (next place : ℕ) (m : List ℕ) → is_among (names_between second next place) m ≡ true
      → (k : ℕ) × (k < place) × (slice_get second k ≡ Some m)
  between_there next place m e =
      let taken = taken_there (place - next) (drop next second) m e in
      let there = dropped_there next second taken.0 m taken.2 in
      (there.0, omega (arith, taken.1, there.1), there.2)

  -- a name of what is left of the first list doesn't come before the next place of the second
  later_by : (b : Bool) (n : List ℕ) (ns : Names) (next : ℕ) (rest : Names) (m : List ℕ) (k : ℕ) → bytes_eq n m ≡ b
      → (b || is_among ns m) ≡ true → slice_get second k ≡ Some m → (step : Step second next n ns rest)
      → (is_among ns m ≡ true → step.now ≤ k) → next ≤ k
  later_by true n ns next rest m k e among there step more =
      let same = same_name n m e in
      let rank = rank_first second k m there in
      let found : rank_of second n ≡ Some rank.0 = ap (rank_of second) same ∙ rank.1 in
      elim step.left [
        | inl alone ↦ absurd (no_rank (sym alone.2 ∙ found))
        | inr placed ↦ let equal : placed.0 ≡ rank.0 = equal_ranks (sym placed.1 ∙ found) in omega (arith, placed.2, rank.2)
      ]
    where
      no_rank : {p : ℕ} → None ≡ Some p → ⊥
      no_rank e = absurd (cc)

      equal_ranks : {p q : ℕ} → Some p ≡ Some q → p ≡ q
      equal_ranks e = cc
  later_by false n ns next rest m k e among there step more =
      let h = more among in
      elim step.left [
        | inl alone ↦ omega (arith, alone.1)
        | inr placed ↦ omega (arith, placed.2, placed.3)
      ]

  later : (ns : Names) (next : ℕ) (rest : Names) → common_from second next ns ≡ Some rest → (m : List ℕ) → is_among ns m ≡ true
      → (k : ℕ) → slice_get second k ≡ Some m → next ≤ k
  later [] next rest e m among k there = absurd (false≢true among)
  later (n ∷ ns) next rest e m among k there =
      let step = first_step second next n ns rest e in
      later_by (bytes_eq n m) n ns next rest m k refl among there step (λ more. later ns step.now step.more step.goes m more k there)

  joined : (a b c d : Bool) → (a || (b || (c || d))) ≡ ((b || c) || (a || (b || d)))
  joined true true c d = refl
  joined true false true d = refl
  joined true false false d = refl
  joined false true c d = refl
  joined false false true d = refl
  joined false false false d = refl

  or_last : (b c d : Bool) → (b || (c || d)) ≡ ((b || c) || d)
  or_last true c d = refl
  or_last false c d = refl

  -- the names that are found are those of both lists
  both_names : (first : Names) (next : ℕ) (rest : Names) → common_from second next first ≡ Some rest → (name : List ℕ)
      → is_among rest name ≡ (is_among first name || is_among (drop next second) name)
  both_names [] next rest e name = ap (λ (ns : Names). is_among ns name) (at_end second next rest e)
  both_names (n ∷ ns) next rest e name =
      let step = first_step second next n ns rest e in
      let more = both_names ns step.now step.more step.goes name in
      let split : is_among rest name ≡ (is_among step.others name || (bytes_eq n name || (is_among ns name || is_among (drop step.now second) name))) =
      ap (λ (ms : Names). is_among ms name) step.whole ∙ among_append step.others (n ∷ step.more) name
      ∙ ap (λ b. is_among step.others name || (bytes_eq n name || b)) more in
      split ∙ elim step.left [
        | inl alone ↦
            ap (λ (ms : Names). is_among ms name || (bytes_eq n name || (is_among ns name || is_among (drop step.now second) name))) alone.0
            ∙ or_last (bytes_eq n name) (is_among ns name) (is_among (drop step.now second) name)
            ∙ ap (λ k. (bytes_eq n name || is_among ns name) || is_among (drop k second) name) alone.1
        | inr placed ↦
            let left = left_at second next placed.0 n placed.1 placed.2 in
            let same : drop next second ≡ step.others ++ n ∷ drop step.now second =
            left ∙ ap (λ (ms : Names). ms ++ n ∷ drop (suc placed.0) second) (sym placed.4)
            ∙ ap (λ k. step.others ++ n ∷ drop k second) (sym placed.3) in
            joined (is_among step.others name) (bytes_eq n name) (is_among ns name) (is_among (drop step.now second) name)
            ∙ ap (λ b. (bytes_eq n name || is_among ns name) || b)
            (sym (among_append step.others (n ∷ drop step.now second) name) ∙ ap (λ (ms : Names). is_among ms name) (sym same))
      ]

  unranked : (n : List ℕ) → rank_of second n ≡ None → is_among second n ≡ false
  unranked n none = sym (among_ranked second n) ∙ ap is_some none

  each_once : (first : Names) (next : ℕ) (rest : Names) → AreDistinct first → AreDistinct second → common_from second next first ≡ Some rest
      → AreDistinct rest
  each_once [] next rest one two e = subst AreDistinct (sym (at_end second next rest e)) (distinct_drop next second two)
  each_once (n ∷ ns) next rest one two e =
      let step = first_step second next n ns rest e in
      let more = each_once ns step.now step.more one.1 two step.goes in
      let names = both_names ns step.now step.more step.goes in
      subst AreDistinct (sym step.whole) (elim step.left [
        | inl alone ↦
            let new : is_among step.more n ≡ false =
            names n ∙ or_from (is_among ns n) (is_among (drop step.now second) n) one.0 (among_drop step.now second n (unranked n alone.2)) in
            subst (λ (ms : Names). AreDistinct (ms ++ n ∷ step.more)) (sym alone.0) (new, more)
        | inr placed ↦
            let here = named second n placed.0 placed.1 in
            let new : is_among step.more n ≡ false =
            names n ∙ or_from (is_among ns n) (is_among (drop step.now second) n) one.0
            (gone_after second placed.0 step.now n two here (omega (arith, placed.3))) in
            let apart : (m : List ℕ) → is_among step.others m ≡ true → is_among (n ∷ step.more) m ≡ false =
            λ m among. let at = between_there next placed.0 m (ap (λ (ms : Names). is_among ms m) (sym placed.4) ∙ among) in
            let gone : is_among (n ∷ drop (placed.0 + 1) second) m ≡ false =
            ap (λ (ms : Names). is_among ms m) (sym (at_drop second placed.0 n here)) ∙ gone_after second at.0 placed.0 m two at.2 at.1 in
            let parts = or_parts (bytes_eq n m) (is_among (drop (placed.0 + 1) second) m) gone in
            let past : is_among (drop step.now second) m ≡ false =
            ap (λ k. is_among (drop k second) m) (placed.3 ∙ sym (add-one placed.0)) ∙ parts.1 in
            let none : is_among ns m ≡ false =
            false_from_ne_true (is_among ns m) (λ t. let h = later ns step.now step.more step.goes m t at.0 at.2 in
            absurd (omega (arith, at.1, placed.3))) in
            or_from (bytes_eq n m) (is_among step.more m) parts.0
            (names m ∙ or_from (is_among ns m) (is_among (drop step.now second) m) none past) in
            let others = subst AreDistinct (sym placed.4) (distinct_take (placed.0 - next) (drop next second) (distinct_drop next second two)) in
            distinct_both step.others (n ∷ step.more) others (new, more) apart
      ])

pub found_fits : found_order_fits
found_fits first second names one two e =
    let distinct = each_once second first 0 names one two e in
    let fits = fits_both names distinct second first 0 names [] refl e in
    record {
      distinct = distinct;
      fits_first = sym (ascends_zero names first) ∙ fits.0;
      fits_second = sym (ascends_zero names second) ∙ fits.1;
      no_others = both_names second first 0 names e;
    }
