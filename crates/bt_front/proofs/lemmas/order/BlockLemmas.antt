-- Records of which no chromosome comes back are in an order of the chromosomes, if these are.
use Rattle.bt_lines.proofs.Std.{arith, ◌≡◌, ℕ, Bool, true, false, ◌&&◌, ◌||◌, not, List, [], ◌∷◌, Option, Some, None, Result, Ok, Err, and_parts, bytes_eq, cond, inl, inr, ◌⊎◌, map, nat_lt, or_from, or_parts, refl, sym, ap, ◌∙◌, subst, cases_Bool, false≢true}
use Rattle.std.specs.Ordering.{is_lt, ordering_reverse}
use Rattle.std.specs.declared.cmp.Ordering.{Ordering}
use Rattle.std.specs.declared.cmp.Ordering.TheVariants.{Less, Equal, Greater}
use Rattle.bt_lines.specs.model.Lines.{TextLine}
use Rattle.bt_lines.specs.declared.fault.Input.{Input}
use Rattle.bt_lines.specs.declared.fault.Kind.{Kind}
use Rattle.bt_bed.specs.model.BedLine.{record_of}
use Rattle.bt_bed.specs.model.Feature.{Feature, Interval, interval_of, intervals_of}
use Rattle.bt_bed.specs.model.Good.{Good, Member, bed_format, block_format, good_after, good_with, in_order, items_in, line_says, locus_at, said_after, with_member}
use Rattle.bt_bed.specs.model.Order.{Order, is_among}
use Rattle.bt_bed.specs.model.Sorted.{Locus, Sorting, block_sorting, falls_in, sorting_of}
use Rattle.bt_bed.specs.calls.Orders.{IsTotal}
use Rattle.bt_bed.proofs.lemmas.parse.NameLemmas.{cases_name, name_eq, name_ne-sym, other_name, same_name}
use Rattle.bt_front.specs.model.Fitting.{are_in_order}
use Rattle.bt_front.specs.model.Survey.{are_together, chroms_of, distinct, is_first_name, without}

-- Names, each once.

absent_by : (b : Bool) (c n : List ℕ) (ns : List (List ℕ)) → bytes_eq n c ≡ b → (b || is_among ns c) ≡ false → without c ns ≡ ns
    → without c (n ∷ ns) ≡ n ∷ ns
absent_by true c n ns e none h = absurd (false≢true (sym none))
absent_by false c n ns e none h = rw (e, h) refl

without_absent : (c : List ℕ) (ns : List (List ℕ)) → is_among ns c ≡ false → without c ns ≡ ns
without_absent c [] none = refl
without_absent c (n ∷ ns) none =
    let parts = or_parts (bytes_eq n c) (is_among ns c) none in
    rw (parts.0, without_absent c ns parts.1) refl

among_by : (b : Bool) (c d n : List ℕ) (ns : List (List ℕ)) → bytes_eq n d ≡ b → bytes_eq n c ≡ false → is_among (without d ns) c ≡ false
    → is_among (without d (n ∷ ns)) c ≡ false
among_by true c d n ns e other h = rw e h
among_by false c d n ns e other h = rw (e, other) h

among_without : (c d : List ℕ) (ns : List (List ℕ)) → is_among ns c ≡ false → is_among (without d ns) c ≡ false
among_without c d [] none = refl
among_without c d (n ∷ ns) none =
    let parts = or_parts (bytes_eq n c) (is_among ns c) none in
    among_by (bytes_eq n d) c d n ns refl parts.0 (among_without c d ns parts.1)

among_distinct : (c : List ℕ) (cs : List (List ℕ)) → is_among cs c ≡ false → is_among (distinct cs) c ≡ false
among_distinct c [] none = refl
among_distinct c (n ∷ ns) none =
    let parts = or_parts (bytes_eq n c) (is_among ns c) none in
    or_from (bytes_eq n c) (is_among (without n (distinct ns)) c) parts.0 (among_without c n (distinct ns) (among_distinct c ns parts.1))

twice_by : (b : Bool) (c n : List ℕ) (ns : List (List ℕ)) → bytes_eq n c ≡ b → without c (without c ns) ≡ without c ns
    → without c (without c (n ∷ ns)) ≡ without c (n ∷ ns)
twice_by true c n ns e h = rw e h
twice_by false c n ns e h = rw (e, e, h) refl

without_twice : (c : List ℕ) (ns : List (List ℕ)) → without c (without c ns) ≡ without c ns
without_twice c [] = refl
without_twice c (n ∷ ns) = twice_by (bytes_eq n c) c n ns refl (without_twice c ns)

distinct_same : (c : List ℕ) (cs : List (List ℕ)) → distinct (c ∷ c ∷ cs) ≡ distinct (c ∷ cs)
distinct_same c cs = rw (name_eq c c refl, without_twice c (distinct cs)) refl

-- Chromosomes one after another.

-- each next one is known, and is the one before or comes after it
abbrev Steps : Order → List ℕ → List (List ℕ) → Type 0
Steps order c [] = Unit {0}
Steps order c (d ∷ ds) = (order.knows d ≡ true) × ((c ≡ d) ⊎ (order.compare c d ≡ Less)) × Steps order d ds

is_less : (o : Ordering) → is_lt o ≡ true → o ≡ Less
is_less Less e = refl
is_less Equal e = absurd (false≢true e)
is_less Greater e = absurd (false≢true e)

module _ (order : Order) where
  known_first : (c : List ℕ) (cs : List (List ℕ)) → are_in_order order (c ∷ cs) ≡ true → order.knows c ≡ true
  known_first c [] e = e
  known_first c (d ∷ ds) e = (and_parts (order.knows c) (is_lt (order.compare c d) && are_in_order order (d ∷ ds)) e).0

  next_less : (c d : List ℕ) (ds : List (List ℕ)) → are_in_order order (c ∷ d ∷ ds) ≡ true
      → (order.compare c d ≡ Less) × (are_in_order order (d ∷ ds) ≡ true)
  next_less c d ds e =
      let rest = (and_parts (order.knows c) (is_lt (order.compare c d) && are_in_order order (d ∷ ds)) e).1 in
      let parts = and_parts (is_lt (order.compare c d)) (are_in_order order (d ∷ ds)) rest in
      (is_less (order.compare c d) parts.0, parts.1)

  first_or_gone : (c : List ℕ) (ds : List (List ℕ)) → (is_first_name c ds || not (is_among ds c)) ≡ true → is_first_name c ds ≡ false
      → is_among ds c ≡ false
  first_or_gone c ds e other = gone (is_first_name c ds) (is_among ds c) e other
    where
      gone : (first among : Bool) → (first || not among) ≡ true → first ≡ false → among ≡ false
      gone true among e other = absurd (false≢true (sym other))
      gone false true e other = absurd (false≢true e)
      gone false false e other = refl

  -- the chromosomes of records follow one another, if those that differ are in order
  pub steps_on : (c : List ℕ) (cs : List (List ℕ)) → are_together (c ∷ cs) ≡ true → are_in_order order (distinct (c ∷ cs)) ≡ true
      → (order.knows c ≡ true) × Steps order c cs
  steps_on c [] together e = (e, tt)
  steps_on c (d ∷ ds) together e =
      let parts = and_parts (is_first_name c (d ∷ ds) || not (is_among (d ∷ ds) c)) (are_together (d ∷ ds)) together in
      elim (cases_name c d) [
        | inl same ↦
            let whole : distinct (c ∷ d ∷ ds) ≡ distinct (d ∷ ds) =
            subst (λ (n : List ℕ). distinct (n ∷ d ∷ ds) ≡ distinct (d ∷ ds)) (sym same) (distinct_same d ds) in
            let more = steps_on d ds parts.1 (ap (are_in_order order) (sym whole) ∙ e) in
            (ap order.knows same ∙ more.0, (more.0, inl same, more.1))
        | inr other ↦
            let gone = first_or_gone c (d ∷ ds) parts.0 (name_ne-sym c d other) in
            let whole : distinct (c ∷ d ∷ ds) ≡ c ∷ distinct (d ∷ ds) =
            ap (λ (ns : List (List ℕ)). c ∷ ns) (without_absent c (distinct (d ∷ ds)) (among_distinct c (d ∷ ds) gone)) in
            let sorted : are_in_order order (c ∷ distinct (d ∷ ds)) ≡ true = ap (are_in_order order) (sym whole) ∙ e in
            let less = next_less c d (without d (distinct ds)) sorted in
            let more = steps_on d ds parts.1 less.1 in
            (known_first c (distinct (d ∷ ds)) sorted, (more.0, inr less.0, more.1))
      ]

  -- those after a last place, if there is one
  abbrev pub FollowOn : Option Locus → List (List ℕ) → Type 0
  FollowOn None [] = Unit {0}
  FollowOn None (c ∷ cs) = (order.knows c ≡ true) × Steps order c cs
  FollowOn (Some last) cs = (order.knows last.chrom ≡ true) × Steps order last.chrom cs

  module _ (total : IsTotal order) where
    not_before : (o : Ordering) → o ≡ Less → is_lt (ordering_reverse o) ≡ false
    not_before Less e = refl
    not_before Equal e = absurd (cc)
    not_before Greater e = absurd (cc)

    stays_by : (b : Bool) (last place : Locus) → bytes_eq last.chrom place.chrom ≡ b → order.knows last.chrom ≡ true → order.knows place.chrom ≡ true
        → (last.chrom ≡ place.chrom) ⊎ (order.compare last.chrom place.chrom ≡ Less) → falls_in block_sorting (Some last) place ≡ false
        → falls_in (sorting_of order) (Some last) place ≡ false
    stays_by true last place e known also next stays = rw e (rw e at stays)
    stays_by false last place e known also (inl same) stays = absurd (other_name last.chrom place.chrom e same)
    stays_by false last place e known also (inr less) stays =
        rw (e, total.swapped last.chrom place.chrom known also) (not_before (order.compare last.chrom place.chrom) less)

    -- a place that doesn't fall in its block doesn't fall in the order
    stays_in : (last : Option Locus) (r : Feature) (cs : List (List ℕ)) → FollowOn last (r.chrom ∷ cs)
        → falls_in block_sorting last (locus_at r) ≡ false → falls_in (sorting_of order) last (locus_at r) ≡ false
    stays_in None r cs follows stays = refl
    stays_in (Some last) r cs follows stays =
        stays_by (bytes_eq last.chrom r.chrom) last (locus_at r) refl follows.0 follows.1.0 follows.1.1 stays

    known_in : (last : Option Locus) (r : Feature) (cs : List (List ℕ)) → FollowOn last (r.chrom ∷ cs) → order.knows r.chrom ≡ true
    known_in None r cs follows = follows.0
    known_in (Some last) r cs follows = follows.1.0

    later : (last : Option Locus) (r : Feature) (cs : List (List ℕ)) → FollowOn last (r.chrom ∷ cs) → FollowOn (Some (locus_at r)) cs
    later None r cs follows = (follows.0, follows.1)
    later (Some last) r cs follows = (follows.1.0, follows.1.2)

    -- the chromosome of each good record
    abbrev pub chroms_in : Good Feature → List (List ℕ)
    chroms_in good = chroms_of (intervals_of (items_in good))

    abbrev Same : Good Feature → Good Feature → Option Locus → Type 0
    Same ordered blocks last = blocks.fault ≡ None → FollowOn last (chroms_in blocks) → ordered ≡ blocks

    module _ (input other : Input) (number : ℕ) (ordered blocks : Option Locus → Good Feature)
        (alike : (now : Option Locus) → Same (ordered now) (blocks now) now) (last : Option Locus) where
      with_record : (r : Feature) (falls : Bool) → falls_in block_sorting last (locus_at r) ≡ falls
          → Same (good_with (bed_format (sorting_of order)) other number last (in_order (sorting_of order) last r) ordered)
          (good_with block_format input number last (in_order block_sorting last r) blocks) last
      with_record r true e quiet follows = absurd (none_some (rw e at quiet))
        where
          none_some : {A : Type 0} {x : A} → Some x ≡ None → ⊥
          none_some same = absurd (cc)
      with_record r false e quiet follows =
          let goes = rw e at follows in
          rw (known_in last r _ goes, stays_in last r _ goes e, e) (ap (λ good. with_member (record { line = number; item = r }) good)
          (alike (Some (locus_at r)) (rw e at quiet) (later last r _ goes)))

      with_said : (said : Result (Option Feature) Kind)
          → Same (good_with (bed_format (sorting_of order)) other number last (said_after (sorting_of order) last said) ordered)
          (good_with block_format input number last (said_after block_sorting last said) blocks) last
      with_said (Err kind) quiet follows = absurd (cc)
      with_said (Ok None) quiet follows = alike last quiet follows
      with_said (Ok (Some r)) quiet follows = with_record r (falls_in block_sorting last (locus_at r)) refl quiet follows

    -- records that are good in blocks are good in an order that their chromosomes follow
    pub good_alike : (input other : Input) (lines : List TextLine) (last : Option Locus)
        → Same (good_after (bed_format (sorting_of order)) other last lines) (good_after block_format input last lines) last
    unfolding good_after line_says
    good_alike input other [] last quiet follows = refl
    good_alike input other (line ∷ lines) last quiet follows =
        with_said input other line.number (λ now. good_after (bed_format (sorting_of order)) other now lines)
        (λ now. good_after block_format input now lines) (λ now. good_alike input other lines now) last (record_of line.text) quiet follows
