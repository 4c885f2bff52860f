-- An engine that goes through the chromosomes of a genome file. One more record moves what is settled and what is reached as its walk's step says. At the end what its walk leaves is left. Complement and coverage are such engines; `GapRuleLemmas` and `DepthSteps` have what each owes of one chromosome.
use Rattle.bt_lines.proofs.Std.{common_steps, ◌≡◌, ℕ, ◌+◌, ◌≤◌, inl, inr, List, [], ◌∷◌, ◌++◌, refl, sym, ap, ap₂, ◌∙◌, subst, arith, append-nil, append_assoc, flat_map, length, length-append, slice_range, true, false, Option, Some, None, not, Decides, ◌<◌, max, min, cond, nat_lt, Decides-not, ⊤, drop_at, take_at}
use Rattle.bt_bed.specs.model.Feature.{Feature, interval_of, intervals_of, Interval, Span}
use Rattle.bt_bed.specs.model.Positions.{IsCovered, AreApartFrom, AreStretchesOf}
use Rattle.bt_bed.specs.model.Genome.{Entry, genome_names}
use Rattle.bt_bed.specs.model.Order.{rank_of}
use Rattle.bt_bed.specs.calls.Orders.{AreDistinct}
use Rattle.bt_bed.proofs.lemmas.parse.NameLemmas.{name_eq}
use Rattle.bt_runs.specs.model.Gaps.{gaps_of}
use Rattle.bt_runs.specs.calls.Complementing.{AreInGenomeOrder, IsBare}
use Rattle.bt_runs.specs.calls.Engine.{SettlesMore}
use Rattle.bt_runs.specs.inside.Walk.{AreReached, Place, Walk, entry_at, going, going_at, is_reached, left_before, step_from, taking, walk_step}
use Rattle.bt_runs.proofs.lemmas.order.ByChromosome.{Begun, Form, InOrder, Moves, Owes, Standing, Written, begun, full_last, goes_first, goes_next, goes_on, goes_to, order_front, settling, whole_left, entry_there, name_at}
use Rattle.bt_runs.proofs.lemmas.definitions.Standing.{GoesTo, begins_at, last_rank}
use Rattle.bt_runs.specs.model.Merged.{is_covered, end_of}
use Rattle.bt_bed.proofs.lemmas.StretchScans.{stretches_are_same, scan_finds}
use Rattle.bt_runs.proofs.lemmas.merge.Bridging.{is_covered-Decides, covered_left, covered_parts, covered_right}

-- what such an engine says of its items: how it walks, and what else its `Form` has
pub record Walked (T S : Type 0) : Type 0 where
  pub walk : Walk T S
  pub part : Entry → List Feature → List T
  pub pick : Interval → List T → List T
  pub whole : List Feature → List T
  pub settled : List Feature → List T

abbrev pub form_of : {T S : Type 0} → Walked T S → Form Entry T S
form_of e = record {
  name = name_at;
  part = e.part;
  pick = e.pick;
  whole = e.whole;
  settled = e.settled;
  bare = e.walk.bare;
  fresh = e.walk.fresh;
  left = e.walk.left;
  step = e.walk.step;
  after = e.walk.after;
}

-- the records that it may take
pub in_order : (entries : List Entry) (past : List Feature) → AreInGenomeOrder entries past → InOrder (genome_names entries) past
in_order entries past t = record { placed = t.placed; full = t.full }

pub taken_front : (entries : List Entry) (past more : List Feature) → AreInGenomeOrder entries (past ++ more) → AreInGenomeOrder entries past
taken_front entries past more t = grind (arith, (order_front (genome_names entries) past more (in_order entries (past ++ more) t)))

-- the chromosome of a rank among the others
pub rank_entry : (entries before : List Entry) (key : Entry) (after : List Entry) (rank : ℕ) → entries ≡ before ++ key ∷ after → rank ≡ length before → entry_at entries rank ≡ key
rank_entry entries before key after rank split at = rw split (entry_there before key after rank (sym at))

-- the chromosomes after one, up to another or to the last
slice_behind : (entries before : List Entry) (key : Entry) (middle rest : List Entry) (rank stop : ℕ) → entries ≡ before ++ key ∷ (middle ++ rest) → rank ≡ length before → stop ≡ length (before ++ key ∷ middle) → slice_range entries (rank + 1) stop ≡ middle
slice_behind entries before key middle rest rank stop split at end =
    let one_more = length-append before (key ∷ []) in
    let long = length-append before (key ∷ middle) in
    ap (λ l. slice_range l (rank + 1) stop) (split ∙ sym (append_assoc before (key ∷ []) (middle ++ rest))) ∙ (grind (arith, drop_at, take_at))

module _ {T S : Type 0} (walk : Walk T S) (entries : List Entry) where
  -- the chromosome of a name is the one that was reached, or another
  pub going_on : (current : Option (Place S)) (name : List ℕ) → is_reached entries current name ≡ true → going walk entries current name ≡ (current, [])
  going_on current name e = rw e refl

  pub going_to : (current : Option (Place S)) (name : List ℕ) (rank : Option ℕ) → is_reached entries current name ≡ false → rank ≡ rank_of (genome_names entries) name → going walk entries current name ≡ going_at walk entries current rank
  going_to current name rank e is = rw (e, is) refl

  -- what is settled on the way comes first, and then what the record settles where it lies
  starts_from : (current : Option (Place S)) (r : Feature) (p : Option (Place S) × List T) → (rest : List T) × ((step_from walk entries current r p).1 ≡ p.1 ++ rest)
  starts_from current r (None, items) = ([], sym (append-nil items))
  starts_from current r (Some place, items) = ((taking walk entries place r).1, refl)

  pub step_starts : (current : Option (Place S)) (r : Feature) → (rest : List T) × ((walk_step walk entries current r).1 ≡ (going walk entries current r.chrom).1 ++ rest)
  step_starts current r = starts_from current r (going walk entries current r.chrom)

  pub step_goes : (current : Option (Place S)) (r : Feature) (place : Place S) (items : List T) → going walk entries current r.chrom ≡ (Some place, items)
      → walk_step walk entries current r ≡ (Some (taking walk entries place r).0, items ++ (taking walk entries place r).1)
  step_goes current r place items is = rw is refl

  -- once another chromosome is reached, a record on it settles what is left
  pub entered_steps : (current : Option (Place S)) (r : Feature) (place : Place S) (items : List T) → going walk entries current r.chrom ≡ (Some place, items) → is_reached entries (Some place) r.chrom ≡ true
      → ((walk_step walk entries current r).0 ≡ (walk_step walk entries (Some place) r).0) × ((walk_step walk entries current r).1 ≡ items ++ (walk_step walk entries (Some place) r).1)
  entered_steps current r place items goes on = rw (step_goes current r place items goes, step_goes (Some place) r place [] (going_on (Some place) r.chrom on)) (refl, refl)

module _ {T S : Type 0} (e : Walked T S) (Own : Entry → List Feature → ℕ → List T → S → Type 0) (entries : List Entry) where
  -- what was reached after the records: their last chromosome, if there is a record
  abbrev pub Held : List Feature → Option (Place S) → Type 0
  Held past None = past ≡ []
  Held past (Some place) = (before : List Entry) × (key : Entry) × (after : List Entry) × Standing (form_of e) Own entries past before key after place.known × (place.rank ≡ length before)

  -- the step moves what is settled and what is reached
  pub record Steps (past : List Feature) (r : Feature) (current : Option (Place S)) : Type 0 where
    pub settles : e.settled (past ++ r ∷ []) ≡ e.settled past ++ (walk_step e.walk entries current r).1
    pub held : Held (past ++ r ∷ []) (walk_step e.walk entries current r).0

  -- some are reached
  held_begun : (past : List Feature) → Begun (form_of e) Own entries past → (current : Option (Place S)) × Held past current
  held_begun [] b = (None, refl)
  held_begun (q ∷ qs) b = (Some (record { rank = length b.before; known = b.state }), (b.before, b.key, b.after, b.here, refl))

  module _ (owes : Owes (form_of e) Own (genome_names entries)) (written : (past : List Feature) → Written (form_of e) Own entries past) where
    -- once the record's chromosome is reached, the step takes the record as its chromosome does
    arrive : (past : List Feature) (r : Feature) (current : Option (Place S)) (place : Place S) (before : List Entry) (key : Entry) (after : List Entry) (first : List T) → place.rank ≡ length before
        → going e.walk entries current r.chrom ≡ (Some place, first)
        → Moves (form_of e) Own entries past r (first ++ e.walk.step key place.known r) before key after (e.walk.after key place.known r) → Steps past r current
    arrive past r current place before key after first rank goes m = grind (arith, rank_entry)

    -- the first record
    step_first : (r : Feature) → AreInGenomeOrder entries (r ∷ []) → Steps [] r None
    step_first r t =
        let first = begins_at name_at entries t.distinct (interval_of r) t.placed in
        let k = first.0 in
        let f = first.1 in
        let slice : slice_range entries 0 k ≡ f.before = ap (λ l. slice_range l 0 k) f.split ∙ (grind (arith, drop_at, take_at)) in
        let place : Place S = record { rank = k; known = e.walk.fresh } in
        let none : Option (Place S) = None in
        let goes : going e.walk entries none r.chrom ≡ (Some place, flat_map e.walk.bare f.before) = going_to e.walk entries none r.chrom (Some k) refl (sym first.2) ∙ ap (λ l. (Some place, flat_map e.walk.bare l)) slice in
        arrive [] r None place f.before f.key f.after (flat_map e.walk.bare f.before) (sym f.at) goes
        (goes_first (form_of e) Own entries owes t.distinct r f.before f.key f.after first.3 (full_last [] r t.full))

    module _ (past : List Feature) (r : Feature) (t : AreInGenomeOrder entries (past ++ r ∷ [])) (place : Place S) (before : List Entry) (key : Entry) (after : List Entry) (s : Standing (form_of e) Own entries past before key after place.known) (rank : place.rank ≡ length before) where
      abbrev is : entry_at entries place.rank ≡ key
      is = rank_entry entries before key after place.rank s.stand.split rank

      -- on the chromosome of the last record
      step_on : r.chrom ≡ s.last.chrom → s.last.start ≤ r.start → Steps past r (Some place)
      step_on same up =
          let on : is_reached entries (Some place) r.chrom ≡ true = name_eq _ r.chrom (ap (λ (e : Entry). e.name) is ∙ s.stand.is ∙ sym same) in
          arrive past r (Some place) place before key after [] rank (going_on e.walk entries (Some place) r.chrom on)
          (goes_on (form_of e) Own entries owes t.distinct r s same up (full_last past r t.full))

      -- on a later one
      step_to : GoesTo name_at entries (intervals_of past) (interval_of r) before key after → Steps past r (Some place)
      step_to g =
          let k = length (before ++ key ∷ g.middle) in
          let off : is_reached entries (Some place) r.chrom ≡ false = rw is g.other in
          let slice : slice_range entries (place.rank + 1) k ≡ g.middle = slice_behind entries before key g.middle (g.next ∷ g.behind) place.rank k (s.stand.split ∙ ap (λ l. before ++ key ∷ l) g.rest) rank refl in
          let next : Place S = record { rank = k; known = e.walk.fresh } in
          let first = e.walk.left key place.known ++ flat_map e.walk.bare g.middle in
          let goes : going e.walk entries (Some place) r.chrom ≡ (Some next, first) = going_to e.walk entries (Some place) r.chrom (Some k) off (sym g.rank) ∙ ap₂ (λ (key : Entry) (es : List Entry). (Some next, e.walk.left key place.known ++ flat_map e.walk.bare es)) is slice in
          arrive past r (Some place) next (before ++ key ∷ g.middle) g.next g.behind first refl goes (goes_to (form_of e) Own entries owes t.distinct r s g (full_last past r t.full))

    pub steps : (past : List Feature) (r : Feature) (current : Option (Place S)) → AreInGenomeOrder entries (past ++ r ∷ []) → Held past current → Steps past r current
    steps past r None t none = subst (λ (l : List Feature). Steps l r None) (sym none) (step_first r (subst (λ (l : List Feature). AreInGenomeOrder entries (l ++ r ∷ [])) none t))
    steps past r (Some place) t (before, key, after, s, rank) =
        elim (goes_next (form_of e) Own entries owes t.distinct r s (in_order entries (past ++ r ∷ []) t)) [
          | inl same ↦ step_on past r t place before key after s rank same.0 same.1
          | inr g ↦ step_to past r t place before key after s rank g
        ]

    -- at the end the rest of the chromosome is left, and those after it
    pub ends : (past : List Feature) (current : Option (Place S)) → AreDistinct (genome_names entries) → Held past current → e.whole past ≡ e.settled past ++ left_before e.walk.left e.walk.bare entries current (length entries)
    ends past None distinct none = grind (arith, common_steps)
    ends past (Some place) distinct (before, key, after, s, rank) =
        let is = rank_entry entries before key after place.rank s.stand.split rank in
        let slice = slice_behind entries before key after [] place.rank (length entries) (s.stand.split ∙ ap (λ l. before ++ key ∷ l) (sym (append-nil after))) rank (ap length s.stand.split) in
        whole_left (form_of e) Own entries owes distinct past before key after place.known s (written past)
        ∙ ap₂ (λ (key : Entry) (es : List Entry). e.settled past ++ (e.walk.left key place.known ++ flat_map e.walk.bare es)) (sym is) (sym slice)

    -- something is reached after records in order
    pub reaches : (past : List Feature) → AreInGenomeOrder entries past → (current : Option (Place S)) × Held past current × AreReached entries current
    reaches past t = grind (arith, (held_begun past (begun (form_of e) Own entries owes t.distinct past (in_order entries past t))), rank_entry, length-append, last_rank)

    -- more and more is settled
    pub settles_items : SettlesMore e.settled e.whole (AreInGenomeOrder entries)
    settles_items = settling (form_of e) Own (AreInGenomeOrder entries) (taken_front entries) (λ all t. record {
      keys = entries;
      owes = owes;
      distinct = t.distinct;
      in_order = in_order entries all t;
      written = λ past more is. written past;
    })

-- The gaps of a chromosome are the stretches of its bare positions, and the only list that is. With starts that don't fall one of them is open: the one that the last record's end begins.

pub is_bare-Decides : (spans : List Span) (p : ℕ) → Decides (not (is_covered spans p)) (IsCovered spans p → ⊥)
is_bare-Decides spans p = Decides-not (is_covered spans p) (is_covered-Decides spans p)

pub are_gaps : (size : ℕ) (spans : List Span) → AreStretchesOf (IsBare size spans) (gaps_of size spans)
unfolding gaps_of
are_gaps size spans = grind (arith, (scan_finds (λ p. not (is_covered spans p)) size), is_bare-Decides)

pub only_gaps : (size : ℕ) (spans gaps : List Span) → AreStretchesOf (IsBare size spans) gaps → gaps ≡ gaps_of size spans
only_gaps size spans gaps h = stretches_are_same (IsBare size spans) gaps (gaps_of size spans) h (are_gaps size spans)

-- the span between two positions, if it has one
abbrev pub span_between : ℕ → ℕ → List Span
span_between start stop = cond (nat_lt start stop) (record { start = start; stop = stop } ∷ []) []

-- each of the spans ends by a position
abbrev pub EndBy : ℕ → List Span → Type 0
EndBy start [] = ⊤
EndBy start (s ∷ ss) = (s.stop ≤ start) × EndBy start ss

pub end_later : (start later : ℕ) (xs : List Span) → start ≤ later → EndBy start xs → EndBy later xs
end_later start later [] h e = tt
end_later start later (x ∷ xs) h e = (omega (arith, e.0), end_later start later xs h e.1)

pub end_both : (start : ℕ) (xs ys : List Span) → EndBy start xs → EndBy start ys → EndBy start (xs ++ ys)
end_both start [] ys a b = b
end_both start (x ∷ xs) ys a b = (a.0, end_both start xs ys a.1 b)

-- what spans that end by a position cover lies below it
covered_by_end : (start : ℕ) (xs : List Span) (p : ℕ) → EndBy start xs → IsCovered xs p → p < start
covered_by_end start [] p e c = absurd c
covered_by_end start (x ∷ xs) p e (inl w) = omega (arith, e.0)
covered_by_end start (x ∷ xs) p e (inr w) = covered_by_end start xs p e.1 w

-- the spans after a first part may be others that begin no earlier
apart_tail : (first : ℕ) (xs : List Span) (y : Span) (zs : List Span) → AreApartFrom first (xs ++ y ∷ []) → AreApartFrom y.start zs → AreApartFrom first (xs ++ zs)
apart_tail first [] y [] a b = tt
apart_tail first [] y (z ∷ zs) a b = (omega (arith, a.0, b.0), b.1, b.2)
apart_tail first (x ∷ xs) y zs a b = (a.0, a.1, apart_tail (x.stop + 1) xs y zs a.2 b)

-- the gaps of a chromosome of this length: those that are done, and the one from the greatest end, cut at the length
pub record OneGap (size : ℕ) (spans done : List Span) (kept : ℕ) : Type 0 where
  pub parts : AreStretchesOf (IsBare size spans) (done ++ span_between kept size)
  pub kept_is : kept ≡ min (end_of spans) size

pub one_gaps : (size : ℕ) (spans done : List Span) (kept : ℕ) → OneGap size spans done kept → gaps_of size spans ≡ done ++ span_between kept size
one_gaps size spans done kept one = sym (only_gaps size spans (done ++ span_between kept size) one.parts)

end_of-push : (spans : List Span) (s : Span) → end_of (spans ++ s ∷ []) ≡ max (end_of spans) s.stop
end_of-push [] s = omega arith
end_of-push (x ∷ xs) s = let h = end_of-push xs s in omega arith

module _ (size : ℕ) (spans done : List Span) (kept : ℕ) (s : Span) (one : OneGap size spans done kept) (ended : EndBy s.start done) (full : s.start < s.stop) where
  abbrev first : List Span
  first = span_between kept (min s.start size)

  abbrev rest : List Span
  rest = span_between (max kept (min s.stop size)) size

  pub cover_gap : OneGap size (spans ++ s ∷ []) (done ++ span_between kept (min s.start size)) (max kept (min s.stop size))
  cover_gap = grind (arith, append_assoc, covered_parts, covered_by_end, covered_left, covered_right, end_of-push, apart_tail)
