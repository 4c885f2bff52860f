-- Lemmas on the extents of chromosomes.
use Rattle.bt_lines.proofs.Std.{arith, common_steps, ◌≡◌, ◌∙◌, ℕ, ◌≤◌, ◌++◌, List, [], ◌∷◌, ap, append-nil, append_assoc, bytes_eq, cases_Bool, false, true, false≢true, map, map-append, max, or_parts, refl, sym, ◌⊎◌, inl, inr}
use Rattle.bt_bed.specs.calls.Orders.{AreDistinct}
use Rattle.bt_bed.specs.model.Feature.{Interval, Span, span_of, spans_on}
use Rattle.bt_bed.specs.model.Order.{is_among}
use Rattle.bt_bed.proofs.lemmas.parse.NameLemmas.{same_name, name_eq, name_eq-sym}
use Rattle.bt_front.specs.calls.Chromosomes.{is_last_name, widened}
use Rattle.bt_front.specs.inside.Seeing.{HasEntered}
use Rattle.bt_front.specs.model.Survey.{are_together, chroms_of, distinct, extent_on, extents_of, first_start, largest}
use Rattle.bt_front.proofs.lemmas.survey.TogetherLemmas.{among_distinct, apart, distinct_new, distinct_old, distinct_once, last_among, last_distinct, together_again, together_new}

-- ---- the largest of numbers

pub largest_more : (ms ns : List ℕ) → largest (ms ++ ns) ≡ max (largest ms) (largest ns)
largest_more [] ns = omega arith
largest_more (m ∷ ms) ns = omega (arith, largest_more ms ns)

-- ---- the records on one chromosome

spans_on_more : (name : List ℕ) (rs ss : List Interval) → spans_on name (rs ++ ss) ≡ spans_on name rs ++ spans_on name ss
spans_on_more name [] ss = refl
spans_on_more name (r ∷ rs) ss = grind (arith, common_steps, spans_on_more name rs ss)

spans_on_none : (name : List ℕ) (rs : List Interval) → is_among (chroms_of rs) name ≡ false → spans_on name rs ≡ []
spans_on_none name [] e = refl
spans_on_none name (r ∷ rs) e =
    let parts = or_parts (bytes_eq r.chrom name) (is_among (chroms_of rs) name) e in
    rw (parts.0, spans_on_none name rs parts.1) refl

-- a record on another chromosome changes nothing
extent_other : (rs : List Interval) (r : Interval) (name : List ℕ) → bytes_eq r.chrom name ≡ false → extent_on (rs ++ r ∷ []) name ≡ extent_on rs name
extent_other rs r name e =
    let all : spans_on name (rs ++ r ∷ []) ≡ spans_on name rs = spans_on_more name rs (r ∷ []) ∙ rw e (append-nil (spans_on name rs)) in
    rw all refl

-- the first record on a chromosome
extent_new : (rs : List Interval) (r : Interval) → is_among (chroms_of rs) r.chrom ≡ false
    → extent_on (rs ++ r ∷ []) r.chrom ≡ record { chrom = r.chrom; start = r.start; stop = max r.stop 0 }
extent_new rs r e =
    let all : spans_on r.chrom (rs ++ r ∷ []) ≡ span_of r ∷ [] =
    spans_on_more r.chrom rs (r ∷ []) ∙ rw (spans_on_none r.chrom rs e, name_eq r.chrom r.chrom refl) refl in
    rw all refl

-- a span after others: the start stays if there were some
widen_spans : (spans : List Span) (s : Span) (name : List ℕ) (first : Span) (more : List Span) → spans ≡ first ∷ more
    → largest (map (λ (t : Span). t.stop) (spans ++ s ∷ [])) ≡ max (largest (map (λ (t : Span). t.stop) spans)) s.stop
widen_spans spans s name first more e =
    rw (map-append, largest_more) (omega arith)

first_of_more : (spans more : List Span) (some : (spans ≡ []) → ⊥) → first_start (spans ++ more) ≡ first_start spans
first_of_more [] more some = absurd (some refl)
first_of_more (s ∷ spans) more some = refl

some_on : (name : List ℕ) (rs : List Interval) → is_among (chroms_of rs) name ≡ true → spans_on name rs ≡ [] → ⊥
some_on name [] e none = false≢true e
some_on name (r ∷ rs) e none = elim (cases_Bool (bytes_eq r.chrom name)) [
  | inl is ↦ (let some : span_of r ∷ spans_on name rs ≡ [] = rw is at none in cc)
  | inr isnt ↦ (let rest : is_among (chroms_of rs) name ≡ true = rw isnt at e in
      let none_on : spans_on name rs ≡ [] = rw isnt at none in some_on name rs rest none_on)
]

-- one more on a chromosome that came before
extent_same : (rs : List Interval) (r : Interval) → is_among (chroms_of rs) r.chrom ≡ true
    → extent_on (rs ++ r ∷ []) r.chrom ≡ record { chrom = r.chrom; start = (extent_on rs r.chrom).start; stop = max (extent_on rs r.chrom).stop r.stop }
extent_same rs r e =
    let all : spans_on r.chrom (rs ++ r ∷ []) ≡ spans_on r.chrom rs ++ span_of r ∷ [] =
    spans_on_more r.chrom rs (r ∷ []) ∙ rw (name_eq r.chrom r.chrom refl) refl in
    rw (all, first_of_more (spans_on r.chrom rs) (span_of r ∷ []) (some_on r.chrom rs e), map-append, largest_more) (extent_at_max _ _ _ _)
  where
    extent_at_max : (chrom : List ℕ) (start stop more : ℕ)
        → (let left : Interval = record { chrom = chrom; start = start; stop = max stop (max more 0) } in left ≡ record { chrom = chrom; start = start; stop = max stop more })
    extent_at_max chrom start stop more = ap (λ (n : ℕ). (let e : Interval = record { chrom = chrom; start = start; stop = n } in e)) (omega arith)

-- ---- the extents of all

-- those of other names stay
extents_apart : (rs : List Interval) (r : Interval) (ns : List (List ℕ)) → is_among ns r.chrom ≡ false → map (extent_on (rs ++ r ∷ [])) ns ≡ map (extent_on rs) ns
extents_apart rs r [] e = refl
extents_apart rs r (n ∷ ns) e =
    let parts = or_parts (bytes_eq n r.chrom) (is_among ns r.chrom) e in
    rw (extent_other rs r n (name_eq-sym r.chrom n ∙ parts.0), extents_apart rs r ns parts.1) refl

pub chroms_more : (rs : List Interval) (r : Interval) → chroms_of (rs ++ r ∷ []) ≡ chroms_of rs ++ r.chrom ∷ []
chroms_more rs r = map-append (λ (s : Interval). s.chrom) rs (r ∷ [])

-- the first record on a chromosome adds its extent
pub extents_new : (rs : List Interval) (r : Interval) → is_among (chroms_of rs) r.chrom ≡ false
    → extents_of (rs ++ r ∷ []) ≡ extents_of rs ++ record { chrom = r.chrom; start = r.start; stop = max r.stop 0 } ∷ []
unfolding extents_of
extents_new rs r e =
    let names : distinct (chroms_of (rs ++ r ∷ [])) ≡ distinct (chroms_of rs) ++ r.chrom ∷ [] =
    ap distinct (chroms_more rs r) ∙ distinct_new (chroms_of rs) r.chrom e in
    rw (names, map-append, extents_apart rs r (distinct (chroms_of rs)) (among_distinct (chroms_of rs) r.chrom ∙ e), extent_new rs r e) refl

-- one more on the last of some names widens its extent
widens_last : (rs : List Interval) (r : Interval) (ns : List (List ℕ)) → AreDistinct ns → is_last_name ns r.chrom ≡ true → is_among (chroms_of rs) r.chrom ≡ true
    → map (extent_on (rs ++ r ∷ [])) ns ≡ widened r.stop (map (extent_on rs) ns)
widens_last rs r [] once last came = absurd (false≢true last)
widens_last rs r (n ∷ []) once last came =
    let name : n ≡ r.chrom = same_name n r.chrom last in
    rw (name, extent_same rs r came) refl
widens_last rs r (n ∷ m ∷ ns) once last came =
    let other : bytes_eq r.chrom n ≡ false = apart (m ∷ ns) r.chrom n (last_among (m ∷ ns) r.chrom last) once.0 in
    rw (extent_other rs r n other) (ap (λ (l : List Interval). extent_on rs n ∷ l) (widens_last rs r (m ∷ ns) once.1 last came))

-- one more on the last chromosome
pub extents_again : (rs : List Interval) (r : Interval) → are_together (chroms_of rs) ≡ true → is_last_name (chroms_of rs) r.chrom ≡ true
    → extents_of (rs ++ r ∷ []) ≡ widened r.stop (extents_of rs)
unfolding extents_of
extents_again rs r together last =
    let came = last_among (chroms_of rs) r.chrom last in
    let names : distinct (chroms_of (rs ++ r ∷ [])) ≡ distinct (chroms_of rs) = ap distinct (chroms_more rs r) ∙ distinct_old (chroms_of rs) r.chrom came in
    rw names (widens_last rs r (distinct (chroms_of rs)) (distinct_once (chroms_of rs)) (last_distinct (chroms_of rs) r.chrom together ∙ last) came)

-- the names of the extents
pub extent_names : (rs : List Interval) → chroms_of (extents_of rs) ≡ distinct (chroms_of rs)
unfolding extents_of
extent_names rs = named (distinct (chroms_of rs))
  where
    named : (ns : List (List ℕ)) → chroms_of (map (extent_on rs) ns) ≡ ns
    named [] = refl
    named (n ∷ ns) = rw (named ns) refl
