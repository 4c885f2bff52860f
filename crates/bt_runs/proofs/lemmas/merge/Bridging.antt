-- The runs of one chromosome are the stretches of its bridged positions, and the only list that is.
-- With starts that don't fall one of them is open: the one that holds the start of the last record.
-- What two lists of spans together cover comes first.
use Rattle.bt_lines.proofs.Std.{ℕ, ◌<◌, ◌≤◌, ◌⊎◌, inl, inr, List, [], ◌∷◌, ◌++◌, ◌≡◌, ◌+◌, ◌-◌, refl, arith, Bool, ◌&&◌, Decides, nat_le, nat_lt, leb-true, le-leb, max, false≢true, cases_lt, Decides-and, Decides-or, Decides-ltb, Decides-like, Decides-below_or}
use Rattle.bt_bed.specs.model.Feature.{Span}
use Rattle.bt_bed.specs.model.Positions.{AreStretchesOf, IsCovered, AreApartFrom}
use Rattle.bt_runs.specs.model.Merged.{some_below, is_covered, is_bridged, end_of, runs_of}
use Rattle.bt_runs.specs.calls.MergedRuns.{Bridged}
use Rattle.bt_bed.proofs.lemmas.StretchScans.{IsWithin, covered_from, stretches_are_same, scan_finds}

pub covered_left : (xs ys : List Span) (p : ℕ) → IsCovered xs p → IsCovered (xs ++ ys) p
covered_left [] ys p c = absurd c
covered_left (x ∷ xs) ys p (inl w) = inl w
covered_left (x ∷ xs) ys p (inr w) = inr (covered_left xs ys p w)

pub covered_right : (xs ys : List Span) (p : ℕ) → IsCovered ys p → IsCovered (xs ++ ys) p
covered_right [] ys p c = c
covered_right (x ∷ xs) ys p c = inr (covered_right xs ys p c)

pub covered_parts : (xs ys : List Span) (p : ℕ) → IsCovered (xs ++ ys) p → IsCovered xs p ⊎ IsCovered ys p
covered_parts [] ys p c = inr c
covered_parts (x ∷ xs) ys p (inl w) = inl (inl w)
covered_parts (x ∷ xs) ys p (inr w) = elim (covered_parts xs ys p w) [ inl h ↦ inl (inr h) | inr h ↦ inr h ]

pub covered_last : (x : Span) (p : ℕ) → IsCovered (x ∷ []) p → (x.start ≤ p) × (p < x.stop)
covered_last x p p1 = grind arith

pub Decides-le : (a b : ℕ) → Decides (nat_le a b) (a ≤ b)
Decides-le a b = (leb-true a b, le-leb a b)

pub is_covered-Decides : (xs : List Span) (p : ℕ) → Decides (is_covered xs p) (IsCovered xs p)
is_covered-Decides [] p = (λ e. false≢true e, λ w. absurd w)
is_covered-Decides (s ∷ ss) p = Decides-or (nat_le s.start p && nat_lt p s.stop) (is_covered ss p) (Decides-and (nat_le s.start p) (nat_lt p s.stop) (Decides-le s.start p) (Decides-ltb p s.stop)) (is_covered-Decides ss p)

-- the test of a number below n, against the fact
some_below-Decides : (test : ℕ → Bool) (P : ℕ → Type 0) → ((k : ℕ) → Decides (test k) (P k)) → (n : ℕ) → Decides (some_below n test) ((k : ℕ) × (k < n) × P k)
some_below-Decides test P each n = Decides-below_or test P (λ m. some_below m test) each refl (λ m. refl) n

-- some covered position near `left`, at or past p
abbrev HasRight : ℕ → List Span → ℕ → ℕ → Type 0
HasRight gap spans p left = (right : ℕ) × (right < left + gap + 2) × (IsCovered spans right × (p ≤ right))

HasRight-Decides : (gap : ℕ) (spans : List Span) (p left : ℕ) → Decides (some_below (left + gap + 2) (λ right. is_covered spans right && nat_le p right)) (HasRight gap spans p left)
HasRight-Decides gap spans p left = some_below-Decides (λ right. is_covered spans right && nat_le p right) (λ right. IsCovered spans right × (p ≤ right)) (λ right. Decides-and (is_covered spans right) (nat_le p right) (is_covered-Decides spans right) (Decides-le p right)) (left + gap + 2)

abbrev HasLeft : ℕ → List Span → ℕ → Type 0
HasLeft gap spans p = (left : ℕ) × (left < p + 1) × (IsCovered spans left × HasRight gap spans p left)

bridged_to : (gap : ℕ) (spans : List Span) (p : ℕ) → Bridged gap spans p → HasLeft gap spans p
bridged_to gap spans p b = (b.left, omega arith, (b.left_covered, (b.right, omega arith, (b.right_covered, b.to_right))))

pub is_bridged-Decides : (gap : ℕ) (spans : List Span) (p : ℕ) → Decides (is_bridged gap spans p) (Bridged gap spans p)
unfolding is_bridged
is_bridged-Decides gap spans p =
    Decides-like (some_below (p + 1) (λ left. is_covered spans left && some_below (left + gap + 2) (λ right. is_covered spans right && nat_le p right)))
    (grind arith)
    (bridged_to gap spans p) (some_below-Decides (λ left. is_covered spans left && some_below (left + gap + 2) (λ right. is_covered spans right && nat_le p right))
    (λ left. IsCovered spans left × HasRight gap spans p left)
    (λ left. Decides-and (is_covered spans left) (some_below (left + gap + 2) (λ right. is_covered spans right && nat_le p right)) (is_covered-Decides spans left) (HasRight-Decides gap spans p left)) (p + 1))

pub covered_below_end : (xs : List Span) (p : ℕ) → IsCovered xs p → p < end_of xs
covered_below_end [] p c = absurd c
covered_below_end (x ∷ xs) p (inl w) = omega arith
covered_below_end (x ∷ xs) p (inr w) = let h = covered_below_end xs p w in omega arith

pub are_runs : (gap : ℕ) (spans : List Span) → AreStretchesOf (Bridged gap spans) (runs_of gap spans)
unfolding runs_of
are_runs gap spans = grind (arith, (scan_finds (is_bridged gap spans) (end_of spans)), is_bridged-Decides, covered_below_end)

pub only_runs : (gap : ℕ) (spans runs : List Span) → AreStretchesOf (Bridged gap spans) runs → runs ≡ runs_of gap spans
only_runs gap spans runs h = stretches_are_same (Bridged gap spans) runs (runs_of gap spans) h (are_runs gap spans)

-- ascending, and more than the gap apart
abbrev pub AreApartBy : ℕ → ℕ → List Span → Type 0
AreApartBy gap first [] = Unit {0}
AreApartBy gap first (s ∷ ss) = (first ≤ s.start) × (s.start < s.stop) × AreApartBy gap (s.stop + gap + 1) ss

-- the list covers the spans, is bridged by them, and its members are more than the gap apart
pub record AreJoined (gap : ℕ) (spans runs : List Span) : Type 0 where
  pub apart : AreApartBy gap 0 runs
  pub covering : IsWithin spans runs
  pub within : (p : ℕ) → IsCovered runs p → Bridged gap spans p

apart_from_by : (gap first : ℕ) (low : ℕ) (xs : List Span) → low ≤ first → AreApartBy gap first xs → AreApartFrom low xs
apart_from_by gap first low [] h a = tt
apart_from_by gap first low (x ∷ xs) h a = (omega arith, a.1, apart_from_by gap (x.stop + gap + 1) (x.stop + 1) xs (omega arith) a.2)

covered_from_by : (gap first : ℕ) (xs : List Span) (p : ℕ) → AreApartBy gap first xs → IsCovered xs p → first ≤ p
covered_from_by gap first xs p a c = covered_from first xs p (apart_from_by gap first first xs (omega arith) a) c

-- what lies between two covered positions that are near is covered
between_near : (gap first : ℕ) (xs : List Span) (left right p : ℕ) → AreApartBy gap first xs → IsCovered xs left → IsCovered xs right → left ≤ p → p ≤ right → right - left ≤ gap + 1 → IsCovered xs p
between_near gap first [] left right p a l r low high near = l
between_near gap first (x ∷ xs) left right p a (inl l) (inl r) low high near = inl (omega arith, omega arith)
between_near gap first (x ∷ xs) left right p a (inl l) (inr r) low high near = let h = covered_from_by gap (x.stop + gap + 1) xs right a.2 r in absurd (omega arith)
between_near gap first (x ∷ xs) left right p a (inr l) (inl r) low high near = let h = covered_from_by gap (x.stop + gap + 1) xs left a.2 l in absurd (omega arith)
between_near gap first (x ∷ xs) left right p a (inr l) (inr r) low high near = inr (between_near gap (x.stop + gap + 1) xs left right p a.2 l r low high near)

-- such a list is the list of the runs
pub joined_are_runs : (gap : ℕ) (spans runs : List Span) → AreJoined gap spans runs → runs ≡ runs_of gap spans
joined_are_runs gap spans runs j = only_runs gap spans runs (record {
  apart = apart_from_by gap 0 0 runs (omega arith) j.apart;
  within = j.within;
  whole = λ p b. between_near gap 0 runs b.left b.right p j.apart (j.covering b.left b.left_covered) (j.covering b.right b.right_covered) b.from_left b.to_right b.near;
})

-- the runs of the spans are those that are done and one more, which holds the start of the last span and ends where a span ends
pub record OneOpen (gap : ℕ) (spans : List Span) (last : ℕ) (done : List Span) (run : Span) : Type 0 where
  pub joined : AreJoined gap spans (done ++ run ∷ [])
  pub began : run.start ≤ last
  pub reaches : last < run.stop
  pub ends : (p : ℕ) → p + 1 ≡ run.stop → IsCovered spans p

bridged_more : (gap : ℕ) (xs ys : List Span) (p : ℕ) → Bridged gap xs p → Bridged gap (xs ++ ys) p
bridged_more gap xs ys p b = grind (arith, covered_left)

pub bridged_here : (gap : ℕ) (xs : List Span) (p : ℕ) → IsCovered xs p → Bridged gap xs p
bridged_here gap xs p c = grind arith

-- the last of a list apart may end elsewhere
apart_longer : (gap first : ℕ) (done : List Span) (run more : Span) → more.start ≡ run.start → more.start < more.stop → AreApartBy gap first (done ++ run ∷ []) → AreApartBy gap first (done ++ more ∷ [])
apart_longer gap first [] run more e h a = (omega arith, h, tt)
apart_longer gap first (x ∷ done) run more e h a = (a.0, a.1, apart_longer gap (x.stop + gap + 1) done run more e h a.2)

apart_push : (gap first : ℕ) (done : List Span) (run x : Span) → run.stop + gap < x.start → x.start < x.stop → AreApartBy gap first (done ++ run ∷ []) → AreApartBy gap first ((done ++ run ∷ []) ++ x ∷ [])
apart_push gap first [] run x far full a = (a.0, a.1, (omega arith, full, tt))
apart_push gap first (y ∷ done) run x far full a = (a.0, a.1, apart_push gap (y.stop + gap + 1) done run x far full a.2)

-- the run with one more span joined to it
abbrev pub longer : Span → Span → Span
longer run x = record { start = run.start; stop = max run.stop x.stop }

-- the positions of the longer run are bridged: those of the run, those of the new span, and those of the gap between
in_longer : (gap : ℕ) (spans : List Span) (run x : Span) (p : ℕ) → run.start < run.stop → x.start ≤ run.stop + gap → ((q : ℕ) → q + 1 ≡ run.stop → IsCovered spans q) → ((q : ℕ) → run.start ≤ q → q < run.stop → Bridged gap spans q) → run.start ≤ p → p < max run.stop x.stop → x.start < x.stop → Bridged gap (spans ++ x ∷ []) p
in_longer gap spans run x p full near ends old low high new =
    elim (cases_lt p run.stop) [
      | inl l ↦ bridged_more gap spans (x ∷ []) p (old p low l)
      | inr h ↦ elim (cases_lt p x.start) [
        | inl l ↦ grind (arith, (covered_left spans (x ∷ []) (run.stop - 1) (ends (run.stop - 1) (omega arith))), (covered_right spans (x ∷ []) x.start (inl (omega arith, new))))
        | inr g ↦ bridged_here gap (spans ++ x ∷ []) p (covered_right spans (x ∷ []) p (inl (g, omega arith)))
      ]
    ]

-- a span that starts near the open run makes it longer
pub join_open : (gap : ℕ) (spans : List Span) (last : ℕ) (done : List Span) (run x : Span) → OneOpen gap spans last done run → last ≤ x.start → x.start < x.stop → x.start ≤ run.stop + gap → OneOpen gap (spans ++ x ∷ []) x.start done (longer run x)
join_open gap spans last done run x o up full near = record {
  joined = record {
    apart = apart_longer gap 0 done run (longer run x) refl (let h = o.began in let g = o.reaches in omega arith) o.joined.apart;
    covering = grind (arith, covered_parts, covered_left, covered_right);
    within = λ p c. elim (covered_parts done (longer run x ∷ []) p c) [
      | inl h ↦ bridged_more gap spans (x ∷ []) p (o.joined.within p (covered_left done (run ∷ []) p h))
      | inr h ↦ let w = covered_last (longer run x) p h in in_longer gap spans run x p (let f = o.began in let g = o.reaches in omega arith) near o.ends (λ q l r. o.joined.within q (covered_right done (run ∷ []) q (inl (l, r)))) w.0 w.1 full
    ];
  };
  began = let h = o.began in omega arith;
  reaches = omega arith;
  ends = λ p e. elim (cases_lt run.stop x.stop) [
    | inl l ↦ covered_right spans (x ∷ []) p (inl (omega arith, omega arith))
    | inr h ↦ covered_left spans (x ∷ []) p (o.ends p (omega arith))
  ];
}

-- a span that starts beyond the gap ends the open run and begins the next
pub next_open : (gap : ℕ) (spans : List Span) (last : ℕ) (done : List Span) (run x : Span) → OneOpen gap spans last done run → x.start < x.stop → run.stop + gap < x.start → OneOpen gap (spans ++ x ∷ []) x.start (done ++ run ∷ []) x
next_open gap spans last done run x o full far = record {
  joined = record {
    apart = apart_push gap 0 done run x far full o.joined.apart;
    covering = λ p c. elim (covered_parts spans (x ∷ []) p c) [
      | inl h ↦ covered_left (done ++ run ∷ []) (x ∷ []) p (o.joined.covering p h)
      | inr h ↦ covered_right (done ++ run ∷ []) (x ∷ []) p h
    ];
    within = λ p c. elim (covered_parts (done ++ run ∷ []) (x ∷ []) p c) [
      | inl h ↦ bridged_more gap spans (x ∷ []) p (o.joined.within p h)
      | inr h ↦ bridged_here gap (spans ++ x ∷ []) p (covered_right spans (x ∷ []) p h)
    ];
  };
  began = omega arith;
  reaches = full;
  ends = λ p e. covered_right spans (x ∷ []) p (inl (omega arith, omega arith));
}

-- the runs, if one is open
pub open_runs : (gap : ℕ) (spans : List Span) (last : ℕ) (done : List Span) (run : Span) → OneOpen gap spans last done run → done ++ run ∷ [] ≡ runs_of gap spans
open_runs gap spans last done run o = joined_are_runs gap spans (done ++ run ∷ []) o.joined
