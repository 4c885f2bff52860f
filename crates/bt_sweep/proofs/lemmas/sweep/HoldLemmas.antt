-- Lemmas on what is held.
use Rattle.bt_lines.proofs.Std.{rules, ◌≡◌, ◌≤◌, inl, inr, Bool, true, false, not, ◌&&◌, ◌||◌, cond, List, [], ◌∷◌, ◌++◌, Option, None, Some, refl, sym, ap, ◌∙◌, ltb, arith, filter, bytes_eq, IsTrue, list_all, false≢true, and_parts, or_parts, cases_Bool, filter-append, list_any-append, list_all-append}
use Rattle.bt_bed.specs.model.Feature.{Feature, intervals_of}
use Rattle.bt_bed.specs.model.Order.{Order}
use Rattle.bt_bed.specs.calls.Orders.{IsTotal, IsUpTo, ArePlaced}
use Rattle.bt_bed.specs.model.Good.{locus_at}
use Rattle.bt_bed.specs.model.Sorted.{has_records}
use Rattle.bt_bed.proofs.lemmas.parse.NameLemmas.{name_eq, name_ne, other_name}
use Rattle.bt_sweep.specs.model.Hits.{decides}
use Rattle.bt_sweep.specs.calls.Sweeping.{is_held, last_given, leaves_some, HoldsFor}
use Rattle.bt_sweep.specs.inside.Joining.{held_with}
use Rattle.bt_sweep.proofs.lemmas.Active.{filter-both}
use Rattle.bt_sweep.proofs.lemmas.definitions.HitLemmas.{last_given-push, last_is_there, next_lies}

-- what is held once a is given, after the one that was given last
abbrev pub held_behind : Option Feature → List Feature → Feature → List Feature
held_behind None held a = []
held_behind (Some last) held a = cond (bytes_eq last.chrom a.chrom) (filter (λ b. ltb a.start b.stop) held) []

-- places that come in order
pub up_trans : (order : Order) (x y z : Feature) → IsTotal order → IsTrue (order.knows x.chrom) → IsTrue (order.knows y.chrom) → IsTrue (order.knows z.chrom) → IsUpTo order (locus_at x) (locus_at y) → IsUpTo order (locus_at y) (locus_at z) → IsUpTo order (locus_at x) (locus_at z)
up_trans order x y z total kx ky kz first second = grind (arith)

pub last_known : (order : Order) (xs : List Feature) (y : Feature) → ArePlaced order (intervals_of (xs ++ y ∷ [])) → IsTrue (order.knows y.chrom)
last_known order [] y placed = placed.0
last_known order (x ∷ xs) y placed = last_known order xs y placed.2

up_to_last : (order : Order) (x : Feature) (xs : List Feature) (y : Feature) → IsTotal order → ArePlaced order (intervals_of (x ∷ xs ++ y ∷ [])) → IsUpTo order (locus_at x) (locus_at y)
up_to_last order x [] y total placed = placed.1
up_to_last order x (h ∷ hs) y total placed = up_trans order x h y total placed.0 placed.2.0 (last_known order hs y placed.2.2) placed.1 (up_to_last order h hs y total placed.2)

-- a record on a chromosome that comes anew decides all that was given before
left_at : (order : Order) (a b g : Feature) → IsTotal order → IsTrue (order.knows a.chrom) → IsTrue (order.knows g.chrom) → a.chrom ≡ b.chrom → (a.chrom ≡ g.chrom → ⊥) → IsUpTo order (locus_at g) (locus_at a) → not (decides order g b) ≡ true → ⊥
left_at order a b g total ka kg same other up e = grind arith

leaves_none : (order : Order) (a b : Feature) (gs : List Feature) → IsTotal order → ArePlaced order (intervals_of (gs ++ a ∷ [])) → has_records a.chrom (intervals_of gs) ≡ false → a.chrom ≡ b.chrom → leaves_some order gs b ≡ true → ⊥
leaves_none order a b [] total placed none same some = false≢true some
leaves_none order a b (g ∷ gs) total placed none same some =
    let parts = or_parts (bytes_eq g.chrom a.chrom) (has_records a.chrom (intervals_of gs)) none in
    elim (cases_Bool (not (decides order g b))) [
      | inl here ↦ left_at order a b g total (last_known order gs a placed.2) placed.0 same (λ e. other_name g.chrom a.chrom parts.0 (sym e)) (up_to_last order g gs a total placed) here
      | inr gone ↦ leaves_none order a b gs total placed.2 parts.1 same (ap (λ c. c || leaves_some order gs b) (sym gone) ∙ some)
    ]

skips_at : (a b : Feature) (taken : List Feature) → bytes_eq a.chrom b.chrom ≡ false → filter (is_held a) taken ≡ [] → filter (is_held a) (b ∷ taken) ≡ []
skips_at a b taken e rest = ap (λ c. cond (c && ltb a.start b.stop) (b ∷ filter (is_held a) taken) (filter (is_held a) taken)) e ∙ rest

-- of a chromosome that comes anew nothing was taken
none_new : (order : Order) (a : Feature) (gs taken : List Feature) → IsTotal order → ArePlaced order (intervals_of (gs ++ a ∷ [])) → has_records a.chrom (intervals_of gs) ≡ false → list_all (leaves_some order gs) taken ≡ true → filter (is_held a) taken ≡ []
none_new order a gs [] total placed none reached = refl
none_new order a gs (b ∷ taken) total placed none reached =
    let parts = and_parts (leaves_some order gs b) (list_all (leaves_some order gs) taken) reached in
    skips_at a b taken (name_ne a.chrom b.chrom (λ e. leaves_none order a b gs total placed none e parts.0)) (none_new order a gs taken total placed none parts.1)

-- on the same chromosome what is held becomes less
same_held : (l a : Feature) (taken : List Feature) → a.chrom ≡ l.chrom → l.start ≤ a.start → filter (λ b. ltb a.start b.stop) (filter (is_held l) taken) ≡ filter (is_held a) taken
same_held l a taken same up = grind (arith, filter-both)

-- what was reached stays reached with more given
reached_more : (order : Order) (gs more taken : List Feature) → list_all (leaves_some order gs) taken ≡ true → list_all (leaves_some order (gs ++ more)) taken ≡ true
reached_more order gs more [] reached = refl
reached_more order gs more (b ∷ taken) reached =
    grind (arith, (reached_more order gs more taken (and_parts (leaves_some order gs b) (list_all (leaves_some order gs) taken) reached).1), list_any-append)

-- with one more record of the first input
pub holds_a : (order : Order) (gs taken held : List Feature) (a : Feature) → IsTotal order → ArePlaced order (intervals_of (gs ++ a ∷ [])) → HoldsFor order gs taken held
    → HoldsFor order (gs ++ a ∷ []) taken (held_behind (last_given gs) held a)
holds_a order gs taken held a total placed holds = grind (arith, next_lies, name_eq, same_held, name_ne, last_is_there, none_new, last_given-push, reached_more)

-- with one more record of the second, which leaves the last of the first undecided
pub holds_b : (order : Order) (gs taken held : List Feature) (a b : Feature) → HoldsFor order (gs ++ a ∷ []) taken held → decides order a b ≡ false
    → HoldsFor order (gs ++ a ∷ []) (taken ++ b ∷ []) (held ++ filter (is_held a) (b ∷ []))
holds_b order gs taken held a b holds e = grind (arith, last_given-push, filter-append, list_all-append, list_any-append)

-- ---- the first shows which of them lie on a chromosome

first_at : (l x b : Feature) (xs more : List Feature) (c : Bool) → is_held l x ≡ c → (filter (is_held l) xs ≡ b ∷ more → b.chrom ≡ l.chrom)
    → cond c (x ∷ filter (is_held l) xs) (filter (is_held l) xs) ≡ b ∷ more → b.chrom ≡ l.chrom
first_at l x b xs more c held rest e = search rules

first_on : (l : Feature) (taken : List Feature) (b : Feature) (more : List Feature) → filter (is_held l) taken ≡ b ∷ more → b.chrom ≡ l.chrom
first_on l [] b more e = absurd (let apart : [] ≡ b ∷ more = e in cc)
first_on l (x ∷ xs) b more e = first_at l x b xs more (is_held l x) refl (first_on l xs b more) e

pub held_is_behind : (order : Order) (gs taken held : List Feature) (a : Feature) → HoldsFor order gs taken held → held_with held a ≡ held_behind (last_given gs) held a
held_is_behind order gs taken held a holds = grind (arith, first_on)
