-- Lemmas on the rule of what hits a record.
use Rattle.bt_lines.proofs.Std.{◌≡◌, ℕ, ◌-◌, ◌*◌, ◌<◌, Bool, true, false, not, ◌&&◌, ◌||◌, le-leb, cond, refl, ap, ◌∙◌, ltb, arith, max, min, bytes_eq, false≢true, and_from, and_parts, ◌≤◌, ◌⊎◌, List, [], ◌∷◌, ◌++◌, sym, subst, IsTrue, list_all, le-ltb, or_from, list_any-append, list_all-append, filter, append-nil, take, drop, AllByRecursion, list_any, take-append-drop, filter-append, recursion_from_All, Some, map-append, suc, Option, None, append_assoc, length, length-append, map, IfSome, if◌then◌else◌, nat_lt, find}
use Rattle.bt_bed.specs.model.Feature.{Feature, interval_of, length_of, intervals_of, last_from}
use Rattle.bt_bed.specs.model.BedLine.{fault_at_line}
use Rattle.bt_sweep.specs.model.Hits.{has_fraction, is_hit, is_enough, shared_bases, strands_agree, decides, decided, hits_among, are_too_many, up_to_too_many, first_open, held_for, is_held}
use Rattle.bt_sweep.specs.declared.hits.hit_rule.HitRule.{HitRule}
use Rattle.std.specs.declared.cmp.Ordering.TheVariants.{Greater}
use Rattle.bt_bed.specs.model.Order.{Order}
use Rattle.bt_bed.specs.calls.Orders.{IsTotal, IsUpTo, ArePlaced}
use Rattle.bt_bed.specs.model.Good.{locus_at, Good, Member}
use Rattle.bt_bed.specs.model.Sorted.{has_records}
use Rattle.bt_bed.proofs.lemmas.parse.NameLemmas.{same_name}
use Rattle.bt_sweep.specs.calls.Held.{StartFrom}
use Rattle.bt_sweep.specs.model.Lines.{lines_of, lines_for, subtract_shape, sweep_rule}
use Rattle.bt_sweep.specs.calls.LineLaws.{lines_stay, lines_are_before, left_are_lines, subtract_is_met, faultless_are_all}
use Rattle.bt_sweep.specs.declared.output.shape.Shape.{Shape}
use Rattle.bt_bed.proofs.lemmas.order.OrderLemmas.{has_records-last, next_place, placed_prefix, placed_contiguous}
use Rattle.bt_sweep.specs.calls.Sweeping.{last_after, last_given, has_room}
use Rattle.bt_lines.specs.model.Fault.{FaultValue}
use Rattle.bt_lines.specs.declared.fault.Input.TheVariants.{Second}
use Rattle.bt_lines.specs.declared.fault.Kind.TheVariants.{TooManyHeld}
use Rattle.bt_sweep.specs.inside.Joining.{are_on, held_with}
use Rattle.bt_bed.proofs.lemmas.Definitions.{all_written}

-- what hits a record shares a base with it
pub hit_overlaps : (rule : HitRule) (a b : Feature) → is_hit rule a b ≡ true → ltb 0 (shared_bases a b) ≡ true
unfolding is_hit
hit_overlaps rule a b e = (and_parts (ltb 0 (shared_bases a b)) (strands_agree rule a b && is_enough rule (shared_bases a b) a b) e).0

-- what shares none doesn't hit it
pub apart_misses : (rule : HitRule) (a b : Feature) → ltb 0 (shared_bases a b) ≡ false → is_hit rule a b ≡ false
unfolding is_hit
apart_misses rule a b e = ap (λ c. c && (strands_agree rule a b && is_enough rule (shared_bases a b) a b)) e

-- where the shared bases lie
pub overlap_parts : (a b : Feature) → ltb 0 (shared_bases a b) ≡ true → (bytes_eq a.chrom b.chrom ≡ true) × (0 < min a.stop b.stop - max a.start b.start)
overlap_parts a b e = grind arith

none_asked : (bases : ℕ) (r : Feature) → has_fraction 0 bases r ≡ true
unfolding has_fraction
none_asked bases r = le-leb (0 * length_of (interval_of r)) (bases * 1000000000) (omega arith)

-- without a fraction any number of bases is enough
pub enough_of_nothing : (rule : HitRule) (bases : ℕ) (a b : Feature) → rule.billionths ≡ 0 → is_enough rule bases a b ≡ true
unfolding is_enough
enough_of_nothing rule bases a b e = grind (arith, none_asked)

-- Lemmas on what decides a record.

-- b lies on a later chromosome than a, or on its own at or past its end
abbrev pub IsPast : Order → Feature → Feature → Type 0
IsPast order a b = (order.compare b.chrom a.chrom ≡ Greater) ⊎ ((b.chrom ≡ a.chrom) × (a.stop ≤ b.start))

pub decides_next : (order : Order) (a b m : Feature) → IsTotal order → IsTrue (order.knows a.chrom) → IsTrue (order.knows b.chrom) → IsTrue (order.knows m.chrom) → IsUpTo order (locus_at b) (locus_at m) → decides order a b ≡ true → decides order a m ≡ true
decides_next order a b m total ka kb km up e = grind arith

-- all that follows what decides a decides it
pub all_decide : (order : Order) (a b : Feature) (xs : List Feature) → IsTotal order → IsTrue (order.knows a.chrom) → ArePlaced order (intervals_of (b ∷ xs)) → decides order a b ≡ true → list_all (decides order a) xs ≡ true
all_decide order a b [] total ka placed e = refl
all_decide order a b (x ∷ xs) total ka placed e =
    let here = decides_next order a b x total ka placed.0 placed.2.0 placed.1 e in
    and_from (decides order a x) (list_all (decides order a) xs) here (all_decide order a x xs total ka placed.2 here)

pub placed_back : (order : Order) (xs ys : List Feature) → ArePlaced order (intervals_of (xs ++ ys)) → ArePlaced order (intervals_of ys)
placed_back order [] ys placed = placed
placed_back order (x ∷ xs) ys placed = placed_back order xs ys placed.2

back_of_all : (p : Feature → Bool) (xs ys : List Feature) → list_all p (xs ++ ys) ≡ true → list_all p ys ≡ true
back_of_all p xs ys e = (and_parts (list_all p xs) (list_all p ys) (sym (list_all-append p xs ys) ∙ e)).1

decide_from : (order : Order) (a b : Feature) (bs more : List Feature) → IsTotal order → IsTrue (order.knows a.chrom) → ArePlaced order (intervals_of (b ∷ bs ++ more))
    → (d : Bool) → decides order a b ≡ d → (d || decided order a bs) ≡ true → (decided order a bs ≡ true → list_all (decides order a) more ≡ true) → list_all (decides order a) more ≡ true
decide_from order a b bs more total ka placed true e some rest = back_of_all (decides order a) bs more (all_decide order a b (bs ++ more) total ka placed e)
decide_from order a b bs more total ka placed false e some rest = rest some

-- once a is decided, all that follows decides it
pub later_decide : (order : Order) (a : Feature) (bs more : List Feature) → IsTotal order → IsTrue (order.knows a.chrom) → ArePlaced order (intervals_of (bs ++ more)) → decided order a bs ≡ true → list_all (decides order a) more ≡ true
later_decide order a [] more total ka placed e = absurd (false≢true e)
later_decide order a (b ∷ bs) more total ka placed e = grind (arith, (later_decide order a bs more total ka placed.2), decide_from)

none_by : (order : Order) (a : Feature) (bs : List Feature) (b : Feature) → decides order a b ≡ false → (d : Bool) → decided order a bs ≡ d → (d ≡ true → ⊥) → decided order a (bs ++ b ∷ []) ≡ false
none_by order a bs b e d f h = grind (arith, list_any-append)

-- if the next record doesn't decide a, none before it did
pub none_before : (order : Order) (a : Feature) (bs : List Feature) (b : Feature) → IsTotal order → IsTrue (order.knows a.chrom) → ArePlaced order (intervals_of (bs ++ b ∷ [])) → decides order a b ≡ false → decided order a (bs ++ b ∷ []) ≡ false
none_before order a bs b total ka placed e =
    none_by order a bs b e (decided order a bs) refl (λ some. false≢true (sym e ∙ (and_parts (decides order a b) true (later_decide order a bs (b ∷ []) total ka placed some)).0))

-- Lemmas on hits: what decides a record doesn't hit it.

misses_at : (rule : HitRule) (a : Feature) (x : Feature) (xs : List Feature) → is_hit rule a x ≡ false → filter (is_hit rule a) xs ≡ [] → filter (is_hit rule a) (x ∷ xs) ≡ []
misses_at rule a x xs e rest = ap (λ b. cond b (x ∷ filter (is_hit rule a) xs) (filter (is_hit rule a) xs)) e ∙ rest

-- so nothing that decides a does
pub none_hit : (order : Order) (rule : HitRule) (a : Feature) (xs : List Feature) → IsTotal order → IsTrue (order.knows a.chrom) → ArePlaced order (intervals_of xs) → list_all (decides order a) xs ≡ true → hits_among rule a xs ≡ []
none_hit order rule a [] total ka placed e = refl
none_hit order rule a (x ∷ xs) total ka placed e =
    let parts = and_parts (decides order a x) (list_all (decides order a) xs) e in
    misses_at rule a x xs (grind (arith, apart_misses, same_name)) (none_hit order rule a xs total ka placed.2 parts.1)

pub stay_lines : lines_stay
unfolding lines_for
stay_lines order shape rule a bs more total ka placed some = grind (arith, filter-append, none_hit, placed_back, later_decide, append-nil)

-- the lines of a against the records before the one that decides it are those against all
pub before_lines : lines_are_before
unfolding lines_for
before_lines order shape rule a b bs total ka e more placed =
    let back = placed_back order bs (b ∷ more) placed in
    ap (lines_of shape a) (filter-append (is_hit rule a) bs (b ∷ more)
    ∙ ap (λ l. hits_among rule a bs ++ l) (none_hit order rule a (b ∷ more) total ka back (and_from (decides order a b) (list_all (decides order a) more) e (all_decide order a b more total ka back e)))
    ∙ append-nil (hits_among rule a bs))

module _ (rule : HitRule) (a : Feature) where
  none_rec : (bs : List Feature) → AllByRecursion (λ b. a.stop ≤ b.start) bs → hits_among rule a bs ≡ []
  none_rec [] all = refl
  none_rec (b ∷ bs) all = misses_at rule a b bs (grind (arith, apart_misses)) (none_rec bs all.1)

  none_behind : (bs : List Feature) → AllByRecursion (λ b. a.stop ≤ b.start) bs → list_any (is_hit rule a) bs ≡ false
  none_behind [] all = refl
  none_behind (b ∷ bs) all = or_from (is_hit rule a b) (list_any (is_hit rule a) bs) (grind (arith, apart_misses)) (none_behind bs all.1)

  -- so if none before it does, none does
  pub none_left : (bs : List Feature) (n : ℕ) → list_any (is_hit rule a) (take n bs) ≡ false → StartFrom a.stop (drop n bs) → list_any (is_hit rule a) bs ≡ false
  none_left bs n none behind =
      let rest = none_behind (drop n bs) (recursion_from_All (λ (b : Feature). a.stop ≤ b.start) (drop n bs) behind) in
      grind (arith, (take-append-drop n bs), (list_any-append (is_hit rule a) (take n bs) (drop n bs)))

  -- so what hits it is among what comes before that
  pub took_hits : (bs : List Feature) (n : ℕ) → StartFrom a.stop (drop n bs) → hits_among rule a (take n bs) ≡ hits_among rule a bs
  took_hits bs n behind =
      let none = none_rec (drop n bs) (recursion_from_All (λ (b : Feature). a.stop ≤ b.start) (drop n bs) behind) in
      grind (arith, (append-nil (hits_among rule a (take n bs))), (filter-append (is_hit rule a) (take n bs) (drop n bs)), (take-append-drop n bs))

  -- and the lines are those against it
  pub took_lines : (shape : Shape) (bs : List Feature) (n : ℕ) → StartFrom a.stop (drop n bs) → lines_for shape rule a (take n bs) ≡ lines_for shape rule a bs
  unfolding lines_for
  took_lines shape bs n behind = ap (lines_of shape a) (took_hits bs n behind)

-- Lemmas on where records lie.

-- the first of records in order are in order
pub front_placed : (order : Order) (front rest : List Feature) → ArePlaced order (intervals_of (front ++ rest)) → ArePlaced order (intervals_of front)
front_placed order front rest placed = grind (arith, placed_prefix, map-append)

-- the last of records lies where the last of their intervals does
pub last_lies : (a : Feature) (more : List Feature) → last_from (interval_of a) (intervals_of more) ≡ interval_of (last_after a more)
last_lies a [] = refl
last_lies a (next ∷ more) = last_lies next more

last_after-push : (a : Feature) (more : List Feature) (b : Feature) → last_after a (more ++ b ∷ []) ≡ b
last_after-push a [] b = refl
last_after-push a (next ∷ more) b = last_after-push next more b

pub last_given-push : (past : List Feature) (a : Feature) → last_given (past ++ a ∷ []) ≡ Some a
last_given-push [] a = refl
last_given-push (p ∷ past) a = ap (λ (x : Feature). last_given (x ∷ [])) (last_after-push p past a)

-- the next record is on the chromosome of the last, or on one that comes anew
pub next_lies : (order : Order) (q : Feature) (qs : List Feature) (a : Feature) → IsTotal order → ArePlaced order (intervals_of (q ∷ qs ++ a ∷ []))
    → ((a.chrom ≡ (last_after q qs).chrom) × ((last_after q qs).start ≤ a.start)) ⊎ (has_records a.chrom (intervals_of (q ∷ qs)) ≡ false)
next_lies order q qs a total placed =
    let apart : ArePlaced order (intervals_of (q ∷ qs) ++ interval_of a ∷ []) = subst (ArePlaced order) (map-append interval_of (q ∷ qs) (a ∷ [])) placed in
    grind (arith, (last_lies q qs), (next_place (interval_of q) (intervals_of qs) (interval_of a) (placed_contiguous order (intervals_of (q ∷ qs) ++ interval_of a ∷ []) total apart)))

-- the last record is one of them
pub last_is_there : (q : Feature) (qs : List Feature) → has_records (last_after q qs).chrom (intervals_of (q ∷ qs)) ≡ true
last_is_there q qs = grind (arith, (last_lies q qs), (has_records-last (interval_of q) (intervals_of qs)))

-- Lemmas on a limit on how many records are held.

-- fewer than are allowed
pub within_less : (limit : Option ℕ) (more less : ℕ) → less ≤ more → IfSome limit (λ most. more ≤ most) → IfSome limit (λ most. less ≤ most)
within_less limit more less h within = grind arith

passed_less : (c : Bool) (x : Feature) (xs : List Feature) (count : ℕ) → length xs ≤ count → length (cond c (x ∷ xs) xs) ≤ suc count
passed_less c x xs count h = grind arith

pub filter_less : (test : Feature → Bool) (xs : List Feature) → length (filter test xs) ≤ length xs
filter_less test [] = omega arith
filter_less test (x ∷ xs) = passed_less (test x) x (filter test xs) (length xs) (filter_less test xs)

cond_less : (c : Bool) (xs : List Feature) (count : ℕ) → length xs ≤ count → length (cond c xs []) ≤ count
cond_less c xs count h = grind arith

-- a record of the first input makes no more be held
pub held_less : (held : List Feature) (a : Feature) → length (held_with held a) ≤ length held
held_less held a = cond_less (are_on held a.chrom) (filter (λ b. ltb a.start b.stop) held) (length held) (filter_less (λ b. ltb a.start b.stop) held)

-- with one more, for which there is room if it has to be held
pub within_more : (limit : Option ℕ) (a b : Feature) (held : List Feature) → (is_held a b ≡ true → has_room limit (length held) ≡ true) → IfSome limit (λ most. length held ≤ most)
    → IfSome limit (λ most. length (held ++ filter (is_held a) (b ∷ [])) ≤ most)
within_more limit a b held room within = grind (arith, length-append)

-- after prefixes that aren't too many
pub cut_past : (too_many : List Feature → Bool) (before past more : List (Member Feature)) (fault : Option FaultValue)
    → ((front : List (Member Feature)) (m : Member Feature) (rest : List (Member Feature)) → past ≡ front ++ m ∷ rest → too_many (map (λ m. m.item) (before ++ (front ++ m ∷ []))) ≡ false)
    → up_to_too_many too_many before (past ++ more) fault ≡ up_to_too_many too_many (before ++ past) more fault
cut_past too_many before [] more fault few = ap (λ l. up_to_too_many too_many l more fault) (sym (append-nil before))
cut_past too_many before (m ∷ past) more fault few =
    let here : too_many (map (λ m. m.item) (before ++ m ∷ [])) ≡ false = few [] m past refl in
    ap (λ b. if b then record { members = before ++ m ∷ []; fault = Some (fault_at_line Second m.line TooManyHeld) } else up_to_too_many too_many (before ++ m ∷ []) (past ++ more) fault) here
    ∙ cut_past too_many (before ++ m ∷ []) past more fault
    (λ front n rest e. ap (λ l. too_many (map (λ m. m.item) l)) (append_assoc before (m ∷ []) (front ++ n ∷ [])) ∙ few (m ∷ front) n rest (ap (λ l. m ∷ l) e))
    ∙ ap (λ l. up_to_too_many too_many l more fault) (append_assoc before (m ∷ []) past)

-- at the first with which they are
pub cut_here : (too_many : List Feature → Bool) (past more : List (Member Feature)) (m : Member Feature) (fault : Option FaultValue) → too_many (map (λ m. m.item) (past ++ m ∷ [])) ≡ true
    → up_to_too_many too_many past (m ∷ more) fault ≡ record { members = past ++ m ∷ []; fault = Some (fault_at_line Second m.line TooManyHeld) }
cut_here too_many past more m fault many = grind (arith)

keeps_by : (c : Bool) (cut on : Good Feature) (past : List (Member Feature)) (m : Member Feature) → cut.members ≡ past ++ m ∷ [] → (rest : List (Member Feature)) × (on.members ≡ (past ++ m ∷ []) ++ rest)
    → (rest : List (Member Feature)) × ((if c then cut else on).members ≡ (past ++ m ∷ []) ++ rest)
keeps_by true cut on past m e f = ([], e ∙ sym (append-nil (past ++ m ∷ [])))
keeps_by false cut on past m e f = f

-- past one with which they aren't
pub cut_on : (too_many : List Feature → Bool) (past more : List (Member Feature)) (m : Member Feature) (fault : Option FaultValue) → too_many (map (λ m. m.item) (past ++ m ∷ [])) ≡ false
    → up_to_too_many too_many past (m ∷ more) fault ≡ up_to_too_many too_many (past ++ m ∷ []) more fault
cut_on too_many past more m fault few = grind (arith)

front_by : (c : Bool) (cut on : Good Feature) (past more : List (Member Feature)) (m : Member Feature) → cut.members ≡ past ++ m ∷ [] → (rest : List (Member Feature)) × ((past ++ m ∷ []) ++ more ≡ on.members ++ rest)
    → (rest : List (Member Feature)) × (past ++ m ∷ more ≡ (if c then cut else on).members ++ rest)
front_by true cut on past more m e f = (more, sym (append_assoc past (m ∷ []) more) ∙ ap (λ l. l ++ more) (sym e))
front_by false cut on past more m e f = (f.0, sym (append_assoc past (m ∷ []) more) ∙ f.1)

-- what is left comes first
pub cut_front : (too_many : List Feature → Bool) (past more : List (Member Feature)) (fault : Option FaultValue) → (rest : List (Member Feature)) × (past ++ more ≡ (up_to_too_many too_many past more fault).members ++ rest)
cut_front too_many past [] fault = ([], refl)
cut_front too_many past (m ∷ more) fault = grind (arith, (cut_front too_many (past ++ m ∷ []) more fault), front_by)

-- whatever comes after them, members stay
pub cut_keeps : (too_many : List Feature → Bool) (past more : List (Member Feature)) (fault : Option FaultValue) → (rest : List (Member Feature)) × ((up_to_too_many too_many past more fault).members ≡ past ++ rest)
cut_keeps too_many past [] fault = ([], sym (append-nil past))
cut_keeps too_many past (m ∷ more) fault =
    let keeps = keeps_by (too_many (map (λ m. m.item) (past ++ m ∷ []))) (record { members = past ++ m ∷ []; fault = Some (fault_at_line Second m.line TooManyHeld) }) (up_to_too_many too_many (past ++ m ∷ []) more fault) past m refl
    (cut_keeps too_many (past ++ m ∷ []) more fault) in
    (m ∷ keeps.0, keeps.1 ∙ append_assoc past (m ∷ []) keeps.0)

-- and so does the next of them
pub cut_next : (too_many : List Feature → Bool) (past more : List (Member Feature)) (m : Member Feature) (fault : Option FaultValue) → (rest : List (Member Feature)) × ((up_to_too_many too_many past (m ∷ more) fault).members ≡ (past ++ m ∷ []) ++ rest)
cut_next too_many past more m fault =
    keeps_by (too_many (map (λ m. m.item) (past ++ m ∷ []))) (record { members = past ++ m ∷ []; fault = Some (fault_at_line Second m.line TooManyHeld) }) (up_to_too_many too_many (past ++ m ∷ []) more fault) past m refl
    (cut_keeps too_many (past ++ m ∷ []) more fault)

-- if none is too many, nothing is cut
pub cut_none : (too_many : List Feature → Bool) (past more : List (Member Feature)) (fault : Option FaultValue)
    → ((front : List (Member Feature)) (m : Member Feature) (rest : List (Member Feature)) → more ≡ front ++ m ∷ rest → too_many (map (λ m. m.item) (past ++ (front ++ m ∷ []))) ≡ false)
    → up_to_too_many too_many past more fault ≡ record { members = past ++ more; fault = fault }
cut_none too_many past more fault few = ap (λ l. up_to_too_many too_many past l fault) (sym (append-nil more)) ∙ cut_past too_many past more [] fault few

-- nothing is held for no record
pub none_many : (most : ℕ) → nat_lt most 0 ≡ false
none_many most = le-ltb most 0 (omega arith)

module _ (order : Order) (most : ℕ) (second : List Feature) where
  abbrev opens : Feature → Bool
  opens x = not (decided order x second)

  -- the first that is undecided
  pub open_here : (before after : List Feature) (a : Feature) → list_all (λ x. decided order x second) before ≡ true → decided order a second ≡ false → first_open order (before ++ a ∷ after) second ≡ Some a
  open_here [] after a all undecided = ap (λ b. cond (not b) (Some a) (find opens after)) undecided
  open_here (x ∷ before) after a all undecided =
      let parts = and_parts (decided order x second) (list_all (λ x. decided order x second) before) all in
      ap (λ b. cond (not b) (Some x) (find opens (before ++ a ∷ after))) parts.0 ∙ open_here before after a parts.1 undecided

  -- if all are decided, there is none
  pub open_none : (first : List Feature) → list_all (λ x. decided order x second) first ≡ true → first_open order first second ≡ None
  open_none [] all = refl
  open_none (x ∷ first) all =
      let parts = and_parts (decided order x second) (list_all (λ x. decided order x second) first) all in
      ap (λ b. cond (not b) (Some x) (find opens first)) parts.0 ∙ open_none first parts.1

  -- how many are held for it says whether they are too many
  pub many_by : (before after : List Feature) (a : Feature) → list_all (λ x. decided order x second) before ≡ true → decided order a second ≡ false
      → are_too_many order most (before ++ a ∷ after) second ≡ nat_lt most (length (filter (is_held a) second))
  many_by before after a all undecided = ap (λ o. nat_lt most (length (held_for o second))) (open_here before after a all undecided)

  pub few_decided : (first : List Feature) → list_all (λ x. decided order x second) first ≡ true → are_too_many order most first second ≡ false
  few_decided first all = ap (λ o. nat_lt most (length (held_for o second))) (open_none first all) ∙ none_many most

-- Lemmas on intersect as a meeting.

all_decided : (order : Order) (shape : Shape) (rule : HitRule) (first second : List Feature) → list_all (sweep_rule order shape rule second None).decided first ≡ true
all_decided order shape rule [] second = refl
all_decided order shape rule (a ∷ first) second = all_decided order shape rule first second

pub faultless_all : faultless_are_all
faultless_all order shape rule first second fault =
    grind (arith, (all_written (sweep_rule order shape rule second None) first (all_decided order shape rule first second)))

pub left_at : left_are_lines
unfolding lines_for
left_at = grind arith

pub subtract_met : subtract_is_met
subtract_met order whole rule first second fault = faultless_all order (subtract_shape whole) rule first second fault ∙ (grind (arith, left_at))
