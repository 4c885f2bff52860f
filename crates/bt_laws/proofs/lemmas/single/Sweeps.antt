-- Lemmas on what a sweep decides, takes and writes.
use Rattle.bt_lines.proofs.Std.{arith, false, List, [], ◌∷◌, ◌++◌, Option, refl, sym, ◌∙◌, not, ◌||◌, ap, AllByRecursion, list_any-append, inl, inr, ◌≡◌, Bool, true, cond, append_assoc, IsTrue, list_all, take_while, and_parts, or_from, cases_Bool, take_while-cons, ℕ, Some, filter, length, map, nat_lt, find, false≢true, and_from, lt-ltb, ltb-true}
use Rattle.bt_lines.specs.model.Fault.{FaultValue}
use Rattle.bt_bed.specs.model.Feature.{Feature, intervals_of}
use Rattle.bt_bed.specs.model.BedLine.{fault_at_line}
use Rattle.bt_bed.specs.calls.Orders.{ArePlaced, IsTotal}
use Rattle.bt_bed.specs.model.Order.{Order}
use Rattle.bt_laws.proofs.lemmas.single.Records.{written_begins}
use Rattle.bt_sweep.specs.model.Hits.{decided, decides, is_hit, strands_agree, are_too_many, up_to_too_many, held_for, is_held, within_limit}
use Rattle.bt_sweep.specs.model.Lines.{sweep_rule, intersect, intersect_met}
use Rattle.bt_sweep.specs.declared.hits.hit_rule.HitRule.{HitRule}
use Rattle.bt_sweep.specs.declared.output.shape.Shape.{Shape}
use Rattle.bt_sweep.proofs.lemmas.definitions.HitLemmas.{stay_lines, enough_of_nothing, front_placed, later_decide, cut_here, cut_none, cut_past, many_by, none_many}
use Rattle.bt_laws.specs.Records.{StaysDecided}
use Rattle.bt_laws.specs.Sweeps.{both_of_nothing, decided_stays, early_rule, written_are_a_prefix, taken_are_first, HoldsEnough, HoldsTooMany, limit_is_kept, limit_stops, quiet_are_taken}
use Rattle.bt_sweep.proofs.lemmas.Output.{only_one}
use Rattle.bt_sweep.specs.calls.Sweeping.{leaves_some}
use Rattle.bt_lines.specs.declared.fault.Input.TheVariants.{Second}
use Rattle.bt_lines.specs.declared.fault.Kind.TheVariants.{TooManyHeld}
use Rattle.bt_bed.specs.model.Good.{Good, items_in}
use Rattle.bt_bed.specs.model.Meeting.{Report, join_report}
use Rattle.bt_bed.proofs.lemmas.Definitions.{all_stop, met_fault_stop, met_output, written_stop}

-- Lemmas on what a sweep decides and writes early.

pub stays_decided : decided_stays
stays_decided order a bs more e = grind (arith, list_any-append)

all_stay : (order : Order) (shape : Shape) (rule : HitRule) (first second more : List Feature) (fault : Option FaultValue) → IsTotal order → ArePlaced order (intervals_of first) → ArePlaced order (intervals_of (second ++ more))
    → AllByRecursion (StaysDecided (early_rule order shape rule second) (sweep_rule order shape rule (second ++ more) fault)) first
all_stay order shape rule [] second more fault total known placed = tt
all_stay order shape rule (a ∷ first) second more fault total known placed = grind (arith, stays_decided, stay_lines, (all_stay order shape rule first second more fault total known.2 placed))

pub written_front : written_are_a_prefix
written_front order shape rule first more_first second more_second first_fault second_fault total known placed =
    written_begins (early_rule order shape rule second) (sweep_rule order shape rule (second ++ more_second) second_fault) first more_first first_fault (all_stay order shape rule first second more_second second_fault total known placed)

pub of_nothing : both_of_nothing
unfolding is_hit strands_agree
of_nothing = grind (arith, enough_of_nothing)

-- The records taken are those before the first that decides all that was given.

last_of_some : (order : Order) (a : Feature) (taken : List Feature) (b : Feature) → IsTotal order → IsTrue (order.knows a.chrom) → ArePlaced order (intervals_of (taken ++ b ∷ [])) → decided order a (taken ++ b ∷ []) ≡ true → decides order a b ≡ true
last_of_some order a taken b total ka placed some =
    elim (cases_Bool (decided order a taken)) [
      | inl early ↦ (and_parts (decides order a b) true (later_decide order a taken (b ∷ []) total ka placed early)).0
      | inr late ↦ only_one (decides order a b) (ap (λ c. c || (decides order a b || false)) (sym late) ∙ sym (list_any-append (decides order a) taken (b ∷ [])) ∙ some)
    ]

leaves_none : (order : Order) (given taken : List Feature) (b : Feature) → IsTotal order → ArePlaced order (intervals_of given) → ArePlaced order (intervals_of (taken ++ b ∷ [])) → list_all (λ a. decided order a (taken ++ b ∷ [])) given ≡ true → leaves_some order given b ≡ false
leaves_none order [] taken b total pg pb all = refl
leaves_none order (a ∷ given) taken b total pg pb all =
    let parts = and_parts (decided order a (taken ++ b ∷ [])) (list_all (λ a. decided order a (taken ++ b ∷ [])) given) all in
    or_from (not (decides order a b)) (leaves_some order given b) (ap not (last_of_some order a taken b total pg.0 pb parts.0)) (leaves_none order given taken b total pg.2 pb parts.1)

module _ (p : Feature → Bool) (b : Feature) (more : List Feature) (stops : p b ≡ false) where
  before_stop : (xs : List Feature) → list_all p xs ≡ true → take_while p (xs ++ b ∷ more) ≡ xs
  before_stop [] all = grind arith
  before_stop (x ∷ xs) all = grind (arith, (take_while-cons p x (xs ++ b ∷ more)), (before_stop xs (and_parts (p x) (list_all p xs) all).1))

pub first_taken : taken_are_first
first_taken order given taken more next total pg placed reached all = grind (arith, front_placed, (append_assoc taken (next ∷ []) more), before_stop, leaves_none)

-- Lemmas on a limit on how many records are held.

module _ (order : Order) (most : ℕ) (second : List Feature) where
  abbrev opens : Feature → Bool
  opens x = not (decided order x second)

  abbrev Found : List Feature → Type 0
  Found first = (before : List Feature) × (after : List Feature) × (a : Feature) × (first ≡ before ++ a ∷ after) × HoldsTooMany order most before a second

  found_more : (x : Feature) (first : List Feature) → decided order x second ≡ true → Found first → Found (x ∷ first)
  found_more x first e found = (
    x ∷ found.0,
    found.1,
    found.2,
    ap (λ l. x ∷ l) found.3,
    record { decided_before = and_from (decided order x second) (list_all (λ x. decided order x second) found.0) e found.4.decided_before; undecided = found.4.undecided; many = found.4.many },
  )

  found_at : (c : Bool) (x : Feature) (first : List Feature) → decided order x second ≡ c → nat_lt most (length (held_for (cond (not c) (Some x) (find opens first)) second)) ≡ true
      → (are_too_many order most first second ≡ true → Found first) → Found (x ∷ first)
  found_at true x first e many rest = found_more x first e (rest many)
  found_at false x first e many rest = ([], first, x, refl, record { decided_before = refl; undecided = e; many = ltb-true most (length (filter (is_held x) second)) many })

  -- if they are too many, there is a record for which they are
  too_many_for : (first : List Feature) → are_too_many order most first second ≡ true → Found first
  too_many_for [] many = absurd (false≢true (sym (none_many most) ∙ many))
  too_many_for (x ∷ first) many = grind (arith, (too_many_for first), found_at)

  pub enough_few : (first : List Feature) → HoldsEnough order most first second → are_too_many order most first second ≡ false
  enough_few first enough = grind (arith, too_many_for)

pub limit_kept : limit_is_kept
limit_kept order most first second enough =
    cut_none (are_too_many order most first) [] second.members second.fault
    (λ front m rest e. enough_few order most (map (λ m. m.item) (front ++ m ∷ [])) first (enough (front ++ m ∷ []) rest (e ∙ sym (append_assoc front (m ∷ []) rest))))

met_is : (met : Report) (output : List ℕ) (fault : Option FaultValue) → met.output ≡ output → met.fault ≡ fault → met ≡ record { output = output; fault = fault }
met_is met lines fault e f = grind arith

-- if a record is undecided, and the second input has a fault
met_stops : (order : Order) (shape : Shape) (rule : HitRule) (first second : Good Feature) (before after : List Feature) (a : Feature) (fault : FaultValue) → items_in first ≡ before ++ a ∷ after → second.fault ≡ Some fault
    → list_all (λ x. decided order x (items_in second)) before ≡ true → decided order a (items_in second) ≡ false
    → intersect_met order shape rule first second ≡ record { output = intersect shape rule before (items_in second); fault = Some fault }
met_stops order shape rule first second before after a fault is told all undecided =
    let early = sweep_rule order shape rule (items_in second) (Some fault) in
    let made : intersect_met order shape rule first second ≡ join_report early (before ++ a ∷ after) first.fault =
    ap (λ (o : Option FaultValue). join_report (sweep_rule order shape rule (items_in second) o) (items_in first) first.fault) told ∙ ap (λ l. join_report early l first.fault) is in
    made
    ∙ met_is (join_report early (before ++ a ∷ after) first.fault) (intersect shape rule before (items_in second)) (Some fault)
    (met_output early (before ++ a ∷ after) first.fault ∙ written_stop early before a after all undecided)
    (met_fault_stop early (before ++ a ∷ after) first.fault (all_stop early before a after undecided))

pub limit_stopped : limit_stops
limit_stopped order shape rule most first second before after a past more m is members enough many =
    let all = items_in first in
    let too_many = are_too_many order most all in
    let here : List Feature = map (λ m. m.item) (past ++ m ∷ []) in
    let fault = fault_at_line Second m.line TooManyHeld in
    let is_many : too_many here ≡ true =
    ap (λ l. are_too_many order most l here) is ∙ many_by order most here before after a many.decided_before many.undecided ∙ lt-ltb most (length (filter (is_held a) here)) many.many in
    let cut : within_limit order (Some most) all second ≡ record { members = past ++ m ∷ []; fault = Some fault } =
    ap (λ l. up_to_too_many too_many [] l second.fault) members
    ∙ cut_past too_many [] past (m ∷ more) second.fault
    (λ front n rest e. enough_few order most (map (λ m. m.item) (front ++ n ∷ [])) all (enough (front ++ n ∷ []) rest (e ∙ sym (append_assoc front (n ∷ []) rest))))
    ∙ cut_here too_many past more m second.fault is_many in
    ap (intersect_met order shape rule first) cut
    ∙ met_stops order shape rule first (record { members = past ++ m ∷ []; fault = Some fault }) before after a fault is refl many.decided_before many.undecided

-- Records that change nothing but what was taken.

pub quiet_taken : quiet_are_taken
quiet_taken = grind arith
