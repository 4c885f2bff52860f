-- What intersect and subtract write of inputs of two parts.
use Rattle.bt_lines.proofs.Std.{common_steps, arith, ◌≡◌, ℕ, Bool, true, false, ◌||◌, cond, List, [], ◌∷◌, ◌++◌, append-nil, append_assoc, Option, Some, None, inl, inr, ◌⊎◌, refl, sym, ap, ap₂, ◌∙◌, IsTrue, bytes_eq, flat_map, AllByRecursion, list_all, list_any, take_while, flat_map-append, filter-append, take_while-cons}
use Rattle.std.specs.declared.cmp.Ordering.TheVariants.{Less}
use Rattle.bt_sweep.proofs.lemmas.definitions.HitLemmas.{apart_misses}
use Rattle.bt_lines.specs.model.Fault.{FaultValue}
use Rattle.bt_bed.specs.model.Feature.{Feature}
use Rattle.bt_bed.specs.model.Meeting.{Rule, join_report, written, Report}
use Rattle.bt_bed.specs.model.Order.{Order}
use Rattle.bt_bed.specs.calls.Orders.{IsTotal}
use Rattle.bt_bed.proofs.lemmas.Definitions.{met_output, written_past}
use Rattle.bt_sweep.specs.model.Hits.{decided, decides}
use Rattle.bt_sweep.specs.model.Lines.{intersect, lines_for, sweep_rule}
use Rattle.bt_sweep.specs.declared.hits.hit_rule.HitRule.{HitRule}
use Rattle.bt_sweep.specs.declared.output.shape.Shape.{Shape}
use Rattle.bt_laws.specs.Parts.{unless_fault}
use Rattle.bt_laws.proofs.lemmas.parts.PartLines.{Earlier}
use Rattle.bt_runs.proofs.lemmas.Lists.{all_any, all_so, all_swapped, all_zip, filter_none, flat_map_same, none_from}
use Rattle.bt_laws.proofs.lemmas.parts.PartReports.{Stops, Contiguous, Joins}

-- ---- lists up to the first that fails a test

pub take_none : {A : Type 0} (t : A → Bool) (xs : List A) → AllByRecursion (λ x. t x ≡ false) xs → take_while t xs ≡ []
take_none t xs h = grind arith

take_before : {A : Type 0} (t : A → Bool) (xs ys : List A) → AllByRecursion (λ y. t y ≡ false) ys → take_while t (xs ++ ys) ≡ take_while t xs
take_before t [] ys h = take_none t ys h
take_before t (x ∷ xs) ys h = grind (arith, (take_while-cons t x (xs ++ ys)), cond, (take_before t xs ys h), (take_while-cons t x xs))

pub take_same : {A : Type 0} (t u : A → Bool) (xs : List A) → AllByRecursion (λ x. t x ≡ u x) xs → take_while t xs ≡ take_while u xs
take_same t u [] h = refl
take_same t u (x ∷ xs) h = grind (arith, (take_while-cons t x xs), cond, (take_same t u xs h.1), (take_while-cons u x xs))

front_by : {A : Type 0} (l : A → List ℕ) (x : A) (xs kept : List A) (b : Bool) → (rest : List ℕ) × (flat_map l xs ≡ flat_map l kept ++ rest) → (rest : List ℕ) × (flat_map l (x ∷ xs) ≡ flat_map l (cond b (x ∷ kept) []) ++ rest)
front_by l x xs kept true more = grind (arith, append_assoc)
front_by l x xs kept false more = (flat_map l (x ∷ xs), refl)

pub take_front : {A : Type 0} (t : A → Bool) (l : A → List ℕ) (xs : List A) → (rest : List ℕ) × (flat_map l xs ≡ flat_map l (take_while t xs) ++ rest)
take_front t l [] = ([], refl)
take_front t l (x ∷ xs) = grind (arith, (front_by l x xs (take_while t xs) (t x) (take_front t l xs)), (take_while t xs), (take_front t l xs), (take_while-cons t x xs))

pub all_true : {A : Type 0} (t : A → Bool) (xs : List A) → AllByRecursion (λ x. t x ≡ true) xs → list_all t xs ≡ true
all_true t [] h = refl
all_true t (x ∷ xs) h = grind (arith, (all_true t xs h.1))

pub any_behind : {A : Type 0} (t : A → Bool) (xs ys : List A) → AllByRecursion (λ x. t x ≡ false) xs → list_any t (xs ++ ys) ≡ list_any t ys
any_behind t [] ys h = refl
any_behind t (x ∷ xs) ys h = grind (arith, (any_behind t xs ys h.1))

pub written_same : {A : Type 0} (mine yours : Rule A) (xs : List A) → AllByRecursion (λ x. (mine.decided x ≡ yours.decided x) × (mine.lines x ≡ yours.lines x)) xs → written mine xs ≡ written yours xs
written_same mine yours xs h = grind (arith, take_same, all_so, flat_map_same, common_steps)

pub written_before : {A : Type 0} (rule : Rule A) (xs ys : List A) → AllByRecursion (λ y. rule.decided y ≡ false) ys → written rule (xs ++ ys) ≡ written rule xs
written_before rule xs ys h = grind (arith, take_before)

-- What is written of the members of both parts begins this: the lines of the first, and what is written of the second.
-- For all of the first are decided, or none of the second.
pub meets : {A : Type 0} (one whole : Rule A) (xs ys : List A) (later : List ℕ) → AllByRecursion (λ x. whole.lines x ≡ one.lines x) xs → written whole ys ≡ later
    → (list_all whole.decided xs ≡ true) ⊎ AllByRecursion (λ y. whole.decided y ≡ false) ys → (rest : List ℕ) × (flat_map one.lines xs ++ later ≡ written whole (xs ++ ys) ++ rest)
meets one whole xs ys later same is (inl all) = grind (arith, written_past, flat_map_same, append-nil)
meets one whole xs ys later same is (inr none) = grind (arith, append-nil, (take_front whole.decided whole.lines xs), (written_before whole xs ys none), (flat_map_same whole.lines one.lines xs same), (take_none whole.decided ys none))

-- ---- what decides, and what hits

module _ (shape : Shape) (rule : HitRule) where
  pub lines_first : (a : Feature) (bones btwos : List Feature) → AllByRecursion (λ b. bytes_eq a.chrom b.chrom ≡ false) btwos → lines_for shape rule a (bones ++ btwos) ≡ lines_for shape rule a bones
  unfolding lines_for
  lines_first a bones btwos h = grind (arith, filter-append, filter_none, all_so, apart_misses, append-nil)

  pub lines_second : (a : Feature) (bones btwos : List Feature) → AllByRecursion (λ b. bytes_eq a.chrom b.chrom ≡ false) bones → lines_for shape rule a (bones ++ btwos) ≡ lines_for shape rule a btwos
  unfolding lines_for
  lines_second a bones btwos h = grind (arith, filter-append, filter_none, all_so, apart_misses)

-- ---- the faults of a meeting

module _ (order : Order) (shape : Shape) (rule : HitRule) where
  -- the report on records and their faults
  abbrev pub sweep_report : List Feature → Option FaultValue → List Feature → Option FaultValue → Report
  sweep_report given fa bs fb = (join_report (sweep_rule order shape rule bs fb) given fa)

  decided_none : (bs given : List Feature) → list_all (sweep_rule order shape rule bs None).decided given ≡ true
  decided_none bs [] = refl
  decided_none bs (a ∷ given) = decided_none bs given

  fault_none : (given : List Feature) (fa : Option FaultValue) (bs : List Feature) → (sweep_report given fa bs None).fault ≡ fa
  fault_none given fa bs = grind (arith, decided_none)

  pub report_none : (given : List Feature) (fa : Option FaultValue) (bs : List Feature) (fb : Option FaultValue) → (sweep_report given fa bs fb).fault ≡ None → (fa ≡ None) × (fb ≡ None)
  report_none given fa bs fb e = grind (arith, fault_none)

  lines_none : (given : List Feature) (fa : Option FaultValue) (bs : List Feature) → (sweep_report given fa bs None).output ≡ intersect shape rule given bs
  lines_none given fa bs = grind (arith, decided_none)

-- the records of the second part, beside those of the first
pub record AreSplit (order : Order) (total : IsTotal order) (aones atwos bones btwos : List Feature) : Type 0 where
  pub known : AllByRecursion (λ r. IsTrue (order.knows r.chrom)) btwos
  pub known_first : AllByRecursion (λ r. IsTrue (order.knows r.chrom)) aones
  pub first_second : Earlier order total aones btwos
  pub second_first : Earlier order total bones atwos
  pub apart_first : AllByRecursion (λ a. AllByRecursion (λ b. bytes_eq a.chrom b.chrom ≡ false) btwos) aones
  pub apart_second : AllByRecursion (λ a. AllByRecursion (λ b. bytes_eq a.chrom b.chrom ≡ false) bones) atwos

module _ {order : Order} {total : IsTotal order} (shape : Shape) (rule : HitRule) {aones atwos bones btwos : List Feature} (split : AreSplit order total aones atwos bones btwos) where
  none_second : AllByRecursion (λ a. AllByRecursion (λ b. decides order a b ≡ false) bones) atwos
  none_second = grind (arith, all_so, (all_swapped (λ b a. order.compare b.chrom a.chrom ≡ Less) bones atwos split.second_first))

  -- the first of the others decides all before it
  first_decided : (b : Feature) (bs : List Feature) → btwos ≡ b ∷ bs → AllByRecursion (λ a. decided order a (bones ++ btwos) ≡ true) aones
  first_decided b bs e =
      all_zip (λ r. IsTrue (order.knows r.chrom)) (λ r. AllByRecursion (λ s. order.compare r.chrom s.chrom ≡ Less) btwos)
      (λ a. decided order a (bones ++ btwos) ≡ true) aones (λ a known less. grind (arith, common_steps)) split.known_first split.first_second

  module _ (fa1 fa2 fa fb1 fb2 fb : Option FaultValue) (all bs : List Feature) (ja : Contiguous fa1 fa2 fa aones atwos all) (jb : Contiguous fb1 fb2 fb bones btwos bs) where
    abbrev One : Report
    One = sweep_report order shape rule aones fa1 bones fb1

    abbrev Two : Report
    Two = sweep_report order shape rule atwos fa2 btwos fb2

    abbrev Whole : Report
    Whole = sweep_report order shape rule all fa bs fb

  -- if the second input of the first part is at fault, nothing after it is written
  module _ (f : FaultValue) (fa1 fa2 fa fb2 fb : Option FaultValue) (all bs : List Feature) (ja : Contiguous fa1 fa2 fa aones atwos all) (jb : Contiguous (Some f) fb2 fb bones btwos bs) where
    written_one : (fa1 : Option FaultValue) → Contiguous fa1 fa2 fa aones atwos all → written (sweep_rule order shape rule bones (Some f)) all ≡ written (sweep_rule order shape rule bones (Some f)) aones
    written_one None j = grind (arith, (written_before (sweep_rule order shape rule bones (Some f)) aones atwos (all_so _ _ atwos (λ a h. none_from (decides order a) bones h) none_second)))
    written_one (Some g) j = grind arith

    stops_second : Stops (sweep_report order shape rule aones fa1 bones (Some f)) (sweep_report order shape rule atwos fa2 btwos fb2) (sweep_report order shape rule all fa bs fb)
    stops_second = grind (arith, (met_output (sweep_rule order shape rule bones (Some f)) aones fa1), (written_one fa1 ja), (met_output (sweep_rule order shape rule bs fb) all fa))

  module _ (fa1 fa2 fa fb2 fb : Option FaultValue) (all bs : List Feature) (ja : Contiguous fa1 fa2 fa aones atwos all) (jb : Contiguous None fb2 fb bones btwos bs) where
    abbrev Rule-of-both : Rule Feature
    Rule-of-both = sweep_rule order shape rule bs fb

    first_same : AllByRecursion (λ a. Rule-of-both.lines a ≡ lines_for shape rule a bones) aones
    first_same = grind (arith, all_so, lines_first)

    second_same : written Rule-of-both atwos ≡ written (sweep_rule order shape rule btwos fb2) atwos
    second_same =
        let own = sweep_rule order shape rule btwos fb2 in
        written_same Rule-of-both own atwos
        (all_zip (λ a. AllByRecursion (λ b. decides order a b ≡ false) bones) (λ a. AllByRecursion (λ b. bytes_eq a.chrom b.chrom ≡ false) bones)
        (λ a. (Rule-of-both.decided a ≡ own.decided a) × (Rule-of-both.lines a ≡ own.lines a)) atwos
        (λ a h k. (
          ap₂ (λ b d. b || d) jb.1 (ap (decided order a) jb.0 ∙ any_behind (decides order a) bones btwos h),
          ap (lines_for shape rule a) jb.0 ∙ lines_second shape rule a bones btwos k,
        )) none_second split.apart_second)

    -- all of the first part is decided, or nothing of the second part is
    either : (g : Option FaultValue) → fb2 ≡ g → (ts : List Feature) → btwos ≡ ts → (list_all Rule-of-both.decided aones ≡ true) ⊎ AllByRecursion (λ a. Rule-of-both.decided a ≡ false) atwos
    either None e ts d = grind (arith, all_true, all_any)
    either (Some g) e (b ∷ rest) d = grind (arith, all_true, all_so, first_decided)
    either (Some g) e [] d = grind (arith, all_so, any_behind, none_second)

    abbrev Ends : Type 0
    Ends = Stops (sweep_report order shape rule aones fa1 bones None) (sweep_report order shape rule atwos fa2 btwos fb2) (sweep_report order shape rule all fa bs fb)

    ends : (g : Option FaultValue) → fa1 ≡ g → (ys : List Feature) (later : List ℕ) → unless_fault g (sweep_report order shape rule atwos fa2 btwos fb2).output ≡ later → all ≡ aones ++ ys → written Rule-of-both ys ≡ later
        → (list_all Rule-of-both.decided aones ≡ true) ⊎ AllByRecursion (λ a. Rule-of-both.decided a ≡ false) ys → Ends
    ends g e ys later f is same met = grind (arith, (meets (sweep_rule order shape rule bones None) Rule-of-both aones ys later first_same same met), (lines_none order shape rule aones fa1 bones), (fault_none order shape rule aones fa1 bones), (met_output Rule-of-both all fa))

    stops_by : (g : Option FaultValue) → fa1 ≡ g → Ends
    stops_by None e = ends None e atwos _ refl (grind arith) (second_same ∙ sym (met_output (sweep_rule order shape rule btwos fb2) atwos fa2)) (either fb2 refl btwos refl)
    stops_by (Some g) e = ends (Some g) e [] [] refl (grind (arith, append-nil)) refl (inr tt)

  pub sweep_stops : (fa1 fa2 fa fb1 fb2 fb : Option FaultValue) (all bs : List Feature) → Contiguous fa1 fa2 fa aones atwos all → Contiguous fb1 fb2 fb bones btwos bs
      → Stops (sweep_report order shape rule aones fa1 bones fb1) (sweep_report order shape rule atwos fa2 btwos fb2) (sweep_report order shape rule all fa bs fb)
  sweep_stops fa1 fa2 fa None fb2 fb all bs ja jb = stops_by fa1 fa2 fa fb2 fb all bs ja jb fa1 refl
  sweep_stops fa1 fa2 fa (Some f) fb2 fb all bs ja jb = stops_second f fa1 fa2 fa fb2 fb all bs ja jb

  pub sweep_joins : (fa1 fa2 fa fb1 fb2 fb : Option FaultValue) (all bs : List Feature) → Contiguous fa1 fa2 fa aones atwos all → Contiguous fb1 fb2 fb bones btwos bs
      → Joins (sweep_report order shape rule aones fa1 bones fb1) (sweep_report order shape rule atwos fa2 btwos fb2) (sweep_report order shape rule all fa bs fb)
  sweep_joins fa1 fa2 fa fb1 fb2 fb all bs ja jb = grind (arith, fault_none, flat_map-append, flat_map_same, all_so, lines_first, lines_second, lines_none, sweep_stops)
