-- Lemmas on what a reader of records has consumed, in an order of the chromosomes.
use Rattle.bt_lines.proofs.Std.{◌≡◌, ℕ, suc, ◌+◌, ◌<◌, true, false, List, [], ◌∷◌, ◌++◌, length, take, Option, None, Some, Ok, Err, refl, sym, ap, ◌∙◌, subst, append_assoc, append-nil, arith, IfSome, IsTrue, option_map, ForSome, append_cancel_left, map-append, All-push}
use Rattle.bt_lines.specs.declared.device.Source.{Ghosts as Source}
use Rattle.bt_lines.specs.calls.Names.{fault_value}
use Rattle.bt_lines.specs.calls.Reader.{lines_given}
use Rattle.bt_lines.specs.declared.fault.Fault.{Fault}
use Rattle.bt_bed.specs.model.Feature.{Feature, interval_of, intervals_of, Interval, last_of}
use Rattle.bt_bed.specs.model.Good.{Good, Member, bed_format, locus_at}
use Rattle.bt_bed.specs.model.Sorted.{Locus, locus_of, sorting_of}
use Rattle.bt_bed.specs.calls.Orders.{IsUpTo, IsTotal}
use Rattle.bt_bed.specs.model.Order.{Order}
use Rattle.bt_bed.specs.calls.Reading.{AreSaid, BeginsComing, MemberReader, Takes, coming, first_from, members_from, with_members}
use Rattle.bt_bed.specs.calls.Records.{FillsRecords, TakesRecords, buffered_in, view_of}
use Rattle.bt_bed.specs.declared.order.ChromOrder.{Ghosts}
use Rattle.bt_bed.specs.declared.read.records.Records.{Records}
use Rattle.bt_bed.proofs.lemmas.read.batch.RecordsLemmas.{said_behind}
use Rattle.bt_lines.proofs.lemmas.reader.block.ReadsLemmas.{comes_before}
use Rattle.bt_bed.proofs.lemmas.order.OrderLemmas.{last_of-push, grows_placed}
use Rattle.bt_tool.specs.inside.Feed.{AreInOrder, HasTaken}
use Rattle.bt_tool.proofs.lemmas.running.members.MemberLemmas.{IsFilled, IsOver, IsStopped}

-- ---- what is buffered comes next

members_split : {A : Type 0} (from : ℕ) (xs ys : List A) → members_from from (xs ++ ys) ≡ members_from from xs ++ members_from (from + length xs) ys
members_split from [] ys = ap (λ (n : ℕ). members_from n ys) (let none : from ≡ from + 0 = omega arith in none)
members_split {A} from (x ∷ xs) ys = grind (arith, (members_split (suc from) xs ys))

pub comes_next : {A : Type 0} (from given : ℕ) (now next : Good A) (taken left : List A) (m : Member A) → given ≡ from + length taken
    → (more : List (Member A)) × (now.members ≡ members_from from (taken ++ left) ++ more) → now ≡ with_members (members_from from taken) next
    → first_from given left ≡ Some m → (more : List (Member A)) × (next.members ≡ m ∷ more)
comes_next from given now next taken left m at b e f = grind (arith, members_split, append_assoc, append_cancel_left)

-- ---- what a reader of records does, as a reader of members

module _ {S O : Type 0} {ghosts : Ghosts O} (device : Source S) (now new : Records S O ghosts) where
  pub is_filled : FillsRecords device now (Ok true) new → IsFilled device (view_of now) (view_of new)
  is_filled fills = record { m = fills.answers.0; gives = fills.answers.1; kept = fills.kept }

  pub is_over : FillsRecords device now (Ok false) new → IsOver device (view_of now) (view_of new)
  is_over fills = record { ends = fills.answers; kept = fills.kept }

  pub is_stopped : (fault : Fault) → FillsRecords device now (Err fault) new → IsStopped device (view_of now) (fault_value fault) (view_of new)
  is_stopped fault fills = record { answers = fills.answers; kept = fills.kept }

module _ {S State : Type 0} (device : Source S) (now new : MemberReader S Feature State) (records : List Feature) where
  -- records were consumed of those that are buffered
  pub consumed_of : BeginsComing now → Takes device now records new → HasTaken device now records new
  consumed_of comes takes = record {
    takes = takes;
    ahead = λ m is rest follows.
        comes_next (suc (lines_given now.below)) (suc (lines_given new.below)) (coming rest now) (coming rest new) records new.buffered m (omega (arith, takes.given))
        (subst (λ (l : List Feature). (more : List (Member Feature)) × ((coming rest now).members ≡ members_from (suc (lines_given now.below)) l ++ more)) takes.buffered (comes rest (comes_before device takes.hands rest follows)))
        (takes.good rest follows) is;
  }

pub has_taken : {S O : Type 0} {ghosts : Ghosts O} (device : Source S) (now new : Records S O ghosts) (count : ℕ) (records : List Feature) → take count (buffered_in now) ≡ records
    → BeginsComing (view_of now) → TakesRecords device now count new → HasTaken device (view_of now) records (view_of new)
has_taken device now new count records are comes takes =
    consumed_of device (view_of now) (view_of new) records comes (subst (λ (l : List Feature). Takes device (view_of now) l (view_of new)) are takes.takes)

-- ---- the order of records that were consumed

-- what is required of the last place is required of the last record's
pub last_up_to : (last : Option Interval) (P : Locus → Type 0) → IfSome (option_map locus_of last) P → IfSome last (λ r. P (locus_of r))
last_up_to last P h = grind arith

abbrev IsKnownLast : Order → Option Locus → Type 0
IsKnownLast order last = ForSome last (λ place. IsTrue (order.knows place.chrom))

known_record : (order : Order) (r : Feature) → IsTrue (order.knows r.chrom) → IsKnownLast order (Some (locus_at r))
known_record order r known place e = let same : locus_at r ≡ place = cc in subst (λ (place : Locus). IsTrue (order.knows place.chrom)) same known

placed_further : (order : Order) (past records : List Feature) (last : Option Locus) → IsTotal order → IsKnownLast order last → last ≡ option_map locus_of (last_of (intervals_of past))
    → AreInOrder order past → AreSaid (bed_format (sorting_of order)) last records → AreInOrder order (past ++ records)
placed_further order past [] last total known is sorted said = rw (append-nil past) sorted
placed_further order past (r ∷ records) last total known is sorted said =
    let behind = said_behind order last said.0.0.text r total known said.0.1 in
    let pushed : intervals_of (past ++ r ∷ []) ≡ intervals_of past ++ interval_of r ∷ [] = map-append interval_of past (r ∷ []) in
    let next : Some (locus_at r) ≡ option_map locus_of (last_of (intervals_of (past ++ r ∷ []))) =
    ap (option_map locus_of) (sym (last_of-push (intervals_of past) (interval_of r))) ∙ ap (λ l. option_map locus_of (last_of l)) (sym pushed) in
    let above = last_up_to (last_of (intervals_of past)) (λ place. IsUpTo order place (locus_at r)) (subst (λ (s : Option Locus). IfSome s (λ place. IsUpTo order place (locus_at r))) is behind.in_order) in
    let placed = grows_placed order (intervals_of past) (interval_of r) sorted.0 behind.known above in
    let full = All-push (λ r. r.start < r.stop) (intervals_of past) (interval_of r) sorted.1 behind.feature.non_empty in
    grind (arith, (placed_further order (past ++ r ∷ []) records (Some (locus_at r)) total (known_record order r behind.known) next (rw pushed (placed, full)) said.1), append_assoc)

-- records that lines say one after another are in order
pub said_in_order : (order : Order) (records : List Feature) → IsTotal order → AreSaid (bed_format (sorting_of order)) None records → AreInOrder order records
said_in_order order records total said = grind (arith, (placed_further order [] records None total (λ place e. let apart : None ≡ Some place = e in cc) refl (tt, λ k d h. absurd (omega arith)) said))
