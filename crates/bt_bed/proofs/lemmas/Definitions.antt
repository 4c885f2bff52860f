-- Lemmas on the definitions of a good input.
use Rattle.bt_lines.proofs.Std.{rules, ◌≡◌, ℕ, ◌<◌, Bool, true, false, cond, List, [], ◌∷◌, Option, Some, None, Result, Ok, Err, refl, arith, IsTrue, IfSome, All-nil, All-cons, ◌&&◌, ◌++◌, sym, ap, ◌∙◌, append_assoc, flat_map, if◌then◌else◌, list_all, and_parts, and_left, and_right, list_all-append, option_or}
use Rattle.bt_lines.specs.model.Lines.{lines_handed, TextLine}
use Rattle.bt_lines.specs.declared.fault.Input.{Input}
use Rattle.bt_lines.specs.declared.fault.Kind.{Kind}
use Rattle.bt_bed.specs.model.Feature.{Feature, interval_of, intervals_of}
use Rattle.bt_bed.specs.calls.Orders.{AreNonEmpty, good_are_placed, good_are_non_empty, AreInBlocks, IsBlockUpTo, good_are_in_blocks, IsTotal, IsUpTo, ArePlaced, IsPlacedBefore}
use Rattle.bt_bed.specs.model.BedLine.{record_of}
use Rattle.bt_bed.specs.model.Good.{good, Good, good_after, good_with, items_in, bed_format, line_says, locus_at, block_format}
use Rattle.bt_lines.specs.model.Fault.{FaultValue}
use Rattle.bt_bed.specs.model.Meeting.{Rule, Report, join_report, written}
use Rattle.bt_bed.specs.model.Order.{Order}
use Rattle.bt_bed.specs.model.Sorted.{Locus, Sorting, falls_in, sorting_of, block_sorting}
use Rattle.bt_bed.proofs.lemmas.read.good.SaidLemmas.{said_features}
use Rattle.bt_bed.proofs.lemmas.order.OrderLemmas.{sorted_up_to}

-- Lemmas on the good records of a BED input.

-- a record that a line says after the last place: its chromosome is known, and its place doesn't fall
pub record Said (sorting : Sorting) (last : Option Locus) (text : List ℕ) (r : Feature) : Type 0 where
  pub known : IsTrue (sorting.knows r.chrom)
  pub stays : falls_in sorting last (locus_at r) ≡ false
  pub says : record_of text ≡ Ok (Some r)

pub line_said : (sorting : Sorting) (last : Option Locus) (text : List ℕ) (r : Feature) → line_says sorting last text ≡ Ok (Some r) → Said sorting last text r
unfolding line_says
line_said sorting last text r e = grind arith

-- the records come after the last place
abbrev Follow : Order → Option Locus → List Feature → Type 0
Follow order None rs = Unit {0}
Follow order (Some last) [] = Unit {0}
Follow order (Some last) (r ∷ rs) = IsUpTo order last (locus_at r)

-- the records are in order, and after the last place
record Placed (order : Order) (last : Option Locus) (rs : List Feature) : Type 0 where
  placed : ArePlaced order (intervals_of rs)
  behind : Follow order last rs

abbrev IsKnownLocus : Order → Option Locus → Type 0
IsKnownLocus order last = IfSome last (λ place. IsTrue (order.knows place.chrom))

follow_up_to : (order : Order) (last : Option Locus) (r : Feature) (rs : List Feature) → IfSome last (λ l. IsUpTo order l (locus_at r)) → Follow order last (r ∷ rs)
follow_up_to order last r rs up = grind arith

before_rest : (order : Order) (r : Feature) (rs : List Feature) → Follow order (Some (locus_at r)) rs → IsPlacedBefore order (interval_of r) (intervals_of rs)
before_rest order r rs f = grind arith

placed_with : (input : Input) (order : Order) (last : Option Locus) (line : TextLine) (rest : Option Locus → Good Feature) → IsTotal order → IsKnownLocus order last
    → ((now : Option Locus) → IsKnownLocus order now → Placed order now (items_in (rest now)))
    → (said : Result (Option Feature) Kind) → line_says (sorting_of order) last line.text ≡ said → Placed order last (items_in (good_with (bed_format (sorting_of order)) input line.number last said rest))
placed_with input order last line rest total was h (Err kind) e = record { placed = tt; behind = grind arith }
placed_with input order last line rest total was h (Ok None) e = h last was
placed_with input order last line rest total was h (Ok (Some r)) e =
    let said = line_said (sorting_of order) last line.text r e in
    let more = h (Some (locus_at r)) said.known in
    record {
      placed = (said.known, before_rest order r (items_in (rest (Some (locus_at r)))) more.behind, more.placed);
      behind = follow_up_to order last r (items_in (rest (Some (locus_at r)))) (sorted_up_to order last (locus_at r) total was said.known said.stays);
    }

placed_from : (input : Input) (order : Order) (last : Option Locus) (lines : List TextLine) → IsTotal order → IsKnownLocus order last → Placed order last (items_in (good_after (bed_format (sorting_of order)) input last lines))
unfolding good_after
placed_from input order last [] total was = record { placed = tt; behind = grind arith }
placed_from input order last (line ∷ lines) total was =
    placed_with input order last line (λ now. good_after (bed_format (sorting_of order)) input now lines) total was (λ now is. placed_from input order now lines total is) (line_says (sorting_of order) last line.text) refl

-- the good records of any lines are in order
pub placed_lines : (input : Input) (order : Order) (lines : List TextLine) → IsTotal order → ArePlaced order (intervals_of (items_in (good (bed_format (sorting_of order)) input lines)))
placed_lines input order lines total = (placed_from input order None lines total tt).placed

-- the good records are in order
pub placed_good : good_are_placed
placed_good input order handed total = (placed_from input order None (lines_handed handed) total tt).placed

non_empty_with : (input : Input) (sorting : Sorting) (last : Option Locus) (line : TextLine) (rest : Option Locus → Good Feature) → ((now : Option Locus) → AreNonEmpty (intervals_of (items_in (rest now))))
    → (said : Result (Option Feature) Kind) → line_says sorting last line.text ≡ said → AreNonEmpty (intervals_of (items_in (good_with (bed_format sorting) input line.number last said rest)))
non_empty_with input sorting last line rest h (Err kind) e = All-nil (λ r. r.start < r.stop)
non_empty_with input sorting last line rest h (Ok None) e = h last
non_empty_with input sorting last line rest h (Ok (Some r)) e =
    All-cons (λ r. r.start < r.stop) (interval_of r) (intervals_of (items_in (rest (Some (locus_at r))))) (said_features line.text r (line_said sorting last line.text r e).says).non_empty (h (Some (locus_at r)))

pub non_empty_from : (input : Input) (sorting : Sorting) (last : Option Locus) (lines : List TextLine) → AreNonEmpty (intervals_of (items_in (good_after (bed_format sorting) input last lines)))
unfolding good_after
non_empty_from input sorting last [] = All-nil (λ r. r.start < r.stop)
non_empty_from input sorting last (line ∷ lines) =
    non_empty_with input sorting last line (λ now. good_after (bed_format sorting) input now lines) (λ now. non_empty_from input sorting now lines) (line_says sorting last line.text) refl

-- the good records have positions
pub non_empty_good : good_are_non_empty
non_empty_good input order handed = non_empty_from input (sorting_of order) None (lines_handed handed)

-- Lemmas on the good records of a BED input in blocks.

-- a place that doesn't fall below the last one doesn't start before it on its chromosome
pub block_up_to : (last : Option Locus) (place : Locus) → falls_in block_sorting last place ≡ false → IfSome last (λ l. IsBlockUpTo l place)
block_up_to last place stays = search rules

-- the records come after the last place
abbrev FollowInBlocks : Option Locus → List Feature → Type 0
FollowInBlocks last [] = Unit {0}
FollowInBlocks last (r ∷ rs) = IfSome last (λ l. IsBlockUpTo l (locus_at r))

record Blocked (last : Option Locus) (rs : List Feature) : Type 0 where
  blocks : AreInBlocks rs
  behind : FollowInBlocks last rs

blocked_with : (input : Input) (last : Option Locus) (line : TextLine) (rest : Option Locus → Good Feature) → ((now : Option Locus) → Blocked now (items_in (rest now)))
    → (said : Result (Option Feature) Kind) → line_says block_sorting last line.text ≡ said → Blocked last (items_in (good_with block_format input line.number last said rest))
blocked_with input last line rest h (Err kind) e = record { blocks = tt; behind = tt }
blocked_with input last line rest h (Ok None) e = h last
blocked_with input last line rest h (Ok (Some r)) e = record {
  blocks = grind arith;
  behind = block_up_to last (locus_at r) (line_said block_sorting last line.text r e).stays;
}

blocked_from : (input : Input) (last : Option Locus) (lines : List TextLine) → Blocked last (items_in (good_after block_format input last lines))
unfolding good_after
blocked_from input last [] = record { blocks = tt; behind = tt }
blocked_from input last (line ∷ lines) =
    blocked_with input last line (λ now. good_after block_format input now lines) (λ now. blocked_from input now lines) (line_says block_sorting last line.text) refl

pub good_in_blocks : good_are_in_blocks
good_in_blocks input handed = (blocked_from input None (lines_handed handed)).blocks

-- Lemmas on the meeting of two inputs.

met_either : (b : Bool) (x y : Report) (lines : List ℕ) → (b ≡ true → x.output ≡ lines) → y.output ≡ lines → (if b then x else y).output ≡ lines
met_either b x y lines first second = grind arith

module _ {A : Type 0} where
  pub written_at : (rule : Rule A) (a : A) (members : List A) (d : Bool) → rule.decided a ≡ d → written rule (a ∷ members) ≡ cond d (rule.lines a ++ written rule members) []
  written_at rule a members d e = grind arith

  all_at : (rule : Rule A) (a : A) (members : List A) (d : Bool) → rule.decided a ≡ d → (d && list_all rule.decided members) ≡ true → (list_all rule.decided members ≡ true → flat_map rule.lines members ≡ written rule members)
      → flat_map rule.lines (a ∷ members) ≡ written rule (a ∷ members)
  all_at rule a members d e some rest = grind arith

  -- if each member is decided, the lines of all are those before the first that isn't
  pub all_written : (rule : Rule A) (members : List A) → list_all rule.decided members ≡ true → flat_map rule.lines members ≡ written rule members
  all_written rule [] e = refl
  all_written rule (a ∷ members) e = all_at rule a members (rule.decided a) refl e (all_written rule members)

  -- the lines that are written are those of the members before the first that isn't decided
  pub met_output : (rule : Rule A) (members : List A) (fault : Option FaultValue) → (join_report rule members fault).output ≡ written rule members
  met_output rule members fault = met_either (list_all rule.decided members) _ _ _ (all_written rule members) refl

  pub met_fault_all : (rule : Rule A) (members : List A) (fault : Option FaultValue) → list_all rule.decided members ≡ true → (join_report rule members fault).fault ≡ option_or fault rule.last
  met_fault_all rule members fault e = grind arith

  pub met_fault_stop : (rule : Rule A) (members : List A) (fault : Option FaultValue) → list_all rule.decided members ≡ false → (join_report rule members fault).fault ≡ rule.fault
  met_fault_stop rule members fault e = grind arith

  -- up to the first that isn't decided
  pub written_stop : (rule : Rule A) (xs : List A) (a : A) (ys : List A) → list_all rule.decided xs ≡ true → rule.decided a ≡ false → written rule (xs ++ a ∷ ys) ≡ flat_map rule.lines xs
  written_stop rule [] a ys all e = written_at rule a ys false e
  written_stop rule (x ∷ xs) a ys all e =
      let parts = and_parts (rule.decided x) (list_all rule.decided xs) all in
      written_at rule x (xs ++ a ∷ ys) true parts.0 ∙ ap (λ l. rule.lines x ++ l) (written_stop rule xs a ys parts.1 e)

  pub all_stop : (rule : Rule A) (xs : List A) (a : A) (ys : List A) → rule.decided a ≡ false → list_all rule.decided (xs ++ a ∷ ys) ≡ false
  all_stop rule xs a ys e = list_all-append rule.decided xs (a ∷ ys) ∙ and_right (list_all rule.decided xs) (rule.decided a && list_all rule.decided ys) (and_left (rule.decided a) (list_all rule.decided ys) e)

  -- what is written of decided members comes first
  pub written_past : (rule : Rule A) (xs ys : List A) → list_all rule.decided xs ≡ true → written rule (xs ++ ys) ≡ flat_map rule.lines xs ++ written rule ys
  written_past rule [] ys all = refl
  written_past rule (x ∷ xs) ys all =
      let parts = and_parts (rule.decided x) (list_all rule.decided xs) all in
      written_at rule x (xs ++ ys) true parts.0 ∙ ap (λ l. rule.lines x ++ l) (written_past rule xs ys parts.1) ∙ sym (append_assoc (rule.lines x) (flat_map rule.lines xs) (written rule ys))
