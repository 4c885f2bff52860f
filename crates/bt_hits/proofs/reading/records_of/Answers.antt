use Rattle.bt_lines.proofs.Std.{◌≡◌, ℕ, ◌+◌, ◌-◌, ◌∙◌, [], ◌∷◌, List, None, Some, sym, ap, arith, append-nil, drop, length, length-drop, strip_last, subst, take, take_all}
use Rattle.bt_lines.specs.model.Lines.{pieces}
use Rattle.bt_bed.specs.model.Sorted.{sorting_of}
use Rattle.bt_hits.specs.calls.Listing.{AreRecordsOf}
use Rattle.bt_hits.specs.inside.Reading.{AddsLine, records_in}
use Rattle.bt_hits.proofs.lemmas.Reading.{piece_first, piece_last, piece_read, records_after, text_good, text_placed}
use Rattle.bt_hits.proofs.reading.records_of.Given.{Over}
use Rattle.bt_hits.proofs.reading.records_of.Goals as goal

all_read : (g : Over) (c : goal.Then-count-rest g) → AreRecordsOf (g.O.ChromOrder.order c.args.order.now) c.args.text.now c.read_line.new.records.items
all_read g c =
    let order = g.O.ChromOrder.order c.args.order.now in
    let before = c.loop-records.records.items in
    let after = c.read_line.new.records.items in
    let rest = c.loop-records.rest.now in
    let count = c.length_before-count.result in
    let line : c.without_return.result.now ≡ strip_last 13 (take count rest) = grind arith in
    let adds : AddsLine (sorting_of order) before (strip_last 13 (take count rest)) after = subst (λ (l : List ℕ). AddsLine (sorting_of order) before l after) line c.in_ok-read_line.ensures in
    let is : records_in (sorting_of order) None (pieces 10 c.args.text.now) ≡ Some after =
    c.loop-records.invariant
    ∙ ap (records_after (sorting_of order) before) (piece_last rest count c.length_before-count.ensures c.if-count-rest.true)
    ∙ piece_read (sorting_of order) before after (take count rest) [] adds
    ∙ ap Some (append-nil after) in
    text_good order c.args.text.now after is

pub returns-then-count-rest : goal.returns-then-count-rest
returns-then-count-rest g c =
    let order = g.O.ChromOrder.order c.args.order.now in
    let records = all_read g c in
    record {
      records = records;
      placed = text_placed order (g.met.O.ChromOrder.total c.args.order.now) c.args.text.now c.read_line.new.records.items records;
    }

pub loop-records-preserved : goal.loop-records-preserved
loop-records-preserved g c =
    let order = g.O.ChromOrder.order c.args.order.now in
    let before = c.loop-records.records.items in
    let after = c.read_line.new.records.items in
    let rest = c.loop-records.rest.now in
    let count = c.length_before-count.result in
    let next = drop (count + 1) rest in
    let line : c.without_return.result.now ≡ strip_last 13 (take count rest) = grind arith in
    let adds : AddsLine (sorting_of order) before (strip_last 13 (take count rest)) after = subst (λ (l : List ℕ). AddsLine (sorting_of order) before l after) line c.in_ok-read_line.ensures in
    let is : records_in (sorting_of order) None (pieces 10 c.args.text.now) ≡ records_after (sorting_of order) after (pieces 10 next) =
    c.loop-records.invariant
    ∙ ap (records_after (sorting_of order) before) (piece_first rest count c.length_before-count.ensures (omega arith))
    ∙ piece_read (sorting_of order) before after (take count rest) (pieces 10 next) adds in
    let all : take (length rest - (count + 1)) next ≡ next = take_all (length rest - (count + 1)) next (omega (arith, length-drop (count + 1) rest)) in
    subst (λ (l : List ℕ). records_in (sorting_of order) None (pieces 10 c.args.text.now) ≡ records_after (sorting_of order) after (pieces 10 l)) (sym all) is
