use Rattle.bt_lines.proofs.Std.{◌≡◌, ◌++◌, ◌∷◌, [], Ok, Option, Some, List, arith, subst, sym}
use Rattle.bt_bed.specs.calls.Bed.{feature_lent}
use Rattle.bt_bed.specs.model.Feature.{Feature}
use Rattle.bt_bed.specs.model.Good.{in_order}
use Rattle.bt_bed.specs.model.Sorted.{sorting_of}
use Rattle.bt_hits.specs.inside.Reading.{AddsLine, adds_none, adds_one, place_of, last_in}
use Rattle.bt_hits.proofs.lemmas.Reading.{says_none, says_one}
use Rattle.bt_hits.proofs.reading.read_line.Goals as goal

pub returns-in-Ok-None : goal.returns-in-Ok-None
returns-in-Ok-None g c =
    let said = rw c.in-Ok-None.field-0-is at c.in-Ok-None.ensures.said in
    adds_none (says_none _ _ _ (sym said))

pub returns : goal.returns
returns g c =
    let sorting = sorting_of (g.O.ChromOrder.order c.args.order.now) in
    let before = c.args.records.now.items in
    let line = c.args.line.now in
    let bed = feature_lent c.in-Ok-Some.bed in
    let said = rw c.in-Ok-Some.field-0-is at c.in-Ok-Some.ensures.said in
    let next : in_order sorting (place_of (last_in before)) bed ≡ Ok (Some bed) =
    subst (λ (o : Option Feature). in_order sorting (place_of o) bed ≡ Ok (Some bed)) c.last_of.ensures (c.comes_after.ensures c.if-not-comes_after.false) in
    let adds : AddsLine sorting before line (before ++ bed ∷ []) = adds_one bed (says_one sorting (place_of (last_in before)) line bed (sym said) next) in
    let is : before ++ bed ∷ [] ≡ c.push_back.new.self.items = grind arith in
    subst (λ (l : List Feature). AddsLine sorting before line l) is adds
