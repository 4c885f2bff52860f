use Rattle.bt_lines.proofs.Std.{arith, ◌∙◌, ◌+◌, ap, drop, is_some, sym}
use Rattle.std.specs.Option.{option_copied}
use Rattle.bt_front.specs.model.Extents.{names_in}
use Rattle.bt_front.specs.calls.Orders.{names_among}
use Rattle.bt_front.specs.model.Fitting.{common_from}
use Rattle.bt_front.proofs.lemmas.order.CommonLemmas.{all_common, no_order, some_next, some_placed}
use Rattle.bt_front.proofs.lemmas.order.FittingLemmas.{rank_within}
use Rattle.bt_front.proofs.order.common_order.has_common_order.Goals as goal
use Rattle.bt_front.proofs.order.common_order.has_common_order.Goals.{in-Some+else-place-next+else-prove, in_default}

pub returns-then-place-next : goal.returns-then-place-next
returns-then-place-next c =
    let second = names_among (option_copied c.args.second) in
    sym (ap is_some (no_order second (names_in c.args.first.now) c.loop-at.at c.loop-at.next c.name.result.now c.name.ensures c.in-Some.place
    (sym c.place_among.ensures ∙ c.in-Some.is) c.if-place-next.true)) ∙ c.loop-at.invariant

pub prove-unreachable-requires : goal.prove-unreachable-requires
prove-unreachable-requires c =
    omega (arith, rank_within (names_among (option_copied c.args.second)) c.name.result.now c.in-Some.place (sym c.place_among.ensures ∙ c.in-Some.is))

pub loop-at-preserved : goal.loop-at-preserved
loop-at-preserved c =
    let second = names_among (option_copied c.args.second) in
    let first = names_in c.args.first.now in
    elim c.match-place_among.branch [
      | in-Some+else-place-next+else-prove w ↦
          ap (λ n. is_some (common_from second n (drop (c.loop-at.at + 1) first))) w.next-is
          ∙ sym (some_placed second first c.loop-at.at c.loop-at.next c.name.result.now c.name.ensures w.in-Some.place
          (sym c.place_among.ensures ∙ w.in-Some.is) w.if-place-next.false) ∙ c.loop-at.invariant
      | in_default w ↦
          ap (λ n. is_some (common_from second n (drop (c.loop-at.at + 1) first))) w.next-is
          ∙ sym (some_next second first c.loop-at.at c.loop-at.next c.name.result.now c.name.ensures
          (sym c.place_among.ensures ∙ w.in_default.is)) ∙ c.loop-at.invariant
    ]

pub returns : goal.returns
returns c =
    sym (ap is_some (all_common (names_among (option_copied c.args.second)) (names_in c.args.first.now) c.loop-at.at c.loop-at.next (omega arith)))
    ∙ c.loop-at.invariant
