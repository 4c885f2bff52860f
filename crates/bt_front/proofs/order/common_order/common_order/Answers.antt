use Rattle.bt_lines.proofs.Std.{arith, ◌∙◌, ◌≡◌, ◌≤◌, ◌++◌, ap, drop, length, option_map, Some, sym}
use Rattle.std.specs.Option.{option_copied}
use Rattle.bt_front.specs.model.Extents.{names_in}
use Rattle.bt_front.specs.calls.Orders.{names_among}
use Rattle.bt_front.specs.model.Fitting.{names_between, order_text}
use Rattle.bt_front.proofs.lemmas.order.CommonLemmas.{all_between, all_common, next_step, no_order, placed_step, text_after}
use Rattle.bt_front.proofs.lemmas.order.FittingLemmas.{rank_within}
use Rattle.bt_front.proofs.order.common_order.common_order.Goals as goal
use Rattle.bt_front.proofs.order.common_order.common_order.Goals.{in-Some+else-place-next+else-prove+in_ok-put_names, in_default}

pub returns-then-place-next : goal.returns-then-place-next
returns-then-place-next c =
    let second = names_among (option_copied c.args.second) in
    sym (ap (option_map (text_after c.loop-at.text.items)) (no_order second (names_in c.args.first.now) c.loop-at.at c.loop-at.next
    c.name-name.result.now c.name-name.ensures c.in-Some.place (sym c.place_among.ensures ∙ c.in-Some.is) c.if-place-next.true))
    ∙ c.loop-at.invariant.text

pub prove-unreachable-requires : goal.prove-unreachable-requires
prove-unreachable-requires c =
    omega (
      arith,
      rank_within (names_among (option_copied c.args.second)) c.name-name.result.now c.in-Some.place
          (sym c.place_among.ensures ∙ c.in-Some.is),
    )

pub loop-at-preserved : goal.loop-at-preserved
loop-at-preserved c =
    let second = names_among (option_copied c.args.second) in
    let first = names_in c.args.first.now in
    let name = c.name-name.result.now in
    record {
      within = elim c.match-place_among.branch [
        | in-Some+else-place-next+else-prove+in_ok-put_names w ↦
            let below = rank_within second name w.in-Some.place (sym c.place_among.ensures ∙ w.in-Some.is) in
            omega (arith, w.next-is)
        | in_default w ↦ omega (arith, w.next-is, c.loop-at.invariant.within)
      ];
      text = elim c.match-place_among.branch [
        | in-Some+else-place-next+else-prove+in_ok-put_names w ↦
            placed_step second first c.loop-at.at c.loop-at.next name c.name-name.ensures w.in-Some.place
            (sym c.place_among.ensures ∙ w.in-Some.is) w.if-place-next.false c.loop-at.text.items c.match-place_among.text.items _ _
            c.in_ok-put_entry.ensures (ap (λ text. text.items) w.text-is ∙ w.in_ok-put_names.ensures) w.next-is
            ∙ c.loop-at.invariant.text
        | in_default w ↦
            next_step second first c.loop-at.at c.loop-at.next name c.name-name.ensures (sym c.place_among.ensures ∙ w.in_default.is)
            c.loop-at.text.items c.match-place_among.text.items _ _ c.in_ok-put_entry.ensures (ap (λ text. text.items) w.text-is) w.next-is
            ∙ c.loop-at.invariant.text
      ];
    }

pub returns : goal.returns
returns c =
    let second = names_among (option_copied c.args.second) in
    let first = names_in c.args.first.now in
    ap (λ text. Some text)
    (c.in_ok-put_names-2.ensures ∙ ap (λ n. text_after c.loop-at.text.items (names_between second c.loop-at.next n)) c.count_among-count.ensures
    ∙ ap (text_after c.loop-at.text.items) (all_between second c.loop-at.next))
    ∙ sym (ap (option_map (text_after c.loop-at.text.items)) (all_common second first c.loop-at.at c.loop-at.next (omega arith)))
    ∙ c.loop-at.invariant.text
