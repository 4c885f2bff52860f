use Rattle.bt_lines.proofs.Std.{◌≡◌, ◌∙◌, if◌then◌else◌, slice_range, is_some, ap, sym, subst}
use Rattle.bt_seq.proofs.lemmas.mask.steps.CopyLemmas.{bounds_are, copied_through, some_bytes}
use Rattle.bt_seq.proofs.lemmas.mask.bases.MaskingLemmas.{none_held}
use Rattle.bt_seq.proofs.mask.mask_state.MaskState.copy_through.Goals as goal
use Rattle.bt_seq.specs.inside.Masking.{CopiesThrough}
use Rattle.bt_seq.specs.calls.MaskState.{Masking}
use Rattle.bt_seq.specs.inside.Window.{limit}
use Rattle.bt_seq.specs.contracts.mask.mask_state.MaskState.{the_view}

pub returns : goal.returns
returns g c =
    let last = c.consume_up_to-through.result in
    let all = c.args.lines.now.all.now in
    let may = c.may_copy.ensures in
    let held = may.held c.if-not-may_copy.false in
    let at = bounds_are c.before-2.result c.bases.result c.self.inside.window c.before-2.ensures c.bases.ensures.bases (ap (λ (m : Masking). m.window.held) c.self.view_is ∙ none_held c.args.self.now.window.held held) in
    let copied_is : c.between-copied.result.now ≡ slice_range all c.args.lines.now.at last.lines.at =
    c.between-copied.ensures ∙ ap (λ n. slice_range all n c.offset-2.result) c.offset.ensures ∙ ap (λ n. slice_range all c.args.lines.now.at n) c.offset-2.ensures in
    let written = c.finish_write.ensures in
    rw written.same
    (subst (λ (m : Masking). CopiesThrough m c.args.lines.now c.args.out.now.output c.put_line-put.result c.finish_write.new.self last.lines c.put_line-put.new.out.output) c.self.view_is
    (copied_through c.known_to.result (the_view c.self.inside) _ last at (ap (λ (m : Masking). is_some m.matched.name) c.self.view_is ∙ may.named c.if-not-may_copy.false)
    (c.known_to.ensures ∙ ap (λ (m : Masking). if m.bed_ended then limit else m.decided_to) (sym c.self.view_is)) c.consume_up_to-through.ensures
    c.stand_at.new.self c.stand_at.ensures c.between-copied.result.now copied_is (some_bytes c.between-copied.result.now (sym c.is_empty.ensures ∙ c.if-is_empty.false))
    c.args.out.now.output c.put_line-put.new.out.output c.put_line-put.result c.finish_write.new.self c.put_line-put.ensures written.next written.stops))
