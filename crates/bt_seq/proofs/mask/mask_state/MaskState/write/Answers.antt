use Rattle.bt_lines.proofs.Std.{◌≡◌, ◌++◌, ◌∙◌, List, None, ℕ, ap, arith, length, subst, take_at}
use Rattle.bt_lines.specs.model.Lines.{end_bytes}
use Rattle.bt_seq.specs.calls.MaskState.{Masking, Waiting, line_bytes}
use Rattle.bt_seq.specs.declared.mask.MaskWant.TheVariants.{Line}
use Rattle.bt_seq.specs.inside.Masking.{waits_in}
use Rattle.bt_seq.specs.model.Masked.{masked_from}
use Rattle.bt_seq.proofs.lemmas.mask.bases.MaskingLemmas.{waiting_is, wrote_waiting}
use Rattle.bt_seq.proofs.mask.mask_state.MaskState.write.Goals as goal

pub returns-clause-writes : goal.returns-clause-writes
returns-clause-writes g c = λ line e.
    let m = c.self.inside in
    let waiting : Waiting = record { text = m.text.items; ending = m.ending } in
    let waits = waiting_is (waits_in m.phase) waiting line (ap (λ (m : Masking). m.waiting) c.self.view_is ∙ e) in
    let size : length c.mask.new.bases ≡ m.text.len = omega (arith, c.mask.auto.bases, c.as_mut_slice.ensures.len) in
    let masked = c.as_slice.ensures.value ∙ take_at c.mask.new.bases _ m.text.len size ∙ c.mask.ensures ∙ ap (masked_from m.how m.window.held m.window.before) c.as_mut_slice.ensures.value in
    let bytes : List ℕ = c.as_slice.result.now ++ end_bytes m.ending in
    let is : bytes ≡ line_bytes c.args.self.now line =
    subst (λ (now : Masking). bytes ≡ line_bytes now line) c.self.view_is
    (ap (λ text. text ++ end_bytes m.ending) masked ∙ ap (λ (w : Waiting). masked_from m.how m.window.held m.window.before w.text ++ end_bytes w.ending) waits) in
    rw c.finish_write.ensures.same
    (wrote_waiting c.put_text-written.result c.args.self.now c.finish_write.new.self line bytes _ _ is c.put_text-written.ensures
    (λ ok. subst (λ (now : Masking). c.finish_write.new.self ≡ record now { waiting = None; want = Line }) c.self.view_is (c.finish_write.ensures.next ok))
    c.finish_write.ensures.stops)
