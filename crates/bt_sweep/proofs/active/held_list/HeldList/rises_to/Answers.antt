use Rattle.bt_lines.proofs.Std.{ap, arith, deque_len, leb-true, ◌≤◌}
use Rattle.bt_bed.specs.model.Feature.{Feature}
use Rattle.bt_sweep.proofs.lemmas.Active.{rises_push}
use Rattle.bt_sweep.proofs.active.held_list.HeldList.rises_to.Goals as goal

pub returns-then-self : goal.returns-then-self
returns-then-self c = λ e.
    let held = c.args.self.now.records in
    let next = ap (λ (r : Feature). r.start) c.as_bed-then-self.ensures in
    let rises : c.in-Some.last.now.start ≤ c.args.rec.now.start = omega (arith, ap (λ (r : Feature). r.start) c.as_bed.ensures, next, leb-true _ _ e) in
    rises_push held.items c.in-Some.last.now c.args.rec.now (deque_len held) held.ok.0 c.in-Some.ensures.lookup rises (c.args.self.now.rises c.if-self.true)
