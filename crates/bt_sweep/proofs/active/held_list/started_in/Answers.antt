use Rattle.bt_lines.proofs.Std.{◌∙◌, ◌+◌, ap, arith, nat_lt, option_to_list, sym, list_any}
use Rattle.bt_bed.specs.model.Feature.{Feature}
use Rattle.bt_sweep.proofs.lemmas.Active.{come_before, come_from}
use Rattle.bt_sweep.proofs.active.held_list.started_in.Goals as goal

pub loop-low-preserved-then-starts_before : goal.loop-low-preserved-then-starts_before
loop-low-preserved-then-starts_before c =
    let middle = c.loop-low.low + c.min.result in
    record {
      order = omega (arith, c.loop-low-test.true, c.min.ensures);
      within = c.loop-low.invariant.within;
      before = λ rises.
          come_before c.args.place c.args.records.now.items rises middle (omega (arith, c.loop-low.invariant.within, c.loop-low-test.true, c.min.ensures))
          (sym (c.if-starts_before.ensures ∙ (ap (λ o. list_any (λ (r : Feature). nat_lt r.start c.args.place) (option_to_list o)) c.record_at.ensures)));
      rest = c.loop-low.invariant.rest;
    }

pub loop-low-preserved : goal.loop-low-preserved
loop-low-preserved c =
    let middle = c.loop-low.low + c.min.result in
    record {
      order = omega (arith, c.loop-low-test.true, c.min.ensures);
      within = omega (arith, c.loop-low.invariant.within, c.loop-low-test.true, c.min.ensures);
      before = c.loop-low.invariant.before;
      rest = λ rises.
          come_from c.args.place c.args.records.now.items rises middle (omega (arith, c.loop-low.invariant.within, c.loop-low-test.true, c.min.ensures))
          (sym (c.if-starts_before.ensures ∙ (ap (λ o. list_any (λ (r : Feature). nat_lt r.start c.args.place) (option_to_list o)) c.record_at.ensures)));
    }
