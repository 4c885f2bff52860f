use Rattle.bt_lines.proofs.Std.{None, ap, cond, nat_lt, sym, ◌∙◌}
use Rattle.bt_sweep.specs.inside.Held.{count_ending_at, if_some}
use Rattle.bt_sweep.specs.calls.HeldList.{records_in}
use Rattle.bt_sweep.proofs.lemmas.Active.{kept_ends}
use Rattle.bt_sweep.proofs.active.held_index.HeldIndex.remove_ended.Goals as goal

pub invariant_of-self : goal.invariant_of-self
invariant_of-self c =
    let held = c.args.self.now in
    record {
      counts = λ stop.
          c.remove_ends.ensures stop
          ∙ ap (λ o. cond (nat_lt c.args.place stop) o None) (held.counts stop)
          ∙ sym (kept_ends c.args.place stop (records_in held.list))
          ∙ sym (ap (λ l. if_some (count_ending_at stop l)) c.remove_ended.ensures);
    }
