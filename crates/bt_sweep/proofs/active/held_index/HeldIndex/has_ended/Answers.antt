use Rattle.bt_sweep.specs.calls.HeldList.{records_in}
use Rattle.bt_sweep.proofs.lemmas.Active.{none_ended}
use Rattle.bt_sweep.proofs.active.held_index.HeldIndex.has_ended.Goals as goal

pub returns : goal.returns
returns c = λ none.
    let held = c.args.self.now in
    none_ended c.args.place held.ends (records_in held.list) held.counts (c.has_end_by.ensures.none none)
