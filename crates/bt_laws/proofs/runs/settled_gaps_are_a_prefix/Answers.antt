use Rattle.bt_runs.specs.model.Gaps.{complement, settled_gaps}
use Rattle.bt_runs.specs.calls.Complementing.{AreInGenomeOrder}
use Rattle.bt_laws.proofs.lemmas.single.LevelLemmas.{one_kept}
use Rattle.bt_runs.proofs.lemmas.complement.GapRuleLemmas.{settles_gaps}
use Rattle.bt_runs.proofs.lemmas.definitions.Standing.{begins, stays}
use Rattle.bt_laws.proofs.runs.settled_gaps_are_a_prefix.Goals as goal

pub returns : goal.returns
returns c = record {
  stay = λ limit entries. stays (settled_gaps limit entries) (complement limit entries) (AreInGenomeOrder entries) (settles_gaps limit entries);
  begin = λ limit entries. begins (settled_gaps limit entries) (complement limit entries) (AreInGenomeOrder entries) (settles_gaps limit entries);
  kept = one_kept;
}
