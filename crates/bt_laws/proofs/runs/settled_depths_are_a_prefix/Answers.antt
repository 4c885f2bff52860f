use Rattle.bt_runs.specs.model.Depth.{coverage, settled_depths}
use Rattle.bt_runs.specs.calls.Complementing.{AreInGenomeOrder}
use Rattle.bt_runs.proofs.lemmas.coverage.DepthSteps.{settles_depths}
use Rattle.bt_runs.proofs.lemmas.definitions.Standing.{begins, stays}
use Rattle.bt_laws.proofs.runs.settled_depths_are_a_prefix.Goals as goal

pub returns : goal.returns
returns c = record {
  stay = λ zeros strand entries. stays (settled_depths zeros strand entries) (coverage zeros strand entries) (AreInGenomeOrder entries) (settles_depths zeros strand entries);
  begin = λ zeros strand entries. begins (settled_depths zeros strand entries) (coverage zeros strand entries) (AreInGenomeOrder entries) (settles_depths zeros strand entries);
}
