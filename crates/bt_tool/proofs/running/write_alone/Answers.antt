use Rattle.bt_runs.specs.model.Gaps.{complement as whole_gaps, settled_gaps}
use Rattle.bt_runs.specs.calls.Complementing.{AreInGenomeOrder}
use Rattle.bt_runs.proofs.lemmas.complement.GapRuleLemmas.{settles_gaps}
use Rattle.bt_runs.proofs.lemmas.definitions.Standing.{begins, stays}
use Rattle.bt_tool.proofs.lemmas.running.feed.DrivingLemmas.{complement_begins, coverage_begins, depths_begin, depths_stay, lines_begin, lines_stay}
use Rattle.bt_tool.proofs.running.write_alone.Goals as goal

pub drive-requires-clause-nothing : goal.drive-requires-clause-nothing
drive-requires-clause-nothing g c = complement_begins c.new-engine.result.rule.limit c.new-engine.result.rule.entries

pub drive-requires-clause-stays : goal.drive-requires-clause-stays
drive-requires-clause-stays g c =
    let complement = c.new-engine.result.rule in
    let settled = settled_gaps complement.limit complement.entries in
    lines_stay settled (AreInGenomeOrder complement.entries) (stays settled (whole_gaps complement.limit complement.entries) (AreInGenomeOrder complement.entries) (settles_gaps complement.limit complement.entries))

pub drive-requires-clause-begins : goal.drive-requires-clause-begins
drive-requires-clause-begins g c =
    let complement = c.new-engine.result.rule in
    let settled = settled_gaps complement.limit complement.entries in
    let whole = whole_gaps complement.limit complement.entries in
    lines_begin settled whole (AreInGenomeOrder complement.entries) (begins settled whole (AreInGenomeOrder complement.entries) (settles_gaps complement.limit complement.entries))

pub returns-in-Complement-Some : goal.returns-in-Complement-Some
returns-in-Complement-Some g c =
    let engine = c.new-engine.ensures in
    rw (c.in-Complement-Some.is-0, c.in-Complement-Some.is-1) (rw (engine.entries, engine.limit) at c.drive.ensures)

pub drive-requires-in-Coverage-Some-clause-nothing : goal.drive-requires-in-Coverage-Some-clause-nothing
drive-requires-in-Coverage-Some-clause-nothing g c =
    let engine = c.new-engine-in-Coverage-Some.result.rule in
    coverage_begins engine.entries engine.zeros engine.strand

pub drive-requires-in-Coverage-Some-clause-stays : goal.drive-requires-in-Coverage-Some-clause-stays
drive-requires-in-Coverage-Some-clause-stays g c =
    let engine = c.new-engine-in-Coverage-Some.result.rule in
    depths_stay engine.entries engine.zeros engine.strand

pub drive-requires-in-Coverage-Some-clause-begins : goal.drive-requires-in-Coverage-Some-clause-begins
drive-requires-in-Coverage-Some-clause-begins g c =
    let engine = c.new-engine-in-Coverage-Some.result.rule in
    depths_begin engine.entries engine.zeros engine.strand

pub returns-in-Coverage-Some : goal.returns-in-Coverage-Some
returns-in-Coverage-Some g c =
    let engine = c.new-engine-in-Coverage-Some.ensures in
    rw (c.in-Coverage-Some.is-0, c.in-Coverage-Some.is-1) (rw (engine.entries, engine.rules.0, engine.rules.1) at c.drive-in-Coverage-Some.ensures)
