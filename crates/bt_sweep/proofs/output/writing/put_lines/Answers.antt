use Rattle.bt_lines.proofs.Std.{arith, take}
use Rattle.bt_bed.specs.calls.Bed.{feature_lent}
use Rattle.bt_sweep.proofs.lemmas.definitions.HitLemmas.{took_lines}
use Rattle.bt_sweep.proofs.lemmas.Output.{count_adds, hits_adds, once_adds, pieces_add, unmatched_adds}
use Rattle.bt_sweep.specs.declared.output.shape.HitShape.TheVariants.{Cut as EachCut, OrigA as EachOrigA, CutAndB as EachCutAndB, OrigBoth as EachOrigBoth, Overlap as EachOverlap}
use Rattle.bt_sweep.proofs.output.writing.put_lines.Goals as goal

pub returns-in-Count : goal.returns-in-Count
returns-in-Count g c = λ rises.
    let held = g.H.Held.records c.args.held.now in
    let n = c.count_started-count.result in
    let a = feature_lent c.args.a.now.bed in
    rw (← took_lines c.args.rule a c.args.shape held n (c.count_started-count.ensures.rest rises)) (count_adds a (take n held) _ _ c.put_counted.result c.args.shape c.args.rule _ c.in-Count.is (c.count_started_hits.ensures (c.count_started-count.ensures.before rises)) c.put_counted.ensures)

pub returns-in-Once : goal.returns-in-Once
returns-in-Once g c = grind (arith, once_adds)

pub returns-in-Missing : goal.returns-in-Missing
returns-in-Missing g c = grind (arith, unmatched_adds)

pub returns-in-Cut : goal.returns-in-Cut
returns-in-Cut g c = λ rises. hits_adds (feature_lent c.args.a.now.bed) (g.H.Held.records c.args.held.now) _ _ c.put_hits.result c.args.shape c.args.rule EachCut c.in-Cut.is (c.put_hits.ensures rises)

pub returns-in-OrigA : goal.returns-in-OrigA
returns-in-OrigA g c = λ rises. hits_adds (feature_lent c.args.a.now.bed) (g.H.Held.records c.args.held.now) _ _ c.put_hits-in-OrigA.result c.args.shape c.args.rule EachOrigA c.in-OrigA.is (c.put_hits-in-OrigA.ensures rises)

pub returns-in-CutAndB : goal.returns-in-CutAndB
returns-in-CutAndB g c = λ rises. hits_adds (feature_lent c.args.a.now.bed) (g.H.Held.records c.args.held.now) _ _ c.put_hits-in-CutAndB.result c.args.shape c.args.rule EachCutAndB c.in-CutAndB.is (c.put_hits-in-CutAndB.ensures rises)

pub returns-in-OrigBoth : goal.returns-in-OrigBoth
returns-in-OrigBoth g c = λ rises. hits_adds (feature_lent c.args.a.now.bed) (g.H.Held.records c.args.held.now) _ _ c.put_hits-in-OrigBoth.result c.args.shape c.args.rule EachOrigBoth c.in-OrigBoth.is (c.put_hits-in-OrigBoth.ensures rises)

pub returns-in-Overlap : goal.returns-in-Overlap
returns-in-Overlap g c = λ rises. hits_adds (feature_lent c.args.a.now.bed) (g.H.Held.records c.args.held.now) _ _ c.put_hits-in-Overlap.result c.args.shape c.args.rule EachOverlap c.in-Overlap.is (c.put_hits-in-Overlap.ensures rises)

pub returns-in-Pieces : goal.returns-in-Pieces
returns-in-Pieces g c = λ rises.
    let held = g.H.Held.records c.args.held.now in
    let n = c.count_started.result in
    let a = feature_lent c.args.a.now.bed in
    rw (← took_lines c.args.rule a c.args.shape held n (c.count_started.ensures.rest rises)) (pieces_add a (take n held) _ _ c.put_pieces.result c.args.shape c.args.rule c.in-Pieces.is (c.put_pieces.ensures rises))
