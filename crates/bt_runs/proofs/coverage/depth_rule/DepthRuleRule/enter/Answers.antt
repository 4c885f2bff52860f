use Rattle.bt_lines.proofs.Std.{[], ◌≡◌, ◌∙◌, false, true, arith, refl, sym, err_from_is_err_and}
use Rattle.bt_bed.specs.calls.GenomeTable.{entries}
use Rattle.bt_runs.specs.inside.Coverage.{seen}
use Rattle.bt_runs.specs.calls.Covering.{Covering}
use Rattle.bt_runs.specs.inside.Walk.{is_reached}
use Rattle.bt_runs.proofs.lemmas.coverage.DepthSteps.{enters_failing, enters_moved, enters_there, is_there}
use Rattle.bt_runs.proofs.lemmas.order.ByChromosome.{found_at, length_read, name_read}
use Rattle.bt_runs.proofs.coverage.depth_rule.DepthRuleRule.enter.Goals as goal
use Rattle.bt_runs.proofs.coverage.depth_rule.DepthRuleRule.enter.Goals.{in-Some+else-is_same_name, in_default}

pub returns-then-is_same_name-clause-enters : goal.returns-then-is_same_name-clause-enters
returns-then-is_same_name-clause-enters g c =
    let m = c.self.inside in
    let old : Covering = record { entries = entries m.chroms.genome.now; zeros = m.chroms.zeros; strand = m.strand; current = seen m.current m.held; is_known = m.is_known; name = m.name.now; length = m.length } in
    rw (← c.self.view_is) (enters_moved old true c.name-name.result.now c.length-length.result c.args.chrom.now c.args.out.now.output)

pub put_before-requires-clause-within : goal.put_before-requires-clause-within
put_before-requires-clause-within g c = grind (arith, (found_at (entries c.self.inside.chroms.genome.now) c.args.chrom.now c.in-Some-rank.rank (sym c.in-Some-rank.ensures)))

pub invariant_of-self-2 : goal.invariant_of-self-2
invariant_of-self-2 g c = found_at (entries c.self.inside.chroms.genome.now) c.args.chrom.now c.in-Some-rank.rank (sym c.in-Some-rank.ensures)

pub returns-in_err-put_before-clause-enters : goal.returns-in_err-put_before-clause-enters
returns-in_err-put_before-clause-enters g c =
    let p = err_from_is_err_and c.from_residual.result c.from_residual.ensures.1 in
    let m = c.self.inside in
    let old : Covering = record { entries = entries m.chroms.genome.now; zeros = m.chroms.zeros; strand = m.strand; current = seen m.current m.held; is_known = m.is_known; name = m.name.now; length = m.length } in
    let off : is_reached old.entries old.current c.args.chrom.now ≡ false = elim c.match-self.branch [
      | in-Some+else-is_same_name w ↦ rw (w.in-Some.is, name_read old.entries w.in-Some.reached.rank w.name-name.result.now w.name-name.ensures) (sym w.is_same_name.ensures ∙ w.if-is_same_name.false)
      | in_default w ↦ rw (w.in_default.is) refl
    ] in
    rw (p.1, p.2, ← c.self.view_is) (enters_failing old [] 0 c.args.chrom.now c.in-Some-rank.rank off c.in-Some-rank.ensures c.args.out.now.output c.in_err-put_before.field-0.0 _ c.put_before.new.out.output c.in_err-put_before.ensures)

pub returns-clause-on : goal.returns-clause-on
returns-clause-on g c =
    let m = c.self.inside in
    let old : Covering = record { entries = entries m.chroms.genome.now; zeros = m.chroms.zeros; strand = m.strand; current = seen m.current m.held; is_known = m.is_known; name = m.name.now; length = m.length } in
    let off : is_reached old.entries old.current c.args.chrom.now ≡ false = elim c.match-self.branch [
      | in-Some+else-is_same_name w ↦ rw (w.in-Some.is, name_read old.entries w.in-Some.reached.rank w.name-name.result.now w.name-name.ensures) (sym w.is_same_name.ensures ∙ w.if-is_same_name.false)
      | in_default w ↦ rw (w.in_default.is) refl
    ] in
    (is_there old [] 0 c.args.chrom.now c.in-Some-rank.rank off c.in-Some-rank.ensures, (name_read (entries m.chroms.genome.now) c.in-Some-rank.rank c.name-name-2.result.now c.name-name-2.ensures, length_read (entries m.chroms.genome.now) c.in-Some-rank.rank c.length-length-2.result c.length-length-2.ensures.is))

pub returns-clause-enters : goal.returns-clause-enters
returns-clause-enters g c =
    let m = c.self.inside in
    let old : Covering = record { entries = entries m.chroms.genome.now; zeros = m.chroms.zeros; strand = m.strand; current = seen m.current m.held; is_known = m.is_known; name = m.name.now; length = m.length } in
    let off : is_reached old.entries old.current c.args.chrom.now ≡ false = elim c.match-self.branch [
      | in-Some+else-is_same_name w ↦ rw (w.in-Some.is, name_read old.entries w.in-Some.reached.rank w.name-name.result.now w.name-name.ensures) (sym w.is_same_name.ensures ∙ w.if-is_same_name.false)
      | in_default w ↦ rw (w.in_default.is) refl
    ] in
    rw (← c.self.view_is, c.clear.ensures) (enters_there old c.name-name-2.result.now c.length-length-2.result c.args.chrom.now c.in-Some-rank.rank off c.in-Some-rank.ensures c.args.out.now.output c.put_before.new.out.output c.in_ok-put_before.ensures)

pub returns-in_default-rank-clause-enters : goal.returns-in_default-rank-clause-enters
returns-in_default-rank-clause-enters g c =
    let m = c.self.inside in
    let old : Covering = record { entries = entries m.chroms.genome.now; zeros = m.chroms.zeros; strand = m.strand; current = seen m.current m.held; is_known = m.is_known; name = m.name.now; length = m.length } in
    rw (← c.self.view_is) (enters_moved old false m.name.now m.length c.args.chrom.now c.args.out.now.output)

pub name-name-requires-2 : goal.name-name-requires-2
name-name-requires-2 g c = (found_at (entries c.self.inside.chroms.genome.now) c.args.chrom.now c.in-Some-rank.rank (sym c.in-Some-rank.ensures)).within

pub length-length-requires-2 : goal.length-length-requires-2
length-length-requires-2 g c = (found_at (entries c.self.inside.chroms.genome.now) c.args.chrom.now c.in-Some-rank.rank (sym c.in-Some-rank.ensures)).within
