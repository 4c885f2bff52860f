use Rattle.bt_lines.proofs.Std.{false, ℕ, Err, List, arith, slice_range, subst, sym, err_from_is_err_and}
use Rattle.bt_bed.specs.calls.GenomeTable.{entries}
use Rattle.bt_bed.specs.model.BedLine.{interval_line, interval_lines}
use Rattle.bt_lines.specs.calls.Output.{Adds, Grown}
use Rattle.bt_lines.proofs.lemmas.Writer.{grown_none}
use Rattle.bt_runs.specs.inside.Walk.{entry_at}
use Rattle.bt_runs.specs.inside.GapStep.{bare_gap, gap_between}
use Rattle.bt_runs.proofs.lemmas.complement.GapRuleLemmas.{no_bares}
use Rattle.bt_runs.proofs.lemmas.order.ByChromosome.{bare_cut, length_read, name_read, one_bare}
use Rattle.bt_runs.proofs.complement.gap_rule.put_bares.Goals as goal

pub returns-then-limit : goal.returns-then-limit
returns-then-limit g c = rw (c.if-limit.true, no_bares (slice_range (entries c.args.genome.now) c.args.first c.args.stop)) (grown_none c.args.out.now.output)

pub returns-in_err-put_gap : goal.returns-in_err-put_gap
returns-in_err-put_gap g c =
    let p = err_from_is_err_and c.from_residual.result c.from_residual.ensures.1 in
    let table = entries c.args.genome.now in
    let rank = c.loop-rank.rank in
    let named = name_read table rank c.name.result.now c.name.ensures in
    let size = length_read table rank c.length.result c.length.ensures.is in
    let gap = λ (name : List ℕ) (n : ℕ). interval_lines (gap_between name 0 n) in
    let cut = subst (λ n. Adds {A = Unit {0}} c.loop-rank.out.output (gap (entry_at table rank).name n) (Err c.in_err-put_gap.field-0.0) c.put_gap.new.out.output) (sym size)
    (subst (λ name. Adds {A = Unit {0}} c.loop-rank.out.output (gap name c.length.result) (Err c.in_err-put_gap.field-0.0) c.put_gap.new.out.output) (sym named) c.in_err-put_gap.ensures) in
    rw (p.1, p.2, c.if-limit.false) (bare_cut (bare_gap false) table interval_line (omega arith) (omega arith) _ c.loop-rank.invariant c.args.stop c.in_err-put_gap.field-0.0 (omega arith) cut)

pub loop-rank-preserved : goal.loop-rank-preserved
loop-rank-preserved g c =
    let table = entries c.args.genome.now in
    let rank = c.loop-rank.rank in
    let named = name_read table rank c.name.result.now c.name.ensures in
    let size = length_read table rank c.length.result c.length.ensures.is in
    let gap = λ (name : List ℕ) (n : ℕ). interval_lines (gap_between name 0 n) in
    let whole = subst (λ n. Grown c.loop-rank.out.output (gap (entry_at table rank).name n) c.put_gap.new.out.output) (sym size)
    (subst (λ name. Grown c.loop-rank.out.output (gap name c.length.result) c.put_gap.new.out.output) (sym named) c.in_ok-put_gap.ensures) in
    one_bare (bare_gap false) table interval_line (omega arith) (omega arith) _ c.loop-rank.invariant whole

pub returns : goal.returns
returns g c = grind arith
