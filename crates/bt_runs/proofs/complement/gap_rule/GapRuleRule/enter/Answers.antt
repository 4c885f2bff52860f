use Rattle.bt_lines.proofs.Std.{common_steps, ◌∙◌, Some, arith, refl, sym, err_from_is_err_and}
use Rattle.bt_bed.specs.calls.GenomeTable.{entries}
use Rattle.bt_runs.specs.inside.GapRule.{seen, complement_at}
use Rattle.bt_runs.specs.inside.Walk.{left_before}
use Rattle.bt_runs.specs.inside.GapStep.{bare_gap, last_gap}
use Rattle.bt_runs.proofs.lemmas.complement.GapRuleLemmas.{cursor_reached, enters_failing, enters_here, enters_next, goes_other, has_chrom, lacks_chrom, on_found, other_rank, rank_placed, same_rank}
use Rattle.bt_runs.proofs.lemmas.order.ByChromosome.{length_read, name_read}
use Rattle.bt_runs.proofs.complement.gap_rule.GapRuleRule.enter.Goals as goal

pub returns-in_default-clause-on : goal.returns-in_default-clause-on
returns-in_default-clause-on g c = grind (arith, (lacks_chrom c.self.inside.limit c.self.inside.cursor c.args.chrom.now (sym c.rank.ensures ∙ c.in_default.is)))

pub length-self-inside-requires : goal.length-self-inside-requires
length-self-inside-requires g c = grind (arith, (rank_placed c.self.inside.limit c.self.inside.cursor c.args.chrom.now c.in-Some.rank (sym c.in-Some.ensures)))

pub returns-then-eq-clause-on : goal.returns-then-eq-clause-on
returns-then-eq-clause-on g c =
    let cursor = c.self.inside.cursor in
    let same = same_rank cursor.rank c.in-Some.rank c.eq.result c.eq.ensures c.if-eq.true in
    let size = length_read (entries cursor.genome.now) c.in-Some.rank c.length-self-inside.result c.length-self-inside.ensures.is in
    has_chrom c.self.inside.limit cursor c.args.chrom.now c.in-Some.rank (sym c.in-Some.ensures) cursor.end c.length-self-inside.result (seen cursor) (rw same refl) size

pub put_before-requires : goal.put_before-requires
put_before-requires g c = grind (arith, (rank_placed c.self.inside.limit c.self.inside.cursor c.args.chrom.now c.in-Some.rank (sym c.in-Some.ensures)))

pub returns-in_err-put_before-clause-enters : goal.returns-in_err-put_before-clause-enters
returns-in_err-put_before-clause-enters g c =
    let p = err_from_is_err_and c.from_residual.result c.from_residual.ensures.1 in
    let cursor = c.self.inside.cursor in
    let limit = c.self.inside.limit in
    let rank = c.in-Some.rank in
    let other = other_rank cursor.rank rank c.eq.result c.eq.ensures c.if-eq.false in
    rw (p.1, p.2, ← c.self.view_is)
    (enters_failing (complement_at limit cursor) (cursor_reached cursor) c.args.chrom.now c.args.out.now.output (record { rank = rank; known = 0 })
    (left_before last_gap (bare_gap limit) (entries cursor.genome.now) (seen cursor) rank) (goes_other limit cursor c.args.chrom.now rank (sym c.in-Some.ensures) other)
    c.in_err-put_before.field-0.0 (complement_at limit cursor) c.put_before.new.out.output c.in_err-put_before.ensures)

pub name-requires : goal.name-requires
name-requires g c = (rank_placed c.self.inside.limit c.self.inside.cursor c.args.chrom.now c.in-Some.rank (sym c.in-Some.ensures)).within

pub length-requires : goal.length-requires
length-requires g c = (rank_placed c.self.inside.limit c.self.inside.cursor c.args.chrom.now c.in-Some.rank (sym c.in-Some.ensures)).within

pub invariant_of-self : goal.invariant_of-self
invariant_of-self g c = grind (arith, common_steps, rank_placed, name_read)

pub returns-clause-on : goal.returns-clause-on
returns-clause-on g c =
    let size = length_read (entries c.self.inside.cursor.genome.now) c.in-Some.rank c.length.result c.length.ensures.is in
    has_chrom c.self.inside.limit c.self.inside.cursor c.args.chrom.now c.in-Some.rank (sym c.in-Some.ensures) 0 c.length.result (Some (record { rank = c.in-Some.rank; known = 0 })) refl size

pub returns-clause-enters : goal.returns-clause-enters
returns-clause-enters g c =
    let cursor = c.self.inside.cursor in
    let limit = c.self.inside.limit in
    let rank = c.in-Some.rank in
    let other = other_rank cursor.rank rank c.eq.result c.eq.ensures c.if-eq.false in
    rw (← c.self.view_is)
    (enters_next (complement_at limit cursor) (cursor_reached cursor) c.args.chrom.now c.args.out.now.output (record { rank = rank; known = 0 })
    (left_before last_gap (bare_gap limit) (entries cursor.genome.now) (seen cursor) rank) (goes_other limit cursor c.args.chrom.now rank (sym c.in-Some.ensures) other)
    c.length.result c.put_before.new.out.output (on_found (entries cursor.genome.now) c.args.chrom.now rank (sym c.in-Some.ensures)) c.in_ok-put_before.ensures)

pub returns-in_default-clause-enters : goal.returns-in_default-clause-enters
returns-in_default-clause-enters g c = grind (arith, enters_here, cursor_reached)

pub returns-then-eq-clause-enters : goal.returns-then-eq-clause-enters
returns-then-eq-clause-enters g c = grind (arith, enters_here, cursor_reached)
