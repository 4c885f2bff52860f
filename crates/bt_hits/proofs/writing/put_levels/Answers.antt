use Rattle.bt_lines.proofs.Std.{◌≡◌, arith, ℕ, List, filter, err_from_is_err_and, subst}
use Rattle.bt_lines.specs.calls.Output.{Grown}
use Rattle.bt_sweep.specs.model.Lines.{hit_line}
use Rattle.bt_hits.specs.inside.Meeting.{records_near}
use Rattle.bt_hits.specs.inside.Writing.{is_hit_on}
use Rattle.bt_hits.proofs.lemmas.Writing.{level_cut, level_next, levels_reach, lines_to}
use Rattle.bt_hits.proofs.writing.put_levels.Goals as goal

pub returns-in_err-put_level : goal.returns-in_err-put_level
returns-in_err-put_level g c =
    let p = err_from_is_err_and c.from_residual.result c.from_residual.ensures.1 in
    rw (p.1, p.2) (level_cut (hit_line c.args.listing.shape c.args.a.now) (λ (level : ℕ). filter (is_hit_on c.args.listing.rule level c.args.a.now) (records_near c.args.near.now)) c.loop-level.level
    c.args.out.now.output c.loop-level.out.output c.put_level.new.out.output c.in_err-put_level.field-0.0 (omega arith) c.loop-level.invariant c.in_err-put_level.ensures)

pub loop-level-preserved : goal.loop-level-preserved
loop-level-preserved g c =
    level_next (hit_line c.args.listing.shape c.args.a.now) (λ (level : ℕ). filter (is_hit_on c.args.listing.rule level c.args.a.now) (records_near c.args.near.now)) c.loop-level.level
    c.args.out.now.output c.loop-level.out.output c.put_level.new.out.output (omega arith) c.loop-level.invariant c.in_ok-put_level.ensures

pub returns : goal.returns
returns g c =
    let f = hit_line c.args.listing.shape c.args.a.now in
    let count = c.levels_in-level-end.result in
    let reached : c.loop-level.level ≡ count = omega arith in
    let on = λ (level : ℕ). filter (is_hit_on c.args.listing.rule level c.args.a.now) (records_near c.args.near.now) in
    let kept = subst (λ (n : ℕ). Grown c.args.out.now.output (lines_to f on n) c.loop-level.out.output) reached c.loop-level.invariant in
    subst (λ (l : List ℕ). Grown c.args.out.now.output l c.loop-level.out.output) (levels_reach f c.args.listing.rule c.args.a.now (records_near c.args.near.now) count c.levels_in-level-end.ensures.below) kept
