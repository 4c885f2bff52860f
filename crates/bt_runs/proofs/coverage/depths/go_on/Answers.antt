use Rattle.bt_lines.proofs.Std.{common_steps, ℕ, ◌≡◌, ◌-◌, ◌+◌, ◌<◌, ◌≤◌, ◌++◌, List, Ok, All, arith, length, max, sym, subst, ap, ◌∙◌, err_from_is_err_and}
use Rattle.bt_lines.proofs.lemmas.Writer.{grown_none}
use Rattle.bt_bed.specs.model.Feature.{Span}
use Rattle.bt_runs.specs.inside.Coverage.{begun_seen, still_open, OpenAt}
use Rattle.bt_bed.specs.calls.LevelScan.{ended_after, next_begun, next_ended}
use Rattle.bt_runs.specs.model.Depth.{depth_of, reported}
use Rattle.bt_runs.proofs.lemmas.coverage.DepthSteps.{adds_levels, cut_levels, here_depth, no_begun, no_ended, run_depth, turn_begun, turn_ended, turn_more}
use Rattle.bt_runs.proofs.lemmas.coverage.OpenLemmas.{open_after, same_later}
use Rattle.bt_runs.proofs.coverage.depths.go_on.Goals as goal

abbrev with_at : ℕ → List Span → OpenAt
with_at at spans = record { at = at; spans = still_open at spans }

pub loop-position-init : goal.loop-position-init
loop-position-init g c = grind (arith, common_steps, no_ended, grown_none, no_begun)

pub returns-in_err-begun-clause-adds : goal.returns-in_err-begun-clause-adds
returns-in_err-begun-clause-adds g c =
    let p = err_from_is_err_and c.from_residual.result c.from_residual.ensures.1 in
    let i = c.loop-position.invariant in
    let held = c.args.held.now in
    let u = depth_of c.args.chrom.now.zeros held.spans in
    let at = c.loop-position.position in
    let first = begun_seen c.args.begun in
    let begun = begun_seen c.loop-position.begun in
    let value = c.reported-depth.result in
    let test = c.loop-position-test.true in
    let next : max c.loop-position.held.at (at + 1) ≡ at + 1 = omega (arith, i.here) in
    let now : c.go_on.new.self ≡ record { at = at + 1; spans = still_open (at + 1) c.loop-position.held.spans } = c.go_on.ensures.at ∙ ap (λ n. with_at n c.loop-position.held.spans) next in
    let is : value ≡ reported c.args.chrom.now.zeros (length (still_open (at + 1) c.loop-position.held.spans)) = c.reported-depth.ensures ∙ ap (reported c.args.chrom.now.zeros) (c.len.ensures ∙ ap (λ (h : OpenAt). length h.spans) now) in
    let here = here_depth c.args.chrom.now.zeros c.loop-position.held.at at held.spans c.loop-position.held.spans i.here (same_later c.loop-position.held.at at c.loop-position.held.spans held.spans i.here i.same) c.go_on.ensures.started value is in
    let more = turn_more u held.at at c.args.stop first begun value i.from (omega arith) here i.begun in
    rw (p.1, p.2) (cut_levels c.args.chrom.now.name.now c.args.out.now.output c.loop-position.out.output c.put_next.new.out.output (ended_after u held.at (at - held.at) first) (next_ended at value begun) (ended_after u held.at (c.args.stop - held.at) first) more.0 c.in_err-begun.field-0.0 more.1 i.puts c.in_err-begun.ensures.adds)

pub loop-position-preserved : goal.loop-position-preserved
loop-position-preserved g c =
    let i = c.loop-position.invariant in
    let held = c.args.held.now in
    let u = depth_of c.args.chrom.now.zeros held.spans in
    let at = c.loop-position.position in
    let next = c.first_end-position.result in
    let first = begun_seen c.args.begun in
    let begun = begun_seen c.loop-position.begun in
    let value = c.reported-depth.result in
    let spans = c.loop-position.held.spans in
    let now : c.go_on.new.self ≡ record { at = at + 1; spans = still_open (at + 1) spans } = c.go_on.ensures.at ∙ ap (λ n. with_at n spans) (omega (arith, i.here)) in
    let here : c.go_on.new.self.at ≡ at + 1 = ap (λ h. h.at) now in
    let is : value ≡ reported c.args.chrom.now.zeros (length (still_open (at + 1) spans)) = c.reported-depth.ensures ∙ ap (reported c.args.chrom.now.zeros) (c.len.ensures ∙ ap (λ (h : OpenAt). length h.spans) now) in
    let ends : All (λ s. next ≤ s.stop) (still_open (at + 1) spans) = subst (λ (h : OpenAt). All (λ s. next ≤ s.stop) h.spans) now c.first_end-position.ensures.ends in
    let run = run_depth c.args.chrom.now.zeros c.loop-position.held.at at held.spans spans i.here (same_later c.loop-position.held.at at c.loop-position.held.spans held.spans i.here i.same) c.go_on.ensures.started value is next ends in
    let low = i.from in
    let behind : at < next = omega arith in
    let ended = turn_ended u held.at at next first value low behind run ∙ ap (λ b. ended_after u held.at (at - held.at) first ++ next_ended at value b) (sym i.begun) in
    record {
      from = omega arith;
      to = omega arith;
      here = omega arith;
      same = ap (λ (h : OpenAt). still_open h.at h.spans) now ∙ open_after (at + 1) (at + 1) spans (omega arith) ∙ same_later c.loop-position.held.at (at + 1) spans held.spans (omega (arith, i.here)) i.same ∙ ap (λ n. still_open n held.spans) (sym here);
      puts = adds_levels c.args.chrom.now.name.now c.args.out.now.output c.loop-position.out.output c.put_next.new.out.output (ended_after u held.at (at - held.at) first) (next_ended at value begun) (ended_after u held.at (next - held.at) first) {A = Unit {0}} (Ok tt) ended i.puts c.in_ok-begun.ensures.adds;
      begun = c.in_ok-begun.ensures.begun ∙ ap (next_begun at value) i.begun ∙ sym (turn_begun u held.at at next first value low behind run);
    }

pub returns-clause-held : goal.returns-clause-held
returns-clause-held g c up =
    let i = c.loop-position.invariant in
    let test = c.loop-position-test.false in
    let stop = c.args.stop in
    let from = c.loop-position.held in
    let here : from.at ≤ stop = omega (arith, i.here) in
    let last : max from.at stop ≡ stop = omega arith in
    c.go_on-2.ensures.at ∙ ap (λ n. with_at n from.spans) last ∙ ap (λ l. record { at = stop; spans = l }) (same_later from.at stop from.spans c.args.held.now.spans here i.same)
