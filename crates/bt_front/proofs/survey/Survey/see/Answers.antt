use Rattle.std.proofs.lemmas.Grind.{common_steps}
use Rattle.std.specs.List.{All}
use Rattle.bt_lines.proofs.Std.{◌≡◌, ◌∙◌, ℕ, List, [], ◌∷◌, arith, ap, subst, sym}
use Rattle.bt_bed.specs.calls.Batch.{left, chrom_in, line_in}
use Rattle.bt_bed.specs.calls.Bed.{record_in}
use Rattle.bt_bed.specs.model.Feature.{Feature}
use Rattle.bt_front.specs.model.Extents.{extents_in}
use Rattle.bt_front.specs.calls.Chromosomes.{widened}
use Rattle.bt_front.specs.declared.survey.records_seen.RecordsSeen.{RecordsSeen}
use Rattle.bt_front.specs.inside.Seeing.{Sees}
use Rattle.bt_front.proofs.lemmas.survey.BatchLemmas.{BeginsWith, sees_all, sees_far, sees_none, sees_refused}
use Rattle.bt_front.proofs.lemmas.survey.SeenLemmas.{line_passed}
use Rattle.bt_front.proofs.survey.Survey.see.Goals as goal

pub returns-in_default : goal.returns-in_default
returns-in_default c = sees_none c.args.self.now c.args.batch.now c.in_default.ensures.none

pub returns-in-Err : goal.returns-in-Err
returns-in-Err c =
    let first = record_in c.in-Some.first in
    let begins : BeginsWith c.args.batch.now first c.chrom.result.now = record { more = left c.next.new.self; are = c.in-Some.ensures.some.left_is; on = sym c.chrom.ensures } in
    sees_refused c.args.self.now c.enter.new.self c.args.batch.now first c.chrom.result.now c.line.result c.in-Err.trouble begins
    (omega (arith, c.line.ensures, line_passed c.args.batch.now c.next.new.self (first ∷ []) c.in-Some.ensures.some)) c.in-Err.ensures

pub returns-then-stop-gt-LARGEST_END : goal.returns-then-stop-gt-LARGEST_END
returns-then-stop-gt-LARGEST_END c =
    let name : chrom_in c.args.batch.now ≡ c.chrom.result.now = sym c.in-Some.ensures.on ∙ sym c.chrom.ensures in
    let on = subst (λ (n : List ℕ). All (λ (r : Feature). r.chrom ≡ n) (left c.args.batch.now)) name c.look-stop.ensures.on in
    sees_far c.args.self.now _ c.args.batch.now c.look-stop.new.records c.chrom.result.now c.start.result c.far_line.result (extents_in c.enter.new.self.chromosomes)
    c.in_default-enter.ensures.1 on c.look-stop.ensures.passes c.far_line.ensures

pub returns : goal.returns
returns c =
    let first = record_in c.in-Some.first in
    let begins : BeginsWith c.args.batch.now first c.chrom.result.now = record { more = left c.next.new.self; are = c.in-Some.ensures.some.left_is; on = sym c.chrom.ensures } in
    let name : chrom_in c.args.batch.now ≡ c.chrom.result.now = sym c.in-Some.ensures.on ∙ sym c.chrom.ensures in
    let on = subst (λ (n : List ℕ). All (λ (r : Feature). r.chrom ≡ n) (left c.args.batch.now)) name c.look-stop.ensures.on in
    let within = c.if-stop-gt-LARGEST_END.false in
    sees_all c.args.self.now _ c.args.batch.now c.look-stop.new.records first c.chrom.result.now c.start.result (extents_in c.enter.new.self.chromosomes)
    c.in_default-enter.ensures.1 begins (sym c.start.ensures) on c.look-stop.ensures.passes c.look-stop.ensures.all
    (omega (arith, c.look-stop.ensures.end)) (c.widen_last.ensures ∙ ap (λ (n : ℕ). widened n (extents_in c.enter.new.self.chromosomes)) c.look-stop.ensures.end)
    (subst (λ (seen : RecordsSeen). Sees seen (left c.args.batch.now) c.look-stop.new.self) c.in_default-enter.ensures.0 c.look-stop.ensures.sees)
