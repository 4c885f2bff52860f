use Rattle.std.proofs.lemmas.Grind.{common_steps}
use denote.Enum.Bare.{sameb}
use Rattle.bt_lines.proofs.Std.{◌≡◌, ap, arith, refl}
use Rattle.bt_bed.specs.calls.Batch.{line_in}
use Rattle.bt_bed.specs.calls.Bed.{record_in}
use Rattle.bt_bed.specs.contracts.record.strand.Strand.{the_type}
use Rattle.bt_bed.specs.declared.record.strand.Strand.{Strand}
use Rattle.bt_bed.specs.declared.record.strand.Strand.TheVariants.{Dot, Minus, Plus}
use Rattle.bt_bed.specs.model.Feature.{is_same_strand}
use Rattle.bt_front.proofs.lemmas.survey.SeenLemmas.{line_passed, looked_all, looked_more}
use Rattle.bt_front.proofs.survey.records_seen.RecordsSeen.look.Goals as goal

-- the test of a strand
is_dot : (strand : Strand) → sameb the_type strand Dot ≡ is_same_strand strand Dot
is_dot Plus = refl
is_dot Minus = refl
is_dot Dot = refl

pub loop-record-preserved-then-lacks_strand : goal.loop-record-preserved-then-lacks_strand
loop-record-preserved-then-lacks_strand c =
    looked_more c.args.self.now c.args.records.now c.loop-record.ahead c.next.new.self c.loop-record.longest c.loop-record.end c.loop-record.lacks_strand
    (record_in c.in-Some.record) _ _ _ c.loop-record.invariant c.in-Some.ensures.some c.in-Some.ensures.on
    (grind (arith, common_steps)) (grind (arith, common_steps)) (grind (arith, common_steps))

pub loop-record-preserved : goal.loop-record-preserved
loop-record-preserved c =
    looked_more c.args.self.now c.args.records.now c.loop-record.ahead c.next.new.self c.loop-record.longest c.loop-record.end c.loop-record.lacks_strand
    (record_in c.in-Some.record) _ _ _ c.loop-record.invariant c.in-Some.ensures.some c.in-Some.ensures.on
    (grind (arith, common_steps)) (grind (arith, common_steps)) (rw (c.eq-lacks_strand.ensures, c.if-lacks_strand.false, c.strand.ensures) (is_dot (record_in c.in-Some.record).strand))

pub overflow_sub-count : goal.overflow_sub-count
overflow_sub-count c =
    let line = line_passed c.args.records.now c.loop-record.ahead c.loop-record.invariant.given c.loop-record.invariant.passes in
    omega (arith, line, ap line_in c.in_default.ensures.unchanged, c.line.ensures, c.line-2.ensures)

pub returns-clause-sees : goal.returns-clause-sees
returns-clause-sees c =
    (looked_all c.args.self.now c.args.records.now c.loop-record.ahead c.loop-record.longest c.loop-record.end _ c.loop-record.lacks_strand
    c.loop-record.invariant c.in_default.ensures.none (grind (arith, common_steps))).2
