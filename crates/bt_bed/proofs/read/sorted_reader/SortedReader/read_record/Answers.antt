use Rattle.bt_lines.proofs.Std.{refl, arith, ap, ◌∙◌}
use Rattle.bt_bed.proofs.lemmas.read.batch.SortedReaderLemmas.{sorted_end, sorted_start, sorted_unread, taken_fault, taken_nothing, taken_record, view_before}
use Rattle.bt_bed.specs.calls.SortedReader.{buffered_in, view_with}
use Rattle.bt_bed.proofs.read.sorted_reader.SortedReader.read_record.Goals as goal

pub loop-self-init : goal.loop-self-init
loop-self-init g c = record {
  going = sorted_start g.S.Source (g.Q.Sorted.sorting c.args.self.now.lookahead.rule) c.args.self.now.reader c.args.self.now.lookahead;
  none = c.requires.none;
  rule = refl;
  last = refl;
  fault = c.requires.going;
}

pub returns-in-Ok-true-take_line-clause-fills : goal.returns-in-Ok-true-take_line-clause-fills
returns-in-Ok-true-take_line-clause-fills g c =
    let fills = rw c.in-Ok-true.field-0-test at c.in-Ok-true.ensures.fills in
    let taken = rw c.in-Ok-true-take_line.field-0-test at c.in-Ok-true-take_line.ensures.takes in
    rw (view_before g.S.Source (g.Q.Sorted.sorting c.args.self.now.lookahead.rule) c.args.self.now c.requires.none c.requires.going)
    (taken_record g.S.Source (g.Q.Sorted.sorting c.args.self.now.lookahead.rule) _ (ap g.Q.Sorted.sorting c.loop-self.invariant.rule) _ c.loop-self.self.reader fills.answers fills.kept c.loop-self.invariant.going taken)

pub loop-self-preserved : goal.loop-self-preserved
loop-self-preserved g c =
    let fills = rw c.in-Ok-true.field-0-test at c.in-Ok-true.ensures.fills in
    let taken = rw c.in-Ok-false-take_line.field-0-test at c.in-Ok-false-take_line.ensures.takes in
    record {
      going = taken_nothing g.S.Source (g.Q.Sorted.sorting c.args.self.now.lookahead.rule) _ (ap g.Q.Sorted.sorting c.loop-self.invariant.rule) _ c.loop-self.self.reader fills.answers fills.kept c.loop-self.invariant.going taken;
      none = taken.takes.none;
      rule = c.in-Ok-false-take_line.ensures.rule ∙ c.loop-self.invariant.rule;
      last = taken.keeps.last ∙ c.loop-self.invariant.last;
      fault = c.in-Ok-false-take_line.ensures.fault;
    }

pub returns-in-Err-take_line-clause-fills : goal.returns-in-Err-take_line-clause-fills
returns-in-Err-take_line-clause-fills g c =
    let fills = rw c.in-Ok-true.field-0-test at c.in-Ok-true.ensures.fills in
    rw (view_before g.S.Source (g.Q.Sorted.sorting c.args.self.now.lookahead.rule) c.args.self.now c.requires.none c.requires.going)
    (taken_fault g.S.Source (g.Q.Sorted.sorting c.args.self.now.lookahead.rule) _ (ap g.Q.Sorted.sorting c.loop-self.invariant.rule) _ c.loop-self.self.reader fills.answers fills.kept c.loop-self.invariant.going c.in-Err-take_line.fault
    c.in-Err-take_line.ensures.takes)

pub returns-in-Ok-false-clause-fills : goal.returns-in-Ok-false-clause-fills
unfolding buffered_in
returns-in-Ok-false-clause-fills g c =
    let fills = rw c.in-Ok-false.field-0-test at c.in-Ok-false.ensures.fills in
    rw (c.requires.none, c.requires.going, c.loop-self.invariant.none)
    (sorted_end g.S.Source (g.Q.Sorted.sorting c.args.self.now.lookahead.rule) _ c.loop-self.self.reader c.fill.new.self c.loop-self.self.lookahead fills.kept c.loop-self.invariant.going fills.answers)

pub returns-in-Err-clause-fills : goal.returns-in-Err-clause-fills
unfolding buffered_in
returns-in-Err-clause-fills g c =
    rw (c.requires.none, c.requires.going, c.loop-self.invariant.none)
    (sorted_unread g.S.Source (g.Q.Sorted.sorting c.args.self.now.lookahead.rule) _ c.loop-self.self.reader c.fill.new.self c.loop-self.self.lookahead c.in-Err.ensures.fills.kept c.loop-self.invariant.going c.in-Err.fault
    c.in-Err.ensures.fills.answers)

pub returns-in-Err-clause-placed : goal.returns-in-Err-clause-placed
unfolding buffered_in view_with
returns-in-Err-clause-placed g c = grind (arith, c.loop-self.invariant.none, c.loop-self.invariant.last, c.requires.placed.last)
