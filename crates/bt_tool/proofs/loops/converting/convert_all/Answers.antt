use Rattle.bt_lines.proofs.Std.{◌∙◌, ap, arith, refl, subst, ⊎_elim}
use Rattle.bt_lines.specs.calls.Line.{line_seen}
use Rattle.bt_lines.specs.calls.Names.{fault_value}
use Rattle.bt_lines.specs.declared.fault.Input.{Input}
use Rattle.bt_lines.specs.calls.Reader.{fault_kept}
use Rattle.bt_bed.proofs.lemmas.order.TableLemmas.{passed_on}
use Rattle.bt_seq.specs.calls.Sam.{Converting}
use Rattle.bt_tool.specs.inside.Feed.{ConvertsAll, LineRefused, sam_reader}
use Rattle.bt_tool.specs.calls.Run.{AnswersNoRead, TellsNoRead}
use Rattle.bt_tool.proofs.lemmas.running.feed.DrivingLemmas.{converts_all, going_line, going_start, refused_no_read, stops_at_line, stops_reading, stops_writing}
use Rattle.bt_tool.proofs.lemmas.running.whole.OwnFailureLemmas.{line_none, none_tells}
use Rattle.bt_tool.proofs.loops.converting.convert_all.Goals as goal

pub loop-line-init : goal.loop-line-init
loop-line-init g c = record {
  going = going_start _ _ _ c.args.lines.now c.args.out.now.output c.requires.fresh c.requires.block;
  same = refl;
  input = c.input-input.ensures;
}

pub returns-in_err-line-clause-converts : goal.returns-in_err-line-clause-converts
returns-in_err-line-clause-converts g c =
    let gives = rw c.in_err-line.was at c.next.follows.holds-at-none in
    let now = c.loop-line.invariant in
    passed_on (λ r. ConvertsAll g.S.Source c.args.converter.now c.args.lines.now c.args.out.now.output r c.next.follows.lender-at-none c.loop-line.out.output) c.from_residual.result c.in_err-line.field-0.0
    c.from_residual.ensures.1 (
      sam_reader c.next.follows.lender-at-none,
      refl,
      stops_reading _ _ _ c.args.lines.now c.args.out.now.output now.going c.next.follows.lender-at-none (fault_value c.in_err-line.field-0.0) gives.answers gives.sound,
      λ input line e. e,
    )

pub returns-in_err-line-clause-none_kept : goal.returns-in_err-line-clause-none_kept
returns-in_err-line-clause-none_kept g c =
    let gives = rw c.in_err-line.was at c.next.follows.holds-at-none in
    passed_on (λ r. AnswersNoRead r → TellsNoRead (fault_kept c.next.follows.lender-at-none)) c.from_residual.result c.in_err-line.field-0.0 c.from_residual.ensures.1
    (line_none (fault_kept c.next.follows.lender-at-none) (fault_value c.in_err-line.field-0.0) gives.answers.kept)

pub loop-line-smaller : goal.loop-line-smaller
loop-line-smaller g c =
    omega (arith, (rw (c.in_ok-line.was, c.in-Some.is) at c.next.follows.holds-at-none).answers.shrinks)

pub loop-line-preserved : goal.loop-line-preserved
loop-line-preserved g c =
    let gives = rw (c.in_ok-line.was, c.in-Some.is) at c.next.follows.holds-at-none in
    let now = c.loop-line.invariant in
    let first = c.args.converter.now in
    let written = c.in_ok-convert_line.ensures in
    record {
      going = going_line first.split first.with_cigar _ c.args.lines.now c.args.out.now.output now.going gives.answers
          gives.sound (ap (λ (m : Converting). m.split) now.same) (ap (λ (m : Converting). m.with_cigar) now.same) written;
      same = written.3 ∙ now.same;
      input = now.input;
    }

pub returns-in_err-convert_line-clause-converts : goal.returns-in_err-convert_line-clause-converts
returns-in_err-convert_line-clause-converts g c =
    let gives = rw (c.in_ok-line.was, c.in-Some.is) at c.next.follows.holds-at-none in
    let now = c.loop-line.invariant in
    let first = c.args.converter.now in
    let fault = fault_value c.in_err-convert_line.field-0.0 in
    let line = line_seen c.in-Some.line in
    passed_on (λ r. ConvertsAll g.S.Source c.args.converter.now c.args.lines.now c.args.out.now.output r c.next.follows.lender-at-none c.convert_line.new.out.output) c.from_residual-in_err-convert_line.result c.in_err-convert_line.field-0.0
    c.from_residual-in_err-convert_line.ensures.1
    (⊎_elim
    (λ refused. (
      _,
      refl,
      stops_at_line first.split first.with_cigar _ c.args.lines.now c.args.out.now.output now.going gives.answers
          gives.sound fault c.convert_line.new.out.output (subst (λ (i : Input). LineRefused i line c.loop-line.out.output fault c.convert_line.new.out.output) now.input refused),
      λ input at e. absurd (refused_no_read _ line _ fault _ refused input at e),
    ))
    (λ unwritten. (
      _,
      refl,
      stops_writing first.split first.with_cigar _ c.args.lines.now c.args.out.now.output now.going gives.answers
          gives.sound c.loop-line.converter (ap (λ (m : Converting). m.split) now.same) (ap (λ (m : Converting). m.with_cigar) now.same) unwritten,
      λ input at e. e,
    ))
    c.in_err-convert_line.ensures)

pub returns-in_err-convert_line-clause-none_kept : goal.returns-in_err-convert_line-clause-none_kept
returns-in_err-convert_line-clause-none_kept g c = λ never.
    let gives = rw (c.in_ok-line.was, c.in-Some.is) at c.next.follows.holds-at-none in
    none_tells (fault_kept c.next.follows.lender-at-none) gives.answers.goes

pub returns-clause-converts : goal.returns-clause-converts
returns-clause-converts g c =
    let gives = rw (c.in_ok-line.was, c.in_default.is) at c.next.follows.holds-at-none in
    let now = c.loop-line.invariant in (
      sam_reader c.next.follows.lender-at-none,
      refl,
      converts_all _ _ _ c.args.lines.now c.args.out.now.output now.going c.next.follows.lender-at-none gives.answers gives.sound,
      λ input line e. e,
    )

pub returns-clause-none_kept : goal.returns-clause-none_kept
returns-clause-none_kept g c = λ never.
    let gives = rw (c.in_ok-line.was, c.in_default.is) at c.next.follows.holds-at-none in
    none_tells (fault_kept c.next.follows.lender-at-none) gives.answers.goes
