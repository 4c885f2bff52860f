use Rattle.bt_lines.proofs.Std.{◌≡◌, ap, rules}
use Rattle.bt_lines.specs.calls.Line.{line_seen}
use Rattle.bt_lines.specs.calls.Names.{fault_value}
use Rattle.bt_lines.specs.declared.fault.Place.{Place}
use Rattle.bt_lines.specs.declared.fault.Input.{Input}
use Rattle.bt_lines.specs.calls.Reader.{input_of}
use Rattle.bt_bed.proofs.lemmas.order.TableLemmas.{passed_on, going_start, going_line, going_end, going_err, going_fault}
use Rattle.bt_bed.specs.calls.GenomeTable.{ReadsGenome}
use Rattle.bt_bed.proofs.order.genome.Genome.read.Goals as goal

pub loop-genome-init : goal.loop-genome-init
loop-genome-init g c = (going_start _ c.args.reader.now _ c.new-genome.ensures, search rules)

pub loop-genome-preserved : goal.loop-genome-preserved
loop-genome-preserved g c =
    let gives = rw (c.in_ok-line.was, c.in-Some.is) at c.next.follows.holds-at-none in (
      going_line _ c.args.reader.now c.loop-genome.reader c.next.follows.lender-at-none (line_seen c.in-Some.line) c.loop-genome.genome c.add_line.new.self c.loop-genome.invariant.0 gives.answers gives.sound c.in_ok-add_line.ensures.added,
      c.loop-genome.invariant.1,
    )

pub returns-in_err-add_line : goal.returns-in_err-add_line
returns-in_err-add_line g c =
    let gives = rw (c.in_ok-line.was, c.in-Some.is) at c.next.follows.holds-at-none in
    let at : ◌≡◌ {A = Place} (record { input = c.input-input.result; line = c.in-Some.line.number }) (record { input = input_of c.args.reader.now; line = c.in-Some.line.number }) =
    ap (λ (i : Input). record { input = i; line = c.in-Some.line.number }) c.loop-genome.invariant.1 in
    passed_on (λ r. ReadsGenome g.S.Source c.args.reader.now r c.next.follows.lender-at-none) c.from_residual-in_err-add_line.result c.in_err-add_line.field-0.0
    c.from_residual-in_err-add_line.ensures.1
    (record {
      answers = going_err _ c.args.reader.now c.loop-genome.reader c.next.follows.lender-at-none (line_seen c.in-Some.line) c.loop-genome.genome _ (fault_value c.in_err-add_line.field-0.0) c.loop-genome.invariant.0 gives.answers gives.sound at c.in_err-add_line.ensures.refused;
      sound = λ was. gives.sound (c.loop-genome.invariant.0.passed.sound was);
    })

pub returns-in_err-line : goal.returns-in_err-line
returns-in_err-line g c =
    let gives = rw c.in_err-line.was at c.next.follows.holds-at-none in
    passed_on (λ r. ReadsGenome g.S.Source c.args.reader.now r c.next.follows.lender-at-none) c.from_residual.result c.in_err-line.field-0.0
    c.from_residual.ensures.1
    (record {
      answers = going_fault _ c.args.reader.now c.loop-genome.reader c.next.follows.lender-at-none c.loop-genome.genome (fault_value c.in_err-line.field-0.0) c.loop-genome.invariant.0 gives.answers;
      sound = λ was. gives.sound (c.loop-genome.invariant.0.passed.sound was);
    })

pub returns : goal.returns
returns g c =
    let gives = rw (c.in_ok-line.was, c.in_default.is) at c.next.follows.holds-at-none in
    record {
      answers = going_end _ c.args.reader.now c.loop-genome.reader c.next.follows.lender-at-none c.loop-genome.genome c.loop-genome.invariant.0 gives.answers;
      sound = λ was. gives.sound (c.loop-genome.invariant.0.passed.sound was);
    }
