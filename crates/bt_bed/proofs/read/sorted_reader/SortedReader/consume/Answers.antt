use Rattle.bt_lines.proofs.Std.{◌≡◌, ◌∙◌, ℕ, ap, arith, refl, subst, sym, take}
use Rattle.bt_lines.specs.calls.Line.{line_feeds}
use Rattle.bt_lines.specs.calls.Reader.{buffered_bytes}
use Rattle.bt_bed.proofs.lemmas.read.good.ReadingLemmas.{takes_none}
use Rattle.bt_bed.specs.calls.Reading.{Takes}
use Rattle.bt_lines.proofs.lemmas.reader.lines.BufferedLemmas.{some_lines}
use Rattle.bt_bed.proofs.lemmas.read.batch.SortedReaderLemmas.{name_is_record, sorted_ahead, sorted_placed, sorted_takes, was_ahead, was_some}
use Rattle.bt_bed.specs.calls.SortedReader.{buffered_in, count_in, view_by}
use Rattle.bt_bed.proofs.read.sorted_reader.SortedReader.consume.Goals as goal

pub returns-then-consumed-eq0-clause-takes : goal.returns-then-consumed-eq0-clause-takes
returns-then-consumed-eq0-clause-takes g c =
    let sorted = c.args.self.now in
    let none : count_in sorted c.args.consumed ≡ 0 = sym c.requires.taken.lines.feeds ∙ ap (λ n. line_feeds (take n (buffered_bytes sorted.reader))) c.if-consumed-eq0.true in
    subst (λ (n : ℕ). Takes g.S.Source (view_by g.Q.Sorted sorted sorted) (take n (buffered_in sorted)) (view_by g.Q.Sorted sorted sorted)) (sym none)
    (takes_none g.S.Source (view_by g.Q.Sorted sorted sorted))

pub advance-requires : goal.advance-requires
advance-requires g c =
    let some = some_lines c.args.self.now.reader c.args.consumed.lines (count_in c.args.self.now c.args.consumed) c.requires.taken.lines c.if-consumed-eq0.false in
    name_is_record c.args.self.now (was_some c.args.self.now c.args.consumed c.requires.taken some)

pub invariant_of-self : goal.invariant_of-self
invariant_of-self g c = grind (arith, some_lines, sorted_ahead, was_ahead)

pub returns-clause-takes : goal.returns-clause-takes
unfolding buffered_in
returns-clause-takes g c =
    let some = some_lines c.args.self.now.reader c.args.consumed.lines (count_in c.args.self.now c.args.consumed) c.requires.taken.lines c.if-consumed-eq0.false in
    sorted_takes c.requires.taken some c.requires.placed c.consume.ensures c.advance.ensures refl

pub returns-clause-placed : goal.returns-clause-placed
unfolding buffered_in
returns-clause-placed g c =
    let some = some_lines c.args.self.now.reader c.args.consumed.lines (count_in c.args.self.now c.args.consumed) c.requires.taken.lines c.if-consumed-eq0.false in
    sorted_placed c.requires.taken some c.requires.placed c.consume.ensures c.advance.ensures refl
