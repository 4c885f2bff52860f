use Rattle.bt_lines.proofs.Std.{arith, refl, take}
use Rattle.bt_lines.proofs.lemmas.reader.lines.TextLemmas.{before_tab, without_tab}
use Rattle.bt_bed.proofs.record.kept_strand.third_column.Goals as goal

pub returns-then-first-text : goal.returns-then-first-text
returns-then-first-text c = rw (without_tab c.args.text.now c.length_before-first.result c.length_before-first.ensures c.if-first-text.true) refl

pub returns : goal.returns
returns c =
    let first = c.length_before-first in
    let second = c.length_before-second in
    let rest = c.behind-text.result.now in
    rw (
      before_tab c.args.text.now first.result first.ensures (omega (arith, first.ensures.within, c.if-first-text.false)),
      ← c.behind-text.ensures,
      before_tab rest second.result second.ensures (omega (arith, second.ensures.within, c.if-second-text.false)),
      ← c.behind.ensures,
    ) (c.first_column.ensures (take first.result c.args.text.now) (take second.result rest))
