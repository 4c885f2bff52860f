use Rattle.bt_lines.proofs.Std.{arith, length-take-le, sym, ◌∙◌}
use Rattle.bt_bed.proofs.lemmas.parse.NameLemmas.{halves_tell}
use Rattle.bt_bed.proofs.parse.names.have_same_halves.Goals as goal

pub have_same_ends-requires-then-have_same_ends-clause-same :
    goal.have_same_ends-requires-then-have_same_ends-clause-same
have_same_ends-requires-then-have_same_ends-clause-same c =
    length-take-le 16 c.args.left.now (omega (arith, c.requires.long))
    ∙ sym (length-take-le 16 c.args.right.now (omega (arith, c.requires.long, c.requires.same)))

pub returns-then-have_same_ends : goal.returns-then-have_same_ends
returns-then-have_same_ends c =
    c.have_same_ends-then-have_same_ends.ensures
    ∙ halves_tell c.args.left.now c.args.right.now c.requires.same (omega (arith, c.requires.long)) c.requires.short
    (sym c.have_same_ends.ensures ∙ c.if-have_same_ends.true)
