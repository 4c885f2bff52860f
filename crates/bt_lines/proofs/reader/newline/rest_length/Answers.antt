use Rattle.bt_lines.proofs.Std.{◌-◌, Some, arith, length, replicate, subst, sym, take-length, w8}
use Rattle.bt_lines.proofs.lemmas.reader.block.FillLemmas.{before_feed, feed_first, first_before_pad, none_before_pad}
use Rattle.bt_lines.specs.calls.Columns.{IsFirstOf, Lacks}
use Rattle.std.specs.Int.{bit_not}
use Rattle.bt_lines.proofs.reader.newline.rest_length.Goals as goal

pub returns-in-Some-find_near : goal.returns-in-Some-find_near
returns-in-Some-find_near c =
    let rest = c.args.rest.now in
    before_feed c.args.byte rest _ (first_before_pad c.args.byte (bit_not w8 c.args.byte) rest (32 - length rest) (λ e. omega (arith, e)) c.in-Some-find_near.at
    (subst (λ bytes. IsFirstOf c.args.byte bytes (Some c.in-Some-find_near.at)) c.padded.ensures c.in-Some-find_near.ensures))

pub returns-in-None : goal.returns-in-None
returns-in-None c =
    let rest = c.args.rest.now in
    let none = none_before_pad c.args.byte rest (replicate (32 - length rest) (bit_not w8 c.args.byte)) (subst (Lacks c.args.byte) c.padded.ensures c.in-None.ensures) in
    record { within = omega arith; clear = subst (Lacks c.args.byte) (sym (take-length rest)) none; cut = λ h. absurd (omega (arith, h)) }

pub returns-in-Some-find_near-2 : goal.returns-in-Some-find_near-2
returns-in-Some-find_near-2 c =
    let rest = c.args.rest.now in
    before_feed c.args.byte rest _ (feed_first c.args.byte rest _ 32 c.in-Some-find_near-2.at c.in-Some.ensures.cases.same c.in-Some.ensures.cases.enough c.in-Some-find_near-2.ensures)
