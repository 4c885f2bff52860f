use Rattle.bt_lines.proofs.lemmas.reader.lines.BufferedLemmas.{kept_after, passes_one}
use Rattle.bt_lines.proofs.Std.{◌+◌, ap, refl, sym}
use Rattle.bt_lines.proofs.reader.buffered_lines.BufferedLines.consume.Goals as goal

pub invariant_of-self : goal.invariant_of-self
invariant_of-self c =
    let kept = kept_after c.args.self.now c.requires.0 c.args.size c.requires.1 c.requires.2 in
    record { within = kept.within; a_byte_each = kept.a_byte_each; fed = kept.fed; last = kept.last }

pub returns-clause-passes : goal.returns-clause-passes
returns-clause-passes c = passes_one c.args.self.now _ c.requires.0 c.requires.1 (ap (λ n. c.args.self.now.at + n) (sym c.requires.2)) refl refl refl
