use Rattle.std.proofs.Common.{◌∙◌, sym}
use Rattle.drop_in.proofs.lemmas.MarkLemmas.{found_has, has_found}
use Rattle.drop_in.proofs.marks.has.Goals as goal

pub returns : goal.returns
returns c =
    let bytes = c.args.bytes.now in
    let words = c.args.words.now in (
      λ is. found_has bytes words c.find.result c.find.ensures (sym c.is_some.ensures ∙ is),
      λ has. c.is_some.ensures ∙ has_found bytes words c.find.result c.find.ensures has,
    )
