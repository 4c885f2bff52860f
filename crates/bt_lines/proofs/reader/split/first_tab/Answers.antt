use Rattle.bt_lines.proofs.lemmas.reader.lines.TextLemmas.{finds_byte, tab_divides}
use Rattle.bt_lines.proofs.reader.split.first_tab.Goals as goal

pub returns : goal.returns
returns c =
    let both = tab_divides c.args.text.now c.find.result (finds_byte c.args.text.now 9 c.find.result c.find.ensures) in
    record { first = both.0; cut = both.1 }
