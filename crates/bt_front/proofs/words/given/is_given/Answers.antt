use Rattle.bt_lines.proofs.Std.{sym, ◌∙◌}
use Rattle.bt_tool.specs.calls.Plan.{words_seen}
use Rattle.bt_front.proofs.lemmas.Given.{given_in}
use Rattle.bt_front.proofs.words.given.is_given.Goals as goal

pub returns : goal.returns
returns c = c.is_given_from.ensures ∙ sym (given_in (words_seen c.args.words.now) c.args.option.now c.requires)
