use Rattle.bt_lines.proofs.Std.{◌∙◌, sym}
use Rattle.drop_in.specs.calls.Words.IsWhyOfWords.{no_plan, other_form}
use Rattle.drop_in.proofs.words.usage_why.Goals as goal

pub returns-then-is_command : goal.returns-then-is_command
returns-then-is_command c = other_form c.args.usage (sym c.is_command.ensures ∙ c.if-is_command.true) c.requires

pub returns : goal.returns
returns c = no_plan c.args.usage c.requires
