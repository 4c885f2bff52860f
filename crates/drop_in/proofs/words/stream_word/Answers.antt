use Rattle.bt_lines.proofs.Std.{◌∙◌, sym}
use Rattle.drop_in.specs.calls.Words.IsStreamWord.{replaced, stays}
use Rattle.drop_in.proofs.words.stream_word.Goals as goal

pub returns-then-is_of_standard_input : goal.returns-then-is_of_standard_input
returns-then-is_of_standard_input c =
    stays (sym c.is_of_standard_input.ensures ∙ c.if-is_of_standard_input.true)

pub returns-in-Some : goal.returns-in-Some
returns-in-Some c = replaced c.in-Some.place c.in-Some.ensures
