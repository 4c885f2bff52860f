use Rattle.bt_lines.proofs.Std.{◌∙◌, sym}
use Rattle.bt_tool.specs.calls.Plan.{plan_seen, words_seen}
use Rattle.drop_in.specs.calls.Words.IsWhyOfWords.{converts, no_memory, not_here, not_ours}
use Rattle.drop_in.proofs.lemmas.WordsLemmas.{asked_has_command}
use Rattle.drop_in.proofs.words.Request.of.Goals as goal

pub returns-then-is_command-clause-why : goal.returns-then-is_command-clause-why
returns-then-is_command-clause-why c = converts (sym c.is_command.ensures ∙ c.if-is_command.true)

pub returns-in-Err-NoMemory-clause-why : goal.returns-in-Err-NoMemory-clause-why
returns-in-Err-NoMemory-clause-why c = no_memory (rw c.in-Err-NoMemory.field-0-is at c.in-Err-NoMemory.ensures.refused)

pub returns-in-Err-Usage-clause-why : goal.returns-in-Err-Usage-clause-why
returns-in-Err-Usage-clause-why c = c.usage_why.ensures

pub returns-in-Some-clause-why : goal.returns-in-Some-clause-why
returns-in-Some-clause-why c =
    not_here (plan_seen c.in-Ok.plan) c.in-Some.why c.in-Ok.ensures.asked (sym c.command_why.ensures ∙ c.in-Some.is)

pub returns-in-Err-clause-why : goal.returns-in-Err-clause-why
returns-in-Err-clause-why c =
    not_ours (plan_seen c.in-Ok.plan) c.in-Err.reason c.in-Ok.ensures.asked (sym c.of.ensures ∙ c.in-Err.is)

pub returns-in-Ok-of-clause-asks : goal.returns-in-Ok-of-clause-asks
returns-in-Ok-of-clause-asks c = record {
  plan = c.in-Ok.ensures.asked;
  asked = asked_has_command (words_seen c.args.words.now) (plan_seen c.in-Ok.plan) c.in-Ok-of.asked (sym c.of.ensures ∙ c.in-Ok-of.is);
  run_here = sym c.command_why.ensures ∙ c.in_default.is;
}
