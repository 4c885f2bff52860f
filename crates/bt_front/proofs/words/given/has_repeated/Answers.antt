use Rattle.bt_lines.proofs.Std.{ap, sym, ◌∙◌}
use Rattle.bt_tool.specs.calls.Plan.{words_seen}
use Rattle.bt_front.specs.model.Words.{has_repeated}
use Rattle.bt_front.proofs.lemmas.Given.{names_are, none_repeated, repeated_at, single_at}
use Rattle.bt_front.proofs.words.given.has_repeated.Goals as goal

pub returns-then-is_given_from : goal.returns-then-is_given_from
returns-then-is_given_from c =
    repeated_at c.args.words.now c.loop-at.at c.index-words-at.result c.loop-at-test.true c.index-words-at.is
    c.as_str-option.result.now c.as_str-option.ensures.value c.width.result c.is_given_from.result c.width.ensures c.is_given_from.ensures
    c.if-is_given_from.true c.loop-at.invariant
    ∙ sym (ap has_repeated (names_are (words_seen c.args.words.now) c.requires))

pub loop-at-preserved : goal.loop-at-preserved
loop-at-preserved c =
    single_at c.args.words.now c.loop-at.at c.index-words-at.result c.loop-at-test.true c.index-words-at.is
    c.as_str-option.result.now c.as_str-option.ensures.value c.width.result c.is_given_from.result c.width.ensures c.is_given_from.ensures
    c.if-is_given_from.false c.loop-at.invariant

pub returns : goal.returns
returns c =
    none_repeated c.args.words.now c.loop-at.at c.loop-at-test.false c.loop-at.invariant
    ∙ sym (ap has_repeated (names_are (words_seen c.args.words.now) c.requires))
