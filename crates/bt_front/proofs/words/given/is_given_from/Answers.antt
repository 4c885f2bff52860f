use Rattle.bt_front.proofs.lemmas.Given.{found_at, none_at, passed_at}
use Rattle.bt_front.proofs.words.given.is_given_from.Goals as goal

pub returns-then-eq : goal.returns-then-eq
returns-then-eq c =
    found_at c.args.words.now c.loop-at.at c.index-words-at.result c.loop-at-test.true c.index-words-at.is
    c.as_str-word.result.now c.as_str-word.ensures.value c.args.option.now c.args.from c.eq.result c.eq.ensures c.if-eq.true c.loop-at.invariant

pub loop-at-preserved : goal.loop-at-preserved
loop-at-preserved c =
    passed_at c.args.words.now c.loop-at.at c.index-words-at.result c.loop-at-test.true c.index-words-at.is
    c.as_str-word.result.now c.as_str-word.ensures.value c.args.option.now c.args.from c.width-at.result c.eq.result c.eq.ensures c.if-eq.false
    c.width-at.ensures c.loop-at.invariant

pub returns : goal.returns
returns c = none_at c.args.words.now c.loop-at.at c.args.option.now c.args.from c.loop-at-test.false c.loop-at.invariant
