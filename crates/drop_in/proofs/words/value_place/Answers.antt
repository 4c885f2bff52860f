use Rattle.drop_in.proofs.lemmas.WordsLemmas.{word_before}
use Rattle.drop_in.proofs.words.value_place.Goals as goal

pub returns-then-eq-clause-after : goal.returns-then-eq-clause-after
returns-then-eq-clause-after c =
    word_before c.args.words.now c.loop-at.at c.index-words-at.result c.loop-at-test.true c.index-words-at.is c.as_str-word.result.now
    c.args.option.now c.as_str-word.ensures.value c.eq.result c.eq.ensures c.if-eq.true
