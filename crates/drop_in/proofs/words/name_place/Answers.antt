use Rattle.bt_lines.proofs.Std.{◌-◌}
use Rattle.std.proofs.Common.{rules}
use Rattle.drop_in.proofs.lemmas.WordsLemmas.{word_there}
use Rattle.drop_in.proofs.words.name_place.Goals as goal

pub returns-then-eq : goal.returns-then-eq
returns-then-eq c = record {
  option_before = search rules;
  value_there = word_there c.args.words.now (c.in-Some.place - 1) c.index-words-at.result (search rules) c.index-words-at.is
      c.as_str-value.result.now c.args.name.now c.as_str-value.ensures.value c.eq.result c.eq.ensures c.if-eq.true;
  past_command = search rules;
}
