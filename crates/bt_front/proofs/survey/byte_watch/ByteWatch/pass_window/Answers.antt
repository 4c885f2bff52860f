use Rattle.bt_lines.proofs.Std.{eqb-true, get_or}
use Rattle.bt_front.proofs.lemmas.survey.WindowLemmas.{feed_passed, feed_quiet, line_goes_on, line_passed, no_feed}
use Rattle.bt_front.proofs.survey.byte_watch.ByteWatch.pass_window.Goals as goal

pub returns-in-Some-clause-passed : goal.returns-in-Some-clause-passed
returns-in-Some-clause-passed c = λ rest q.
    feed_passed c.args.window.now rest c.args.self.now c.in-Some.found c.in-Some.ensures.0.high (eqb-true (get_or c.args.window.now c.in-Some.found 0) 10 c.in-Some.ensures.1) c.requires.short q

pub returns-in-Some-clause-quiet : goal.returns-in-Some-clause-quiet
returns-in-Some-clause-quiet c = λ rest q short.
    feed_quiet c.args.window.now rest c.args.self.now c.in-Some.found c.in-Some.ensures.0.high (eqb-true (get_or c.args.window.now c.in-Some.found 0) 10 c.in-Some.ensures.1) c.requires.short q

pub returns-in-None-clause-passed : goal.returns-in-None-clause-passed
returns-in-None-clause-passed c = λ rest q.
    rw (c.first_with.ensures) (line_passed c.args.window.now rest c.args.self.now c.requires.some (no_feed c.args.window.now c.in-None.ensures) c.requires.short q)

pub returns-in-None-clause-quiet : goal.returns-in-None-clause-quiet
returns-in-None-clause-quiet c = λ rest q short.
    rw (c.first_with.ensures) (line_goes_on c.args.window.now rest c.args.self.now c.requires.some (no_feed c.args.window.now c.in-None.ensures) q short)
