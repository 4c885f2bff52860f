use Rattle.bt_lines.proofs.Std.{arith, ◌-◌, ◌+◌, ◌≤◌, drop, refl, length, length-take}
use Rattle.bt_front.proofs.lemmas.survey.RunLemmas.{found_long, passed_none, quiet_short}
use Rattle.bt_front.proofs.lemmas.survey.WindowLemmas.{next_passed, next_quiet, window_quiet}
use Rattle.bt_front.proofs.survey.byte_watch.ByteWatch.pass_lines.Goals as goal

pub loop-at-init : goal.loop-at-init
loop-at-init c = record {
  within = omega arith;
  passed = passed_none c.args.self.now (quiet_short c.args.self.now c.args.block.now c.requires.some c.requires.quiet);
  quiet = λ short. c.requires.quiet;
}

pub loop-at-preserved : goal.loop-at-preserved
loop-at-preserved c =
    let n = c.min-end.result - c.loop-at.at in
    let v = c.loop-at.self in
    let u = c.pass_window-at.new.self in
    let block = c.args.block.now in
    let r = c.pass_window-at.result in
    let short : v.line ≤ 1015 = omega arith in
    let q = window_quiet v block c.loop-at.at n (c.loop-at.invariant.quiet short) in
    let rest = drop n (drop c.loop-at.at block) in
    let within : r ≤ n = omega (arith, c.pass_window-at.ensures.within, length-take n (drop c.loop-at.at block)) in
    record {
      within = omega (arith, within, c.min-end.ensures);
      passed = next_passed c.args.self.now v u block c.loop-at.at n r within c.loop-at.invariant.passed short (c.pass_window-at.ensures.passed rest q);
      quiet = λ small. next_quiet u block c.loop-at.at n r within (c.pass_window-at.ensures.quiet rest q small);
    }

pub returns-clause-odd : goal.returns-clause-odd
returns-clause-odd c = found_long c.args.self.now c.loop-at.self c.args.block.now c.loop-at.at _ c.loop-at.invariant.passed (omega arith) refl c.feeds_in.ensures
