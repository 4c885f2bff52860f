use Rattle.bt_lines.proofs.Std.{arith, ◌≡◌, IfNone, IfSome, None, Some, Option, List, ℕ, true, ◌++◌, sym, subst}
use Rattle.bt_front.specs.calls.Bytes.{IsOddAfter, ShowsBytes}
use Rattle.bt_front.proofs.lemmas.survey.WatchLaws.{look_odd, look_plain}
use Rattle.bt_front.proofs.survey.byte_watch.ByteWatch.look.Goals as goal

pub returns-clause-plain : goal.returns-clause-plain
returns-clause-plain c = look_plain c.pass.result c.args.self.now c.pass.new.self c.args.block.now c.pass.ensures.plain c.pass.ensures.passed

pub returns-clause-odd : goal.returns-clause-odd
returns-clause-odd c = look_odd c.pass.result c.args.self.now c.args.block.now c.pass.ensures.odd
