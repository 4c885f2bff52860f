use Rattle.bt_lines.proofs.Std.{◌≡◌, ◌≤◌, take, true}
use Rattle.bt_front.specs.calls.Bytes.{feeds_in}
use Rattle.bt_front.specs.inside.Watching.{after, are_plain}
use Rattle.bt_front.proofs.survey.byte_watch.ByteWatch.pass_bytes.Given as goal

abbrev pub invariant-loop-byte : goal.invariant-loop-byte
invariant-loop-byte l = record {
  count : l.feeds ≤ l.byte-index;
  feeds : l.feeds ≡ feeds_in (take l.byte-index l.block);
  plain : are_plain l.initial.self (take l.byte-index l.block) ≡ true;
  passed : l.self ≡ after l.initial.self (take l.byte-index l.block);
}
