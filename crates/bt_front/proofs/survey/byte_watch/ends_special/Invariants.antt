use Rattle.bt_lines.proofs.Std.{◌≡◌, ◌∷◌, drop, false}
use Rattle.bt_front.specs.model.Odd.{has_special, is_mark}
use Rattle.bt_front.proofs.survey.byte_watch.ends_special.Given as goal

abbrev pub invariant-loop-byte : goal.invariant-loop-byte
invariant-loop-byte l = record {
  plain : is_mark l.last ≡ false;
  left : has_special l.block ≡ has_special (l.last ∷ drop l.byte-index l.block);
}
