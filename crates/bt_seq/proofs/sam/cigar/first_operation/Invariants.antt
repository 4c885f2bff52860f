use Rattle.bt_lines.proofs.Std.{◌≡◌, length, take, ◌-◌, ◌≤◌, true, is_ascii_digit, list_all, digits_value}
use Rattle.bt_seq.proofs.sam.cigar.first_operation.Given as goal

-- the length so far is that of the digits so far
abbrev pub invariant-loop-end : goal.invariant-loop-end
invariant-loop-end l = record {
  value : l.length ≡ digits_value 10 (take l.end l.text);
  digits : list_all is_ascii_digit (take l.end l.text) ≡ true;
  small : l.length ≤ 999999999999;
  within : l.end ≤ length l.text;
}

abbrev pub decreases-loop-end : goal.decreases-loop-end
decreases-loop-end l = length l.text - l.end
