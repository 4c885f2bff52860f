use Rattle.bt_lines.proofs.Std.{◌≡◌, ◌≤◌, true, take, is_ascii_digit, list_all, digits_value}
use Rattle.bt_lines.proofs.numbers.number.Given as goal

-- the value so far is that of the digits so far
abbrev pub invariant-loop-byte : goal.invariant-loop-byte
invariant-loop-byte l =
    (l.value ≡ digits_value 10 (take l.byte-index l.text))
    × (list_all is_ascii_digit (take l.byte-index l.text) ≡ true)
    × (l.value ≤ 999999999999)
