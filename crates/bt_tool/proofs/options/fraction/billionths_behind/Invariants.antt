use Rattle.bt_lines.proofs.Std.{◌≡◌, ◌<◌, ◌^◌, true, take, is_ascii_digit, list_all, digits_value}
use Rattle.bt_tool.specs.model.Fraction.{nine_decimals}
use Rattle.bt_tool.proofs.options.fraction.billionths_behind.Given as goal

-- the value so far is that of the digits so far
abbrev pub invariant-loop-at : goal.invariant-loop-at
invariant-loop-at l =
    (l.billionths ≡ digits_value 10 (take l.at (nine_decimals l.decimals)))
    × (list_all is_ascii_digit (take l.at (nine_decimals l.decimals)) ≡ true)
    × (l.billionths < 10 ^ l.at)
