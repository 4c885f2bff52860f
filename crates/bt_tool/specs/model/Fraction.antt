-- Fractions in decimal (bedtools manual, intersect, option -f). How many decimals one may have is
-- this program's own rule.
use Rattle.std.specs.Prelude.{ℕ, ◌+◌, ◌-◌, ◌*◌, ◌==◌, Bool, ◌&&◌, List, ◌++◌, length, replicate, nat_lt, nat_le, Option, Some, None, if◌then◌else◌}
use Rattle.std.specs.Char.{is_ascii_digit}
use Rattle.std.specs.List.{after_first, before_first, list_all}
use Rattle.std.specs.Str.Parse.{digits_value}

-- one, the greatest fraction, in billionths
abbrev pub one_in_billionths : ℕ
one_in_billionths = 1000000000

abbrev pub is_point : ℕ → Bool
is_point byte = byte == 46

-- decimals with zeros after them, nine digits in all
abbrev pub nine_decimals : List ℕ → List ℕ
nine_decimals decimals = decimals ++ replicate (9 - length decimals) 48

-- the number of these digits before the point and after it, in billionths
abbrev pub billionths_in : List ℕ → List ℕ → ℕ
billionths_in whole decimals =
    digits_value 10 whole * one_in_billionths + digits_value 10 (nine_decimals decimals)

-- whether these come before the point and after it: digits, one at least and at most nine after
-- the point, of a number of at most one
abbrev pub are_digits_of_fraction : List ℕ → List ℕ → Bool
are_digits_of_fraction whole decimals =
    nat_lt 0 (length whole + length decimals)
    && (list_all is_ascii_digit whole
    && (list_all is_ascii_digit decimals
    && (nat_le (length decimals) 9
    && nat_le (billionths_in whole decimals) one_in_billionths)))

-- the fraction of these digits in billionths, if they have one
unfoldable pub fraction_in : List ℕ → List ℕ → Option ℕ
fraction_in whole decimals =
    if are_digits_of_fraction whole decimals then Some (billionths_in whole decimals) else None

-- the fraction that a word denotes, if it denotes one,
-- in billionths; a word without a point is all before it
abbrev pub fraction_of : List ℕ → Option ℕ
fraction_of word = fraction_in (before_first is_point word) (after_first is_point word)
