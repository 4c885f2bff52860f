-- Digits that are read eight at once.
use Rattle.std.specs.Prelude.{◌≡◌, ℕ, Bool, ◌||◌, List, true, length, nat_lt}
use Rattle.std.specs.Char.{is_ascii_digit}
use Rattle.std.specs.Int.{from_le_bytes}
use Rattle.std.specs.Int.Bits.{bit_xor}
use Rattle.std.specs.List.{list_all}
use mir.Syntax.{w64}

-- a byte is no digit: their codes are 48 to 57
abbrev pub is_other : ℕ → Bool
is_other byte = nat_lt byte 48 || nat_lt 57 byte

-- a number has the values of eight digits in its bytes: their codes, of which it is made, with the bits of
-- a zero's code flipped
abbrev pub AreOnes : List ℕ → ℕ → Type 0
AreOnes digits ones =
    (length digits ≡ 8) × (list_all is_ascii_digit digits ≡ true)
    × (ones ≡ bit_xor (from_le_bytes w64 digits) 3472328296227680304)
