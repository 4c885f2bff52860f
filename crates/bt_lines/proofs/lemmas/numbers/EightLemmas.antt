-- Lemmas on eight bytes that are read as one number, the first in its lowest byte.
use Rattle.bt_lines.proofs.Std.{zero, suc, ◌≡◌, ℕ, ◌+◌, ◌-◌, ◌*◌, ◌/◌, ◌%◌, ◌^◌, ◌<◌, ◌≤◌, true, false, List, [], ◌∷◌, ◌++◌, drop, length, get_or, length-take-le, subst, Some, None, refl, sym, ap, ◌∙◌, arith, bit_and, bit_or, bit_xor, take, w64, and_parts, and_assoc, and_block, and_comm, and_le_r, and_mask, and_or_apart, and_or_self, mod_below, or_comm, pow-add, xor_block, xor_of_8, and_high, mul_assoc, take-append-drop, is_ascii_digit, digit_value, from_le_bytes, and_zero_r, xor_add_and, xor_zero_r, list_all, digits_value}
use Rattle.bt_lines.proofs.lemmas.numbers.NumberLemmas.{value_of_digits}
use Rattle.bt_lines.specs.inside.Digits.{AreOnes}
use Rattle.bt_lines.specs.model.Lines.{value_of}

-- the number whose bytes these are, the first the lowest
abbrev pub worth : List ℕ → ℕ
worth [] = 0
worth (byte ∷ bytes) = worth bytes * 2 ^ 8 + byte

-- each is within these bounds
abbrev pub AreWithin : ℕ → ℕ → List ℕ → Type 0
AreWithin low high [] = Unit {0}
AreWithin low high (byte ∷ bytes) = (low ≤ byte) × (byte ≤ high) × AreWithin low high bytes

-- as many bytes that are all the same
abbrev pub all_of : ℕ → List ℕ → List ℕ
all_of byte [] = []
all_of byte (b ∷ bytes) = byte ∷ all_of byte bytes

-- each with a mask
abbrev pub masked : List ℕ → ℕ → List ℕ
masked [] mask = []
masked (byte ∷ bytes) mask = bit_and byte mask ∷ masked bytes mask

-- each with this added
abbrev pub raised : List ℕ → ℕ → List ℕ
raised [] more = []
raised (byte ∷ bytes) more = (byte + more) ∷ raised bytes more

-- a mask is applied byte by byte
and_worth : (bytes : List ℕ) (mask : ℕ) → mask < 256 → AreWithin 0 255 bytes → bit_and (worth bytes) (worth (all_of mask bytes)) ≡ worth (masked bytes mask)
and_worth [] mask h all = refl
and_worth (byte ∷ bytes) mask h all = grind (arith, (and_block 8 (worth bytes) (worth (all_of mask bytes)) byte mask (omega arith) h), (and_worth bytes mask h all.2))

raised_worth : (bytes : List ℕ) (more : ℕ) → worth bytes + worth (all_of more bytes) ≡ worth (raised bytes more)
raised_worth [] more = refl
raised_worth (byte ∷ bytes) more = let rest = raised_worth bytes more in omega arith

raised_masks : (bytes : List ℕ) (more mask : ℕ) → all_of mask (raised bytes more) ≡ all_of mask bytes
raised_masks [] more mask = refl
raised_masks (byte ∷ bytes) more mask = ap (λ l. mask ∷ l) (raised_masks bytes more mask)

raised_within : (bytes : List ℕ) (low high more : ℕ) → AreWithin low high bytes → AreWithin 0 (high + more) (raised bytes more)
raised_within [] low high more all = tt
raised_within (byte ∷ bytes) low high more all = (omega arith, omega arith, raised_within bytes low high more all.2)

looser : (bytes : List ℕ) (low high lower higher : ℕ) → lower ≤ low → high ≤ higher → AreWithin low high bytes → AreWithin lower higher bytes
looser [] low high lower higher l h all = tt
looser (byte ∷ bytes) low high lower higher l h all = (omega arith, omega arith, looser bytes low high lower higher l h all.2)

-- each with the bits of a zero's code flipped
abbrev pub flipped : List ℕ → List ℕ
flipped [] = []
flipped (byte ∷ bytes) = bit_xor byte 48 ∷ flipped bytes

flipped_length : (bytes : List ℕ) → length (flipped bytes) ≡ length bytes
flipped_length [] = refl
flipped_length (byte ∷ bytes) = ap suc (flipped_length bytes)

flipped_worth : (bytes : List ℕ) → AreWithin 0 255 bytes → bit_xor (worth bytes) (worth (all_of 48 bytes)) ≡ worth (flipped bytes)
flipped_worth [] all = refl
flipped_worth (byte ∷ bytes) all = grind (arith, (xor_block 8 (worth bytes) (worth (all_of 48 bytes)) byte 48 (omega arith) (omega arith)), (flipped_worth bytes all.2))

flipped_within : (bytes : List ℕ) → AreWithin 0 255 bytes → AreWithin 0 255 (flipped bytes)
flipped_within [] all = tt
flipped_within (byte ∷ bytes) all = grind (arith, (flipped_within bytes all.2), xor_of_8)

-- both halves of a byte whose bits are flipped
flipped_byte : (byte : ℕ) → bit_xor byte 48 ≡ bit_xor (byte / 16) 3 * 16 + byte % 16
flipped_byte byte = grind (arith, (xor_block 4 (byte / 16) 3 (byte % 16) 0 (mod_below byte 16 (omega arith)) (omega arith)), (xor_zero_r (byte % 16)))

flipped_digit : (byte : ℕ) → 48 ≤ byte → byte ≤ 57 → bit_xor byte 48 ≡ byte - 48
flipped_digit byte low high = grind (arith, flipped_byte)

flipped_digits : (bytes : List ℕ) → AreWithin 48 57 bytes → AreWithin 0 9 (flipped bytes)
flipped_digits [] all = tt
flipped_digits (byte ∷ bytes) all = grind (arith, (flipped_digits bytes all.2), flipped_byte)

digits_flipped : (bytes : List ℕ) → AreWithin 0 9 (flipped bytes) → AreWithin 48 57 bytes
digits_flipped [] all = tt
digits_flipped (byte ∷ bytes) all = grind (arith, (digits_flipped bytes all.2), flipped_byte, xor_add_and, and_le_r)

-- the upper half of a byte
upper : (byte : ℕ) → bit_and byte 240 ≡ (byte / 16 % 16) * 16
upper byte = and_high byte 4 4

-- bytes whose upper halves are 0
uppers : (bytes : List ℕ) → AreWithin 0 255 bytes → worth (masked bytes 240) ≡ 0 → AreWithin 0 15 bytes
uppers [] all e = tt
uppers (byte ∷ bytes) all e = grind (arith, (upper byte), (uppers bytes all.2 (omega arith)))

no_uppers : (bytes : List ℕ) → AreWithin 0 15 bytes → worth (masked bytes 240) ≡ 0
no_uppers [] all = refl
no_uppers (byte ∷ bytes) all = grind (arith, (no_uppers bytes all.2), upper)

lowered_within : (bytes : List ℕ) (high more : ℕ) → AreWithin 0 (high + more) (raised bytes more) → AreWithin 0 high bytes
lowered_within [] high more all = tt
lowered_within (byte ∷ bytes) high more all = (omega arith, omega arith, lowered_within bytes high more all.2)

within_digit : (byte : ℕ) → 48 ≤ byte → byte ≤ 57 → is_ascii_digit byte ≡ true
within_digit byte low high = grind arith

digits_within : (bytes : List ℕ) → list_all is_ascii_digit bytes ≡ true → AreWithin 48 57 bytes
digits_within [] all = tt
digits_within (byte ∷ bytes) all = grind (arith, (digits_within bytes (and_parts (is_ascii_digit byte) (list_all is_ascii_digit bytes) all).1))

within_digits : (bytes : List ℕ) → AreWithin 48 57 bytes → list_all is_ascii_digit bytes ≡ true
within_digits [] all = refl
within_digits (byte ∷ bytes) all = rw (within_digit byte all.0 all.1, within_digits bytes all.2) refl

-- what is read of eight bytes, and the masks of eight bytes
pub record Eight (bytes : List ℕ) : Type 0 where
  pub word : from_le_bytes w64 bytes ≡ worth bytes
  uppers : worth (all_of 240 bytes) ≡ 17361641481138401520
  zeros : worth (all_of 48 bytes) ≡ 3472328296227680304
  sixes : worth (all_of 6 bytes) ≡ 434041037028460038
  nines : worth (all_of 9 bytes) ≡ 651061555542690057
  fifteens : worth (all_of 15 bytes) ≡ 1085102592571150095
  most : worth (all_of 255 bytes) ≡ 18446744073709551615

by_eight : (P : List ℕ → Type 0) → ((a b c d e f g h : ℕ) → P (a ∷ b ∷ c ∷ d ∷ e ∷ f ∷ g ∷ h ∷ [])) → (bytes : List ℕ) → length bytes ≡ 8 → P bytes
by_eight P all (a ∷ b ∷ c ∷ d ∷ e ∷ f ∷ g ∷ h ∷ []) n = all a b c d e f g h
by_eight P all [] n = absurd (omega arith)
by_eight P all (a ∷ []) n = absurd (omega arith)
by_eight P all (a ∷ b ∷ []) n = absurd (omega arith)
by_eight P all (a ∷ b ∷ c ∷ []) n = absurd (omega arith)
by_eight P all (a ∷ b ∷ c ∷ d ∷ []) n = absurd (omega arith)
by_eight P all (a ∷ b ∷ c ∷ d ∷ e ∷ []) n = absurd (omega arith)
by_eight P all (a ∷ b ∷ c ∷ d ∷ e ∷ f ∷ []) n = absurd (omega arith)
by_eight P all (a ∷ b ∷ c ∷ d ∷ e ∷ f ∷ g ∷ []) n = absurd (omega arith)
by_eight P all (a ∷ b ∷ c ∷ d ∷ e ∷ f ∷ g ∷ h ∷ i ∷ more) n = absurd (omega arith)

eight : (bytes : List ℕ) → length bytes ≡ 8 → Eight bytes
eight = by_eight Eight (λ a b c d e f g h.
    record { word = omega arith; uppers = refl; zeros = refl; sixes = refl; nines = refl; fifteens = refl; most = refl })

no_digits : (bytes : List ℕ) → list_all is_ascii_digit bytes ≡ false → None ≡ value_of bytes
unfolding value_of
no_digits bytes e = grind arith

-- eight bytes as one number with the bits of the zeros' codes flipped
abbrev pub ones_in : List ℕ → ℕ
ones_in bytes = bit_xor (from_le_bytes w64 bytes) 3472328296227680304

ones_are : (bytes : List ℕ) → length bytes ≡ 8 → AreWithin 0 255 bytes → ones_in bytes ≡ worth (flipped bytes)
ones_are bytes n all = let e = eight bytes n in rw (e.word, ← e.zeros) (flipped_worth bytes all)

-- the masks of as many flipped bytes
masks : (bytes : List ℕ) → length bytes ≡ 8 → Eight (flipped bytes)
masks bytes n = eight (flipped bytes) (flipped_length bytes ∙ n)

upper_ones : (bytes : List ℕ) → length bytes ≡ 8 → AreWithin 0 255 bytes → bit_and (ones_in bytes) 17361641481138401520 ≡ worth (masked (flipped bytes) 240)
upper_ones bytes n all = rw (ones_are bytes n all, ← (masks bytes n).uppers) (and_worth (flipped bytes) 240 (omega arith) (flipped_within bytes all))

upper_sums : (bytes : List ℕ) → length bytes ≡ 8 → AreWithin 0 255 bytes → AreWithin 0 15 (flipped bytes)
    → bit_and (ones_in bytes + 434041037028460038) 17361641481138401520 ≡ worth (masked (raised (flipped bytes) 6) 240)
upper_sums bytes n all small =
    let fs = flipped bytes in
    let within = looser (raised fs 6) 0 21 0 255 (omega arith) (omega arith) (raised_within fs 0 15 6 small) in
    grind (arith, (ones_are bytes n all), (masks bytes n), (raised_worth fs 6), (raised_masks fs 6 240), (and_worth (raised fs 6) 240 (omega arith) within))

-- the upper halves are 0
some_uppers : (bytes : List ℕ) → length bytes ≡ 8 → AreWithin 0 255 bytes → bit_and (ones_in bytes) 17361641481138401520 ≡ 0 → AreWithin 0 15 (flipped bytes)
some_uppers bytes n all same = uppers (flipped bytes) (flipped_within bytes all) (sym (upper_ones bytes n all) ∙ same)

worth_up_to : (bytes : List ℕ) (low high : ℕ) → AreWithin low high bytes → worth bytes ≤ worth (all_of high bytes)
worth_up_to [] low high all = omega arith
worth_up_to (byte ∷ bytes) low high all = let rest = worth_up_to bytes low high all.2 in omega arith

-- so large is what is read at most
ones_up_to : (bytes : List ℕ) → length bytes ≡ 8 → AreWithin 0 255 bytes → AreWithin 0 15 (flipped bytes) → ones_in bytes ≤ 1085102592571150095
ones_up_to bytes n all small = rw (ones_are bytes n all, ← (masks bytes n).fifteens) (worth_up_to (flipped bytes) 0 15 small)

-- what shares no bit with a mask beside another number shares none alone
no_bit : (a b mask : ℕ) → bit_and (bit_or a b) mask ≡ 0 → bit_and b mask ≡ 0
no_bit a b mask none = grind (arith, (and_or_self b a), (and_comm (bit_or a b) b), (and_assoc mask b (bit_or a b)), (and_zero_r b))

-- the upper halves of the bytes as they are, and with six more
abbrev pub halves_in : ℕ → ℕ
halves_in ones = bit_and (bit_or ones ((ones + 434041037028460038) % 18446744073709551616)) 17361641481138401520

-- six more are no more than eight bytes hold, if the upper halves are 0
sixes_fit : (bytes : List ℕ) → length bytes ≡ 8 → AreWithin 0 255 bytes → AreWithin 0 15 (flipped bytes)
    → (ones_in bytes + 434041037028460038) % 18446744073709551616 ≡ ones_in bytes + 434041037028460038
sixes_fit bytes n all small = let most = ones_up_to bytes n all small in omega arith

-- some half isn't 0
pub none_by_halves : (bytes : List ℕ) → length bytes ≡ 8 → AreWithin 0 255 bytes → (halves_in (ones_in bytes) ≡ 0 → ⊥) → None ≡ value_of bytes
none_by_halves bytes n all other = grind (arith, flipped_digits, digits_within, looser, upper_ones, no_uppers, upper_sums, raised_within, sixes_fit, and_or_apart, no_digits)

-- all halves are 0
pub digits_by_halves : (bytes : List ℕ) → length bytes ≡ 8 → AreWithin 0 255 bytes → halves_in (ones_in bytes) ≡ 0 → AreWithin 48 57 bytes
digits_by_halves bytes n all none = grind (arith, some_uppers, no_bit, or_comm, sixes_fit, looser, raised_within, digits_flipped, lowered_within, uppers, upper_sums)

-- bytes by their index
pub are_bytes : (bytes : List ℕ) → ((i : ℕ) → get_or bytes i 0 < 256) → AreWithin 0 255 bytes
are_bytes [] all = tt
are_bytes (byte ∷ bytes) all = let here = all 0 in (omega arith, omega arith, are_bytes bytes (λ i. all (suc i)))

-- every second byte of a number
even_bytes : (n m a b : ℕ) → a < 256 → b < 256 → bit_and ((n * 2 ^ 8 + b) * 2 ^ 8 + a) ((m * 2 ^ 8 + 0) * 2 ^ 8 + 255) ≡ (bit_and n m * 2 ^ 8 + 0) * 2 ^ 8 + a
even_bytes n m a b small odd = grind (arith, (and_mask a 8), (and_block 8 n m b 0 odd (omega arith)), (and_zero_r b), (and_block 8 (n * 2 ^ 8 + b) (m * 2 ^ 8 + 0) a 255 small (omega arith)))

-- the bytes 0, 2, 4 and 6 of eight
four_bytes : (a b c d e f g h : ℕ) → a < 256 → b < 256 → c < 256 → d < 256 → e < 256 → f < 256 → g < 256 → h < 256
    → bit_and (worth (a ∷ b ∷ c ∷ d ∷ e ∷ f ∷ g ∷ h ∷ [])) 71777214294589695 ≡ worth (a ∷ 0 ∷ c ∷ 0 ∷ e ∷ 0 ∷ g ∷ 0 ∷ [])
four_bytes a b c d e f g h i j k l m n o p =
    even_bytes (worth (c ∷ d ∷ e ∷ f ∷ g ∷ h ∷ [])) 1095233372415 a b i j
    ∙ ap (λ x. (x * 2 ^ 8 + 0) * 2 ^ 8 + a) (
    even_bytes (worth (e ∷ f ∷ g ∷ h ∷ [])) 16711935 c d k l
    ∙ ap (λ x. (x * 2 ^ 8 + 0) * 2 ^ 8 + c) (
    even_bytes (worth (g ∷ h ∷ [])) 255 e f m n
    ∙ ap (λ x. (x * 2 ^ 8 + 0) * 2 ^ 8 + e) (even_bytes 0 0 g h o p)))

-- what the code makes of eight digits: the values of two, of four and of all
abbrev pub pairs_in : ℕ → ℕ
pairs_in ones = bit_and (ones * 10 + ones / 256) 71777214294589695

abbrev pub value_in : ℕ → ℕ
value_in pairs = (pairs * 100 + pairs / 65536) % 65536 * 10000 + (pairs * 100 + pairs / 65536) / 4294967296 % 65536

value_eight : {a b c d e f g h ones : ℕ} → a ≤ 9 → b ≤ 9 → c ≤ 9 → d ≤ 9 → e ≤ 9 → f ≤ 9 → g ≤ 9 → h ≤ 9
    → ones ≡ worth (a ∷ b ∷ c ∷ d ∷ e ∷ f ∷ g ∷ h ∷ [])
    → value_in (pairs_in ones) ≡ a * 10000000 + b * 1000000 + c * 100000 + d * 10000 + e * 1000 + f * 100 + g * 10 + h
value_eight {a} {b} {c} {d} {e} {f} {g} {h} {ones} i j k l m n o p is =
    let pairs : ones * 10 + ones / 256 ≡ worth ((10 * a + b) ∷ (10 * b + c) ∷ (10 * c + d) ∷ (10 * d + e) ∷ (10 * e + f) ∷ (10 * f + g) ∷ (10 * g + h) ∷ (10 * h) ∷ []) = omega arith in
    grind (arith, four_bytes)

digit_at : (byte : ℕ) → 48 ≤ byte → byte ≤ 57 → digit_value byte ≡ byte - 48
digit_at byte low high = grind arith

-- each with 48 taken off
abbrev pub lowered : List ℕ → List ℕ
lowered [] = []
lowered (byte ∷ bytes) = (byte - 48) ∷ lowered bytes

flipped_lowered : (bytes : List ℕ) → AreWithin 48 57 bytes → flipped bytes ≡ lowered bytes
flipped_lowered [] all = refl
flipped_lowered (byte ∷ bytes) all = rw (flipped_digit byte all.0 all.1, flipped_lowered bytes all.2) refl

ones_lowered : (bytes : List ℕ) → length bytes ≡ 8 → AreWithin 48 57 bytes → ones_in bytes ≡ worth (lowered bytes)
ones_lowered bytes n all = ones_are bytes n (looser bytes 48 57 0 255 (omega arith) (omega arith) all) ∙ ap worth (flipped_lowered bytes all)

small_digit : (byte : ℕ) → 48 ≤ byte → byte ≤ 57 → byte - 48 ≤ 9
small_digit byte low high = omega arith

value_of_eight : (a b c d e f g h : ℕ) → AreWithin 48 57 (a ∷ b ∷ c ∷ d ∷ e ∷ f ∷ g ∷ h ∷ [])
    → value_in (pairs_in (ones_in (a ∷ b ∷ c ∷ d ∷ e ∷ f ∷ g ∷ h ∷ []))) ≡ digits_value 10 (a ∷ b ∷ c ∷ d ∷ e ∷ f ∷ g ∷ h ∷ [])
value_of_eight a b c d e f g h (a1, a2, (b1, b2, (c1, c2, (d1, d2, (e1, e2, (f1, f2, (g1, g2, (h1, h2, none)))))))) =
    value_eight
    (small_digit a a1 a2) (small_digit b b1 b2) (small_digit c c1 c2) (small_digit d d1 d2) (small_digit e e1 e2) (small_digit f f1 f2) (small_digit g g1 g2) (small_digit h h1 h2)
    (ones_lowered (a ∷ b ∷ c ∷ d ∷ e ∷ f ∷ g ∷ h ∷ []) refl (a1, a2, (b1, b2, (c1, c2, (d1, d2, (e1, e2, (f1, f2, (g1, g2, (h1, h2, none)))))))))
    ∙ rw (digit_at a a1 a2, digit_at b b1 b2, digit_at c c1 c2, digit_at d d1 d2, digit_at e e1 e2, digit_at f f1 f2, digit_at g g1 g2, digit_at h h1 h2)
    (omega arith)

eight_small : (bytes : List ℕ) → length bytes ≡ 8 → AreWithin 48 57 bytes → (value_in (pairs_in (ones_in bytes)) ≡ digits_value 10 bytes) × (digits_value 10 bytes ≤ 999999999999)
eight_small = by_eight (λ bytes. AreWithin 48 57 bytes → (value_in (pairs_in (ones_in bytes)) ≡ digits_value 10 bytes) × (digits_value 10 bytes ≤ 999999999999)) (λ a b c d e f g h all.
    let is = value_of_eight a b c d e f g h all in
    (is, rw (← is) (omega arith)))

-- eight digits denote their value
pub value_of_eight_digits : (bytes : List ℕ) → length bytes ≡ 8 → AreWithin 48 57 bytes → Some (digits_value 10 bytes) ≡ value_of bytes
value_of_eight_digits bytes n all = grind (arith, eight_small, value_of_digits, within_digits)

-- eight digits' values are so large at most
ones_of_digits : (bytes : List ℕ) → length bytes ≡ 8 → AreWithin 48 57 bytes → ones_in bytes ≤ 651061555542690057
ones_of_digits bytes n all = grind (arith, (ones_are bytes n (looser bytes 48 57 0 255 (omega arith) (omega arith) all)), (masks bytes n), (worth_up_to (flipped bytes) 0 9 (flipped_digits bytes all)))

-- what is read of eight digits
pub ones_read : (bytes : List ℕ) → length bytes ≡ 8 → AreWithin 48 57 bytes → (ones_in bytes ≤ 651061555542690057) × AreOnes bytes (ones_in bytes)
ones_read bytes n all = (ones_of_digits bytes n all, (n, within_digits bytes all, refl))

-- and the code's value is theirs
pub joined_value : (digits : List ℕ) (ones : ℕ) → AreOnes digits ones → value_in (pairs_in ones) ≡ digits_value 10 digits
joined_value digits ones (n, all, is) = rw is ((eight_small digits n (digits_within digits all)).0)

-- bytes after this many of one value
abbrev pub after : ℕ → ℕ → List ℕ → List ℕ
after zero byte bytes = bytes
after (suc k) byte bytes = byte ∷ after k byte bytes

after_length : (k byte : ℕ) (bytes : List ℕ) → length (after k byte bytes) ≡ k + length bytes
after_length zero byte bytes = omega arith
after_length (suc k) byte bytes = let rest = after_length k byte bytes in omega arith

after_append : (k byte : ℕ) (xs ys : List ℕ) → after k byte (xs ++ ys) ≡ after k byte xs ++ ys
after_append zero byte xs ys = refl
after_append (suc k) byte xs ys = ap (λ l. byte ∷ l) (after_append k byte xs ys)

after_within : (k byte low high : ℕ) (bytes : List ℕ) → low ≤ byte → byte ≤ high → AreWithin low high bytes → AreWithin low high (after k byte bytes)
after_within zero byte low high bytes l h all = all
after_within (suc k) byte low high bytes l h all = (l, h, after_within k byte low high bytes l h all)

-- zeros before them change nothing of their value
after_value : (k : ℕ) (bytes : List ℕ) → digits_value 10 (after k 48 bytes) ≡ digits_value 10 bytes
after_value zero bytes = refl
after_value (suc k) bytes = after_value k bytes

after_flipped : (k : ℕ) (bytes : List ℕ) → flipped (after k 48 bytes) ≡ after k 0 (flipped bytes)
after_flipped zero bytes = refl
after_flipped (suc k) bytes = ap (λ l. 0 ∷ l) (after_flipped k bytes)

-- bytes of 0 before them shift them
after_worth : (k : ℕ) (bytes : List ℕ) → worth (after k 0 bytes) ≡ worth bytes * 256 ^ k
after_worth zero bytes = omega arith
after_worth (suc k) bytes = grind (arith, (after_worth k bytes), (mul_assoc (worth bytes) (256 ^ k) 256))

pow_bytes : (k : ℕ) → 2 ^ (8 * k) ≡ 256 ^ k
pow_bytes zero = refl
pow_bytes (suc k) = grind (arith, (pow-add 2 (8 * k) 8), (pow_bytes k))

worth_append : (xs ys : List ℕ) → worth (xs ++ ys) ≡ worth xs + worth ys * 256 ^ length xs
worth_append [] ys = omega arith
worth_append (x ∷ xs) ys = grind (arith, (worth_append xs ys), (mul_assoc (worth ys) (256 ^ length xs) 256))

flipped_take : (n : ℕ) (bytes : List ℕ) → take n (flipped bytes) ≡ flipped (take n bytes)
flipped_take zero bytes = refl
flipped_take (suc n) [] = refl
flipped_take (suc n) (byte ∷ bytes) = ap (λ l. bit_xor byte 48 ∷ l) (flipped_take n bytes)

take_within : (n low high : ℕ) (bytes : List ℕ) → AreWithin low high bytes → AreWithin low high (take n bytes)
take_within zero low high bytes all = tt
take_within (suc n) low high [] all = tt
take_within (suc n) low high (byte ∷ bytes) all = (all.0, all.1, take_within n low high bytes all.2)

-- the first `count` of eight bytes, after zeros
module _ (bytes : List ℕ) (count : ℕ) (n : length bytes ≡ 8) (few : count ≤ 8) where
  abbrev pub padded : List ℕ
  padded = after (8 - count) 48 (take count bytes)

  padded_length : length padded ≡ 8
  padded_length = omega (arith, after_length (8 - count) 48 (take count bytes), length-take-le count bytes (omega arith))

  pub padded_value : digits_value 10 padded ≡ digits_value 10 (take count bytes)
  padded_value = after_value (8 - count) (take count bytes)

  -- they are what is left when the others are shifted out
  pub shifted : AreWithin 0 255 bytes → ones_in bytes * 2 ^ (64 - 8 * count) % 18446744073709551616 ≡ ones_in padded
  shifted all =
      let fs = flipped bytes in
      let front = after (8 - count) 0 (take count fs) in
      let within : AreWithin 0 255 padded = after_within (8 - count) 48 0 255 (take count bytes) (omega arith) (omega arith) (take_within count 0 255 bytes all) in
      let is : flipped padded ≡ front = after_flipped (8 - count) (take count bytes) ∙ ap (after (8 - count) 0) (sym (flipped_take count bytes)) in
      let small : worth front ≤ 18446744073709551615 =
      subst (λ l. worth l ≤ 18446744073709551615) is (rw (← (masks padded padded_length).most) (worth_up_to (flipped padded) 0 255 (flipped_within padded within))) in
      let all_are : ones_in bytes * 2 ^ (64 - 8 * count) ≡ worth front + worth (drop count fs) * 18446744073709551616 =
      ap (λ p. ones_in bytes * p) (ap (λ k. 2 ^ k) (omega arith) ∙ pow_bytes (8 - count)) ∙ ap (λ w. w * 256 ^ (8 - count)) (ones_are bytes n all)
      ∙ sym (after_worth (8 - count) fs)
      ∙ ap (λ l. worth (after (8 - count) 0 l)) (sym (take-append-drop count fs))
      ∙ ap worth (after_append (8 - count) 0 (take count fs) (drop count fs))
      ∙ worth_append front (drop count fs)
      ∙ ap (λ k. worth front + worth (drop count fs) * 256 ^ k) (ap length (sym is) ∙ flipped_length padded ∙ padded_length) in
      grind (arith, ones_are, padded_length)

  -- what is read of them, if they are digits
  pub few_read : list_all is_ascii_digit (take count bytes) ≡ true → (ones_in padded ≤ 651061555542690057) × AreOnes padded (ones_in padded)
  few_read all =
      ones_read padded padded_length (after_within (8 - count) 48 48 57 (take count bytes) (omega arith) (omega arith) (digits_within (take count bytes) all))
