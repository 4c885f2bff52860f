-- Lemmas on the number that a text denotes.
use Rattle.bt_lines.proofs.Std.{common_steps, [], ◌∷◌, ◌≡◌, ℕ, ◌+◌, ◌-◌, ◌*◌, ◌<◌, ◌≤◌, Bool, true, false, ◌&&◌, List, length, take, drop, get_or, Some, None, refl, ap, arith, cond, map, ◌^◌, pow-suc, add-one, pow-le-pow_right, take-append-drop, map-append, take_all, list_all_more, list_all_at, and_parts, digits_value-lt, digits_value_is, digits_value_more, number_after_append, number_after_ge, list_all, is_ascii_digit, digit_value, AllDigits, digits_value, ◌||◌, not, replicate, bit_or, take-length, prefix_len-le-length, prefix_len_stops, or_block, trailing_mask_l, prefix_len, chunk, mask_l}
use Rattle.bt_lines.specs.model.Lines.{value_of}
use Rattle.bt_lines.specs.inside.Digits.{is_other}
use lib.Count.{count_trailing_zeros}
use lib.Lanes.{zip2}

pub refused_second : {X : Type 0} (a b c : Bool) (x y : X) → b ≡ false → cond ((a && b) && c) x y ≡ y
refused_second a b c x y p = grind arith

pub value_of_empty : (text : List ℕ) → length text ≡ 0 → None ≡ value_of text
unfolding value_of
value_of_empty text e = grind arith

pub value_of_other : (text : List ℕ) (i : ℕ) → i < length text → is_ascii_digit (get_or text i 0) ≡ false → None ≡ value_of text
unfolding value_of
value_of_other text i h other = grind (arith, list_all_at)

-- a prefix of the digits has at most the value of all of them
front_le : (text : List ℕ) (i : ℕ) → digits_value 10 (take i text) ≤ digits_value 10 text
front_le text i = grind (arith, (take-append-drop i text), (map-append digit_value (take i text) (drop i text)), digits_value_is, number_after_append, number_after_ge)

pub value_of_large : (text : List ℕ) (i : ℕ) → 999999999999 < digits_value 10 (take i text) → None ≡ value_of text
unfolding value_of
value_of_large text i large = grind (arith, front_le)

pub value_of_digits : (text : List ℕ) → 0 < length text → list_all is_ascii_digit text ≡ true → digits_value 10 text ≤ 999999999999 → Some (digits_value 10 text) ≡ value_of text
unfolding value_of
value_of_digits text some digits small = grind arith

-- the value with one more digit
pub value_more : (text : List ℕ) (i value : ℕ) → i < length text → value ≡ digits_value 10 (take i text) → is_ascii_digit (get_or text i 0) ≡ true
    → value * 10 + (get_or text i 0 - 48) ≡ digits_value 10 (take (i + 1) text)
value_more text i value h e digit = grind (arith, digits_value_more)

-- all of these are digits, and so is the next
pub digits_more : (text : List ℕ) (i : ℕ) → i < length text → list_all is_ascii_digit (take i text) ≡ true → is_ascii_digit (get_or text i 0) ≡ true
    → list_all is_ascii_digit (take (i + 1) text) ≡ true
digits_more text i h all digit = rw (list_all_more is_ascii_digit text i 0 h, all, digit) refl

-- the value after the last digit
pub value_of_whole : (text : List ℕ) (i value : ℕ) → 0 < length text → length text ≤ i → value ≡ digits_value 10 (take i text)
    → list_all is_ascii_digit (take i text) ≡ true → value ≤ 999999999999 → Some value ≡ value_of text
value_of_whole text i value some end e all small = grind (arith, take_all, value_of_digits)

-- a digit stands for at most 9
pub digit_small : (b : ℕ) → is_ascii_digit b ≡ true → b - 48 ≤ 9
digit_small b digit = grind arith

pub digit_bound : (b : ℕ) → is_ascii_digit b ≡ true → b ≤ 57
digit_bound b digit = grind arith

-- one digit more than `i` digits
pub value_below : (i value digit : ℕ) → value < 10 ^ i → digit ≤ 9 → value * 10 + digit < 10 ^ (i + 1)
value_below i value digit below small = rw (add-one i, pow-suc 10 i) (omega (arith, below, small))

-- at most twelve digits are within the greatest number
pub value_short : (i value : ℕ) → value < 10 ^ i → i ≤ 12 → value ≤ 999999999999
value_short i value below short = grind (arith, pow-le-pow_right)

pub all_digits_in : (text : List ℕ) → list_all is_ascii_digit text ≡ true → AllDigits 10 text
all_digits_in [] all = tt
all_digits_in (byte ∷ bytes) all = grind (arith, (all_digits_in bytes (and_parts (is_ascii_digit byte) (list_all is_ascii_digit bytes) all).1))

-- `n` digits have a value below 10 ^ n
pub digits_below : (text : List ℕ) → list_all is_ascii_digit text ≡ true → digits_value 10 text < 10 ^ length text
digits_below text all = digits_value-lt 10 text (all_digits_in text all)

-- what denotes a number is its digits
pub digits_denoting : (text : List ℕ) (value : ℕ) → Some value ≡ value_of text → (list_all is_ascii_digit text ≡ true) × (value ≡ digits_value 10 text)
unfolding value_of
digits_denoting text value e = grind arith

-- Lemmas on the digits that come first in some bytes.

-- each lane beside the same number, which comes first
pub splat_before : (t : ℕ → ℕ → Bool) (y : ℕ) (xs : List ℕ) → zip2 t (replicate (length xs) y) xs ≡ map (λ x. t y x) xs
splat_before t y [] = refl
splat_before t y (x ∷ xs) = ap (λ l. t y x ∷ l) (splat_before t y xs)

-- the bits of what one of two tests accepts
pub or_masks : (p q : ℕ → Bool) (xs : List ℕ) → bit_or (mask_l (map p xs)) (mask_l (map q xs)) ≡ mask_l (map (λ x. p x || q x) xs)
or_masks p q [] = refl
or_masks p q (x ∷ xs) = grind (arith, (or_masks p q xs), (or_block 1 (mask_l (map p xs)) (mask_l (map q xs)) (cond (p x) 1 0) (cond (q x) 1 0) (grind arith) (grind arith)))

front_of : (bytes : List ℕ) (byte n : ℕ) (b : Bool) → is_other byte ≡ b → list_all is_ascii_digit (take n bytes) ≡ true
    → list_all is_ascii_digit (take (cond (not b) (1 + n) 0) (byte ∷ bytes)) ≡ true
front_of bytes byte n b e all = grind arith

-- the bytes before the first other one are digits
front_digits : (bytes : List ℕ) → list_all is_ascii_digit (take (prefix_len (λ b. not (is_other b)) bytes) bytes) ≡ true
front_digits [] = refl
front_digits (byte ∷ bytes) = front_of bytes byte (prefix_len (λ b. not (is_other b)) bytes) (is_other byte) refl (front_digits bytes)

-- the first `count` bytes are digits, and the next one isn't
pub record AreFront (bytes : List ℕ) (count : ℕ) : Type 0 where
  pub few : count ≤ length bytes
  pub digits : list_all is_ascii_digit (take count bytes) ≡ true
  pub all : count < length bytes → is_ascii_digit (get_or bytes count 0) ≡ false

front : (bytes : List ℕ) → AreFront bytes (prefix_len (λ b. not (is_other b)) bytes)
front bytes = grind (arith, (prefix_len-le-length (λ b. not (is_other b)) bytes), (front_digits bytes), prefix_len_stops)

-- by the bits of the other bytes, as they are loaded: if there is none, and if there is one
pub front_whole : (bytes : List ℕ) (mask : ℕ) → length bytes ≡ 8 → mask ≡ mask_l (map is_other (chunk 0 8 bytes)) → mask ≡ 0 → AreFront bytes 8
front_whole bytes mask size is none = grind (arith, common_steps)

pub front_part : (bytes : List ℕ) (mask : ℕ) → length bytes ≡ 8 → mask ≡ mask_l (map is_other (chunk 0 8 bytes)) → (mask ≡ 0 → ⊥) → AreFront bytes (count_trailing_zeros 64 mask)
front_part bytes mask size loaded some = grind (arith, (take-length bytes), trailing_mask_l, (front bytes))
