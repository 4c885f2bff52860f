-- Lemmas on the fraction that digits denote.
use Rattle.bt_lines.proofs.Std.{common_steps, ◌≡◌, ℕ, ◌+◌, ◌*◌, ◌<◌, ◌≤◌, Bool, true, false, ◌&&◌, List, length, take, get_or, replicate, Option, Some, None, refl, ◌∙◌, arith, zero, suc, ltb, leb, cond, get_or-append, get_or-eq_default, get_or-append_right, get_or_default_zero, and_right, and_left, get_or-replicate, length-append, length-replicate, take_all, list_all-append, list_all_at, is_ascii_digit, list_all, unwrap_or, digits_value}
use Rattle.bt_lines.specs.model.Lines.{value_of as number_of}
use Rattle.bt_tool.specs.model.Fraction.{are_digits_of_fraction, billionths_in, fraction_in, fraction_of, nine_decimals, one_in_billionths}

none_if : (b : Bool) (v : ℕ) → b ≡ false → None ≡ cond b (Some v) None
none_if b v e = rw e refl

module _ (text : List ℕ) where
  pub no_ones : 0 < length text → number_of text ≡ None → None ≡ cond (list_all is_ascii_digit text && leb (digits_value 10 text) 1) (Some (digits_value 10 text)) None
  unfolding number_of
  no_ones some e = grind arith

  number_is : (n : ℕ) → number_of text ≡ Some n → (list_all is_ascii_digit text ≡ true) × (digits_value 10 text ≡ n)
  unfolding number_of
  number_is n e = grind arith

  pub many_ones : (n : ℕ) → number_of text ≡ Some n → 1 < n → None ≡ cond (list_all is_ascii_digit text && leb (digits_value 10 text) 1) (Some (digits_value 10 text)) None
  many_ones n e h = grind (arith, number_is)

  pub few_ones : (n : ℕ) → number_of text ≡ Some n → n ≤ 1 → Some n ≡ cond (list_all is_ascii_digit text && leb (digits_value 10 text) 1) (Some (digits_value 10 text)) None
  few_ones n e h = grind (arith, number_is)

zeros_are_digits : (n : ℕ) → list_all is_ascii_digit (replicate n 48) ≡ true
zeros_are_digits zero = refl
zeros_are_digits (suc n) = zeros_are_digits n

module _ (decimals : List ℕ) where
  pub length_of_nine : length decimals ≤ 9 → length (nine_decimals decimals) ≡ 9
  length_of_nine few = grind (arith, length-append, length-replicate)

  -- the byte at an index, or a zero
  pub nine_at : (i digit : ℕ) → length decimals ≤ 9 → i < 9 → digit ≡ get_or decimals i 48 → digit ≡ get_or (nine_decimals decimals) i 0
  nine_at i digit few h e = e ∙ (grind (arith, get_or_default_zero, get_or-append, get_or-eq_default, get_or-append_right, get_or-replicate))

  pub other_decimal : (i : ℕ) → length decimals ≤ 9 → i < 9 → is_ascii_digit (get_or (nine_decimals decimals) i 0) ≡ false
      → None ≡ cond (list_all is_ascii_digit decimals) (Some (digits_value 10 (nine_decimals decimals))) None
  other_decimal i few h other = grind (arith, common_steps, length-append, length-replicate, list_all_at, list_all-append, zeros_are_digits)

  pub nine_whole : (i value : ℕ) → length decimals ≤ 9 → 9 ≤ i → value ≡ digits_value 10 (take i (nine_decimals decimals)) → list_all is_ascii_digit (take i (nine_decimals decimals)) ≡ true
      → Some value ≡ cond (list_all is_ascii_digit decimals) (Some (digits_value 10 (nine_decimals decimals))) None
  nine_whole i value few end e all = grind (arith, take_all, length_of_nine, list_all-append, zeros_are_digits)

-- the tests of a fraction's digits
abbrev some_digit : List ℕ → List ℕ → Bool
some_digit whole decimals = ltb 0 (length whole + length decimals)

abbrev whole_digits : List ℕ → List ℕ → Bool
whole_digits whole decimals = list_all is_ascii_digit whole

abbrev decimal_digits : List ℕ → List ℕ → Bool
decimal_digits whole decimals = list_all is_ascii_digit decimals

module _ (whole decimals : List ℕ) where
  pub no_fraction : are_digits_of_fraction whole decimals ≡ false → None ≡ fraction_in whole decimals
  unfolding fraction_in
  no_fraction e = none_if (are_digits_of_fraction whole decimals) (billionths_in whole decimals) e

  pub no_digit : length whole ≡ 0 → length decimals ≡ 0 → None ≡ fraction_in whole decimals
  no_digit e f = grind (arith, no_fraction)

  pub many_decimals : 9 < length decimals → None ≡ fraction_in whole decimals
  many_decimals h = grind (arith, no_fraction)

  pub no_whole : None ≡ cond (list_all is_ascii_digit whole && leb (digits_value 10 whole) 1) (Some (digits_value 10 whole)) None → None ≡ fraction_in whole decimals
  no_whole e = grind (arith, no_fraction)

  pub no_decimals : None ≡ cond (list_all is_ascii_digit decimals) (Some (digits_value 10 (nine_decimals decimals))) None → None ≡ fraction_in whole decimals
  no_decimals e = no_fraction (and_right (some_digit whole decimals) _ (and_right (whole_digits whole decimals) _ (and_left (decimal_digits whole decimals) _ (grind arith))))

  -- the parts of a fraction that isn't above one, or is
  module _ (ones billionths : ℕ)
      (is_whole : Some ones ≡ cond (list_all is_ascii_digit whole && leb (digits_value 10 whole) 1) (Some (digits_value 10 whole)) None)
      (are_decimals : Some billionths ≡ cond (list_all is_ascii_digit decimals) (Some (digits_value 10 (nine_decimals decimals))) None) where
    pub above_one : 1000000000 < ones * 1000000000 + billionths → None ≡ fraction_in whole decimals
    above_one h = grind (arith, no_fraction)

    pub is_fraction : 0 < length whole + length decimals → length decimals ≤ 9 → ones * 1000000000 + billionths ≤ 1000000000 → Some (ones * 1000000000 + billionths) ≡ fraction_in whole decimals
    unfolding fraction_in
    is_fraction some few h = grind arith

fraction-limit : (whole decimals : List ℕ) (n : ℕ) → fraction_in whole decimals ≡ Some n → n ≤ one_in_billionths
unfolding fraction_in
fraction-limit whole decimals n e = grind arith

-- a number that is at most `most`, or 0
pub limit-or : (most : ℕ) (o : Option ℕ) → ((n : ℕ) → o ≡ Some n → n ≤ most) → unwrap_or o 0 ≤ most
limit-or most o h = grind arith

-- the fraction that a word denotes is at most one
pub fraction-limit-or : (word : List ℕ) → unwrap_or (fraction_of word) 0 ≤ one_in_billionths
fraction-limit-or word = limit-or one_in_billionths (fraction_of word) (fraction-limit _ _)
