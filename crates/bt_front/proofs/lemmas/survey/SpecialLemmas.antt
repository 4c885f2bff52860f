-- Lemmas on bytes that have no NUL, CR or #, and no two line feeds one after the other.
use Rattle.bt_lines.proofs.Std.{arith, ◌≡◌, ℕ, ◌+◌, ◌-◌, ◌*◌, ◌<◌, ◌≤◌, ◌^◌, ◌==◌, ◌&&◌, ◌||◌, ◌∙◌, Bool, true, false, List, [], ◌∷◌, and_block, ap, bit_and, cond, drop, drop-cons, get_or, length, map, mask_l, nat_tests, refl, suc, sym, take, zero, drop_of_length-le}
use Rattle.bt_front.specs.model.Odd.{has_special, is_feed, is_mark}

special_more : (last : ℕ) (bs : List ℕ) → is_mark last ≡ false → (last == 10) ≡ false → has_special (last ∷ bs) ≡ has_special bs
special_more last [] plain other = plain
special_more last (b ∷ bs) plain other = rw (plain, other) refl

-- a byte that is a space changes nothing
pub special_start : (bs : List ℕ) → has_special (32 ∷ bs) ≡ has_special bs
special_start bs = special_more 32 bs refl refl

-- one byte more is looked at
pub special_next : (block : List ℕ) (i last : ℕ) → i < length block → is_mark last ≡ false
    → has_special (last ∷ drop i block) ≡ ((last == 10) && (get_or block i 0 == 10)) || has_special (get_or block i 0 ∷ drop (i + 1) block)
special_next block i last within plain =
    let f : i + 1 ≡ suc i = omega arith in
    rw (f, drop-cons block i 0 within) (rw plain refl)

-- a byte that is special by itself
pub special_mark : (b : ℕ) (bs : List ℕ) → is_mark b ≡ true → has_special (b ∷ bs) ≡ true
special_mark b [] mark = mark
special_mark b (x ∷ bs) mark = rw mark refl

-- after all bytes
pub special_end : (block : List ℕ) (i last : ℕ) → length block ≤ i → is_mark last ≡ false → has_special (last ∷ drop i block) ≡ false
special_end block i last past plain = rw (drop_of_length-le block past) plain

-- The bits of some bytes.

record BitsApart (p q : Bool) (a b : ℕ) : Type 0 where
  apart : (p && q) ≡ false
  rest : bit_and a b ≡ 0

bits_apart : (p q : Bool) (a b : ℕ) → bit_and (cond p 1 0 + 2 * a) (cond q 1 0 + 2 * b) ≡ 0 → BitsApart p q a b
bits_apart true true a b e = absurd (let h = and_block 1 a b 1 1 (omega arith) (omega arith) in grind (arith, h))
bits_apart true false a b e = record { apart = refl; rest = let h = and_block 1 a b 1 0 (omega arith) (omega arith) in grind (arith, h) }
bits_apart false true a b e = record { apart = refl; rest = let h = and_block 1 a b 0 1 (omega arith) (omega arith) in grind (arith, h) }
bits_apart false false a b e = record { apart = refl; rest = let h = and_block 1 a b 0 0 (omega arith) (omega arith) in grind (arith, h) }

bit_clear : (p : Bool) (a : ℕ) → cond p 1 0 + 2 * a ≡ 0 → (p ≡ false) × (a ≡ 0)
bit_clear true a e = absurd (omega arith)
bit_clear false a e = (refl, omega arith)

-- bytes whose bits are clear have nothing special, if what follows hasn't
pub special_chunk : (n : ℕ) (xs : List ℕ) → n < length xs → mask_l (map is_mark (take n xs)) ≡ 0
    → bit_and (mask_l (map is_feed (take n xs))) (mask_l (map is_feed (take n (drop 1 xs)))) ≡ 0
    → has_special (drop n xs) ≡ false → has_special xs ≡ false
special_chunk zero xs room marks feeds rest = rest
special_chunk (suc n) [] room marks feeds rest = refl
special_chunk (suc n) (x ∷ []) room marks feeds rest = absurd (omega arith)
special_chunk (suc n) (x ∷ y ∷ more) room marks feeds rest =
    let mark = bit_clear (is_mark x) (mask_l (map is_mark (take n (y ∷ more)))) marks in
    let feed = bits_apart (is_feed x) (is_feed y) (mask_l (map is_feed (take n (y ∷ more)))) (mask_l (map is_feed (take n more))) feeds in
    rw (mark.0, feed.apart) (special_chunk n (y ∷ more) (omega arith) mark.1 feed.rest rest)
