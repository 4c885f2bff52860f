-- Lemmas on names that begin with a word.
use Rattle.bt_lines.proofs.Std.{arith, ◌≡◌, ℕ, ◌+◌, ◌-◌, ◌<◌, ◌≤◌, ◌==◌, ◌&&◌, List, [], ◌∷◌, bytes_eq, drop, drop-cons, get_or, length, map, refl, suc, sym, ap, take, true, false, Bool, drop_of_length-le, eqb}
use Rattle.std.specs.Char.{to_ascii_lowercase}
use Rattle.bt_front.specs.model.Odd.{begins_as, is_space, is_spaced}

-- whether what is left of a name begins with what is left of a word
abbrev pub begins_at : List ℕ → List ℕ → ℕ → Bool
begins_at word name at = bytes_eq (map to_ascii_lowercase (take (length word - at) (drop at name))) (drop at word)

-- a byte of each is compared, and then what is left
pub begins_next : (word name : List ℕ) (at : ℕ) → at < length word → at < length name
    → begins_at word name at ≡ (to_ascii_lowercase (get_or name at 0) == get_or word at 0) && begins_at word name (at + 1)
begins_next word name at within room =
    let e : length word - at ≡ suc (length word - suc at) = omega arith in
    let f : at + 1 ≡ suc at = omega arith in
    rw (f, drop-cons name at 0 room, drop-cons word at 0 within, e) refl

-- nothing is left of a word after its length
pub begins_end : (word name : List ℕ) (at : ℕ) → length word ≤ at → begins_at word name at ≡ true
begins_end word name at all =
    let e : length word - at ≡ 0 = omega arith in
    rw (e, drop_of_length-le word all) refl

and_nothing : (b : Bool) → (b && false) ≡ false
and_nothing true = refl
and_nothing false = refl

-- a shorter name doesn't begin with a word
pub begins_short : (word name : List ℕ) → length name < length word → begins_as word name ≡ false
begins_short [] name short = absurd (omega arith)
begins_short (w ∷ word) [] short = refl
begins_short (w ∷ word) (n ∷ name) short =
    let less : length name < length word = omega arith in
    rw (begins_short word name less) (and_nothing (to_ascii_lowercase n == w))

-- whether a space comes first
pub spaced_at : (name : List ℕ) (at : ℕ) → at < length name → is_spaced (drop at name) ≡ is_space (get_or name at 0)
spaced_at name at within = rw (drop-cons name at 0 within) refl

pub spaced_past : (name : List ℕ) (at : ℕ) → length name ≤ at → is_spaced (drop at name) ≡ false
spaced_past name at past = rw (drop_of_length-le name past) refl
