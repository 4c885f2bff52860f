-- Bytes that are complete lines.
use Rattle.std.specs.Prelude.{◌≡◌, ℕ, ◌-◌, ◌≤◌, ◌==◌, Bool, true, false, List, [], ◌∷◌, nat_eq, ◌++◌, length, take}
use Rattle.bt_lines.specs.calls.Line.{NoLineFeed, line_feeds}

-- whether the last byte, if there is one, is a line feed
abbrev pub is_fed : List ℕ → Bool
is_fed [] = true
is_fed (byte ∷ []) = byte == 10
is_fed (byte ∷ next ∷ bytes) = is_fed (next ∷ bytes)

-- each line has its line feed, and one that is longer than a block is the only one
pub record AreComplete (is_spilled : Bool) (lines : List ℕ) : Type 0 where
  pub fed : is_fed lines ≡ true
  pub one : is_spilled ≡ true → line_feeds lines ≤ 1

-- no byte is a line feed
pub record IsSearched (bytes : List ℕ) : Type 0 where
  pub clear : NoLineFeed bytes

-- the bytes that were taken and not given as lines, by whether the last line's line feed was added
abbrev pub held_at : Bool → List ℕ → List ℕ → List ℕ
held_at false complete unread = complete ++ unread
held_at true complete unread = take (length complete - 1) complete

-- once the end was reported, at most a last line is held, which was given a line feed and has a byte before it
pub record IsLast (is_told is_open : Bool) (complete unread : List ℕ) : Type 0 where
  pub none_behind : is_told ≡ true → unread ≡ []
  pub one : is_open ≡ true → line_feeds complete ≤ 1
  pub some : is_open ≡ true → nat_eq (length complete) 1 ≡ false
