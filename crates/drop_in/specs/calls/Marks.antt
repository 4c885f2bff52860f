-- By what bytes programs are told apart.
use Rattle.std.specs.Prelude.{ℕ, ◌≡◌, ◌≤◌, ◌⊎◌, true, List, codes, length}
use Rattle.memchr.specs.Find.{OccursAt}
use Rattle.bt_lines.specs.calls.Device.{EndsAfter, FailsAfter, ReadsOn}
use Rattle.bt_lines.specs.declared.device.Source.{Ghosts as Source}
use Rattle.drop_in.specs.declared.marks.Mark.{Mark}
use Rattle.drop_in.specs.declared.marks.Mark.TheVariants.{Ours, KnownVersion}
use Rattle.drop_in.specs.declared.marks.Search.{Search}
use Rattle.drop_in.specs.declared.marks.Search.TheVariants.{Found, Absent, Endless}

-- some bytes have these words in them: at a place they stand, one byte after the other
abbrev pub Has : List ℕ → List ℕ → Type 0
Has words bytes = (place : ℕ) × OccursAt bytes words place

-- the words that each program and script of Dunekettle has
abbrev pub our_words : List ℕ
our_words = codes "no such sequence from here on"

-- some bytes have a mark: our words, or the name of a version of bedtools with which everything was compared
abbrev pub HasMark : Mark → List ℕ → Type 0
HasMark Ours bytes = Has our_words bytes
HasMark KnownVersion bytes = Has (codes "v2.30.0") bytes ⊎ Has (codes "v2.31.") bytes

-- how many bytes of a mark may stand before a border: all but one of the longest
abbrev pub overlap : ℕ
overlap = 28

module _ {S : Type 0} (source : Source S) where
  -- a source gave these bytes, and then its end, or a read failed
  abbrev pub GivesAll : S → List ℕ → S → Type 0
  GivesAll before bytes after =
      EndsAfter source.is_read before bytes after ⊎ FailsAfter source.is_read before bytes after

  -- what a search says of a source, by the bytes that this gave
  abbrev pub Shows : Mark → S → Search → S → Type 0
  Shows mark before Found after = (bytes : List ℕ) × ReadsOn source.is_read before bytes after × HasMark mark bytes
  Shows mark before Absent after = (bytes : List ℕ) × GivesAll before bytes after × ¬ HasMark mark bytes
  Shows mark before Endless after =
      (bytes : List ℕ) × ReadsOn source.is_read before bytes after × (18446744073709551615 ≤ length bytes)
