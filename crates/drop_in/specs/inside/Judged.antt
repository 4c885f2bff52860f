-- What one file on PATH is.
use Rattle.std.specs.Prelude.{ℕ, ◌⊎◌, List}
use Rattle.bt_lines.specs.declared.device.Source.{Ghosts as Source}
use Rattle.drop_in.specs.calls.Original.{IsOriginal, IsPassed, IsUnclear, Searched}
use Rattle.drop_in.specs.declared.marks.Mark.TheVariants.{Ours}
use Rattle.drop_in.specs.declared.marks.Search.TheVariants.{Found, Endless}
use Rattle.drop_in.specs.declared.programs.Programs.{Ghosts as Programs}
use Rattle.drop_in.specs.declared.original.Judged.{Judged}
use Rattle.drop_in.specs.declared.original.Judged.TheVariants.{Original, Passed, Unclear}

module _ {P S : Type 0} (programs : Programs P S) (source : Source S) where
  -- a file is what it was judged to be
  abbrev pub IsJudged : P → List ℕ → List ℕ → Judged → Type 0
  IsJudged system tried name Original = IsOriginal programs source system tried name
  IsJudged system tried name Passed = IsPassed programs source system tried name
  IsJudged system tried name Unclear = IsUnclear programs source system tried name

  -- a file has our words, or no end
  abbrev pub IsOurs : P → List ℕ → Type 0
  IsOurs system name =
      Searched programs source system name Ours Found ⊎ Searched programs source system name Ours Endless
