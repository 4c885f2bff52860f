-- Which bedtools on PATH takes what isn't run here.
use Rattle.std.specs.Prelude.{ℕ, ◌≡◌, ◌⊎◌, Bool, true, false, List, [], ◌∷◌, ◌++◌, All, codes, map, string_bytes}
use Rattle.bt_lines.specs.model.Lines.{pieces}
use Rattle.bt_lines.specs.declared.device.Source.{Ghosts as Source}
use Rattle.bt_bed.specs.model.Order.{is_among}
use Rattle.drop_in.specs.calls.Marks.{Shows}
use Rattle.drop_in.specs.declared.marks.Mark.{Mark}
use Rattle.drop_in.specs.declared.marks.Mark.TheVariants.{Ours}
use Rattle.drop_in.specs.declared.marks.Search.{Search}
use Rattle.drop_in.specs.declared.marks.Search.TheVariants.{Found, Absent, Endless}
use Rattle.drop_in.specs.declared.programs.Programs.{Ghosts as Programs}
use Rattle.drop_in.specs.declared.programs.Standing.TheVariants.{Program, Other, Unclear as UnclearFile}
use Rattle.drop_in.specs.declared.original.Original.{Original}
use Rattle.drop_in.specs.declared.original.Original.TheVariants.{Named, Missing, Unclear}

-- the file that may be it in a folder: an empty folder of PATH is the working folder
abbrev pub name_in : List ℕ → List ℕ
name_in [] = codes "./bedtools"
name_in (byte ∷ bytes) = (byte ∷ bytes) ++ codes "/bedtools"

-- the files that may be it: those of the folders of PATH, which has colons between them
abbrev pub names_on : List ℕ → List (List ℕ)
names_on path = map name_in (pieces 58 path)

-- whether a call before this one was given to a file: its name is among those tried, which have colons between them
abbrev pub is_tried : List ℕ → List ℕ → Bool
is_tried tried name = is_among (pieces 58 tried) name

module _ {P S : Type 0} (programs : Programs P S) (source : Source S) where
  -- a file was opened, and this came of the search for a mark in it
  pub record Searched (system : P) (name : List ℕ) (mark : Mark) (search : Search) : Type 0 where
    pub opened : S
    pub searched : S
    pub opens : programs.opens system name opened
    pub shows : Shows source mark opened search searched

  -- a file isn't the original: a call was given to it, it's no program, or it's ours. One without an end isn't either.
  pub data IsPassed (system : P) (tried name : List ℕ) : Type 0 where
    was_tried : is_tried tried name ≡ true → IsPassed system tried name
    no_program : programs.stands system name Other → IsPassed system tried name
    has_ours : Searched system name Ours Found → IsPassed system tried name
    has_no_end : Searched system name Ours Endless → IsPassed system tried name

  -- a file isn't ours: it can't be read, or what it gives hasn't our words
  abbrev pub IsForeign : P → List ℕ → Type 0
  IsForeign system name = programs.refuses system name ⊎ Searched system name Ours Absent

  -- a file is the original: a program to which no call was given, and which isn't ours
  pub record IsOriginal (system : P) (tried name : List ℕ) : Type 0 where
    pub untried : is_tried tried name ≡ false
    pub program : programs.stands system name Program
    pub foreign : IsForeign system name

  -- it isn't known whether a file may be run, to which no call was given
  pub record IsUnclear (system : P) (tried name : List ℕ) : Type 0 where
    pub untried : is_tried tried name ≡ false
    pub unclear : programs.stands system name UnclearFile

  -- the first of some files that isn't passed over is this one
  pub record IsFirst (system : P) (tried : List ℕ) (names : List (List ℕ)) (name : List ℕ) : Type 0 where
    pub before : List (List ℕ)
    pub after : List (List ℕ)
    pub are : names ≡ before ++ name ∷ after
    pub passed : All (IsPassed system tried) before

  -- what is behind ours on PATH: the first file that isn't passed over, if it's the original; nothing if all are
  abbrev pub IsBehind : P → List ℕ → List (List ℕ) → Original → Type 0
  IsBehind system tried names (Named name) =
      IsFirst system tried names (string_bytes name) × IsOriginal system tried (string_bytes name)
  IsBehind system tried names Missing = All (IsPassed system tried) names
  IsBehind system tried names Unclear =
      (name : List ℕ) × IsFirst system tried names name × IsUnclear system tried name
