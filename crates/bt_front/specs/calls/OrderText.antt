-- What the genome file of an order that was found says.
use Rattle.std.specs.Prelude.{◌≡◌, ◌<◌, ℕ, false, ◌==◌, List, [], ◌∷◌, All, map, length, Some, Ok}
use Rattle.bt_lines.specs.model.Lines.{max_number, whole_text}
use Rattle.bt_lines.specs.calls.Line.{NoLineFeed}
use Rattle.bt_bed.specs.calls.Features.{IsName}
use Rattle.bt_bed.specs.calls.Orders.{AreDistinct}
use Rattle.bt_bed.specs.model.Genome.{Entry, genome_handed, is_skipped}
use Rattle.bt_lines.specs.declared.fault.Input.TheVariants.{Genome}
use Rattle.bt_front.specs.model.Fitting.{order_text}

-- a name that a line of BED can have
pub record IsLineName (name : List ℕ) : Type 0 where
  pub column : IsName name
  pub line : NoLineFeed name
  -- it doesn't begin a comment
  pub no_comment : is_skipped name ≡ false

-- names that lines of BED can have
abbrev pub AreLineNames : List (List ℕ) → Type 0
AreLineNames [] = Unit {0}
AreLineNames (n ∷ ns) = IsLineName n × AreLineNames ns

-- a chromosome as long as any may be
abbrev pub longest_entry : List ℕ → Entry
longest_entry name = record { name = name; length = max_number }

-- the genome file of an order is read as its names
abbrev pub order_is_read : Type 0
order_is_read = (names : List (List ℕ)) → AreLineNames names → AreDistinct names
    → genome_handed Genome (whole_text (order_text names)) ≡ Ok (map longest_entry names)
