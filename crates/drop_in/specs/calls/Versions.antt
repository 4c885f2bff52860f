-- For which command lines it matters which version of bedtools is behind ours: not all were compared.
use Rattle.std.specs.Prelude.{ℕ, ◌⊎◌, Bool, true, false, ◌&&◌, ◌||◌, ◌==◌, not, List, is_some}
use Rattle.bt_lines.specs.declared.device.Source.{Ghosts as Source}
use Rattle.bt_runs.specs.declared.merge.merge_strand.MergeStrand.{MergeStrand}
use Rattle.bt_runs.specs.declared.merge.merge_strand.MergeStrand.TheVariants.{All, Each, One}
use Rattle.bt_sweep.specs.declared.hits.hit_rule.HitRule.{HitRule}
use Rattle.bt_sweep.specs.declared.output.shape.Shape.{Shape}
use Rattle.bt_sweep.specs.declared.output.shape.Shape.TheVariants.{Once, Missing, Count}
use Rattle.bt_tool.specs.declared.planning.plan_type.Command.{Command}
use Rattle.bt_tool.specs.declared.planning.plan_type.Command.TheVariants.{Merge, Complement, Intersect, Subtract, Coverage, BamToBed, MaskFasta}
use Rattle.drop_in.specs.calls.Original.{Searched}
use Rattle.drop_in.specs.declared.marks.Mark.TheVariants.{KnownVersion}
use Rattle.drop_in.specs.declared.marks.Search.TheVariants.{Absent, Endless}
use Rattle.drop_in.specs.declared.programs.Programs.{Ghosts as Programs}

-- all strands are merged together
abbrev pub is_of_all : MergeStrand → Bool
is_of_all All = true
is_of_all Each = false
is_of_all (One strand) = false

-- a hit needs nothing but a shared base: no fraction, of one record or of both, and no strand
abbrev pub is_any_overlap : HitRule → Bool
is_any_overlap rule = (rule.billionths == 0) && (not rule.both && not rule.same_strand)

-- a record has one line, however many hits it has: -u, -v and -c
abbrev pub has_one_line : Shape → Bool
has_one_line Once = true
has_one_line Missing = true
has_one_line Count = true
has_one_line _ = false

-- whether all versions write the same for a command, by whether -sorted is given
abbrev pub is_for_any_version : Command → Bool → Bool
is_for_any_version (Merge gap strand) is_sorted = is_of_all strand
is_for_any_version (Complement limit) is_sorted = true
is_for_any_version (Intersect shape rule held) is_sorted = is_any_overlap rule && (is_sorted || has_one_line shape)
is_for_any_version (Subtract whole rule held) is_sorted = is_any_overlap rule
is_for_any_version (Coverage zeros strand) is_sorted = not zeros && not (is_some strand)
is_for_any_version (BamToBed split cigar) is_sorted = false
is_for_any_version (MaskFasta how full) is_sorted = false

module _ {P S : Type 0} (programs : Programs P S) (source : Source S) where
  -- a file can't be read, or what it gives hasn't the name of a known version
  abbrev pub HasUnknownVersion : P → List ℕ → Type 0
  HasUnknownVersion system name = programs.refuses system name
      ⊎ Searched programs source system name KnownVersion Absent
      ⊎ Searched programs source system name KnownVersion Endless
