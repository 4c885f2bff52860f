-- The limits of the numbers of a plan, and which of its names are there.
use Rattle.std.specs.Prelude.{ℕ, Bool, true, ◌&&◌, Option, None, Some, nat_le, false, bytes_eq, IsTrue, IsSome, IsNone}
use Rattle.std.specs.List.{list_any}
use Rattle.std.specs.Option.{option_map_or}
use Rattle.bt_tool.specs.model.Table.{is_printable, Word, Table}
use Rattle.bt_lines.specs.model.Lines.{max_number}
use Rattle.bt_seq.specs.declared.mask.mask_how.MaskHow.{MaskHow}
use Rattle.bt_seq.specs.declared.mask.mask_how.MaskHow.TheVariants.{Soft, Hard}
use Rattle.bt_tool.specs.model.Fraction.{one_in_billionths}
use Rattle.bt_tool.specs.declared.planning.plan_type.Command.{Command}
use Rattle.bt_tool.specs.declared.planning.plan_type.Command.TheVariants.{Merge, Complement, Intersect, Subtract, Coverage, BamToBed, MaskFasta}

-- whether a masked base can be shown so
abbrev pub is_shown_as : MaskHow → Bool
is_shown_as Soft = true
is_shown_as (Hard byte) = is_printable byte

-- whether this many records may be the limit of those held
abbrev pub is_limit : Option ℕ → Bool
is_limit None = true
is_limit (Some most) = nat_le most max_number

-- whether the numbers of a command are within their limits
abbrev pub is_within_limits : Command → Bool
is_within_limits (Merge gap strand) = nat_le gap max_number
is_within_limits (Complement limit) = true
is_within_limits (Intersect shape rule held) =
    nat_le rule.billionths one_in_billionths && is_limit held
is_within_limits (Subtract whole rule held) =
    nat_le rule.billionths one_in_billionths && is_limit held
is_within_limits (Coverage zeros strand) = true
is_within_limits (BamToBed split cigar) = true
is_within_limits (MaskFasta how full) = is_shown_as how

-- The names of a plan.

-- whether the command requires the option, of which it may have none
abbrev pub is_required : Table → Option Word → Bool
is_required table option =
    option_map_or (λ word. list_any (bytes_eq word) table.required) option false

-- a name is there if its option is required, and never if the command has no such option
abbrev pub IsNamedBy : {A : Type 0} → Table → Option Word → Option A → Type 0
IsNamedBy table option name =
    (IsTrue (is_required table option) → IsSome name) × (IsNone option → IsNone name)
