-- How two inputs meet: which lines are written, and which fault is reported.
--
-- A member of the first input (a record, or a line of a sequence) is decided once nothing that may
-- still come of the second input changes its lines.
-- A faulty line of the second input decides nothing.
use Rattle.std.specs.Prelude.{ℕ, List, Option, if◌then◌else◌, Bool, flat_map}
use Rattle.bt_lines.specs.model.Fault.{FaultValue}
use Rattle.std.specs.List.{list_all, take_while}
use Rattle.std.specs.Option.{option_or}

-- what the second input makes of the members of the first
pub record Rule (A : Type 0) : Type 0 where
  -- whether its good members, or its end without a fault, decide a member
  pub decided : A → Bool
  -- the lines of a member against all of its good members
  pub lines : A → List ℕ
  -- its fault
  pub fault : Option FaultValue
  -- what is reported at the end, when all members are written and the first input has no fault
  pub last : Option FaultValue

-- the bytes that a run writes, and the fault that it reports, if there is one
pub record Report : Type 0 where
  pub output : List ℕ
  pub fault : Option FaultValue

module _ {A : Type 0} where
  -- the lines of the members before the first that isn't decided
  abbrev pub written : Rule A → List A → List ℕ
  written rule members = flat_map rule.lines (take_while rule.decided members)

  -- The good members of the first input, and its fault, meet the second input. If a member isn't
  -- decided, the lines of those before it are written and the second input's fault is reported. Else
  -- all lines are written, and the first input's fault is reported, or `last`.
  abbrev pub join_report : Rule A → List A → Option FaultValue → Report
  join_report rule members fault = if list_all rule.decided members
      then record { output = flat_map rule.lines members; fault = option_or fault rule.last }
      else record { output = written rule members; fault = rule.fault }
