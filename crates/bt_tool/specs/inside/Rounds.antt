-- What the calls of a run over two inputs do.
use Rattle.std.specs.Prelude.{◌≡◌, ◌⊎◌, ◌<◌, ◌≤◌, ℕ, Bool, true, false, Option, Some, Result, Ok, Err}
use Rattle.bt_lines.specs.model.Fault.{FaultValue}
use Rattle.bt_lines.specs.calls.Names.{fault_value}
use Rattle.bt_lines.specs.calls.Output.{Output}
use Rattle.bt_lines.specs.declared.fault.Fault.{Fault}
use Rattle.bt_bed.specs.calls.SortedReader.{fault_in}
use Rattle.bt_sweep.specs.declared.sweep.Want.{Want}
use Rattle.bt_sweep.specs.declared.sweep.Want.TheVariants.{A, B, Nothing}

-- something of what is wanted is buffered, if so much of each input is
abbrev pub IsBuffered : Want → ℕ → ℕ → Type 0
IsBuffered A first second = 0 < first
IsBuffered B first second = 0 < second
IsBuffered Nothing first second = ⊥

-- what an engine and its two readers say of a run
pub record TwoInputDef (E : Type 0) : Type 1 where
  -- a run that began with the first engine and output has come to the second ones
  pub comes : E → Output → E → Output → Type 0
  -- a run that began with the first engine and output has ended with this fault or none, and the second ones
  pub ends : E → Output → Option FaultValue → E → Output → Type 0
  -- the input that is wanted
  pub wants : E → Want
  -- something of that input is buffered
  pub is_ready : E → Type 0
  -- how much is still wanted; it falls with each input that is read on and then given
  pub left : E → ℕ

module _ {E : Type 0} (def : TwoInputDef E) where
  -- less is wanted, or something of what is wanted is buffered
  abbrev pub IsLessOrReady : E → E → Type 0
  IsLessOrReady old new = (def.left new < def.left old) ⊎ ((def.left new ≤ def.left old) × def.is_ready new)

  -- no more is wanted, and less if what was wanted was buffered
  abbrev pub IsLessIfReady : E → E → Type 0
  IsLessIfReady old new = (def.left new ≤ def.left old) × (def.is_ready old → def.left new < def.left old)

  -- the run goes on, or ends with the fault of a call
  abbrev pub LeadsTo : {T : Type 0} → E → Output → (E → Type 0) → Result T Fault → E → Output → Type 0
  LeadsTo start out Goes (Ok done) new later = def.comes start out new later × Goes new
  LeadsTo start out Goes (Err fault) new later = def.ends start out (Some (fault_value fault)) new later

  -- the run has ended
  abbrev pub EndsRun : {T : Type 0} → E → Output → Result T Fault → E → Type 0
  EndsRun old grown result new = (start : E) (out : Output) → def.comes start out old grown
      → def.ends start out (fault_in result) new grown

  -- the input that is wanted was read on
  abbrev pub FillsWanted : {T : Type 0} → E → Output → Result T Fault → E → Output → Type 0
  FillsWanted old grown result new later = (start : E) (out : Output) → def.comes start out old grown
      → LeadsTo start out (IsLessOrReady old) result new later

  -- what is buffered was given
  abbrev pub Gives : {T : Type 0} → E → Output → Result T Fault → E → Output → Type 0
  Gives old grown result new later = (start : E) (out : Output) → def.comes start out old grown
      → LeadsTo start out (IsLessIfReady old) result new later

  -- the input that is wanted was read on, or none is wanted
  abbrev pub Wants : E → Output → Result Bool Fault → E → Output → Type 0
  Wants old grown (Ok false) new later = (def.wants old ≡ Nothing) × (new ≡ old) × (later ≡ grown)
  Wants old grown (Ok true) new later = FillsWanted {T = Bool} old grown (Ok true) new later
  Wants old grown (Err fault) new later = FillsWanted {T = Bool} old grown (Err fault) new later
