-- How writing ends.
use Rattle.std.specs.Prelude.{◌≡◌, ◌⊎◌, true, false, [], Option, None, Some, Result, Ok, Err}
use Rattle.bt_lines.specs.calls.Faults.{write_failed}
use Rattle.bt_lines.specs.calls.Names.{fault_value}
use Rattle.bt_lines.specs.calls.Output.{IsPrefixOf, Output, SinkFailed}
use Rattle.bt_lines.specs.declared.fault.Fault.{Fault}
use Rattle.bt_lines.specs.model.Fault.{FaultValue}

-- what was put was passed on, all of it
pub record PassesOn (old new : Output) : Type 0 where
  pub taken : new.took ≡ old.put
  pub flushed : new.sink_is_flushed ≡ true
  pub was_served : old.has_failed ≡ false
  pub sink_served : new.sink_has_failed ≡ old.sink_has_failed

-- a write or the flush failed
pub record FailsToPass (old : Output) (fault : FaultValue) (new : Output) : Type 0 where
  pub is : fault ≡ write_failed
  pub front : IsPrefixOf new.took old.put []
  pub sink_failed : SinkFailed new
  pub again : old.has_failed ≡ true → new ≡ old

-- what was put is passed on, unless a write fails, which is told first
abbrev pub EndsPutting : {A : Type 0} → Result A Fault → Output → Option FaultValue → Output → Type 0
EndsPutting (Ok done) old None new = PassesOn old new
EndsPutting (Ok done) old (Some fault) new = FailsToPass old fault new
EndsPutting (Err failure) old None new = ⊥
EndsPutting (Err failure) old (Some fault) new =
    FailsToPass old fault new ⊎ (PassesOn old new × (fault ≡ fault_value failure))
