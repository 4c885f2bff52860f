-- What reading a text and listing hits do.
use Rattle.std.specs.Prelude.{◌≡◌, ◌≢◌, ◌⊎◌, ℕ, Bool, true, false, List, ◌++◌, Option, None, Some, Result, Ok, Err}
use Rattle.bt_lines.specs.declared.device.Sink.{Ghosts as Sink}
use Rattle.bt_lines.specs.declared.fault.Input.{Input}
use Rattle.bt_lines.specs.declared.fault.Fault.{Fault}
use Rattle.bt_lines.specs.calls.Faults.{no_memory, write_failed}
use Rattle.bt_lines.specs.calls.Names.{fault_value}
use Rattle.bt_lines.specs.calls.Output.{FailsToAdd, Grown, IsPrefixOf, Output}
use Rattle.bt_lines.specs.model.Fault.{FaultValue}
use Rattle.bt_lines.specs.model.Lines.{whole_text}
use Rattle.bt_bed.specs.model.Feature.{Feature}
use Rattle.bt_bed.specs.model.Good.{bed_good, items_in}
use Rattle.bt_bed.specs.model.Order.{Order}
use Rattle.bt_sweep.specs.declared.output.shape.Shape.{Shape}
use Rattle.bt_sweep.specs.declared.output.shape.Shape.TheVariants.{Cut, OrigA, CutAndB, OrigBoth, Overlap}

-- these are the records of a text without a fault
pub record AreRecordsOf (order : Order) (text : List ℕ) (records : List Feature) : Type 0 where
  pub items : (input : Input) → items_in (bed_good input order (whole_text text)) ≡ records
  pub faultless : (input : Input) → (bed_good input order (whole_text text)).fault ≡ None

-- whether a shape has a line for each hit
abbrev pub has_line_each : Shape → Bool
has_line_each Cut = true
has_line_each OrigA = true
has_line_each CutAndB = true
has_line_each OrigBoth = true
has_line_each Overlap = true
has_line_each _ = false

-- a fault of writing hits: a failed write, only if the sink failed, and its last call is one that did; or of memory
abbrev pub TellsOutput : Bool → Bool → FaultValue → Type 0
TellsOutput sink_failed last_failed fault =
    ((fault ≡ write_failed) × (sink_failed ≡ true) × (last_failed ≡ true)) ⊎ (fault ≡ no_memory)

-- what writing hits does to a sink
pub record WritesHits {K : Type 0} (sink : Sink K) (before : K) (lines : List ℕ) (fault : Option FaultValue) (after : K)
    : Type 0 where
  -- it took a prefix of the lines
  pub front : IsPrefixOf (sink.took after) (sink.took before) lines
  -- without a fault it took them all
  pub whole : fault ≡ None → sink.took after ≡ sink.took before ++ lines
  -- unless a failed write is reported, it has passed on what it took, and all its writes and flushes served
  pub flushed : fault ≢ Some write_failed → sink.is_flushed after ≡ true
  pub no_failed_write : fault ≢ Some write_failed → sink.has_failed after ≡ sink.has_failed before
  pub named : (told : FaultValue) → fault ≡ Some told → TellsOutput (sink.has_failed after) (sink.last_failed after) told

-- what listing hits does to an output: memory may run out after the lines of some records, or a write fails
pub record CutsOff (old : Output) (lines : List ℕ) (fault : FaultValue) (new : Output) : Type 0 where
  pub put : List ℕ
  pub rest : List ℕ
  pub are : put ++ rest ≡ lines
  pub cause : (Grown old put new × (fault ≡ no_memory)) ⊎ FailsToAdd old lines fault new

abbrev pub ListsHits : {A : Type 0} → Output → List ℕ → Result A Fault → Output → Type 0
ListsHits old lines (Ok done) new = Grown old lines new
ListsHits old lines (Err fault) new = CutsOff old lines (fault_value fault) new
