-- How far a sweep over two readers has come, and how it ends, as a run over two inputs.
use Rattle.std.specs.Prelude.{◌≡◌, ℕ, ◌≤◌, All, true, List, ◌++◌, Option, Some, None, Result, Ok, Err, ⊤, ◌+◌, ◌*◌, [], Bool, false, IsTrue, is_some, length, option_to_list}
use Rattle.std.specs.List.{list_all}
use Rattle.bt_lines.specs.declared.device.Source.{Ghosts as Source}
use Rattle.bt_lines.specs.model.Fault.{FaultValue, read_failed}
use Rattle.bt_lines.specs.model.Lines.{TextLine}
use Rattle.bt_lines.specs.calls.Names.{fault_value}
use Rattle.bt_lines.specs.calls.Output.{Output}
use Rattle.bt_lines.specs.calls.Reader.{end_told, lines_given}
use Rattle.bt_lines.specs.declared.fault.Fault.{Fault}
use Rattle.bt_lines.specs.declared.fault.Input.{Input}
use Rattle.bt_lines.specs.declared.fault.Kind.{Kind}
use Rattle.bt_bed.specs.model.Feature.{Feature, intervals_of}
use Rattle.bt_bed.specs.model.BedLine.{IsBedKind}
use Rattle.bt_bed.specs.model.Good.{Member, bed_format}
use Rattle.bt_bed.specs.model.Sorted.{Locus, sorting_of}
use Rattle.bt_bed.specs.calls.Orders.{ArePlaced, IsTotal}
use Rattle.bt_bed.specs.model.Order.{Order}
use Rattle.bt_bed.specs.calls.Reading.{MemberReader, ahead_in}
use Rattle.bt_bed.specs.calls.Records.{last_locus, order_in, room, view_of}
use Rattle.bt_bed.specs.declared.order.ChromOrder.{Ghosts}
use Rattle.bt_bed.specs.declared.read.records.Records.{Records}
use Rattle.bt_sweep.specs.model.Hits.{decided, are_too_many, up_to_too_many, within_limit}
use Rattle.bt_sweep.specs.model.Lines.{lines_for}
use Rattle.bt_sweep.specs.calls.Sweeping.{StandsAt, leaves_some, Sweeping, phase_is_over, want_in}
use Rattle.bt_bed.specs.calls.Stage.{Stage, given}
use Rattle.bt_sweep.specs.calls.SweepView.{order_of as sweep_order, state_of}
use Rattle.bt_sweep.specs.declared.sweep.Want.{Want}
use Rattle.bt_tool.specs.declared.loops.sweeping.SweepConfig.{SweepConfig}
use Rattle.bt_tool.specs.declared.loops.sweeping.SweepRun.{SweepRun}
use Rattle.bt_tool.specs.model.Reaches.{records_need}
use Rattle.bt_tool.specs.model.TwoInputs.{IsSweptKind}
use Rattle.bt_tool.specs.inside.Pair.{Comes, JoinDef, Pair, IsOverWith}
use Rattle.bt_tool.specs.inside.Rounds.{IsBuffered, TwoInputDef}
use Rattle.bt_tool.specs.inside.Feed.{IsLater, AreAll, PassesMembers, StopsAfter}

-- Whatever comes after them of either input, by these records of the first the limit doesn't lie
-- among these of the second.
abbrev pub AreWithin : Order → Option ℕ → List Feature → List (Member Feature) → Type 0
AreWithin order None as_given past = ⊤
AreWithin order (Some most) as_given past =
    (later : List Feature) (more : List (Member Feature)) (fault : Option FaultValue)
    → up_to_too_many (are_too_many order most (as_given ++ later)) [] (past ++ more) fault
    ≡ up_to_too_many (are_too_many order most (as_given ++ later)) past more fault

-- what a sweep goes by
abbrev pub config_of : Sweeping → SweepConfig
config_of sweep = record { shape = sweep.shape; rule = sweep.rule; limit = sweep.limit }

-- what a sweep makes of a record of the first input by records of the second
abbrev pub sweep_join : Order → SweepConfig → JoinDef Feature Feature
sweep_join order config = record {
  decided = decided order;
  bytes = lines_for config.shape config.rule;
  within_limit = within_limit order config.limit;
  Fits = AreWithin order config.limit;
  last = λ all second. None;
  reaches = records_need order;
  -- each record that was taken leaves one of those given undecided
  Asks = λ as_given taken. IsTrue (list_all (leaves_some order as_given) taken);
  InOrder = λ second. ArePlaced order (intervals_of second);
  first_kinds = IsBedKind order;
  second_kinds = IsSweptKind order config.limit;
}

-- two readers of BED records that have given none, in one order
pub record AreBegun {A B O : Type 0} {g : Ghosts O} (first : Records A O g)
    (second : Records B O g) : Type 0 where
  pub total : IsTotal (order_in first)
  pub same_order : order_in second ≡ order_in first
  pub is_bed : (view_of first).format ≡ bed_format (sorting_of (order_in first))
  pub is_bed_second : (view_of second).format ≡ bed_format (sorting_of (order_in second))
  pub none_last : last_locus first ≡ None
  pub none_last_second : last_locus second ≡ None

module _ {A B O : Type 0} {g : Ghosts O} (source_a : Source A) (source_b : Source B)
    (old_first : Records A O g) (old_second : Records B O g) where
  abbrev pub records_pair : Pair A B Feature Feature (Option Locus) (Option Locus)
  records_pair = record {
    source_a = source_a;
    source_b = source_b;
    first = view_of old_first;
    second = view_of old_second;
  }

module _ {A B O : Type 0} {g : Ghosts O} (source_a : Source A) (source_b : Source B)
    (order : Order) (config : SweepConfig) (old_first : Records A O g)
    (old_second : Records B O g) (out : Output) where
  -- the records so far were given
  pub record Sweeps (first : Records A O g) (second : Records B O g) (sweep : Sweeping)
      (grown : Output) : Type 0 where
    pub past_first : List (Member Feature)
    pub past_second : List (Member Feature)
    pub stage : Stage Feature Feature
    pub stands : StandsAt order stage sweep
    pub config_is : config_of sweep ≡ config
    pub comes : Comes (sweep_join order config)
        (records_pair source_a source_b old_first old_second) out
        stage past_first past_second (view_of first) (view_of second) grown
    -- they go by the order from the beginning
    pub first_order : order_in first ≡ order_in old_first
    pub second_order : order_in second ≡ order_in old_second
    pub fits : AreWithin order config.limit (given stage) past_second

-- how many rounds are wanted beside those that consume: 2 while a record waits, 1 until the first
-- input ends
abbrev pub sweep_rounds : Bool → Bool → ℕ
sweep_rounds true done = 2
sweep_rounds false true = 0
sweep_rounds false false = 1

module _ {A B O : Type 0} {g : Ghosts O} where
  abbrev pub wanted_of : SweepRun A B O g → Want
  wanted_of now = want_in (state_of now.sweep)

  abbrev pub is_sweep_ready : SweepRun A B O g → Type 0
  is_sweep_ready now =
      IsBuffered (wanted_of now) (length (view_of now.first).buffered)
      (length (view_of now.second).buffered)

  abbrev pub left_to_sweep : SweepRun A B O g → ℕ
  left_to_sweep now = 2 * (room now.first + room now.second)
      + sweep_rounds (is_some (state_of now.sweep).current) (phase_is_over (state_of now.sweep).phase)

  module _ (source_a : Source A) (source_b : Source B) (start : SweepRun A B O g)
      (out : Output) where
    -- the records so far were given
    pub record SweepComes (now : SweepRun A B O g) (grown : Output) : Type 0 where
      pub begun : AreBegun start.first start.second
      pub sweeps : Sweeps source_a source_b (order_in start.first) (config_of (state_of start.sweep))
          start.first start.second out now.first now.second (state_of now.sweep) grown
      pub order_is : sweep_order now.sweep ≡ order_in start.first

    abbrev pub SweepIsOver : Option FaultValue → SweepRun A B O g → Output → Type 0
    SweepIsOver fault now grown =
        IsOverWith (records_pair source_a source_b start.first start.second)
        (sweep_join (order_in start.first) (config_of (state_of start.sweep))) out fault
        (view_of now.first) (view_of now.second) grown

  -- sweeping as a run over two inputs
  abbrev pub sweep_run : Source A → Source B → TwoInputDef (SweepRun A B O g)
  sweep_run source_a source_b = record {
    comes = SweepComes source_a source_b;
    ends = SweepIsOver source_a source_b;
    wants = wanted_of;
    is_ready = is_sweep_ready;
    left = left_to_sweep;
  }

module _ {S A State : Type 0} (device : Source S)
    (old : MemberReader S A State) (bytes : List ℕ) (past : List (Member A)) (before : MemberReader S A State) where
  -- a fault lies after some of them
  pub record ChecksUpTo (Kinds : Kind → Type 0) (fault : FaultValue)
      (new : MemberReader S A State) : Type 0 where
    pub more : List (Member A)
    pub stops : StopsAfter device old Kinds (past ++ more) fault new
    pub later : IsLater bytes before.below stops.bytes.0 new.below
    -- those that were consumed and the one ahead are on the lines given
    pub low : All (λ m. m.line ≤ lines_given new.below) (past ++ option_to_list (ahead_in before))
    pub before_end : end_told before.below ≡ true → (input : Input) (line : ℕ)
        → fault ≡ read_failed input line → ⊥

  -- the rest of the members were consumed, or those before a fault
  abbrev pub ChecksRest : {T : Type 0} → (Kind → Type 0) → Result T Fault → MemberReader S A State
      → Type 0
  ChecksRest Kinds (Ok done) new = (more : List (Member A))
      × (passes : PassesMembers device old (past ++ more) new) × AreAll device old passes.bytes.0 (past ++ more) new
      × IsLater bytes before.below passes.bytes.0 new.below × (end_told new.below ≡ true)
  ChecksRest Kinds (Err fault) new = ChecksUpTo Kinds (fault_value fault) new

-- reading on to the end, from wherever the reader is
abbrev pub ReadsRest : {S A State T : Type 0} → Source S → (Kind → Type 0) → MemberReader S A State
    → Result T Fault → MemberReader S A State → Type 0
ReadsRest {S} {A} {State} {T} device Kinds before result new =
    (old : MemberReader S A State) (past : List (Member A)) → (passes : PassesMembers device old past before)
    → ((state : State) (line : TextLine) (kind : Kind) → old.format.says state line ≡ Err kind
    → Kinds kind)
    → ChecksRest device old passes.bytes.0 past before Kinds result new
