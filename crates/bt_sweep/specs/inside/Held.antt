-- How held records are kept.
use Rattle.std.specs.Prelude.{◌≡◌, ℕ, List, Option, Some, None, cond, nat_eq, nat_lt, ◌<◌}
use Rattle.std.specs.BTreeMap.{BTreeMap, get}
use Rattle.std.specs.List.{count_by}
use Rattle.std.specs.Ordering.{nat_cmp}
use Rattle.bt_bed.specs.model.Feature.{Feature}
use Rattle.std.specs.VecDeque.{deque_capacity, deque_len}
use Rattle.bt_sweep.specs.declared.active.held_list.HeldList.{HeldList}

-- How many held records have each end.

-- how many of these records end there
abbrev pub count_ending_at : ℕ → List Feature → ℕ
count_ending_at stop held = count_by (λ r. nat_eq r.stop stop) held

-- a number above 0, and nothing instead of 0
abbrev pub if_some : ℕ → Option ℕ
if_some n = cond (nat_lt 0 n) (Some n) None

-- the map has exactly the ends of these records, and with each of them how many end there
abbrev pub CountsEnds : BTreeMap ℕ ℕ → List Feature → Type 0
CountsEnds ends held = (stop : ℕ) → get nat_cmp ends stop ≡ if_some (count_ending_at stop held)

-- Room in a list of held records.

-- there is room for one more
abbrev pub HasRoom : HeldList → Type 0
HasRoom held = deque_len held.records < deque_capacity held.records
