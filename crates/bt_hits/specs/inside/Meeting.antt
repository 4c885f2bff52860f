-- How the records of two inputs meet.
use Rattle.std.specs.Prelude.{◌≡◌, ℕ, ◌≤◌, length, take, Bool, not, ◌||◌, List, [], ◌∷◌, ◌++◌, ⊤, bytes_eq, nat_le, if◌then◌else◌, true, false, All, IsTrue, Option, None, Some, Result, Ok, Err, ◌⊎◌}
use Rattle.std.specs.Ordering.{is_lt}
use Rattle.bt_lines.specs.calls.Faults.{no_memory}
use Rattle.bt_lines.specs.calls.Names.{fault_value}
use Rattle.bt_lines.specs.calls.Output.{FailsToAdd, Grown, Output}
use Rattle.bt_lines.specs.declared.fault.Fault.{Fault}
use Rattle.bt_bed.specs.calls.Orders.{ArePlaced}
use Rattle.bt_bed.specs.model.Feature.{Feature, intervals_of}
use Rattle.bt_bed.specs.model.Good.{locus_at}
use Rattle.bt_bed.specs.model.Order.{Order}
use Rattle.bt_bed.specs.model.Sorted.{is_below}
use Rattle.bt_hits.specs.declared.meeting.Near.{Near}
use Rattle.bt_sweep.specs.declared.hits.hit_rule.HitRule.{HitRule}
use Rattle.bt_sweep.specs.declared.output.shape.Shape.{Shape}
use Rattle.bt_sweep.specs.model.Hits.{decides, hits_among}
use Rattle.bt_hits.specs.model.Bins.{lines_by_bins}

-- whether b can't hit a, nor a record that follows it, if their chromosomes are known
abbrev pub is_passed : Order → Feature → Feature → Bool
is_passed order a b =
    if bytes_eq b.chrom a.chrom then nat_le b.stop a.start
    else not (order.knows b.chrom) || not (order.knows a.chrom) || is_lt (order.compare b.chrom a.chrom)

-- the chromosome of each is known
abbrev pub KnownAll : Order → List Feature → Type 0
KnownAll order records = All (λ r. IsTrue (order.knows r.chrom)) records

-- whether there is a record that leaves a undecided
abbrev pub IsUndecided : Order → Feature → Option Feature → Bool → Type 0
IsUndecided order a None is = is ≡ false
IsUndecided order a (Some b) is = is ≡ not (decides order a b)

-- whether b comes at the place of a, or before
abbrev pub comes_by : Order → Feature → Feature → Bool
comes_by order a b = not (is_below order (locus_at a) (locus_at b))

-- whether there is a record and it comes at the place of a, or before
abbrev pub Comes : Order → Feature → Option Feature → Bool → Type 0
Comes order a None is = is ≡ false
Comes order a (Some b) is = is ≡ comes_by order a b

-- the first of these, if there is one, comes after a
abbrev pub FirstComesAfter : Order → Feature → List Feature → Type 0
FirstComesAfter order a [] = ⊤
FirstComesAfter order a (b ∷ more) = comes_by order a b ≡ false

-- the first of these, if there is one, decides a
abbrev pub FirstDecides : Order → Feature → List Feature → Type 0
FirstDecides order a [] = ⊤
FirstDecides order a (b ∷ more) = decides order a b ≡ true

-- those records of the second input that come by a went over to the active ones
pub record MovesUpTo (order : Order) (a : Feature) (active rest now_active now_rest : List Feature) : Type 0 where
  pub moved : List Feature
  pub were : rest ≡ moved ++ now_rest
  pub are : now_active ≡ active ++ moved
  pub reached : FirstComesAfter order a now_rest

-- What is near a record of the first input.

-- the active ones, and the first of those that come next
abbrev pub records_near : Near → List Feature
records_near near = near.active.now ++ take near.ahead near.rest.now.items

-- there are so many that come next
abbrev pub AreWithin : Near → Type 0
AreWithin near = near.ahead ≤ length near.rest.now.items

-- what hits each of these is the same among all and among those that are at hand
abbrev pub Sees : HitRule → List Feature → List Feature → List Feature → Type 0
Sees rule all held [] = ⊤
Sees rule all held (x ∷ xs) = (hits_among rule x all ≡ hits_among rule x held) × Sees rule all held xs

-- the lines of a record were put, and those after it see what is at hand then
pub record HasListed (order : Order) (shape : Shape) (rule : HitRule) (a : Feature) (later all : List Feature) (old : Output)
    (active rest : List Feature) (new : Output) : Type 0 where
  pub puts : Grown old (lines_by_bins shape rule all a) new
  pub sees : Sees rule all (active ++ rest) later
  pub placed : ArePlaced order (intervals_of rest)

-- what a call for the next record does: memory runs out before anything is put
abbrev pub ListsNext : {A : Type 0} → Order → Shape → HitRule → Feature → List Feature → List Feature → Output → Result A Fault
    → List Feature → List Feature → Output → Type 0
ListsNext order shape rule a later all old (Ok done) active rest new =
    HasListed order shape rule a later all old active rest new
ListsNext order shape rule a later all old (Err fault) active rest new =
    ((new ≡ old) × (fault_value fault ≡ no_memory)) ⊎ FailsToAdd old (lines_by_bins shape rule all a) (fault_value fault) new
