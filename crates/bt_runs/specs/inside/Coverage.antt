-- What a count of depths keeps, and its steps.
use Rattle.std.specs.Prelude.{ℕ, ◌-◌, min, max, nat_le, nat_lt, Bool, ◌&&◌, cond, Option, None, codes, decimal, List, [], ◌∷◌, ◌++◌, filter, map, ◌≡◌, ◌<◌, length, ◌≤◌, All, Some, Result, Ok, Err}
use Rattle.bt_bed.specs.model.Genome.{Entry}
use Rattle.bt_bed.specs.model.Feature.{Span}
use Rattle.bt_bed.specs.declared.record.strand.Strand.{Strand}
use Rattle.bt_bed.specs.model.Levels.{Level}
use Rattle.bt_bed.specs.calls.LevelScan.{Begun, begun_after, ended_after, level_ended_at}
use Rattle.bt_runs.specs.model.Depth.{DepthInterval, depth_of, depth_on, is_counted_by, depth_lines}
use Rattle.bt_runs.specs.inside.Walk.{Walk, Place}
use Rattle.std.specs.BinaryHeap.{IsHeap}
use Rattle.std.specs.Ordering.{nat_cmp}
use Rattle.std.specs.declared.cmp.Reverse.{Reverse}
use Rattle.bt_lines.specs.calls.Faults.{write_failed}
use Rattle.bt_lines.specs.calls.Output.{Output, FailsToAdd, Grown}
use Rattle.bt_runs.specs.declared.coverage.depths.DepthCursor.{DepthCursor}
use Rattle.bt_runs.specs.declared.coverage.depths.OpenInterval.{OpenInterval}
use Rattle.bt_runs.specs.declared.engine.failure.Failure.{Failure}
use Rattle.bt_runs.specs.declared.engine.failure.Failure.TheVariants.{Write, Memory}

-- What a count of depths keeps and writes as records come, exactly.

-- what is known of a chromosome: the depths up to a position, of which the last interval isn't
-- ended, and the records that are open there
pub record Known : Type 0 where
  pub to : ℕ
  pub begun : Option Begun
  pub held : List Span

-- the intervals that end on the way to a position, and the one that isn't ended there
abbrev pub ended_to : Bool → Known → ℕ → List Level
ended_to zeros known stop =
    ended_after (depth_of zeros known.held) known.to (stop - known.to) known.begun

abbrev pub begun_to : Bool → Known → ℕ → Option Begun
begun_to zeros known stop =
    begun_after (depth_of zeros known.held) known.to (stop - known.to) known.begun

-- the intervals that are left up to the chromosome's length
abbrev pub levels_left : Bool → ℕ → Known → List Level
levels_left zeros size known =
    ended_to zeros known size ++ level_ended_at (begun_to zeros known size) size

-- those that are settled by a record's start: all that are left, if it lies past the length
abbrev pub levels_by : Bool → ℕ → Known → ℕ → List Level
levels_by zeros size known start =
    cond (nat_lt size start) (levels_left zeros size known) (ended_to zeros known start)

-- the open records of those that are, by a start
abbrev pub still_open : ℕ → List Span → List Span
still_open start spans = filter (λ s. nat_le start s.stop) spans

-- the record as an open one, cut at the length, if it is counted and starts below
abbrev pub opened : Bool → ℕ → ℕ → ℕ → List Span
opened counted size start stop =
    let span : Span = record { start = start; stop = min stop size } in
    cond (counted && nat_lt start size) (still_open start (span ∷ [])) []

-- what is known with a record
abbrev pub known_by : Bool → Bool → ℕ → Known → ℕ → ℕ → Known
known_by zeros counted size known start stop =
    let held = still_open start known.held ++ opened counted size start stop in
    cond (nat_lt size start) (record { to = size; begun = None; held = [] })
    (record { to = start; begun = begun_to zeros known start; held = held })

-- levels on a chromosome
abbrev pub levels_on : List ℕ → List Level → List DepthInterval
levels_on name levels = map (depth_on name) levels

-- a chromosome without records, from end to end
abbrev pub bare_of : Bool → Entry → List DepthInterval
bare_of zeros entry =
    let all : Level = record { start = 0; stop = entry.length; value = 0 } in
    levels_on entry.name (cond (zeros && nat_lt 0 entry.length) (all ∷ []) [])

-- what is left of one
abbrev pub depths_left : Bool → Entry → Known → List DepthInterval
depths_left zeros entry known = levels_on entry.name (levels_left zeros entry.length known)

-- a record settles the intervals that end below its start, and may be open from there on. In order its start isn't below
-- the position up to which depths are known
abbrev pub depth_walk : Bool → Option Strand → Walk DepthInterval Known
depth_walk zeros strand = record {
  bare = bare_of zeros;
  fresh = record { to = 0; begun = None; held = [] };
  left = depths_left zeros;
  step = λ entry known r. levels_on entry.name (levels_by zeros entry.length known (max r.start known.to));
  after = λ entry known r.
      known_by zeros (is_counted_by strand r.strand) entry.length known (max r.start known.to) r.stop;
}

-- what the line of an interval with its depth has after the name: a tab, the start, a tab, the stop, a tab, the depth and
-- a line feed
abbrev pub depth_text : ℕ → ℕ → ℕ → List ℕ
depth_text start stop depth =
    codes "\t" ++ (decimal start ++ (codes "\t" ++ (decimal stop
    ++ (codes "\t" ++ (decimal depth ++ codes "\n")))))

-- What the code keeps of the depths of a chromosome, in the words of the definitions, and what it does with one more record.

-- the ends that a heap has, and that the least of them is the first
abbrev pub ends_of : List (Reverse ℕ) → List ℕ
ends_of ends = map (λ end. end.0) ends

abbrev pub IsLeastFirst : List (Reverse ℕ) → Type 0
IsLeastFirst ends = IsHeap (λ x y. nat_cmp y.0 x.0) ends

-- of the ends from a position on as many are left as there were
abbrev pub CountsFrom : ℕ → List ℕ → List ℕ → Type 0
CountsFrom position old left =
    (test : ℕ → Bool) → length (filter (λ e. nat_le position e && test e) left)
    ≡ length (filter (λ e. nat_le position e && test e) old)

-- the first lies below a position
abbrev pub StartsBelow : ℕ → List ℕ → Type 0
StartsBelow position [] = ⊥
StartsBelow position (e ∷ es) = e < position

-- a position, and records that start there or before, in file order
pub record OpenAt : Type 0 where
  pub at : ℕ
  pub spans : List Span

-- what is kept at a position of spans that start there or before: the ends of those that are open
pub record KeepsEnds (at : ℕ) (spans : List Span) (ends : List (Reverse ℕ)) : Type 0 where
  pub started : All (λ s. s.start ≤ at) spans
  pub order : IsLeastFirst ends
  pub counts : (test : ℕ → Bool) → length (filter test (ends_of ends)) ≡ length (filter (λ s. test s.stop) (still_open at spans))

-- an interval that isn't ended
abbrev pub begun_seen : Option OpenInterval → Option Begun
begun_seen None = None
begun_seen (Some s) = Some (record { start = s.start; value = s.depth })

-- what is known of a chromosome: up to where its records are counted,
-- with the interval that isn't ended
abbrev pub known_seen : Option OpenInterval → OpenAt → Known
known_seen begun here = record { to = here.at; begun = begun_seen begun; held = here.spans }

-- the chromosome that was reached, with the records that are open there
abbrev pub place_seen : DepthCursor → OpenAt → Place Known
place_seen reached here = record { rank = reached.rank; known = known_seen reached.begun here }

-- if one was reached
abbrev pub seen : Option DepthCursor → OpenAt → Option (Place Known)
seen None here = None
seen (Some reached) here = Some (place_seen reached here)

module _ (chrom : List ℕ) (levels : List Level) (known : Known) where
  -- a record was counted: these intervals are written, and this is known; or they couldn't be written, or the record
  -- couldn't be kept
  abbrev pub CountAnswers : Result (Option OpenInterval) Failure → OpenAt → Output → Output → Type 0
  CountAnswers (Ok begun) held out grown =
      Grown out (depth_lines (levels_on chrom levels)) grown × (known_seen begun held ≡ known)
  CountAnswers (Err Write) held out grown =
      FailsToAdd out (depth_lines (levels_on chrom levels)) write_failed grown
  CountAnswers (Err Memory) held out grown = Grown out (depth_lines (levels_on chrom levels)) grown
