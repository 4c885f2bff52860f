-- Merged runs, gaps and depths.
use Rattle.std.specs.Prelude.{◌≡◌, ℕ, ◌<◌, ◌≤◌, Bool, cond, ⊤, IsTrue, List, [], ◌∷◌, map, Option, Some, None, true, false, not, nat_lt, ◌==◌, filter, ◌++◌, length}
use Rattle.bt_bed.specs.model.Feature.{Span, Feature, Interval, intervals_of}
use Rattle.bt_bed.specs.model.Positions.{AreStretchesOf}
use Rattle.bt_bed.specs.model.Levels.{AreLevelsOf, Level}
use Rattle.bt_bed.specs.calls.LevelScan.{scanned}
use Rattle.bt_runs.specs.model.Depth.{levels_of, DepthInterval, coverage, depth_at, settled_depths}
use Rattle.bt_bed.specs.model.Genome.{Entry}
use Rattle.bt_runs.specs.model.Gaps.{complement, gaps_of, settled_gaps}
use Rattle.bt_runs.specs.calls.Complementing.{AreInGenomeOrder, kept_place}
use Rattle.bt_runs.specs.model.Merged.{end_of, is_bridged, is_covered, runs_of, counted, chromosomes, merged, ordered_names, ordered_runs}
use Rattle.bt_bed.specs.declared.record.strand.Strand.{Strand}
use Rattle.std.specs.List.{AllByRecursion}
use Rattle.std.specs.declared.cmp.Ordering.TheVariants.{Less}
use Rattle.bt_bed.specs.calls.Orders.{ArePlaced, IsTotal, AreDistinct}
use Rattle.bt_bed.specs.model.Order.{Order, is_among, rank_order}
use Rattle.bt_runs.specs.declared.merge.merge_strand.MergeStrand.{MergeStrand}

-- Laws of levels: which list of intervals makes up the values of positions, and that a set of
-- positions is the case of one value.

-- `levels_of` gives the list of intervals that the values of the positions below a length make up
abbrev pub levels_are : Type 0
levels_are = (value : ℕ → Option ℕ) (size : ℕ) → AreLevelsOf value size (levels_of value size)

-- no other list is
abbrev pub levels_only : Type 0
levels_only =
    (value : ℕ → Option ℕ) (size : ℕ) (levels : List Level) → AreLevelsOf value size levels
    → levels ≡ levels_of value size

-- a scan of the positions finds it
abbrev pub scan_finds_levels : Type 0
scan_finds_levels = (value : ℕ → Option ℕ) (size : ℕ) → scanned value size ≡ levels_of value size

-- a span whose positions have a value
abbrev pub level_on : ℕ → Span → Level
level_on value span = record { start = span.start; stop = span.stop; value = value }

-- the stretches of a set of positions are the intervals of those that have one value
abbrev pub stretches_are_levels : Type 0
stretches_are_levels =
    (test : ℕ → Bool) (size : ℕ) (spans : List Span)
    → AreStretchesOf (λ p. (p < size) × IsTrue (test p)) spans
    → map (level_on 0) spans ≡ levels_of (λ p. cond (test p) (Some 0) None) size

-- Merge, complement and coverage by one definition: the intervals of equal value that the
-- positions of a chromosome make up. The value of a coverage is the depth (bedtools manual,
-- genomecov, option -bga). The merged runs are the intervals of the bridged positions, and the
-- gaps those of the bare ones (bedtools manual, merge, complement).

-- the positions that pass a test have one value, the others none
abbrev pub one_value : (ℕ → Bool) → ℕ → Option ℕ
one_value test p = cond (test p) (Some 0) None

-- the merged runs of a chromosome that no record reaches past:
-- the intervals of the bridged positions
abbrev pub runs_are_levels : Type 0
runs_are_levels =
    (gap size : ℕ) (spans : List Span) → end_of spans ≤ size
    → map (level_on 0) (runs_of gap spans) ≡ levels_of (one_value (is_bridged gap spans)) size

-- without a gap between records that are joined: the intervals of the covered positions
abbrev pub touching_runs_are_levels : Type 0
touching_runs_are_levels =
    (size : ℕ) (spans : List Span) → end_of spans ≤ size
    → map (level_on 0) (runs_of 0 spans) ≡ levels_of (one_value (is_covered spans)) size

-- whether no span covers the position
abbrev pub is_bare : List Span → ℕ → Bool
is_bare spans p = not (is_covered spans p)

-- the gaps: the intervals of the bare positions
abbrev pub gaps_are_levels : Type 0
gaps_are_levels =
    (size : ℕ) (spans : List Span)
    → map (level_on 0) (gaps_of size spans) ≡ levels_of (one_value (is_bare spans)) size

-- a position is covered if its depth is above 0
abbrev pub covered_have_depth : Type 0
covered_have_depth = (spans : List Span) (p : ℕ) → is_covered spans p ≡ nat_lt 0 (depth_at spans p)

-- where an interval of one depth lies
abbrev pub interval_at : DepthInterval → Interval
interval_at r = record { chrom = r.chrom; start = r.start; stop = r.stop }

-- the gaps of all chromosomes are the intervals that a coverage of all records gives depth 0
abbrev pub gaps_have_depth_0 : Type 0
gaps_have_depth_0 =
    (entries : List Entry) (records : List Feature)
    → complement false entries records
    ≡ map interval_at (filter (λ r. r.depth == 0) (coverage true None entries records))

-- What is settled stays, and what is kept beside it.

-- what is settled begins what is settled later
abbrev pub settled_depths_stay : Type 0
settled_depths_stay =
    (zeros : Bool) (strand : Option Strand) (entries : List Entry) (past more : List Feature)
    → AreInGenomeOrder entries (past ++ more)
    → (rest : List DepthInterval)
    × (settled_depths zeros strand entries (past ++ more)
    ≡ settled_depths zeros strand entries past ++ rest)

-- and the whole output
abbrev pub settled_depths_begin : Type 0
settled_depths_begin =
    (zeros : Bool) (strand : Option Strand) (entries : List Entry) (past more : List Feature)
    → AreInGenomeOrder entries (past ++ more)
    → (rest : List DepthInterval)
    × (coverage zeros strand entries (past ++ more)
    ≡ settled_depths zeros strand entries past ++ rest)

-- what is settled begins what is settled later
abbrev pub settled_gaps_stay : Type 0
settled_gaps_stay =
    (limit : Bool) (entries : List Entry) (past more : List Feature)
    → AreInGenomeOrder entries (past ++ more)
    → (rest : List Interval) × (settled_gaps limit entries (past ++ more)
    ≡ settled_gaps limit entries past ++ rest)

-- and the whole output
abbrev pub settled_gaps_begin : Type 0
settled_gaps_begin =
    (limit : Bool) (entries : List Entry) (past more : List Feature)
    → AreInGenomeOrder entries (past ++ more)
    → (rest : List Interval) × (complement limit entries (past ++ more)
    ≡ settled_gaps limit entries past ++ rest)

-- one place at most is kept
abbrev pub one_place_is_kept : Type 0
one_place_is_kept =
    (entries : List Entry) (records : List Feature) → length (kept_place entries records) ≤ 1

-- Laws of the order in which merged runs come.

-- each of these names is known to the order
abbrev pub AreKnown : Order → List (List ℕ) → Type 0
AreKnown order names = AllByRecursion (λ name. IsTrue (order.knows name)) names

-- the name comes before the first of the others
abbrev pub ComesBefore : Order → List ℕ → List (List ℕ) → Type 0
ComesBefore order name [] = ⊤
ComesBefore order name (n ∷ ns) = order.compare name n ≡ Less

-- each name comes before the next
abbrev pub AreSortedNames : Order → List (List ℕ) → Type 0
AreSortedNames order [] = ⊤
AreSortedNames order (n ∷ ns) = ComesBefore order n ns × AreSortedNames order ns

-- in a total order different names that are known come one before the other, and no others do
abbrev pub names_come_in_order : Type 0
names_come_in_order =
    (order : Order) (names : List (List ℕ)) → IsTotal order → AreKnown order names
    → AreDistinct names
    → AreSortedNames order (ordered_names order names)
    × ((name : List ℕ) → is_among (ordered_names order names) name ≡ is_among names name)

-- each chromosome that has records is named once
abbrev pub chromosomes_are_named_once : Type 0
chromosomes_are_named_once = (records : List Interval) → AreDistinct (chromosomes records)

-- for records in the order of a genome file they are the runs by the names of the file: a
-- chromosome without records has none
abbrev pub file_runs_are_ordered : Type 0
file_runs_are_ordered =
    (names : List (List ℕ)) (gap : ℕ) (strand : MergeStrand) (records : List Feature)
    → AreDistinct names → ArePlaced (rank_order names) (intervals_of records)
    → merged names gap (counted strand records) ≡ ordered_runs (rank_order names) gap strand records
