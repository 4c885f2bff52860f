-- Which records hit one another, which decide one, and which are held.
use Rattle.std.specs.Prelude.{ℕ, ◌*◌, Bool, not, ◌&&◌, ◌||◌, List, filter, nat_le, nat_lt, [], ◌∷◌, ◌++◌, Option, None, Some, bytes_eq, if◌then◌else◌, length, map}
use Rattle.bt_bed.specs.model.Feature.{length_of, shared, Feature, interval_of, is_same_strand}
use Rattle.bt_bed.specs.model.BedLine.{fault_at_line}
use Rattle.bt_sweep.specs.declared.hits.hit_rule.HitRule.{HitRule}
use Rattle.std.specs.List.{list_any, find}
use Rattle.bt_bed.specs.model.Good.{locus_at, Good, Member}
use Rattle.bt_bed.specs.model.Sorted.{is_below}
use Rattle.bt_bed.specs.model.Order.{Order}
use Rattle.bt_lines.specs.model.Fault.{FaultValue}
use Rattle.bt_lines.specs.declared.fault.Input.TheVariants.{Second}
use Rattle.bt_lines.specs.declared.fault.Kind.TheVariants.{TooManyHeld}

-- Which records hit one another: all pairs are compared
-- (bedtools manual, intersect, options -f, -r and -s).

-- how many bases two records have in common
abbrev pub shared_bases : Feature → Feature → ℕ
shared_bases a b = shared (interval_of a) (interval_of b)

-- whether this many bases are at least this many billionths of a record's
unfoldable pub has_fraction : ℕ → ℕ → Feature → Bool
has_fraction billionths bases r =
    nat_le (billionths * length_of (interval_of r)) (bases * 1000000000)

-- whether this many bases are as much of a as the rule requires, and of b if it requires both
unfoldable pub is_enough : HitRule → ℕ → Feature → Feature → Bool
is_enough rule bases a b =
    has_fraction rule.billionths bases a && (not rule.both || has_fraction rule.billionths bases b)

-- whether the strands of a and b are the same, if the rule requires that
unfoldable pub strands_agree : HitRule → Feature → Feature → Bool
strands_agree rule a b = not rule.same_strand || is_same_strand a.strand b.strand

-- whether b hits a: they have a base in common, and what the rule requires
unfoldable pub is_hit : HitRule → Feature → Feature → Bool
is_hit rule a b =
    nat_lt 0 (shared_bases a b) && (strands_agree rule a b && is_enough rule (shared_bases a b) a b)

-- the records that hit a, in file order
abbrev pub hits_among : HitRule → Feature → List Feature → List Feature
hits_among rule a bs = filter (is_hit rule a) bs

-- Which records of the second input decide one of the first: from there on, in sorted input,
-- nothing can hit it (bedtools manual, intersect, sorted input).

-- whether the place of b isn't below the end of a
abbrev pub decides : Order → Feature → Feature → Bool
decides order a b = not (is_below order (locus_at b) (record { chrom = a.chrom; start = a.stop }))

-- whether one of the records decides a
abbrev pub decided : Order → Feature → List Feature → Bool
decided order a bs = list_any (decides order a) bs

-- Which records of the second input are held.

-- Whether a or a later record of the first input can be hit by b, as far as a tells. It can if b lies on
-- the chromosome of a, and ends above its start.
abbrev pub is_held : Feature → Feature → Bool
is_held a b = bytes_eq a.chrom b.chrom && nat_lt a.start b.stop

-- which of these records of the second input are held for a record of the first, if there is one
abbrev pub held_for : Option Feature → List Feature → List Feature
held_for None taken = []
held_for (Some a) taken = filter (is_held a) taken

-- A limit on how many records of the second input are held at a time, which is this program's own
-- (option -held of intersect and subtract). If more would have to be held, that line of the
-- second input is at fault.

-- the first record that those of the second input leave undecided, if there is one
abbrev pub first_open : Order → List Feature → List Feature → Option Feature
first_open order first second = find (λ a. not (decided order a second)) first

-- whether these records of the second input are too many: more than `most` of them are held for
-- the first record that they leave undecided
abbrev pub are_too_many : Order → ℕ → List Feature → List Feature → Bool
are_too_many order most first second =
    nat_lt most (length (held_for (first_open order first second) second))

-- The members after others, up to the first with which they are too many, where the fault of the
-- limit lies. If there is none, all of them and their own fault.
abbrev pub up_to_too_many : (List Feature → Bool) → List (Member Feature) → List (Member Feature)
    → Option FaultValue → Good Feature
up_to_too_many too_many past [] fault = record { members = past; fault = fault }
up_to_too_many too_many past (m ∷ more) fault =
    if too_many (map (λ m. m.item) (past ++ m ∷ []))
    then record {
      members = past ++ m ∷ [];
      fault = Some (fault_at_line Second m.line TooManyHeld);
    }
    else up_to_too_many too_many (past ++ m ∷ []) more fault

-- The second input as the records of the first meet it, if at most `most` are held: up to
-- the first record with which they would be too many. Without a limit it is whole.
abbrev pub within_limit : Order → Option ℕ → List Feature → Good Feature → Good Feature
within_limit order None first second = second
within_limit order (Some most) first second =
    up_to_too_many (are_too_many order most first) [] second.members second.fault
