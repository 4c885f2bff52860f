-- For which words bedtools takes a command line, whatever is in its files.
use Rattle.std.specs.Prelude.{ℕ, Bool, true, false, ◌&&◌, ◌||◌, ◌==◌, not, List, [], ◌∷◌, codes, drop, length, map, nat_lt, Option, Some, None, Result, Ok, Err, is_some}
use Rattle.bt_tool.specs.model.Table.{Word, table_of}
use Rattle.bt_tool.specs.model.Usage.{Item, items_of}
use Rattle.bt_tool.specs.model.Options.{PlanSeen, command_of, is_given}
use Rattle.bt_tool.specs.declared.planning.plan_type.Command.{Command}
use Rattle.bt_tool.specs.declared.planning.plan_type.Command.TheVariants.{Merge, Complement, Intersect, Subtract, Coverage, BamToBed, MaskFasta}
use Rattle.bt_runs.specs.declared.merge.merge_strand.MergeStrand.{MergeStrand}
use Rattle.bt_runs.specs.declared.merge.merge_strand.MergeStrand.TheVariants.{All, Each, One}
use Rattle.bt_sweep.specs.declared.hits.hit_rule.HitRule.{HitRule}
use Rattle.bt_bed.specs.model.Order.{is_among}
use Rattle.bt_front.specs.declared.words.Asked.{Asked}
use Rattle.bt_front.specs.declared.words.word_reason.WordReason.{WordReason}
use Rattle.bt_front.specs.declared.words.word_reason.WordReason.TheVariants.{TooManyWords, GivenTwice, MergeByStrand, LargeDistance, NoInput, ZeroFraction, ZerosOfStrand, CigarOfBlocks, NoOutput, WholeHeader}

-- Tables: rows of a test and a reason, of which the first row whose test holds gives the reason.

-- a row of a table
abbrev pub Row : Type 0 → Type 0
Row Reason = Bool × Reason

-- the reason of the first row whose test holds
abbrev pub first_of : {Reason : Type 0} → List (Row Reason) → Option Reason
first_of [] = None
first_of ((true, reason) ∷ rows) = Some reason
first_of ((false, reason) ∷ rows) = first_of rows

-- The options of a command line that has a plan.

-- the items into which the words after the command divide
abbrev pub items_in : List Word → List Item
items_in words = elim (command_of words) [
  | None ↦ []
  | Some tool ↦ items_of (table_of tool) (drop 1 words)
]

-- the options as they were given, one for each item
abbrev pub option_names : List Item → List Word
option_names items = map (λ item. item.option) items

-- whether a name comes twice
abbrev pub has_repeated : List (List ℕ) → Bool
has_repeated [] = false
has_repeated (n ∷ ns) = is_among ns n || has_repeated ns

-- What bedtools 2.30.0 takes otherwise, by the command.

-- the largest number of 31 binary digits, up to which bedtools holds a distance
abbrev pub largest_distance : ℕ
largest_distance = 2147483647

-- a fraction of 0 is given, which bedtools refuses
abbrev pub fraction_rows : List Item → HitRule → List (Row WordReason)
fraction_rows items rule = ((rule.billionths == 0) && is_given items (codes "-f"), ZeroFraction) ∷ []

-- whether each strand is merged separately
abbrev pub is_each : MergeStrand → Bool
is_each Each = true
is_each _ = false

-- the rows of a command
abbrev pub command_rows : List Item → PlanSeen → Command → List (Row WordReason)
command_rows items plan (Merge gap strand) =
    (is_each strand, MergeByStrand) ∷ (nat_lt largest_distance gap, LargeDistance) ∷ []
command_rows items plan (Complement limit) = (not (is_given items (codes "-i")), NoInput) ∷ []
command_rows items plan (Coverage zeros strand) =
    (not (is_given items (codes "-i")), NoInput) ∷ (zeros && is_some strand, ZerosOfStrand) ∷ []
command_rows items plan (Intersect shape rule held) = fraction_rows items rule
command_rows items plan (Subtract whole rule held) = fraction_rows items rule
command_rows items plan (BamToBed split cigar) = (split && cigar, CigarOfBlocks) ∷ []
command_rows items plan (MaskFasta how full) =
    (not (is_some plan.names.output), NoOutput) ∷ (full, WholeHeader) ∷ []

-- why bedtools takes a command with these items
abbrev pub command_reason : List Item → PlanSeen → Option WordReason
command_reason items plan = first_of (command_rows items plan plan.command)

-- What a command line asks for, or why bedtools takes it.

-- the most words of a command line that Dunekettle takes
abbrev pub most_words : ℕ
most_words = 64

-- the rows of all commands
abbrev pub word_rows : List Word → List (Row WordReason)
word_rows words =
    (nat_lt most_words (length words), TooManyWords)
    ∷ (has_repeated (option_names (items_in words)), GivenTwice) ∷ []

-- the reason, if there is one, before anything else
abbrev pub or_reason : {A Reason : Type 0} → Option Reason → Result A Reason → Result A Reason
or_reason None result = result
or_reason (Some reason) result = Err reason

-- what words that have this plan ask for
abbrev pub asked_of : List Word → PlanSeen → Result Asked WordReason
asked_of words plan =
    or_reason (first_of (word_rows words)) (or_reason (command_reason (items_in words) plan) (Ok
    (record { command = plan.command; is_sorted = is_given (items_in words) (codes "-sorted") })))
