-- For which texts bedtools takes a command line, and by which order of the chromosomes Dunekettle takes the others.
use Rattle.std.specs.Prelude.{ℕ, Bool, true, false, ◌&&◌, ◌||◌, ◌==◌, ◌%◌, not, List, [], ◌∷◌, codes, length, nat_le, nat_lt, if◌then◌else◌, Option, Some, None, Result, Ok, Err, is_some, option_map}
use Rattle.std.specs.List.{list_all, list_any}
use Rattle.std.specs.Option.{option_to_list}
use Rattle.bt_bed.specs.model.Genome.{Entry, genome_names}
use Rattle.bt_bed.specs.model.Order.{rank_order}
use Rattle.bt_runs.specs.declared.merge.merge_strand.MergeStrand.TheVariants.{All, Each, One}
use Rattle.bt_sweep.specs.declared.hits.hit_rule.HitRule.{HitRule}
use Rattle.bt_sweep.specs.declared.output.shape.Shape.{Shape}
use Rattle.bt_sweep.specs.declared.output.shape.Shape.TheVariants.{Cut, CutAndB, OrigBoth, Overlap}
use Rattle.bt_tool.specs.declared.planning.plan_type.Command.{Command}
use Rattle.bt_tool.specs.declared.planning.plan_type.Command.TheVariants.{Merge, Complement, Intersect, Subtract, Coverage, BamToBed, MaskFasta}
use Rattle.bt_front.specs.declared.survey.Survey.{Survey}
use Rattle.bt_front.specs.declared.words.Asked.{Asked}
use Rattle.bt_front.specs.declared.verdict.naming.Naming.{Naming}
use Rattle.bt_front.specs.declared.verdict.naming.Naming.TheVariants.{Bare, Prefixed, PrefixedZero}
use Rattle.bt_front.specs.declared.verdict.reason.InOrderOf.{InOrderOf}
use Rattle.bt_front.specs.declared.verdict.reason.InOrderOf.TheVariants.{Bytes, GenomeFile, Found}
use Rattle.bt_front.specs.declared.verdict.reason.Reason.{Reason}
use Rattle.bt_front.specs.declared.verdict.reason.Reason.TheVariants.{NoSurvey, NoStrand, MixedNames, LongForFraction, NoGenome, NotByGenome, PastLength, LongChromosome, LongName, EmptyNotLast, ManyRecords, NotByBytes, NoCommonOrder}
use Rattle.bt_front.specs.model.Extents.{extents_in, names_in, ascend_by_bytes}
use Rattle.bt_front.specs.model.Fitting.{are_first, are_in_order, common_names, ends_fit}
use Rattle.bt_front.specs.model.Odd.{begins_as}
use Rattle.bt_front.specs.model.Words.{Row, first_of, or_reason}

-- What counts for a command.

-- whether its inputs are BED, of which there are surveys
abbrev pub has_survey : Command → Bool
has_survey (BamToBed split cigar) = false
has_survey (MaskFasta how full) = false
has_survey _ = true

-- whether it needs the strand of each record
abbrev pub needs_strand : Command → Bool
needs_strand (Merge gap All) = false
needs_strand (Merge gap Each) = true
needs_strand (Merge gap (One strand)) = true
needs_strand (Intersect shape rule held) = rule.same_strand
needs_strand (Subtract whole rule held) = rule.same_strand
needs_strand (Coverage zeros strand) = is_some strand
needs_strand _ = false

-- the rule of what is a hit, of a command that has hits
abbrev pub rule_of : Command → Option HitRule
rule_of (Intersect shape rule held) = Some rule
rule_of (Subtract whole rule held) = Some rule
rule_of _ = None

-- whether it writes the chromosomes of a genome file, up to their lengths
abbrev pub needs_genome : Command → Bool
needs_genome (Complement limit) = true
needs_genome (Coverage zeros strand) = true
needs_genome _ = false

-- whether it counts depths
abbrev pub is_coverage : Command → Bool
is_coverage (Coverage zeros strand) = true
is_coverage _ = false

-- whether it writes gaps
abbrev pub writes_gaps : Command → Bool
writes_gaps (Complement limit) = true
writes_gaps _ = false

-- whether it writes those of depth 0 too
abbrev pub writes_zeros : Command → Bool
writes_zeros (Coverage zeros strand) = zeros
writes_zeros _ = false

-- whether the lines of its hits may differ
abbrev pub lists_hits : Command → Bool
lists_hits (Intersect Cut rule held) = true
lists_hits (Intersect CutAndB rule held) = true
lists_hits (Intersect OrigBoth rule held) = true
lists_hits (Intersect Overlap rule held) = true
lists_hits _ = false

-- Names of chromosomes: bedtools 2.30.0 warns if those of its inputs aren't all written one way.

-- whether a name is written this way: without `chr` at its beginning, whatever the case, with it, or with `chr0`
abbrev pub is_named : Naming → List ℕ → Bool
is_named Bare name = not (begins_as (codes "chr") name)
is_named Prefixed name = begins_as (codes "chr") name && not (begins_as (codes "chr0") name)
is_named PrefixedZero name = begins_as (codes "chr0") name

-- whether names are all written this way
abbrev pub are_named : Naming → List (List ℕ) → Bool
are_named way names = list_all (is_named way) names

-- the names of the chromosomes of a text
abbrev pub names_seen : Survey → List (List ℕ)
names_seen survey = names_in survey.chromosomes

-- whether those of all texts are written this way, and whether there is such a way
abbrev pub are_all_named : List Survey → Naming → Bool
are_all_named texts way = list_all (λ text. are_named way (names_seen text)) texts

abbrev pub are_named_alike : List Survey → Bool
are_named_alike texts = list_any (are_all_named texts) (Bare ∷ Prefixed ∷ PrefixedZero ∷ [])

-- Fractions: bedtools compares them as numbers of about seven digits, which is exact for short records.

-- below which length a fraction in billionths is compared exactly, by its digits after the point: 0, 1, 2, 3, 4 or more
abbrev pub exact_below : ℕ → ℕ
exact_below billionths =
    if billionths % 1000000000 == 0 then 16777000
    else (if billionths % 100000000 == 0 then 1677000
    else (if billionths % 10000000 == 0 then 167000
    else (if billionths % 1000000 == 0 then 16000
    else (if billionths % 100000 == 0 then 1000
    else 0))))

-- the texts whose records a fraction is of
abbrev pub fraction_texts : HitRule → Survey → Option Survey → List Survey
fraction_texts rule first second = if rule.both then first ∷ option_to_list second else first ∷ []

-- whether a fraction is given, and a record may be too long for it
abbrev pub is_long_for : HitRule → Survey → Bool
is_long_for rule text = nat_le (exact_below rule.billionths) text.records.longest

abbrev pub are_long_for : Option HitRule → Survey → Option Survey → Bool
are_long_for None first second = false
are_long_for (Some rule) first second =
    not (rule.billionths == 0) && list_any (is_long_for rule) (fraction_texts rule first second)

-- The tables: what in the texts makes a command line bedtools' own.

-- the texts of a command line
abbrev pub texts_of : Survey → Option Survey → List Survey
texts_of first second = first ∷ option_to_list second

-- whether a text has a record without a strand
abbrev pub lacks_strand : Survey → Bool
lacks_strand text = text.records.lacks_strand

-- how many records may lie on one another in one depth, which bedtools rounds from seven digits on
abbrev pub many_records : ℕ
many_records = 1000000

-- whatever the order
abbrev pub text_rows : Command → Survey → Option Survey → List (Row Reason)
text_rows command first second =
    (not (has_survey command), NoSurvey)
    ∷ (needs_strand command && list_any lacks_strand (texts_of first second), NoStrand)
    ∷ (is_some (rule_of command) && not (are_named_alike (texts_of first second)), MixedNames)
    ∷ (are_long_for (rule_of command) first second, LongForFraction)
    ∷ (is_coverage command && nat_le many_records first.records.count, ManyRecords)
    ∷ []

-- the largest number of 31 binary digits, up to which bedtools counts depths
abbrev pub longest_chromosome : ℕ
longest_chromosome = 2147483647

-- how many bytes a name has with which a gap of any chromosome fits into the 1,023 bytes after which bedtools cuts it
abbrev pub longest_name : ℕ
longest_name = 900

-- whether a text fits a genome file: its chromosomes are in that order, its ends in their lengths, or those that it
-- doesn't have come last
abbrev pub is_by_genome : List Entry → Survey → Bool
is_by_genome entries text = are_in_order (rank_order (genome_names entries)) (names_seen text)

abbrev pub is_in_lengths : List Entry → Survey → Bool
is_in_lengths entries text = ends_fit entries (extents_in text.chromosomes)

abbrev pub begins_genome : List Entry → Survey → Bool
begins_genome entries text = are_first (genome_names entries) (names_seen text)

-- with a genome file
abbrev pub genome_rows : Command → Survey → Option Survey → List Entry → List (Row Reason)
genome_rows command first second entries =
    (not (list_all (is_by_genome entries) (texts_of first second)), NotByGenome)
    ∷ (needs_genome command && not (is_in_lengths entries first), PastLength)
    ∷ (is_coverage command && list_any (λ entry. nat_lt longest_chromosome entry.length) entries, LongChromosome)
    ∷ (writes_gaps command && list_any (λ name. nat_lt longest_name (length name)) (genome_names entries), LongName)
    ∷ (writes_zeros command && not (begins_genome entries first), EmptyNotLast)
    ∷ []

-- whether the chromosomes of each text are in the order of their bytes
abbrev pub are_by_bytes : Survey → Option Survey → Bool
are_by_bytes first second = list_all (λ text. ascend_by_bytes (names_seen text)) (texts_of first second)

-- the names of the second text, if there is one
abbrev pub second_names : Option Survey → List (List ℕ)
second_names None = []
second_names (Some text) = names_seen text

-- whether an order fits both
abbrev pub have_common_order : Survey → Option Survey → Bool
have_common_order first second = is_some (common_names (names_seen first) (second_names second))

-- without a genome file
abbrev pub open_rows : Asked → Survey → Option Survey → List (Row Reason)
open_rows asked first second =
    (needs_genome asked.command, NoGenome)
    ∷ (asked.is_sorted && not (are_by_bytes first second), NotByBytes)
    ∷ (not (are_by_bytes first second) && not (have_common_order first second), NoCommonOrder)
    ∷ []

-- The verdict: the order by which Dunekettle takes a command line, or why bedtools takes it.

-- the order without a genome file: that of the bytes, if it fits
abbrev pub open_order : Bool → InOrderOf
open_order by_bytes = if by_bytes then Bytes else Found

-- the verdict where the texts alone give no reason
abbrev pub order_of : Asked → Survey → Option Survey → Option (List Entry) → Result InOrderOf Reason
order_of asked first second (Some entries) =
    or_reason (first_of (genome_rows asked.command first second entries)) (Ok GenomeFile)
order_of asked first second None =
    or_reason (first_of (open_rows asked first second)) (Ok (open_order (are_by_bytes first second)))

-- what is asked of these texts, with the chromosomes of a genome file if there is one
abbrev pub verdict_of : Asked → Survey → Option Survey → Option (List Entry) → Result InOrderOf Reason
verdict_of asked first second genome =
    or_reason (first_of (text_rows asked.command first second)) (order_of asked first second genome)
