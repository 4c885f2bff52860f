-- What a survey says of a text.
use Rattle.std.specs.Prelude.{ℕ, ◌≡◌, ◌-◌, ◌^◌, Bool, true, false, ◌&&◌, ◌||◌, not, List, [], ◌∷◌, bytes_eq, if◌then◌else◌, length, map, max, min, nat_lt, None}
use Rattle.std.specs.List.{list_all, list_any}
use Rattle.bt_lines.specs.model.Lines.{text_lines}
use Rattle.bt_lines.specs.declared.fault.Input.TheVariants.{First}
use Rattle.bt_bed.specs.model.Feature.{Feature, Interval, Span, interval_of, intervals_of, is_same_strand, length_of, spans_on}
use Rattle.bt_bed.specs.declared.record.strand.Strand.TheVariants.{Dot}
use Rattle.bt_bed.specs.model.Good.{Good, block_format, good, items_in}
use Rattle.bt_bed.specs.model.Order.{is_among}
use Rattle.bt_front.specs.model.Extents.{extents_in}
use Rattle.bt_front.specs.declared.survey.Survey.{Survey}
use Rattle.bt_front.specs.declared.survey.records_seen.RecordsSeen.{RecordsSeen}
use Rattle.bt_front.specs.declared.survey.oddity.Oddity.{Oddity}
use Rattle.bt_front.specs.declared.survey.oddity.Oddity.TheVariants.{FarEnd, HeaderName}
use Rattle.bt_front.specs.model.Odd.{is_header_name, is_plain, raw_lines}

-- The records of a text as Dunekettle reads it, up to the first line at fault, and that fault. The chromosomes come
-- in any order; a record doesn't start before the one right before it on its chromosome.
abbrev pub read_of : List ℕ → Good Feature
read_of text = good block_format First (text_lines text)

-- What is odd in a record, whatever the bytes of its line are.

-- the last position that has a bin in bedtools
abbrev pub largest_end : ℕ
largest_end = 536870912

-- whether a record is odd in this way
abbrev pub is_odd_record : Oddity → Feature → Bool
is_odd_record HeaderName r = is_header_name r.chrom
is_odd_record FarEnd r = nat_lt largest_end r.stop
is_odd_record _ r = false

-- whether nothing is odd in a record
abbrev pub is_plain_record : Feature → Bool
is_plain_record r = not (is_odd_record HeaderName r || is_odd_record FarEnd r)

-- The chromosomes of records.

-- the chromosome of each record
abbrev pub chroms_of : List Interval → List (List ℕ)
chroms_of records = map (λ r. r.chrom) records

-- the names but this one
abbrev pub without : List ℕ → List (List ℕ) → List (List ℕ)
without name [] = []
without name (n ∷ ns) = if bytes_eq n name then without name ns else n ∷ without name ns

-- the names in the order in which they first come, each once
abbrev pub distinct : List (List ℕ) → List (List ℕ)
distinct [] = []
distinct (n ∷ ns) = n ∷ without n (distinct ns)

-- whether the first of some names is this one
abbrev pub is_first_name : List ℕ → List (List ℕ) → Bool
is_first_name name [] = false
is_first_name name (n ∷ ns) = bytes_eq n name

-- whether equal names come one after another: none comes back after others
abbrev pub are_together : List (List ℕ) → Bool
are_together [] = true
are_together (n ∷ ns) = (is_first_name n ns || not (is_among ns n)) && are_together ns

-- the largest of some numbers, 0 of none
abbrev pub largest : List ℕ → ℕ
largest [] = 0
largest (n ∷ ns) = max n (largest ns)

-- where the first of some spans starts
abbrev pub first_start : List Span → ℕ
first_start [] = 0
first_start (s ∷ spans) = s.start

-- from the start of the first record on this chromosome to the largest of their ends
abbrev pub extent_on : List Interval → List ℕ → Interval
extent_on records name = record {
  chrom = name;
  start = first_start (spans_on name records);
  stop = largest (map (λ s. s.stop) (spans_on name records));
}

-- the chromosomes in the order in which they first come, each with its extent
unfoldable pub extents_of : List Interval → List Interval
extents_of records = map (extent_on records) (distinct (chroms_of records))

-- What a survey says.

-- what is said of records: how many there are, as far as 64 bits count; the length of the longest; whether one has no
-- strand
pub record AreRecordsSeen (records : List Feature) (seen : RecordsSeen) : Type 0 where
  pub count : seen.count ≡ min (2 ^ 64 - 1) (length records)
  pub longest : seen.longest ≡ largest (map length_of (intervals_of records))
  pub lacks_strand : seen.lacks_strand ≡ list_any (λ r. is_same_strand r.strand Dot) records

-- what is said of records in which nothing leaves a text to bedtools
pub record AreSeen (records : List Feature) (survey : Survey) : Type 0 where
  pub plain : list_all is_plain_record records ≡ true
  pub together : are_together (chroms_of (intervals_of records)) ≡ true
  pub chromosomes : extents_in survey.chromosomes ≡ extents_of (intervals_of records)
  pub seen : AreRecordsSeen records survey.records

-- what is said of a text: bedtools reads each of its lines as Dunekettle does, and none is at fault
pub record IsSurveyOf (text : List ℕ) (survey : Survey) : Type 0 where
  pub plain : list_all is_plain (raw_lines text) ≡ true
  pub faultless : (read_of text).fault ≡ None
  pub records : AreSeen (items_in (read_of text)) survey
