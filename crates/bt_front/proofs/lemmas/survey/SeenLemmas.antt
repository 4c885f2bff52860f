-- Lemmas on records that are looked at.
use Rattle.std.specs.List.{All}
use Rattle.bt_lines.proofs.Std.{arith, common_steps, ◌≡◌, ◌∙◌, ℕ, suc, ◌+◌, ◌-◌, ◌^◌, ◌<◌, ◌≤◌, ◌++◌, ◌||◌, Bool, List, [], ◌∷◌, All-append, All-cons, All-nil, All-push, ap, append-nil, append_assoc, length, length-append, list_any, list_any-append, map, map-append, max, min, refl, sym, true, false}
use Rattle.bt_lines.specs.calls.Reader.{PassesLines}
use Rattle.bt_bed.specs.model.Feature.{Feature, Interval, interval_of, intervals_of, is_same_strand, length_of}
use Rattle.bt_bed.specs.declared.record.strand.Strand.TheVariants.{Dot}
use Rattle.bt_bed.specs.calls.Batch.{Passes, batch_room, chrom_in, cursor_in, left, line_in}
use Rattle.bt_bed.specs.calls.CursorLaws.{batch_gives_more, batch_gives_none}
use Rattle.bt_bed.specs.declared.read.batch.Batch.{Batch}
use Rattle.bt_front.specs.declared.survey.records_seen.RecordsSeen.{RecordsSeen}
use Rattle.bt_front.specs.inside.Seeing.{FindsFarEnd, Sees, last_end}
use Rattle.bt_front.specs.model.Survey.{AreRecordsSeen, largest, largest_end}
use Rattle.bt_front.proofs.lemmas.survey.ExtentLemmas.{largest_more}

-- whether one of these records has no strand
abbrev pub lacks : List Feature → Bool
lacks records = list_any (λ r. is_same_strand r.strand Dot) records

-- the length of the longest
abbrev pub longest_of : List Feature → ℕ
longest_of records = largest (map length_of (intervals_of records))

-- records of a batch were looked at
pub record Looked (seen : RecordsSeen) (first ahead : Batch) (longest : ℕ) (lacks_strand : Bool) (end : ℕ) : Type 0 where
  pub given : List Feature
  pub passes : Passes first given ahead
  pub on : All (λ r. r.chrom ≡ chrom_in first) given
  pub longest_is : longest ≡ max seen.longest (longest_of given)
  pub lacks_is : lacks_strand ≡ (seen.lacks_strand || lacks given)
  pub end_is : end ≡ last_end given

pub looked_none : (seen : RecordsSeen) (batch : Batch) → Looked seen batch batch seen.longest seen.lacks_strand 0
looked_none seen batch = record {
  given = [];
  passes = batch_gives_none batch;
  on = All-nil (λ (r : Feature). r.chrom ≡ chrom_in batch);
  longest_is = omega arith;
  lacks_is = grind (arith, common_steps);
  end_is = refl;
}

-- the line of the record that was given last
pub line_passed : (first last : Batch) (records : List Feature) → Passes first records last → line_in last ≡ line_in first + length records
unfolding line_in cursor_in
line_passed first last records p = p.lines.given

-- one more record of the batch was looked at
pub looked_more : (seen : RecordsSeen) (first ahead next : Batch) (longest end : ℕ) (lacks_strand : Bool) (r : Feature) (longer later : ℕ) (without : Bool)
    → Looked seen first ahead longest lacks_strand end → Passes ahead (r ∷ []) next → r.chrom ≡ chrom_in ahead
    → longer ≡ max longest (r.stop - r.start) → later ≡ max end r.stop → without ≡ (lacks_strand || is_same_strand r.strand Dot)
    → Looked seen first next longer without later
looked_more seen first ahead next longest end lacks_strand r longer later without so passes on long late strand = record {
  given = so.given ++ r ∷ [];
  passes = batch_gives_more first ahead next so.given (r ∷ []) so.passes passes;
  on = All-push (λ (s : Feature). s.chrom ≡ chrom_in first) so.given r so.on (on ∙ so.passes.chrom);
  longest_is = rw (map-append interval_of so.given (r ∷ [])) (long ∙ longest_more (map interval_of so.given) so.longest_is);
  lacks_is = strand ∙ rw (so.lacks_is, list_any-append) (lacks_more seen.lacks_strand (lacks so.given) (is_same_strand r.strand Dot));
  end_is = late ∙ end_more;
}
  where
    longest_more : (rs : List Interval) → longest ≡ max seen.longest (largest (map length_of rs)) → max longest (r.stop - r.start) ≡ max seen.longest (largest (map length_of (rs ++ interval_of r ∷ [])))
    longest_more rs e = rw (map-append, largest_more) (omega (arith, e))

    end_more : max end r.stop ≡ last_end (so.given ++ r ∷ [])
    end_more = rw (map-append, largest_more) (omega (arith, so.end_is))

    lacks_more : (a b c : Bool) → ((a || b) || c) ≡ (a || (b || (c || false)))
    lacks_more true b c = refl
    lacks_more false true c = refl
    lacks_more false false true = refl
    lacks_more false false false = refl

-- all records of the batch were
pub looked_all : (seen : RecordsSeen) (first last : Batch) (longest end count : ℕ) (lacks_strand : Bool)
    → Looked seen first last longest lacks_strand end → left last ≡ [] → count ≡ min (2 ^ 64 - 1) (seen.count + (line_in last - line_in first))
    → Passes first (left first) last × All (λ r. r.chrom ≡ chrom_in first) (left first)
    × Sees seen (left first) (record { count = count; longest = longest; lacks_strand = lacks_strand }) × (end ≡ last_end (left first))
looked_all seen first last longest end count lacks_strand so none counted =
    let all : left first ≡ so.given = so.passes.left_is ∙ rw none (append-nil so.given) in
    let line = line_passed first last so.given so.passes in
    rw all (so.passes, so.on, record { count = omega (arith, counted, line); longest = so.longest_is; lacks_strand = so.lacks_is }, so.end_is)

-- ---- the first record that ends past the last bin

-- records of a batch were given that end before
pub record AreWithin (first ahead : Batch) : Type 0 where
  pub given : List Feature
  pub passes : Passes first given ahead
  pub within : last_end given ≤ largest_end

pub within_none : (batch : Batch) → AreWithin batch batch
within_none batch = record { given = []; passes = batch_gives_none batch; within = omega arith }

pub within_more : (first ahead next : Batch) (r : Feature) → AreWithin first ahead → Passes ahead (r ∷ []) next → r.stop ≤ largest_end → AreWithin first next
within_more first ahead next r so passes low = record {
  given = so.given ++ r ∷ [];
  passes = batch_gives_more first ahead next so.given (r ∷ []) so.passes passes;
  within = rw (map-append, largest_more) (omega (arith, so.within, low));
}

pub far_found : (first ahead next : Batch) (r : Feature) (line : ℕ) → AreWithin first ahead → Passes ahead (r ∷ []) next → largest_end < r.stop → line ≡ line_in next
    → FindsFarEnd (left first) (line_in first) line
far_found first ahead next r line so passes far is = record {
  before = so.given;
  r = r;
  rest = left next;
  are = so.passes.left_is ∙ ap (λ (l : List Feature). so.given ++ l) passes.left_is;
  within = so.within;
  past = far;
  is = omega (arith, is, line_passed first ahead so.given so.passes, line_passed ahead next (r ∷ []) passes);
}

pub none_far : (first ahead : Batch) → AreWithin first ahead → left ahead ≡ [] → largest_end < last_end (left first) → ⊥
none_far first ahead so none far =
    let all : left first ≡ so.given = so.passes.left_is ∙ rw none (append-nil so.given) in
    let past : largest_end < last_end so.given = rw all at far in
    omega (arith, past, so.within)
