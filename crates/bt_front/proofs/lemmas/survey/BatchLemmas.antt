-- Lemmas on seeing a batch.
use Rattle.std.specs.List.{All}
use Rattle.bt_lines.proofs.Std.{arith, common_steps, ◌≡◌, ◌∙◌, ◌⊎◌, ℕ, suc, ◌+◌, ◌<◌, ◌≤◌, ◌++◌, List, [], ◌∷◌, All-cons, All-head, All-nil, All-tail, Err, Ok, Result, ap, append-nil, false, length, lt-ltb, refl, subst, sym, true}
use Rattle.bt_bed.specs.model.Feature.{Feature, Interval, intervals_of}
use Rattle.bt_bed.specs.model.Order.{is_among}
use Rattle.bt_bed.specs.calls.Batch.{Passes, left, line_in}
use Rattle.bt_bed.specs.calls.CursorLaws.{batch_gives_none}
use Rattle.bt_bed.specs.declared.read.batch.Batch.{Batch}
use Rattle.bt_front.specs.model.Extents.{extents_in}
use Rattle.bt_front.specs.calls.Chromosomes.{is_last_name, widened}
use Rattle.bt_front.specs.declared.survey.Survey.{Survey}
use Rattle.bt_front.specs.declared.survey.oddity.Oddity.TheVariants.{FarEnd}
use Rattle.bt_front.specs.declared.survey.trouble.Trouble.{Trouble}
use Rattle.bt_front.specs.declared.survey.trouble.Trouble.TheVariants.{ComesBack, Odd, Refused}
use Rattle.bt_front.specs.inside.Seeing.{FindsFarEnd, HasEntered, IsOddAmong, LeavesOf, Refuses, Sees, SeesBatch, last_end}
use Rattle.bt_front.specs.model.Odd.{is_header_name}
use Rattle.bt_front.specs.model.Survey.{AreSeen, are_together, chroms_of, extents_of, is_odd_record, largest_end}
use Rattle.bt_front.proofs.lemmas.survey.EnterLemmas.{OnChrom, all_seen, on_chrom, quiet_on}
use Rattle.bt_front.proofs.lemmas.survey.ExtentLemmas.{extent_names}
use Rattle.bt_front.proofs.lemmas.survey.TogetherLemmas.{among_distinct, comes_back, last_distinct}

err_ok : {A E : Type 0} {done : A} {error : E} → Err error ≡ Ok done → ⊥
err_ok e = cc

-- what holds of all holds of the first ones
All-before : {X : Type 0} (P : X → Type 0) (xs ys : List X) → All P (xs ++ ys) → All P xs
All-before P [] ys all = All-nil P
All-before P (x ∷ xs) ys all = All-cons P x xs (All-head P x (xs ++ ys) all) (All-before P xs ys (All-tail P x (xs ++ ys) all))

-- the records are a batch's, of which this is the first
pub record BeginsWith (batch : Batch) (r : Feature) (name : List ℕ) : Type 0 where
  pub more : List Feature
  pub are : left batch ≡ r ∷ more
  pub on : r.chrom ≡ name

-- no record was there
pub sees_none : (survey : Survey) (batch : Batch) → left batch ≡ [] → SeesBatch survey batch (Ok tt) survey batch
sees_none survey batch none = record {
  given = [];
  passes = batch_gives_none batch;
  all = λ e. none;
  tells = λ past seen. rw (none, append-nil past) seen;
}

-- the chromosome couldn't be gone on to
refused : (past : List Feature) (old : Survey) (records : List Feature) (r : Feature) (more : List Feature) (name : List ℕ) (line at : ℕ) (trouble : Trouble) → AreSeen past old
    → records ≡ r ∷ more → r.chrom ≡ name → at ≡ suc line → Refuses (extents_in old.chromosomes) name at trouble → LeavesOf past records line trouble
refused past old records r more name line at (Odd odd) seen are on is why = record {
  before = [];
  r = r;
  rest = more;
  are = are;
  quiet = rw (append-nil past) (record { plain = seen.plain; together = seen.together });
  line_is = ap (λ o. o.line) why.0 ∙ omega (arith, is);
  is = ap (λ o. is_odd_record o.oddity r) why.0 ∙ rw on why.1;
}
refused past old records r more name line at (ComesBack back) seen are on is why =
    let names = ap chroms_of seen.chromosomes ∙ extent_names (intervals_of past) in
    let among : is_among (chroms_of (intervals_of past)) name ≡ true = sym (among_distinct (chroms_of (intervals_of past)) name) ∙ ap (λ (l : List (List ℕ)). is_among l name) (sym names) ∙ why.1 in
    let last : is_last_name (chroms_of (intervals_of past)) name ≡ false = sym (last_distinct (chroms_of (intervals_of past)) name seen.together) ∙ ap (λ (l : List (List ℕ)). is_last_name l name) (sym names) ∙ why.2 in
    record {
      r = r;
      rest = more;
      are = are;
      quiet = record { plain = seen.plain; together = seen.together };
      line_is = why.0 ∙ is;
      is = rw on (comes_back (chroms_of (intervals_of past)) name seen.together among last);
    }
refused past old records r more name line at (Refused fault) seen are on is why = why

pub sees_refused : (old new : Survey) (batch : Batch) (r : Feature) (name : List ℕ) (at : ℕ) (trouble : Trouble) → BeginsWith batch r name → at ≡ suc (line_in batch)
    → Refuses (extents_in old.chromosomes) name at trouble → SeesBatch old batch (Err trouble) new batch
sees_refused old new batch r name at trouble begins is why = record {
  given = [];
  passes = batch_gives_none batch;
  all = λ e. absurd (err_ok e);
  tells = λ past seen. refused past old (left batch) r begins.more name (line_in batch) at trouble seen begins.are begins.on is why;
}

-- a record ends past the last bin
pub sees_far : (old new : Survey) (first last : Batch) (name : List ℕ) (start far : ℕ) (table : List Interval) → HasEntered (extents_in old.chromosomes) name start table
    → All (λ r. r.chrom ≡ name) (left first) → Passes first (left first) last → FindsFarEnd (left first) (line_in first) far
    → SeesBatch old first (Err (Odd (record { line = far; oddity = FarEnd }))) new last
sees_far old new first last name start far table entered all passes finds = record {
  given = left first;
  passes = passes;
  all = λ e. absurd (err_ok e);
  tells = λ past seen. record {
    before = finds.before;
    r = finds.r;
    rest = finds.rest;
    are = finds.are;
    quiet = quiet_on past name start table finds.before (on_chrom past old name start table seen entered)
        (All-front (subst (λ (l : List Feature). All (λ (s : Feature). s.chrom ≡ name) l) finds.are all)) finds.within;
    line_is = finds.is;
    is = lt-ltb largest_end finds.r.stop finds.past;
  };
}
  where
    All-front : All (λ r. r.chrom ≡ name) (finds.before ++ finds.r ∷ finds.rest) → All (λ r. r.chrom ≡ name) finds.before
    All-front on = All-before (λ (s : Feature). s.chrom ≡ name) finds.before (finds.r ∷ finds.rest) on

-- all went well
pub sees_all : (old new : Survey) (first last : Batch) (r : Feature) (name : List ℕ) (start : ℕ) (table : List Interval) → HasEntered (extents_in old.chromosomes) name start table
    → BeginsWith first r name → r.start ≡ start → All (λ r. r.chrom ≡ name) (left first) → Passes first (left first) last → left last ≡ []
    → last_end (left first) ≤ largest_end → extents_in new.chromosomes ≡ widened (last_end (left first)) table → Sees old.records (left first) new.records
    → SeesBatch old first (Ok tt) new last
sees_all old new first last r name start table entered begins starts all passes none low widens sees = record {
  given = left first;
  passes = passes;
  all = λ e. none;
  tells = λ past seen. all_seen past (left first) r begins.more name start table old new seen (on_chrom past old name start table seen entered) begins.are all starts low widens sees;
}
