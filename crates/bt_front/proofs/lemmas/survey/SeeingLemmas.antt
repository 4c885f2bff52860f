-- Lemmas on seeing all records of a reader.
use Rattle.bt_lines.proofs.Std.{arith, ◌≡◌, ◌∙◌, ℕ, suc, ◌+◌, ◌<◌, ◌++◌, List, [], ◌∷◌, Err, None, Ok, Result, Some, ap, append-nil, append_assoc, false, false≢true, inl, inr, length, map, map-append, refl, subst, sym, take, true}
use Rattle.bt_lines.specs.calls.Names.{fault_value}
use Rattle.bt_lines.specs.calls.Reader.{Hands, IsKept, MayStillCome, lines_given}
use Rattle.bt_lines.specs.declared.device.Source.{Ghosts as Source}
use Rattle.bt_lines.specs.declared.fault.Fault.{Fault}
use Rattle.bt_lines.specs.model.Fault.{FaultValue}
use Rattle.bt_lines.proofs.lemmas.reader.block.ReadsLemmas.{comes_before, hands_both, hands_none}
use Rattle.bt_bed.proofs.lemmas.read.good.SaidRuns.{taken_are, token_is}
use Rattle.bt_bed.specs.calls.Batch.{IsWhere, Passes, cursor_in, left, line_in}
use Rattle.bt_bed.specs.calls.Blocks.{FillsBlocks, IsTaken, Lends, TakesBlocks, below, buffered_in, count_in, fault_kept, view_of}
use Rattle.bt_bed.specs.calls.Reading.{BeginsComing, Cause, Takes, coming, first_from, is_of_line, members_from, room, with_members}
use Rattle.bt_bed.specs.calls.SortedReader.{view_with}
use Rattle.bt_bed.specs.declared.read.batch.Batch.{Batch}
use Rattle.bt_bed.specs.declared.read.batch.Consumed.{Consumed}
use Rattle.bt_bed.specs.declared.read.blocks.Blocks.{Blocks}
use Rattle.bt_bed.specs.model.Feature.{Feature}
use Rattle.bt_bed.specs.model.Good.{Good, Member}
use Rattle.bt_front.specs.declared.survey.Survey.{Survey}
use Rattle.bt_front.specs.declared.survey.trouble.Trouble.{Trouble}
use Rattle.bt_front.specs.declared.survey.trouble.Trouble.TheVariants.{ComesBack, Odd, Refused}
use Rattle.bt_front.specs.inside.Seeing.{HasSeenAll, LeavesOf, SeesAfter, SeesBatch, SeesBuffered, StopsSeeing}
use Rattle.bt_front.specs.calls.Survey.{IsTroubleIn}
use Rattle.bt_front.specs.model.Survey.{AreSeen}

-- ---- what a reader in blocks holds

lent_are : {S : Type 0} (blocks : Blocks S) (batch : Batch) → Lends blocks batch → left batch ≡ buffered_in blocks
unfolding view_of view_with
lent_are blocks batch lends = lends.left_is

lent_at : {S : Type 0} (blocks : Blocks S) (batch : Batch) → Lends blocks batch → line_in batch ≡ lines_given (below blocks)
unfolding view_of view_with line_in cursor_in
lent_at blocks batch lends = lends.given

given_are : {S : Type 0} (blocks : Blocks S) (first last : Batch) (given : List Feature) (consumed : Consumed) → Lends blocks first → Passes first given last → IsWhere last consumed
    → take (count_in blocks consumed) (buffered_in blocks) ≡ given
unfolding view_of view_with
given_are blocks first last given consumed lends passes is = taken_are blocks.sorted first last given consumed lends passes is

pub are_taken : {S : Type 0} (blocks : Blocks S) (first last : Batch) (given : List Feature) (consumed : Consumed) → Lends blocks first → Passes first given last → IsWhere last consumed → IsTaken blocks consumed
are_taken blocks first last given consumed lends passes is = token_is blocks.sorted first last given consumed lends passes is

-- a batch was seen, and what was given of it was consumed
pub sees_buffered : {S : Type 0} (device : Source S) (old new : Blocks S) (before after : Survey) (result : Result Unit Trouble) (first last : Batch) (consumed : Consumed) → Lends old first
    → (sees : SeesBatch before first result after last) → IsWhere last consumed → BeginsComing (view_of old) → TakesBlocks device old (count_in old consumed) new
    → SeesBuffered device old new before result after
sees_buffered device old new before after result first last consumed lends sees is comes takes = record {
  given = sees.given;
  rest = left last;
  buffered = sym (lent_are old first lends) ∙ sees.passes.left_is;
  takes = subst (λ (l : List Feature). Takes device (view_of old) l (view_of new)) (given_are old first last sees.given consumed lends sees.passes is) takes.takes;
  all = sees.all;
  tells = λ past seen. subst (λ (l : List Feature). SeesAfter past l (lines_given (below old)) result after) (lent_are old first lends)
      (subst (λ (n : ℕ). SeesAfter past (left first) n result after) (lent_at old first lends) (sees.tells past seen));
  comes = comes;
}

-- ---- the records that were seen, and those still to come

-- these members came first of what was to come
abbrev pub Follows : Good Feature → List (Member Feature) → Good Feature → Type 0
Follows good past rest = (good.members ≡ past ++ rest.members) × (good.fault ≡ rest.fault)

abbrev items : List (Member Feature) → List Feature
items members = map (λ m. m.item) members

follows_more : (good now new : Good Feature) (past more : List (Member Feature)) → Follows good past now → now ≡ with_members more new → Follows good (past ++ more) new
follows_more good now new past more f e =
    let all : Follows good past (with_members more new) = subst (Follows good past) e f in
    (all.0 ∙ sym (append_assoc past more new.members), all.1)

-- the items of numbered members
items_from : (line : ℕ) (rs : List Feature) → items (members_from line rs) ≡ rs
items_from line [] = refl
items_from line (r ∷ rs) = ap (λ (l : List Feature). r ∷ l) (items_from (suc line) rs)

items_more : (past : List (Member Feature)) (line : ℕ) (rs : List Feature) → items (past ++ members_from line rs) ≡ items past ++ rs
items_more past line rs = map-append (λ (m : Member Feature). m.item) past (members_from line rs) ∙ ap (λ (l : List Feature). items past ++ l) (items_from line rs)

members_split : (line : ℕ) (xs ys : List Feature) → members_from line (xs ++ ys) ≡ members_from line xs ++ members_from (line + length xs) ys
members_split line [] ys = ap (λ (n : ℕ). members_from n ys) (let none : line ≡ line + 0 = omega arith in none)
members_split line (x ∷ xs) ys = grind (arith, members_split (suc line) xs ys)

-- the number of the line that comes next
abbrev next_line : {S : Type 0} → Blocks S → ℕ
next_line blocks = suc (lines_given (below blocks))

-- ---- the loop

module _ {S : Type 0} (device : Source S) (old : Blocks S) where
  -- what holds between two batches
  pub record Seeing (now : Blocks S) (survey : Survey) : Type 0 where
    pub past : List (Member Feature)
    pub seen : AreSeen (map (λ m. m.item) past) survey
    pub bytes : (bytes : List ℕ) × Hands device (below old) bytes (below now)
    pub come : (rest : List ℕ) → MayStillCome (below now) rest → Follows (coming (bytes.0 ++ rest) (view_of old)) past (coming rest (view_of now))
    pub going : fault_kept now ≡ None
    pub kept : IsKept device (below now)

  pub seeing_start : (survey : Survey) → AreSeen [] survey → fault_kept old ≡ None → IsKept device (below old) → Seeing old survey
  seeing_start survey seen going kept = record {
    past = [];
    seen = seen;
    bytes = ([], hands_none device (below old));
    come = λ rest follows. (refl, refl);
    going = going;
    kept = kept;
  }

  module _ (now new : Blocks S) (survey : Survey) (so : Seeing now survey) where
    module _ {bytes : List ℕ} (hands : Hands device (below now) bytes (below new)) where
      abbrev together : (bytes : List ℕ) × Hands device (below old) bytes (below new)
      together = (so.bytes.0 ++ bytes, hands_both device (below old) (below now) (below new) so.bytes.0 bytes so.bytes.1 hands)

      -- what comes after the records that were seen, once these bytes came
      come_then : (rest : List ℕ) → MayStillCome (below new) rest → Follows (coming ((so.bytes.0 ++ bytes) ++ rest) (view_of old)) so.past (coming (bytes ++ rest) (view_of now))
      come_then rest follows = rw (append_assoc so.bytes.0 bytes rest) (so.come (bytes ++ rest) (comes_before device hands rest follows))

    -- a record is buffered
    pub seeing_filled : FillsBlocks device now (Ok true) new → Seeing new survey
    seeing_filled fills =
        let gives = fills.answers.1 in record {
          past = so.past;
          seen = so.seen;
          bytes = together gives.stays.bytes.1;
          come = λ rest follows. subst (Follows (coming ((so.bytes.0 ++ gives.stays.bytes.0) ++ rest) (view_of old)) so.past) (gives.good rest follows) (come_then gives.stays.bytes.1 rest follows);
          going = gives.goes ∙ so.going;
          kept = fills.kept so.kept;
        }

    -- there are no more
    pub seen_to_end : FillsBlocks device now (Ok false) new → HasSeenAll device old new survey
    seen_to_end fills =
        let ends = fills.answers in
        let still : MayStillCome (below now) ends.stays.bytes.0 = λ told. sym (append-nil ends.stays.bytes.0) ∙ comes_before device ends.stays.bytes.1 [] (λ e. refl) told in
        let last = subst (Follows (coming (so.bytes.0 ++ ends.stays.bytes.0) (view_of old)) so.past) ends.none_left (so.come ends.stays.bytes.0 still) in
        record {
          bytes = together ends.stays.bytes.1;
          going = ends.below_goes;
          told = ends.told;
          kept = fills.kept so.kept;
          faultless = last.1;
          records = subst (λ (l : List Feature). AreSeen l survey) (sym (ap items (last.0 ∙ append-nil so.past))) so.seen;
        }

    -- a line is at fault, or can't be read
    pub seen_to_fault : (fault : Fault) → FillsBlocks device now (Err fault) new → StopsSeeing device old new (Refused fault)
    seen_to_fault fault fills = record {
      bytes = together fills.answers.stays.bytes.1;
      kept = fills.kept so.kept;
      trouble_is = λ rest follows of_line. (come_then fills.answers.stays.bytes.1 rest follows).1 ∙ wrong_line of_line rest follows (fills.answers.first so.going);
    }
      where
        wrong_line : is_of_line fault.kind ≡ true → (rest : List ℕ) → MayStillCome (below new) rest → Cause device (view_of now) fills.answers.stays.bytes.0 (fault_value fault) (view_of new)
            → (coming (fills.answers.stays.bytes.0 ++ rest) (view_of now)).fault ≡ Some (fault_value fault)
        wrong_line of_line rest follows (inl wrong) = ap (λ (g : Good Feature). g.fault) (wrong.none_left rest follows)
        wrong_line of_line rest follows (inr (inl unread)) = absurd (false≢true (sym (ap (λ (f : FaultValue). is_of_line f.kind) unread.fails.is) ∙ of_line))
        wrong_line of_line rest follows (inr (inr runs_out)) = absurd (false≢true (sym (ap (λ (f : FaultValue). is_of_line f.kind) runs_out.is) ∙ of_line))

    -- what is buffered was seen
    pub seeing_more : (after : Survey) → SeesBuffered device now new survey (Ok tt) after → Seeing new after
    seeing_more after sees =
        let lines = suc (lines_given (below now)) in record {
          past = so.past ++ members_from lines sees.given;
          seen = subst (λ (l : List Feature). AreSeen l after) (sym (items_more so.past lines sees.given))
              (subst (λ (l : List Feature). AreSeen (items so.past ++ l) after) (sees.buffered ∙ ap (λ (l : List Feature). sees.given ++ l) (sees.all refl) ∙ append-nil sees.given) (sees.tells (items so.past) so.seen));
          bytes = together sees.takes.hands;
          come = λ rest follows. follows_more (coming ((so.bytes.0 ++ []) ++ rest) (view_of old)) (coming rest (view_of now)) (coming rest (view_of new)) so.past (members_from lines sees.given)
              (come_then sees.takes.hands rest follows) (sees.takes.good rest follows);
          going = sees.takes.goes ∙ so.going;
          kept = sees.takes.kept so.kept;
        }

    -- something in it leaves the text to bedtools
    pub seen_to_trouble : (after : Survey) (trouble : Trouble) → SeesBuffered device now new survey (Err trouble) after → StopsSeeing device old new trouble
    seen_to_trouble after trouble sees = record {
      bytes = together sees.takes.hands;
      kept = sees.takes.kept so.kept;
      trouble_is = λ rest follows. leaves_in (coming ((so.bytes.0 ++ []) ++ rest) (view_of old)) (coming rest (view_of now)) (come_then sees.takes.hands rest follows)
          (sees.comes rest (comes_before device sees.takes.hands rest follows)) trouble (sees.tells (items so.past) so.seen);
    }
      where
        -- the members before a record of the batch
        parted : (good rest : Good Feature) (before : List Feature) (r : Feature) (more : List Feature) (behind : List (Member Feature)) → good.members ≡ so.past ++ rest.members
            → rest.members ≡ members_from (next_line now) (buffered_in now) ++ behind → (buffered_in now) ≡ before ++ r ∷ more
            → good.members ≡ (so.past ++ members_from (next_line now) before) ++ record { line = (next_line now) + length before; item = r } ∷ (members_from (suc ((next_line now) + length before)) more ++ behind)
        parted good rest before r more behind all begins are =
            all ∙ ap (λ (l : List (Member Feature)). so.past ++ l) (begins ∙ ap (λ (l : List Feature). members_from (next_line now) l ++ behind) are ∙ ap (λ (l : List (Member Feature)). l ++ behind) (members_split (next_line now) before (r ∷ more))
            ∙ append_assoc (members_from (next_line now) before) (members_from ((next_line now) + length before) (r ∷ more)) behind)
            ∙ sym (append_assoc so.past (members_from (next_line now) before) (record { line = (next_line now) + length before; item = r } ∷ (members_from (suc ((next_line now) + length before)) more ++ behind)))

        leaves_in : (good rest : Good Feature) → Follows good so.past rest → (behind : List (Member Feature)) × (rest.members ≡ members_from (next_line now) (buffered_in now) ++ behind)
            → (trouble : Trouble) → LeavesOf (items so.past) (buffered_in now) (lines_given (below now)) trouble → IsTroubleIn good trouble
        leaves_in good rest f begins (Odd odd) leaves = record {
          before = so.past ++ members_from (next_line now) leaves.before;
          r = leaves.r;
          comes = record {
            rest = members_from (suc ((next_line now) + length leaves.before)) leaves.rest ++ begins.0;
            members = subst (λ (n : ℕ). good.members ≡ (so.past ++ members_from (next_line now) leaves.before) ++ record { line = n; item = leaves.r } ∷ (members_from (suc ((next_line now) + length leaves.before)) leaves.rest ++ begins.0))
                (sym leaves.line_is) (parted good rest leaves.before leaves.r leaves.rest begins.0 f.0 begins.1 leaves.are);
            quiet = rw (items_more so.past (next_line now) leaves.before) leaves.quiet;
          };
          is = leaves.is;
        }
        leaves_in good rest f begins (ComesBack back) leaves = record {
          before = so.past;
          r = leaves.r;
          comes = record {
            rest = members_from (suc (next_line now)) leaves.rest ++ begins.0;
            members = subst (λ (n : ℕ). good.members ≡ so.past ++ record { line = n; item = leaves.r } ∷ (members_from (suc (next_line now)) leaves.rest ++ begins.0))
                (sym leaves.line_is) (f.0 ∙ ap (λ (l : List (Member Feature)). so.past ++ l) (begins.1 ∙ ap (λ (l : List Feature). members_from (next_line now) l ++ begins.0) leaves.are));
            quiet = leaves.quiet;
          };
          is = leaves.is;
        }
        leaves_in good rest f begins (Refused fault) leaves = λ of_line. absurd (false≢true (sym leaves ∙ of_line))

-- fewer bytes may come after a batch
some_given : (line : ℕ) (records : List Feature) (m : Member Feature) → first_from line records ≡ Some m → 0 < length records
some_given line [] m e = let apart : None ≡ Some m = e in cc
some_given line (r ∷ records) m e = omega arith

pub taken_less : {S : Type 0} (device : Source S) (now filled new : Blocks S) → FillsBlocks device now (Ok true) filled → (before after : Survey) → SeesBuffered device filled new before (Ok tt) after
    → room (view_of new) < room (view_of now)
taken_less device now filled new fills before after sees =
    let all : buffered_in filled ≡ sees.given = sees.buffered ∙ ap (λ (l : List Feature). sees.given ++ l) (sees.all refl) ∙ append-nil sees.given in
    omega (arith, fills.answers.1.shrinks, sees.takes.shrinks, ap length all, some_given _ (buffered_in filled) _ fills.answers.1.ahead)
