-- Lemmas on bases that are counted as far as records reach, and on what is held.
use Rattle.bt_lines.proofs.Std.{◌≡◌, ℕ, suc, ◌+◌, ◌<◌, ◌≤◌, min, Bool, true, false, cond, ◌&&◌, ◌||◌, nat_le, nat_lt, length, List, [], ◌∷◌, ◌++◌, Option, Some, None, filter, refl, sym, ap, ◌∙◌, subst, arith, AllByRecursion, list_any, nat_tests, or_parts, not, Result, Ok, Err, append-nil, inl, inr, ◌⊎◌, is_none, is_some, option_map, length-map, cases_Bool, not-true, not-false}
use Rattle.bt_bed.specs.model.Feature.{Feature, record_covers}
use Rattle.bt_lines.specs.model.Lines.{max_number, end_bytes, TextLine}
use Rattle.bt_seq.proofs.lemmas.definitions.MaskPrefixLemmas.{held_alone, chrom_of, decided_by_tags, masked_before}
use Rattle.bt_seq.proofs.lemmas.Sam.{none_masked, next_left, own_in, own_tagged, tag_decides, tags, tags_of}
use Rattle.bt_bed.specs.calls.Stage.{given, with_first}
use Rattle.bt_seq.specs.calls.MaskStage.{MaskStage, held_by, is_written_ahead, is_written_at_once, reached, reached_by, mask_want_of, with_line, held_for_line}
use Rattle.bt_seq.specs.calls.MaskState.{Masking, line_bytes, TakesSequenceLine, Waiting, bytes_at_once, is_stray, may_grow, moved_to, writes_at_once, Matched, named, left_after}
use Rattle.bt_seq.specs.calls.MaskSteps.{kept_line, IsOpen, MaskMovesTo, FailsWithLine, GivesNextLine, RefusesLine, TakesNextLine, bytes_with, may_need_memory}
use Rattle.bt_seq.specs.model.Masked.{masked_from, masked_line, masked_text, line_decided, is_unnamed}
use Rattle.bt_seq.specs.model.Fasta.{SequenceLine, bases_up_to, is_sequence_header, bases_in, header_behind, line_behind, sequence_says, may_stand, name_in}
use Rattle.bt_seq.specs.model.SequenceBlocks.{block_decides, items_if_last, own_records}
use Rattle.bt_seq.specs.inside.Masking.{AreInRange, Counts, KnowsNext, decided_up_to}
use Rattle.bt_seq.specs.inside.Window.{limit, Bounds, gone_on, no_bases}
use Rattle.bt_seq.specs.declared.mask.mask_how.MaskHow.{MaskHow}
use Rattle.std.specs.List.{last_or}
use Rattle.bt_lines.specs.calls.Names.{fault_value}
use Rattle.bt_lines.specs.calls.Output.{Output, FailsToAdd, Grown}
use Rattle.bt_lines.specs.declared.fault.Fault.{Fault}
use Rattle.bt_lines.specs.declared.fault.Kind.TheVariants.{TextBeforeHeader}
use Rattle.bt_seq.proofs.lemmas.mask.bases.KnownLemmas.{never, with_header}
use Rattle.bt_seq.proofs.lemmas.mask.steps.CopyLemmas.{decided_more, left_grows, none_own, undecided_header, undecided_next, last_more, last_name_none, stands_at, wants_line}
use Rattle.bt_seq.specs.declared.mask.MaskWant.TheVariants.{Line, Bed, Nothing}

all_both : (P : Feature → Type 0) (rs ss : List Feature) → AllByRecursion P rs → AllByRecursion P ss → AllByRecursion P (rs ++ ss)
all_both P [] ss h k = k
all_both P (r ∷ rs) ss h k = (h.0, all_both P rs ss h.1 k)

-- one more record in range
pub range_more : (rs : List Feature) (r : Feature) → AreInRange rs → r.stop ≤ max_number → AreInRange (rs ++ r ∷ [])
range_more rs r h low = all_both (λ (r : Feature). r.stop ≤ max_number) rs (r ∷ []) h (low, tt)

own_range : (left : Option (List (List ℕ))) (last : Option (List ℕ)) (rs : List Feature) → AreInRange rs → AreInRange (own_in (tags chrom_of left last rs))
own_range left last [] h = tt
own_range left last (r ∷ rs) h =
    let next = next_left chrom_of left last r in
    all_both (λ (r : Feature). r.stop ≤ max_number) (items_if_last next (r ∷ [])) (own_in (tags chrom_of next (Some r.chrom) rs)) (grind arith) (own_range next (Some r.chrom) rs h.1)

-- a record that starts before a base, and ends in range
abbrev pub IsLow : ℕ → Feature → Type 0
IsLow low r = (r.start < low) × (r.stop ≤ max_number)

module _ (low : ℕ) where
  pub own_low : (left : Option (List (List ℕ))) (last : Option (List ℕ)) (rs : List Feature) → list_any (tag_decides low) (tags chrom_of left last rs) ≡ false → AreInRange rs
      → AllByRecursion (IsLow low) (own_in (tags chrom_of left last rs))
  own_low left last [] e h = tt
  own_low left last (r ∷ rs) e h =
      let next = next_left chrom_of left last r in
      let both = or_parts (block_decides low next (r ∷ [])) (list_any (tag_decides low) (tags chrom_of next (Some r.chrom) rs)) e in
      all_both (IsLow low) (items_if_last next (r ∷ [])) (own_in (tags chrom_of next (Some r.chrom) rs)) (grind arith) (own_low next (Some r.chrom) rs both.1 h.1)

-- what is held goes on to be held by the next line, if it reaches that far
module _ (first low high : ℕ) (up : first ≤ low) (further : low ≤ high) where
  abbrev is_old : Feature → Bool
  is_old r = nat_lt r.start low && nat_lt first r.stop

  abbrev is_new : Feature → Bool
  is_new r = nat_lt r.start high && nat_lt low r.stop

  abbrev goes_past : Feature → Bool
  goes_past r = nat_lt (min low limit) r.stop

  held_if : (r : Feature) (old new : List Feature) (p w : Bool) → (p && nat_lt (min low limit) r.stop) ≡ w → filter goes_past old ≡ new
      → filter goes_past (cond p (r ∷ old) old) ≡ cond w (r ∷ new) new
  held_if r old new p w e rest = grind arith

  pub held_on : (own : List Feature) → AllByRecursion (IsLow low) own → filter goes_past (filter is_old own) ≡ filter is_new own
  held_on [] h = refl
  held_on (r ∷ rs) h = held_if r (filter is_old rs) (filter is_new rs) (is_old r) (is_new r) (grind arith) (held_on rs h.1)

range_if : (p : Bool) (r : Feature) (rs : List Feature) → r.stop ≤ max_number → AreInRange rs → AreInRange (cond p (r ∷ rs) rs)
range_if p r rs h k = grind arith

held_range : (p : Feature → Bool) (rs : List Feature) → AreInRange rs → AreInRange (filter p rs)
held_range p [] h = tt
held_range p (r ∷ rs) h = range_if (p r) r (filter p rs) h.0 (held_range p rs h.1)

none_covers : (position : ℕ) (rs : List Feature) → limit ≤ position → AreInRange rs → list_any (record_covers position) rs ≡ false
none_covers position [] far h = refl
none_covers position (r ∷ rs) far h =
    let none : record_covers position r ≡ false = grind (arith, nat_tests) in
    ap (λ b. b || list_any (record_covers position) rs) none ∙ none_covers position rs far h.1

-- after all numbers nothing is masked
unmasked : (how : MaskHow) (rs : List Feature) (position : ℕ) (text : List ℕ) → limit ≤ position → AreInRange rs → masked_from how rs position text ≡ text
unmasked how rs position [] far h = refl
unmasked how rs position (base ∷ text) far h = grind (arith, none_covers, unmasked how rs (suc position) text (omega arith) h)

-- so no more bases need to be counted
counted_by : (how : MaskHow) (rs : List Feature) (before : ℕ) (text : List ℕ) → AreInRange rs → (b : Bool) → nat_le before limit ≡ b → masked_from how rs (min before limit) text ≡ masked_from how rs before text
counted_by how rs before text h true e =
    let low : before ≤ limit = grind (arith, nat_tests) in
    ap (λ p. masked_from how rs p text) (omega arith)
counted_by how rs before text h false e =
    let far : limit ≤ before = grind (arith, nat_tests) in
    ap (λ p. masked_from how rs p text) (omega arith) ∙ unmasked how rs limit text (omega arith) h ∙ sym (unmasked how rs before text far h)

none_before : (stop : ℕ) (p : Feature → Bool) (rs : List Feature) → stop ≡ 0 → filter (λ (r : Feature). nat_lt r.start stop && p r) rs ≡ []
none_before stop p [] e = refl
none_before stop p (r ∷ rs) e =
    let none : nat_lt r.start stop ≡ false = grind (arith, nat_tests) in
    ap (λ b. cond (b && p r) (r ∷ filter (λ (r : Feature). nat_lt r.start stop && p r) rs) (filter (λ (r : Feature). nat_lt r.start stop && p r) rs)) none
    ∙ none_before stop p rs e

module _ (how : MaskHow) (line : SequenceLine) (rs : List Feature) (range : AreInRange rs) where
  own_in_range : AreInRange (own_records line.names rs)
  own_in_range = subst AreInRange (sym (own_tagged line.names rs)) (own_range (Some line.names) None rs range)

  text_by : (h : Bool) → is_sequence_header line.text ≡ h → (h ≡ true → line.before ≡ 0) → masked_from how (held_for_line line rs) (min line.before limit) line.text ≡ masked_text how rs line
  text_by true e header =
      let none : bases_up_to line ≡ 0 = ap (λ b. line.before + cond b 0 (length line.text)) e ∙ ap (λ n. n + 0) (header refl) in
      ap (λ (l : List Feature). masked_from how l (min line.before limit) line.text) (none_before (bases_up_to line) (λ (r : Feature). nat_lt line.before r.stop) (own_records line.names rs) none)
      ∙ sym (none_masked how (min line.before limit) line.text)
      ∙ sym (ap (λ b. cond b line.text (masked_from how (own_records line.names rs) line.before line.text)) e)
  text_by false e header = grind (arith, counted_by, held_range, own_in_range, held_alone)

  -- so what is written of it are its bytes
  pub line_masked : (is_sequence_header line.text ≡ true → line.before ≡ 0) → (m : Masking) → m.how ≡ how → m.window.held ≡ held_for_line line rs → m.window.before ≡ min line.before limit
      → line_bytes m (kept_line line) ≡ masked_line how rs line
  line_masked header m same_how held before = ap (λ t. t ++ end_bytes line.ending) (rw (same_how, held, before) (text_by (is_sequence_header line.text) refl header))

-- Lemmas on a masking engine that is given a line.

pub neither : (a b c : Bool) → (a || (b || c)) ≡ false → (a ≡ false) × (b ≡ false)
neither a b c e = grind arith

-- a list that there is
pub some_list : (o : Option (List (List ℕ))) → is_some o ≡ true → (l : List (List ℕ)) × (o ≡ Some l)
some_list o e = grind arith

-- what the next line of a sequence goes on to hold
module _ (taken : List Feature) (range : AreInRange taken) (line : TextLine) (plain : is_sequence_header line.text ≡ false) where
  abbrev next : Option SequenceLine → SequenceLine
  next last = line_behind (reached_by last) line

  undecided_tags : (l : SequenceLine) → line_decided l taken ≡ false → list_any (tag_decides (bases_up_to l)) (tags_of l.names taken) ≡ false
  undecided_tags l e = (or_parts (is_unnamed l.names) (list_any (tag_decides (bases_up_to l)) (tags_of l.names taken)) (sym (decided_by_tags l taken) ∙ e)).1

  held_next : (l : SequenceLine) (w : Bounds) → w.bases ≡ min (bases_up_to l) limit → line_decided l taken ≡ false → w.held ≡ held_for_line l taken
      → filter (λ (r : Feature). nat_lt w.bases r.stop) w.held ≡ held_for_line (next (Some l)) taken
  held_next l w bases open_at held =
      let low : AllByRecursion (IsLow (bases_up_to l)) (own_records l.names taken) =
      subst (λ (rs : List Feature). AllByRecursion (IsLow (bases_up_to l)) rs) (sym (own_tagged l.names taken)) (own_low (bases_up_to l) (Some l.names) None taken (undecided_tags l open_at) range) in
      ap (λ b. filter (λ (r : Feature). nat_lt b r.stop) w.held) bases
      ∙ ap (filter (λ (r : Feature). nat_lt (min (bases_up_to l) limit) r.stop)) held
      ∙ held_on l.before (bases_up_to l) (bases_up_to (next (Some l))) (omega arith) (omega arith) (own_records l.names taken) low

  pub held_further : (last : Option SequenceLine) (w : Bounds) → Counts last w → IsOpen last taken → w.held ≡ held_by last taken
      → filter (λ (r : Feature). nat_lt w.bases r.stop) w.held ≡ held_for_line (next last) taken
  held_further last w counts open_at held = grind (arith, held_next)

  pub open_further : (last : Option SequenceLine) → IsOpen last taken → IsOpen (Some (next last)) taken
  open_further None open_at = inl open_at
  open_further (Some l) open_at = elim open_at [
    | inl none ↦ inl none
    | inr undecided ↦ inr (undecided_next (bases_up_to l) (bases_up_to (next (Some l))) (omega arith) l (next (Some l)) taken refl refl refl undecided)
  ]

or_rest : (a b : Bool) → (a || b) ≡ true → a ≡ false → b ≡ true
or_rest a b e d = grind arith

-- its block belongs to the last sequence, or to none
ahead_left : (names : List (List ℕ)) (taken : List Feature) (r : Feature) (m : Matched) → KnowsNext false names taken (Some r) m
    → (left_after names (taken ++ r ∷ []) ≡ Some []) ⊎ (left_after names (taken ++ r ∷ []) ≡ None)
ahead_left names taken r m known = grind arith

-- a line of a sequence that is open is undecided
pub open_undecided : (item : SequenceLine) (taken : List Feature) → is_unnamed item.names ≡ false → IsOpen (Some item) taken
    → line_decided item taken ≡ false
open_undecided item taken is_named open_at = grind arith

not_strayed : (names : List (List ℕ)) (text : List ℕ) → may_stand names text ≡ not (is_unnamed names && nat_lt 0 (length text))
not_strayed names text = grind arith

module _ (how : MaskHow) (full : Bool) (stage : MaskStage) (old : Masking) (s : MaskMovesTo how full stage old) (wants : old.want ≡ Line) where
  asked : (stage.inputs.waiting ≡ None) × (stage.inputs.first_ended ≡ false)
  asked = wants_line stage.inputs.waiting stage.inputs.first_ended stage.inputs.second_ended (sym s.stands.want_is ∙ wants)

  abbrev names : List (List ℕ)
  names = (reached stage).names

  open_at : IsOpen (last_or None (given stage.inputs)) stage.inputs.taken
  open_at = s.stands.is_open asked.1

  held_is : old.window.held ≡ held_by (last_or None (given stage.inputs)) stage.inputs.taken
  held_is = s.stands.holds (inl asked.1)

  -- with a line, before it waits or is written
  record Moved (item : SequenceLine) (moved : Masking) : Type 0 where
    how_is : moved.how ≡ how
    full_is : moved.full ≡ full
    bed_ended_is : moved.bed_ended ≡ stage.inputs.second_ended
    counts : Counts (Some item) moved.window
    name_is : moved.matched.name ≡ last_or None item.names
    holds : moved.window.held ≡ held_for_line item stage.inputs.taken
    is_open : IsOpen (Some item) stage.inputs.taken
    owned : is_some (left_after item.names stage.inputs.taken) ≡ true
    header : is_sequence_header item.text ≡ true → item.before ≡ 0
    waits_known : stage.inputs.second_ended ≡ false → is_unnamed item.names ≡ false → KnowsNext true item.names stage.inputs.taken stage.ahead moved.matched
    at_once : writes_at_once moved item.text ≡ is_written_at_once stage item
    written_known : stage.inputs.second_ended ≡ false → is_written_at_once stage item ≡ true → KnowsNext false item.names stage.inputs.taken stage.ahead moved.matched
    written_to : stage.inputs.second_ended ≡ false → is_written_at_once stage item ≡ true → (r : Feature) → stage.ahead ≡ Some r
        → moved.decided_to ≡ decided_up_to (left_after item.names (stage.inputs.taken ++ r ∷ [])) r

  going_known : stage.inputs.second_ended ≡ false → KnowsNext false names stage.inputs.taken stage.ahead old.matched
  going_known going = subst (λ (w : Option SequenceLine). KnowsNext (is_some w) names stage.inputs.taken stage.ahead old.matched) asked.0 (s.stands.inside.knows going)

  first_header : stage.inputs.second_ended ≡ false → is_some stage.ahead ≡ false → (names ≡ []) × (stage.inputs.taken ≡ [])
  first_header going none = grind arith

  -- whether a line to which it has moved is written at once
  once_by : (item : SequenceLine) (moved : Masking) → moved.bed_ended ≡ stage.inputs.second_ended → moved.matched.name ≡ last_or None item.names
      → (stage.inputs.second_ended ≡ false → is_unnamed item.names ≡ false
      → (not (is_sequence_header item.text) && nat_le moved.window.bases moved.decided_to) ≡ is_written_ahead stage.ahead stage.inputs.taken item)
      → writes_at_once moved item.text ≡ is_written_at_once stage item
  once_by item moved ended name alike = grind (arith, last_name_none)

  module _ (line : TextLine) where
    abbrev header_moved : Masking
    header_moved = record old { matched = named old.matched (name_in old.full line.text); window = no_bases }

    abbrev header_item : SequenceLine
    header_item = header_behind old.full (reached stage) line

    header_by : is_sequence_header line.text ≡ true → Moved header_item header_moved
    header_by e =
        let n = name_in old.full line.text in
        let left = some_list (left_after names stage.inputs.taken) s.stands.owned in
        let none : bases_in line.text ≡ 0 = ap (λ b. cond b 0 (length line.text)) e in
        record {
          how_is = s.how_is;
          full_is = s.full_is;
          bed_ended_is = s.stands.bed_ended_is;
          counts = record { before = omega arith; bases = omega arith };
          name_is = sym (last_more names n);
          holds = sym (ap (filter (λ r. nat_lt r.start (bases_up_to header_item) && nat_lt header_item.before r.stop)) (none_own n names left.0 stage.inputs.taken left.1));
          is_open = inr (undecided_header n header_item names left.0 stage.inputs.taken refl left.1);
          owned = ap is_some (left_grows n names left.0 stage.inputs.taken left.1);
          header = λ e. refl;
          waits_known = λ going u. with_header names n stage.inputs.taken old.matched stage.ahead (first_header going) (going_known going);
          at_once = grind (arith, last_name_none);
          written_known = λ going now. absurd (grind arith);
          written_to = λ going now. absurd (grind arith);
        }

    abbrev plain_moved : Masking
    plain_moved = record old { window = gone_on old.window (length line.text) }

    abbrev plain_item : SequenceLine
    plain_item = line_behind (reached stage) line

    plain_counts : is_sequence_header line.text ≡ false → Counts (Some plain_item) plain_moved.window
    plain_counts e =
        let count : bases_in line.text ≡ length line.text = ap (λ b. cond b 0 (length line.text)) e in
        let bases : old.window.bases ≡ min (reached stage).bases limit = s.stands.inside.counts.bases in
        record { before = bases; bases = omega arith }

    -- whether the record ahead decides it is what is known
    plain_alike : is_sequence_header line.text ≡ false → stage.inputs.second_ended ≡ false → is_unnamed names ≡ false → (o : Option Feature) → stage.ahead ≡ o
        → (not (is_sequence_header line.text) && nat_le plain_moved.window.bases old.decided_to) ≡ is_written_ahead o stage.inputs.taken plain_item
    plain_alike e going is_named None ahead = grind arith
    plain_alike e going is_named (Some r) ahead =
        let left = left_after names (stage.inputs.taken ++ r ∷ []) in
        let undecided = open_undecided plain_item stage.inputs.taken is_named (open_further stage.inputs.taken s.stands.inside.in_range line e (last_or None (given stage.inputs)) open_at) in
        let decides : nat_le plain_moved.window.bases old.decided_to ≡ line_decided plain_item (stage.inputs.taken ++ r ∷ []) =
        ap (λ (n : ℕ). nat_le n old.decided_to) (plain_counts e).bases
        ∙ ap (λ (n : ℕ). nat_le (min (bases_up_to plain_item) limit) n) (s.stands.inside.decided_to_is asked.0 going r ahead)
        ∙ (grind arith)
        ∙ sym (decided_more plain_item stage.inputs.taken r ∙ ap (λ b. b || block_decides (bases_up_to plain_item) left (r ∷ [])) undecided) in
        ap (λ b. not (is_sequence_header line.text) && b) decides

    plain_by : is_sequence_header line.text ≡ false → Moved plain_item plain_moved
    plain_by e =
        record {
          how_is = s.how_is;
          full_is = s.full_is;
          bed_ended_is = s.stands.bed_ended_is;
          counts = plain_counts e;
          name_is = s.stands.inside.name_is;
          holds = held_further stage.inputs.taken s.stands.inside.in_range line e (last_or None (given stage.inputs)) old.window s.stands.inside.counts open_at held_is;
          is_open = open_further stage.inputs.taken s.stands.inside.in_range line e (last_or None (given stage.inputs)) open_at;
          owned = s.stands.owned;
          header = λ h. absurd (never (sym e ∙ h));
          waits_known = λ going u. grind arith;
          at_once = once_by plain_item plain_moved s.stands.bed_ended_is s.stands.inside.name_is (λ going u. plain_alike e going u stage.ahead refl);
          written_known = λ going now. going_known going;
          written_to = λ going now. s.stands.inside.decided_to_is asked.0 going;
        }

    -- what a line says, and where the engine goes
    record Goes : Type 0 where
      item : SequenceLine
      says : sequence_says full (reached stage) line ≡ Ok (Some item)
      moved : Moved item (moved_to old line.text)
      kept : kept_line item ≡ record { text = line.text; ending = line.ending }
      fine : is_stray old line.text ≡ false

    record Strays : Type 0 where
      says : sequence_says full (reached stage) line ≡ Err TextBeforeHeader
      stray : is_stray old line.text ≡ true

    header_goes : is_sequence_header line.text ≡ true → Goes
    header_goes e =
        let by : (f : Bool) → old.full ≡ f → (item : SequenceLine) × (header_behind f (reached stage) line ≡ item) × Moved item header_moved × (kept_line item ≡ record { text = line.text; ending = line.ending }) =
        λ f d. (header_item, sym (ap (λ f. header_behind f (reached stage) line) d), header_by e, refl) in
        let it = by full s.full_is in
        record {
          item = it.0;
          says = ap (λ b. cond b (Ok (Some (header_behind full (reached stage) line))) (cond (may_stand names line.text) (Ok (Some plain_item)) (Err TextBeforeHeader))) e ∙ ap (λ (i : SequenceLine). Ok (Some i)) it.1;
          moved = subst (λ b. Moved it.0 (cond b header_moved plain_moved)) (sym e) it.2;
          kept = it.3;
          fine = ap (λ b. not b && (is_none old.matched.name && nat_lt 0 (length line.text))) e;
        }

    stray_is : is_sequence_header line.text ≡ false → is_stray old line.text ≡ (is_unnamed names && nat_lt 0 (length line.text))
    stray_is e = grind (arith, last_name_none)

    plain_says : is_sequence_header line.text ≡ false → sequence_says full (reached stage) line ≡ cond (may_stand names line.text) (Ok (Some plain_item)) (Err TextBeforeHeader)
    plain_says e = ap (λ b. cond b (Ok (Some (header_behind full (reached stage) line))) (cond (may_stand names line.text) (Ok (Some plain_item)) (Err TextBeforeHeader))) e

    plain_goes : is_sequence_header line.text ≡ false → (b : Bool) → may_stand names line.text ≡ b → Goes ⊎ Strays
    plain_goes e true may = inl (record {
      item = plain_item;
      says = plain_says e ∙ ap (λ b. cond b (Ok (Some plain_item)) (Err TextBeforeHeader)) may;
      moved = subst (λ b. Moved plain_item (cond b header_moved plain_moved)) (sym e) (plain_by e);
      kept = refl;
      fine = stray_is e ∙ not-true (is_unnamed names && nat_lt 0 (length line.text)) (sym (not_strayed names line.text) ∙ may);
    })
    plain_goes e false may = inr (record {
      says = plain_says e ∙ ap (λ b. cond b (Ok (Some plain_item)) (Err TextBeforeHeader)) may;
      stray = stray_is e ∙ not-false (is_unnamed names && nat_lt 0 (length line.text)) (sym (not_strayed names line.text) ∙ may);
    })

    goes : Goes ⊎ Strays
    goes = elim (cases_Bool (is_sequence_header line.text)) [
      | inl e ↦ inl (header_goes e)
      | inr e ↦ plain_goes e (may_stand names line.text) refl
    ]

  module _ (item : SequenceLine) (moved : Masking) (m : Moved item moved) where
    -- whether it may need memory
    memory_is : may_grow moved item.text ≡ may_need_memory stage item
    memory_is = grind (arith, length-map)

    -- its bytes
    bytes_are : line_bytes moved (kept_line item) ≡ masked_line how stage.inputs.taken item
    bytes_are = grind (arith, line_masked)

    -- the stage with the line, by whether it is written at once
    abbrev line_at : Bool → MaskStage
    line_at at_once = record stage { inputs = with_first at_once stage.inputs item }

    waiting_stands : stage.inputs.second_ended ≡ false → is_unnamed item.names ≡ false
        → MaskMovesTo how full (line_at false) (record moved { waiting = Some (kept_line item); want = Bed })
    waiting_stands going is_named =
        stands_at how full (line_at false) (record moved { waiting = Some (kept_line item); want = Bed }) (Some item) (last_more stage.inputs.written item) m.how_is m.full_is (record {
          waiting_is = refl;
          want_is = refl;
          bed_ended_is = m.bed_ended_is;
          waits = λ l e. let same : item ≡ l = cc in rw (← same) (record { lines = asked.1; bed = going; named = is_named; header = m.header });
          holds = λ e. m.holds;
          is_open = λ e. m.is_open;
          owned = m.owned;
          inside = record {
            counts = m.counts;
            name_is = m.name_is;
            is_decided = λ e. absurd (let apart : Some item ≡ None = e in cc);
            in_range = s.stands.inside.in_range;
            knows = λ e. m.waits_known going is_named;
            has_ahead = λ e. absurd (let apart : Bed ≡ Line = e in cc);
            ahead_in_range = s.stands.inside.ahead_in_range;
            decided_to_is = λ e. absurd (let apart : Some item ≡ None = e in cc);
          };
        })

    written_last : last_or None (given (line_at true).inputs) ≡ Some item
    written_last = grind (arith, append-nil, last_more)

    or_true : (a b c : Bool) → (a || (b || c)) ≡ true → a ≡ false → b ≡ false → c ≡ true
    or_true a b c e d f = grind arith

    written_stands : is_written_at_once stage item ≡ true → MaskMovesTo how full (line_at true) (record moved { waiting = None; want = Line })
    written_stands now =
        stands_at how full (line_at true) (record moved { waiting = None; want = Line }) (Some item) written_last m.how_is m.full_is (record {
          waiting_is = sym (ap (λ (w : Option SequenceLine). option_map kept_line w) asked.0);
          want_is = sym (ap (λ (w : Option SequenceLine). mask_want_of (is_some w) stage.inputs.first_ended stage.inputs.second_ended) asked.0 ∙ ap (λ b. mask_want_of false b stage.inputs.second_ended) asked.1);
          bed_ended_is = m.bed_ended_is;
          waits = λ l e. absurd (let apart : None ≡ Some l = sym asked.0 ∙ e in cc);
          holds = λ e. m.holds;
          is_open = λ e. m.is_open;
          owned = m.owned;
          inside = record {
            counts = m.counts;
            name_is = m.name_is;
            is_decided = λ n going.
                grind arith;
            in_range = s.stands.inside.in_range;
            knows = λ going. rw asked.0 (m.written_known going now);
            has_ahead = λ e going u. grind arith;
            ahead_in_range = s.stands.inside.ahead_in_range;
            decided_to_is = λ e going. m.written_to going now;
          };
        })

    stands_with : (b : Bool) → is_written_at_once stage item ≡ b
        → MaskMovesTo how full (line_at b) (record moved { waiting = cond b None (Some (kept_line item)); want = cond b Line Bed })
    stands_with true e = written_stands e
    stands_with false e = let both = neither stage.inputs.second_ended (is_unnamed item.names) (is_written_ahead stage.ahead stage.inputs.taken item) e in waiting_stands both.0 both.1

    with_it : MaskMovesTo how full (with_line stage item) (record moved { waiting = cond (writes_at_once moved item.text) None (Some (kept_line item)); want = cond (writes_at_once moved item.text) Line Bed })
    with_it =
        rw m.at_once (stands_with (is_written_at_once stage item) refl)

    bytes_now : bytes_at_once moved (kept_line item) ≡ bytes_with how stage item
    bytes_now = ap (λ b. cond b (line_bytes moved (kept_line item)) []) m.at_once ∙ ap (λ (l : List ℕ). cond (is_written_at_once stage item) l []) bytes_are

  module _ (line : TextLine) (out : Output) (new : Masking) (grown : Output) where
    abbrev kept : Waiting
    kept = record { text = line.text; ending = line.ending }

    takes : {A : Type 0} (done : A) → Goes line → TakesSequenceLine old line.number kept out (Ok done) new grown → TakesNextLine how full stage line out new grown
    takes done g t = record {
      item = g.item;
      says = g.says;
      stands = subst (λ (x : Masking). MaskMovesTo how full (with_line stage g.item) x)
          (ap (λ (k : Waiting). record (moved_to old line.text) { waiting = cond (writes_at_once (moved_to old line.text) k.text) None (Some k); want = cond (writes_at_once (moved_to old line.text) k.text) Line Bed }) g.kept ∙ sym t.1)
          (with_it g.item (moved_to old line.text) g.moved);
      puts = subst (λ (l : List ℕ). Grown out l grown)
          (ap (λ (k : Waiting). bytes_at_once (moved_to old line.text) k) (sym g.kept) ∙ bytes_now g.item (moved_to old line.text) g.moved) t.2;
      settled = masked_before how g.item stage.inputs.taken;
    }

    fails : (A : Type 0) (fault : Fault) → Goes line → TakesSequenceLine {A = A} old line.number kept out (Err fault) new grown → (new.want ≡ Nothing) × (RefusesLine how full stage line out (fault_value fault) grown ⊎ FailsWithLine how full stage line out (fault_value fault) grown)
    fails A fault g t = (
      t.0,
      elim t.1 [
        | inl stray ↦ absurd (never (sym g.fine ∙ stray.1))
        | inr other ↦ inr (record {
          item = g.item;
          says = g.says;
          fails = elim other.1 [
            | inl add ↦ inl (subst (λ (l : List ℕ). FailsToAdd out l (fault_value fault) grown)
                (ap (λ (k : Waiting). bytes_at_once (moved_to old line.text) k) (sym g.kept) ∙ bytes_now g.item (moved_to old line.text) g.moved) add)
            | inr memory ↦ inr (
              memory.0,
              memory.1,
              sym (memory_is g.item (moved_to old line.text) g.moved)
                  ∙ ap (λ (k : Waiting). may_grow (moved_to old line.text) k.text) g.kept ∙ memory.2,
            )
          ];
          settled = masked_before how g.item stage.inputs.taken;
        })
      ],
    )

    refuses : (A : Type 0) (fault : Fault) → Strays line → TakesSequenceLine {A = A} old line.number kept out (Err fault) new grown → (new.want ≡ Nothing) × (RefusesLine how full stage line out (fault_value fault) grown ⊎ FailsWithLine how full stage line out (fault_value fault) grown)
    refuses A fault g t = (
      t.0,
      elim t.1 [
        | inl stray ↦ inl (record { kind = TextBeforeHeader; says = g.says; is = stray.0; same_output = stray.2 })
        | inr other ↦ absurd (never (sym other.0 ∙ g.stray))
      ],
    )

    pub gives_line : {A : Type 0} (answer : Result A Fault) → TakesSequenceLine old line.number kept out answer new grown → GivesNextLine how full stage line out answer new grown
    gives_line (Ok done) t = elim (goes line) [
      | inl goes ↦ takes done goes t
      | inr strays ↦ absurd (never (sym t.0 ∙ strays.stray))
    ]
    gives_line {A} (Err fault) t = elim (goes line) [
      | inl goes ↦ fails A fault goes t
      | inr strays ↦ refuses A fault strays t
    ]
