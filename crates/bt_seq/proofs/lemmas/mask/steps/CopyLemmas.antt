-- Lemmas on lines of bases that are copied through.
use Rattle.bt_lines.proofs.Std.{common_steps, ◌≡◌, ℕ, ◌+◌, ◌≤◌, min, Bool, true, false, ◌||◌, nat_eq, nat_le, if◌then◌else◌, List, [], ◌∷◌, ◌++◌, length, drop, length-append, append_assoc, append-nil, None, Result, is_some, slice_range, refl, sym, ap, ◌∙◌, subst, arith, IsErr, IsOk, flat_map, cond, Option, Some, bytes_eq, list_any, flat_map-append, list_any-append, or_parts, or_from, is_none, option_to_list}
use Rattle.bt_lines.specs.calls.Reader.{PassesLine, shown_text_line, rest_in}
use Rattle.bt_lines.specs.calls.Line.{Cut, Shown}
use Rattle.bt_lines.specs.model.Lines.{TextLine, spelled}
use Rattle.bt_lines.specs.calls.Output.{Output, Puts}
use Rattle.bt_lines.specs.declared.reader.buffered_lines.BufferedLines.{BufferedLines}
use Rattle.bt_lines.specs.declared.fault.Fault.{Fault}
use Rattle.bt_seq.specs.inside.Masking.{CopiesLine, CopiesLines, CopiesThrough, StayEach, bounds_of, passed_all}
use Rattle.bt_bed.specs.calls.Stage.{given}
use Rattle.bt_seq.specs.calls.MaskStage.{PassesTextLines, MaskStage, mask_want_of}
use Rattle.bt_seq.specs.calls.MaskState.{Masking, passed, stays_as_given, left_after}
use Rattle.bt_seq.specs.model.Masked.{line_decided, is_unnamed}
use Rattle.bt_seq.specs.model.Fasta.{is_sequence_header, SequenceLine, bases_up_to}
use Rattle.bt_seq.specs.model.SequenceBlocks.{block_decides, items_if_last, names_behind, own_records}
use Rattle.bt_seq.specs.inside.Window.{Bounds, gone_on, limit}
use Rattle.bt_seq.specs.declared.mask.copy_through.CopyThrough.{CopyThrough}
use Rattle.bt_seq.specs.declared.mask.MaskWant.TheVariants.{Line, Nothing, Bed}
use Rattle.bt_bed.specs.model.Feature.{Feature}
use Rattle.bt_seq.proofs.lemmas.definitions.KnowsLemmas.{leave, leave_all, one_leaves}
use Rattle.bt_seq.proofs.lemmas.definitions.MaskPrefixLemmas.{chrom_of, decided_by_tags, none_leaves}
use Rattle.bt_seq.proofs.lemmas.Sam.{Tagged, own_in, own_tagged, tag_decides, tags, tags_more, tags_of}
use Rattle.std.specs.List.{last_or}
use Rattle.bt_seq.specs.calls.MaskSteps.{MaskMovesTo, MaskStandsAt, IsAtStage}
use Rattle.bt_seq.specs.declared.mask.mask_how.MaskHow.{MaskHow}

pub copied_line : {to : ℕ} {old new : CopyThrough} {line : Shown} (cut : Cut (rest_in old.lines) line) → old.lines.is_open ≡ false
    → PassesLine old.lines (shown_text_line old.lines line) new.lines
    → rest_in new.lines ≡ drop line.size (rest_in old.lines) → new.lines.at ≡ old.lines.at + line.size
    → is_sequence_header line.text ≡ false → new.before ≡ old.bases → new.bases ≡ min (old.bases + length line.text) limit → new.bases ≤ to
    → CopiesLine to old (shown_text_line old.lines line) new
copied_line cut closed passes rest at no_header before bases within = grind (arith, common_steps)

-- one more line was consumed after others
pub copied_behind : (to : ℕ) (old mid new : CopyThrough) (lines : List TextLine) (line : TextLine)
    → CopiesLines to old lines mid → CopiesLine to mid line new → CopiesLines to old (lines ++ line ∷ []) new
copied_behind to old mid new [] line p q = (new, subst (λ (m : CopyThrough). CopiesLine to m line new) p q, refl)
copied_behind to old mid new (l ∷ ls) line p q = (p.0, p.1, copied_behind to p.0 mid new ls line p.2 q)

pub none_pass : (lines : BufferedLines) → PassesTextLines lines [] lines
none_pass lines = record { left_is = refl; all_is = refl; given = omega arith; open_is = refl }

pub pass_more : {old mid new : BufferedLines} {lines more : List TextLine} → PassesTextLines old lines mid → PassesTextLines mid more new → PassesTextLines old (lines ++ more) new
pass_more first rest = grind (arith, append_assoc, length-append)

pub pass_one : {old new : BufferedLines} {line : TextLine} → PassesLine old line new → PassesTextLines old (line ∷ []) new
pass_one p = record { left_is = p.left_is; all_is = p.all_is; given = p.given; open_is = p.open_is }

-- what was consumed, as lines and as bytes
pub copies_pass : (to : ℕ) (lines : List TextLine) (old new : CopyThrough) → CopiesLines to old lines new → PassesTextLines old.lines lines new.lines
copies_pass to [] old new p = subst (λ (t : CopyThrough). PassesTextLines old.lines [] t.lines) (sym p) (none_pass old.lines)
copies_pass to (line ∷ lines) old new p = pass_more (pass_one p.1.passes) (copies_pass to lines p.0 new p.2)

pub copies_bytes : (to : ℕ) (lines : List TextLine) (old new : CopyThrough) → CopiesLines to old lines new
    → (rest_in old.lines ≡ flat_map spelled lines ++ rest_in new.lines) × (new.lines.at ≡ old.lines.at + length (flat_map spelled lines))
copies_bytes to [] old new p = (ap (λ (t : CopyThrough). rest_in t.lines) (sym p), omega (arith, ap (λ (t : CopyThrough). t.lines.at) p))
copies_bytes to (line ∷ lines) old new p = grind (arith, append_assoc, length-append, copies_bytes to lines p.0 new p.2)

-- the bytes between where it began and where it has come
pub bytes_between : (to : ℕ) (lines : List TextLine) (old new : CopyThrough) → CopiesLines to old lines new
    → (slice_range old.lines.all.now old.lines.at new.lines.at ≡ flat_map spelled lines) × (old.lines.at ≤ new.lines.at)
unfolding rest_in
bytes_between to lines old new p = grind (arith, common_steps, copies_bytes)

-- the bounds of a line if nothing is held
pub bounds_are : (before bases : ℕ) (w : Bounds) → before ≡ w.before → bases ≡ w.bases → w.held ≡ []
    → ◌≡◌ {A = Bounds} (record { before = before; bases = bases; held = [] }) w
bounds_are before bases w p q none = rw (p, q, ← none) refl

module _ (to : ℕ) where
  abbrev IsKnownTo : Masking → Type 0
  IsKnownTo m = (bases : ℕ) → bases ≤ to → (m.bed_ended || nat_le bases m.decided_to) ≡ true

  -- a line that was consumed stays as it was given
  stays : (p q : CopyThrough) (line : TextLine) (m : Masking) → bounds_of p ≡ m.window → is_some m.matched.name ≡ true → IsKnownTo m
      → CopiesLine to p line q → (stays_as_given m line.text ≡ true) × (bounds_of q ≡ gone_on m.window (length line.text))
  stays p q line m at named known step = grind arith

  pub copies_stay : (lines : List TextLine) (p q : CopyThrough) (m : Masking) → bounds_of p ≡ m.window → is_some m.matched.name ≡ true → IsKnownTo m
      → CopiesLines to p lines q → StayEach m lines
  copies_stay [] p q m at named known copies = tt
  copies_stay (line ∷ lines) p q m at named known copies =
      let step = stays p copies.0 line m at named known copies.1 in
      (step.0, copies_stay lines copies.0 q (passed m line.text) step.1 named known copies.2)

  -- the state after some lines
  pub copies_come : (lines : List TextLine) (line : TextLine) (p q : CopyThrough) (m : Masking) → bounds_of p ≡ m.window → is_some m.matched.name ≡ true → IsKnownTo m
      → CopiesLines to p (line ∷ lines) q → passed_all m (line ∷ lines) ≡ record m { window = bounds_of q; waiting = None; want = Line }
  copies_come [] line p q m at named known copies = grind arith
  copies_come (next ∷ lines) line p q m at named known copies =
      copies_come lines next copies.0 q (passed m line.text) (stays p copies.0 line m at named known copies.1).1 named known copies.2

  -- if some bytes were put
  pub copies_end : (lines : List TextLine) (p q : CopyThrough) (m : Masking) (window : Bounds) → bounds_of p ≡ m.window → is_some m.matched.name ≡ true → IsKnownTo m → window ≡ bounds_of q
      → CopiesLines to p lines q → (flat_map spelled lines ≡ [] → ⊥) → record m { window = window; waiting = None; want = Line } ≡ passed_all m lines
  copies_end [] p q m window at named known is copies some = absurd (some refl)
  copies_end (line ∷ lines) p q m window at named known is copies some = grind (arith, (copies_come lines line p q m))

pub some_bytes : (bytes : List ℕ) → nat_eq (length bytes) 0 ≡ false → bytes ≡ [] → ⊥
some_bytes bytes e none = grind arith

-- where it has come lies within what is buffered
pub copies_within : (to : ℕ) (lines : List TextLine) (old new : CopyThrough) → CopiesLines to old lines new → new.lines.at ≤ length old.lines.all.now
copies_within to lines old new p = grind (arith, copies_pass)

-- lines that were put together
module _ (to : ℕ) (old : Masking) (first last : CopyThrough) (at : bounds_of first ≡ old.window) (named : is_some old.matched.name ≡ true)
    (known_is : to ≡ (if old.bed_ended then limit else old.decided_to)) (copies : (texts : List TextLine) × CopiesLines to first texts last)
    (window : Bounds) (is : window ≡ bounds_of last) (copied : List ℕ) (copied_is : copied ≡ slice_range first.lines.all.now first.lines.at last.lines.at)
    (some : copied ≡ [] → ⊥) (out grown : Output) where
  known : IsKnownTo to old
  known bases within = grind arith

  bytes_are : copied ≡ flat_map spelled copies.0
  bytes_are = copied_is ∙ (bytes_between to copies.0 first last copies.1).0

  pub copied_through : {A : Type 0} (r : Result A Fault) (new : Masking) → Puts out (copied ++ []) r grown → (IsOk r → new ≡ record old { window = window; waiting = None; want = Line })
      → (IsErr r → new.want ≡ Nothing) → CopiesThrough old first.lines out r new last.lines grown
  copied_through r new puts goes stops = grind (arith, copies_pass, copies_stay, copies_end, bytes_are, append-nil)

-- Lemmas on one more record, and on the next line.

-- one more record of the line's sequence
pub own_more : (names : List (List ℕ)) (rs : List Feature) (r : Feature) → own_records names (rs ++ r ∷ []) ≡ own_records names rs ++ items_if_last (left_after names (rs ++ r ∷ [])) (r ∷ [])
own_more names rs r =
    let last : Tagged Feature = record { item = r; left = leave (Some names) None (rs ++ r ∷ []) } in
    own_tagged names (rs ++ r ∷ []) ∙ ap own_in (tags_more (Some names) None rs r)
    ∙ flat_map-append (λ (t : Tagged Feature). items_if_last t.left (t.item ∷ [])) (tags_of names rs) (last ∷ [])
    ∙ ap (λ (l : List Feature). own_in (tags_of names rs) ++ l) (append-nil (items_if_last (leave (Some names) None (rs ++ r ∷ [])) (r ∷ [])))
    ∙ ap (λ (l : List Feature). l ++ items_if_last (leave (Some names) None (rs ++ r ∷ [])) (r ∷ [])) (sym (own_tagged names rs))
    ∙ ap (λ left. own_records names rs ++ items_if_last left (r ∷ [])) (leave_all (Some names) (rs ++ r ∷ []))

-- whether one more record decides a line
pub decided_more : (line : SequenceLine) (rs : List Feature) (r : Feature) → line_decided line (rs ++ r ∷ []) ≡ (line_decided line rs || block_decides (bases_up_to line) (left_after line.names (rs ++ r ∷ [])) (r ∷ []))
decided_more line rs r = grind (arith, (decided_by_tags line (rs ++ r ∷ [])), (tags_more (Some line.names) None rs r), list_any-append, (decided_by_tags line rs), (leave_all (Some line.names) (rs ++ r ∷ [])))

-- one more name
module _ (n : List ℕ) where
  behind_by : (name m : List ℕ) (ms k : List (List ℕ)) (t : Bool) → cond t (Some ms) (names_behind name ms) ≡ Some k → (names_behind name ms ≡ Some k → names_behind name (ms ++ n ∷ []) ≡ Some (k ++ n ∷ []))
      → cond t (Some (ms ++ n ∷ [])) (names_behind name (ms ++ n ∷ [])) ≡ Some (k ++ n ∷ [])
  behind_by name m ms k t e rest = grind arith

  pub behind_grows : (name : List ℕ) (ns k : List (List ℕ)) → names_behind name ns ≡ Some k → names_behind name (ns ++ n ∷ []) ≡ Some (k ++ n ∷ [])
  behind_grows name [] k e = absurd (let apart : None ≡ Some k = e in cc)
  behind_grows name (m ∷ ms) k e = behind_by name m ms k (bytes_eq m name) e (behind_grows name ms k)

  next_grows : (name : List ℕ) (ns k : List (List ℕ)) (t : Bool) → cond t (Some ns) (names_behind name ns) ≡ Some k → cond t (Some (ns ++ n ∷ [])) (names_behind name (ns ++ n ∷ [])) ≡ Some (k ++ n ∷ [])
  next_grows name ns k t e = behind_by name name ns k t e (behind_grows name ns k)

  no_items : (k : List (List ℕ)) (xs : List Feature) → items_if_last (Some (k ++ n ∷ [])) xs ≡ []
  no_items [] xs = refl
  no_items (m ∷ ms) xs = refl

  never_decides : (bases : ℕ) (k : List (List ℕ)) (xs : List Feature) → block_decides bases (Some (k ++ n ∷ [])) xs ≡ false
  never_decides bases [] xs = refl
  never_decides bases (m ∷ ms) xs = refl

  -- all records keep their sequences, and none belongs to the new one
  pub record GrownNames (ns : List (List ℕ)) (last : Option (List ℕ)) (rs : List Feature) (left : List (List ℕ)) : Type 0 where
    pub leaves : leave (Some (ns ++ n ∷ [])) last rs ≡ Some (left ++ n ∷ [])
    pub own : own_in (tags chrom_of (Some (ns ++ n ∷ [])) last rs) ≡ []
    pub undecided : (bases : ℕ) → list_any (tag_decides bases) (tags chrom_of (Some (ns ++ n ∷ [])) last rs) ≡ false

  grown_first : (ns left : List (List ℕ)) (last : Option (List ℕ)) → Some ns ≡ Some left → GrownNames ns last [] left
  grown_first ns left last e = let same : ns ≡ left = cc in record { leaves = ap (λ l. Some (l ++ n ∷ [])) same; own = refl; undecided = λ bases. refl }

  grown_by : (ns left : List (List ℕ)) (last : Option (List ℕ)) (r : Feature) (rs : List Feature) (next : Option (List (List ℕ))) → one_leaves (Some ns) last r ≡ next → leave next (Some r.chrom) rs ≡ Some left
      → ((k : List (List ℕ)) → leave (Some k) (Some r.chrom) rs ≡ Some left → GrownNames k (Some r.chrom) rs left) → GrownNames ns last (r ∷ rs) left
  grown_by ns left last r rs next is e rest = grind (arith, none_leaves, next_grows, no_items, never_decides)

  grown_names : (ns left : List (List ℕ)) (last : Option (List ℕ)) (rs : List Feature) → leave (Some ns) last rs ≡ Some left → GrownNames ns last rs left
  grown_names ns left last [] e = grown_first ns left last e
  grown_names ns left last (r ∷ rs) e = grind (arith, (grown_by ns left last r rs (one_leaves (Some ns) last r) refl e (λ k d. grown_names k left (Some r.chrom) rs d)))

  pub left_grows : (names left : List (List ℕ)) (rs : List Feature) → left_after names rs ≡ Some left → left_after (names ++ n ∷ []) rs ≡ Some (left ++ n ∷ [])
  left_grows names left rs e = sym (leave_all (Some (names ++ n ∷ [])) rs) ∙ (grown_names names left None rs (leave_all (Some names) rs ∙ e)).leaves

  pub none_own : (names left : List (List ℕ)) (rs : List Feature) → left_after names rs ≡ Some left → own_records (names ++ n ∷ []) rs ≡ []
  none_own names left rs e = own_tagged (names ++ n ∷ []) rs ∙ (grown_names names left None rs (leave_all (Some names) rs ∙ e)).own

  pub named_more : (names : List (List ℕ)) → is_unnamed (names ++ n ∷ []) ≡ false
  named_more [] = refl
  named_more (m ∷ ms) = refl

  pub undecided_header : (line : SequenceLine) (names left : List (List ℕ)) (rs : List Feature) → line.names ≡ names ++ n ∷ [] → left_after names rs ≡ Some left → line_decided line rs ≡ false
  undecided_header line names left rs is e =
      decided_by_tags line rs
      ∙ ap (λ l. is_unnamed l || list_any (tag_decides (bases_up_to line)) (tags_of l rs)) is
      ∙ ap (λ b. b || list_any (tag_decides (bases_up_to line)) (tags_of (names ++ n ∷ []) rs)) (named_more names)
      ∙ (grown_names names left None rs (leave_all (Some names) rs ∙ e)).undecided (bases_up_to line)

-- a later line of the sequence isn't decided before an earlier one
module _ (low high : ℕ) (up : low ≤ high) where
  none_yet : (ts : List (Tagged Feature)) → list_any (tag_decides low) ts ≡ false → list_any (tag_decides high) ts ≡ false
  none_yet [] e = refl
  none_yet (t ∷ ts) e =
      or_from (tag_decides high t) (list_any (tag_decides high) ts) (grind arith) (none_yet ts (or_parts (tag_decides low t) (list_any (tag_decides low) ts) e).1)

  pub undecided_next : (line next : SequenceLine) (rs : List Feature) → next.names ≡ line.names → bases_up_to line ≡ low → bases_up_to next ≡ high → line_decided line rs ≡ false → line_decided next rs ≡ false
  undecided_next line next rs same is next_is e = grind (arith, decided_by_tags, none_yet)

-- Lemmas on the stage of a masking engine, by the line given last.

-- the engine is at the stage, if this is the last line
pub stands_at : (how : MaskHow) (full : Bool) (stage : MaskStage) (m : Masking) (last : Option SequenceLine) → last_or None (given stage.inputs) ≡ last → m.how ≡ how → m.full ≡ full
    → IsAtStage stage last m → MaskMovesTo how full stage m
stands_at how full stage m last e same_how same_full s = record { stands = subst (λ (l : Option SequenceLine). IsAtStage stage l m) (sym e) s; how_is = same_how; full_is = same_full }

-- the engine stays as it is
pub stays_at : (stage : MaskStage) (m : Masking) → MaskStandsAt stage m → MaskMovesTo m.how m.full stage m
stays_at stage m stands = record { stands = stands; how_is = refl; full_is = refl }

last_after : {A : Type 0} (o : Option A) (xs : List A) (x : A) → last_or o (xs ++ x ∷ []) ≡ Some x
last_after o [] x = refl
last_after o (y ∷ ys) x = last_after (Some y) ys x

pub last_more : {A : Type 0} (xs : List A) (x : A) → last_or None (xs ++ x ∷ []) ≡ Some x
last_more xs x = last_after None xs x

-- the line that waits was given last
pub last_waits : (stage : MaskStage) (line : SequenceLine) → stage.inputs.waiting ≡ Some line → last_or None (given stage.inputs) ≡ Some line
last_waits stage line e = ap (λ (w : Option SequenceLine). last_or None (stage.inputs.written ++ option_to_list w)) e ∙ last_more stage.inputs.written line

-- what is wanted shows what waits
pub wants_line : (w : Option SequenceLine) (lines_ended bed_ended : Bool) → mask_want_of (is_some w) lines_ended bed_ended ≡ Line → (w ≡ None) × (lines_ended ≡ false)
wants_line w lines_ended bed_ended e = grind arith

pub wants_bed : (lines_ended bed_ended : Bool) → mask_want_of false lines_ended bed_ended ≡ Bed → (lines_ended ≡ true) × (bed_ended ≡ false)
wants_bed lines_ended bed_ended e = grind arith

pub last_name_none : (names : List (List ℕ)) → is_none (last_or None names) ≡ is_unnamed names
last_name_none [] = refl
last_name_none (n ∷ []) = refl
last_name_none (n ∷ k ∷ ns) = last_name_none (k ∷ ns)
