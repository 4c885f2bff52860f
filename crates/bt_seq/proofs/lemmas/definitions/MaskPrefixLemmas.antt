-- Lemmas on lines that are decided early.
use Rattle.bt_lines.proofs.Std.{rules, ◌≡◌, ℕ, suc, ◌+◌, ◌<◌, ◌≤◌, Bool, true, false, cond, ◌&&◌, ◌||◌, nat_lt, length, List, [], ◌∷◌, ◌++◌, filter, Option, Some, None, refl, sym, ap, ◌∙◌, append-nil, bytes_eq, arith, ⊤, AllByRecursion, list_any, flat_map-append, filter-append, list_any-append, map, is_none, is_some, option_and_then}
use Rattle.bt_bed.specs.model.Feature.{Feature, record_covers}
use Rattle.bt_bed.specs.model.BedLine.{fault_at_line}
use Rattle.bt_bed.specs.model.Good.{locus_at, Member}
use Rattle.bt_bed.specs.calls.Orders.{AreInBlocks, IsBlockUpTo}
use Rattle.bt_lines.specs.model.Lines.{end_bytes}
use Rattle.bt_seq.proofs.lemmas.definitions.KnowsLemmas.{leave, leave_all}
use Rattle.bt_seq.proofs.lemmas.Sam.{Tagged, decided_tagged, last_from, next_left, own_in, own_tagged, tag_decides, tags, tags_append, tags_of, AllHaveOne, blocks_have_one, spread, tag_items, tags_all}
use Rattle.bt_seq.specs.calls.MaskStage.{decided_lines_stay, masked_lines_are_before, masked_lines_stay, first_unowned_is_told, owned_lack_none, held_mask_alone, held_for_line}
use Rattle.bt_seq.specs.model.Masked.{line_decided, is_unnamed, masked_from, masked_text, no_sequence, told_at_first}
use Rattle.bt_seq.specs.model.Fasta.{SequenceLine, bases_in, bases_up_to, is_sequence_header}
use Rattle.bt_seq.specs.model.SequenceBlocks.{block_decides, items_if_last, left_by, own_records, Block, Owned, blocks_by, owned_from}
use Rattle.bt_seq.specs.declared.mask.mask_how.MaskHow.{MaskHow}
use Rattle.std.specs.Prelude.{find}
use Rattle.bt_lines.specs.model.Fault.{FaultValue}
use Rattle.bt_lines.specs.declared.fault.Input.TheVariants.{Second}
use Rattle.bt_lines.specs.declared.fault.Kind.TheVariants.{NoSequence}

abbrev pub chrom_of : Feature → List ℕ
chrom_of r = r.chrom

-- whether records decide a line, record by record
pub decided_by_tags : (line : SequenceLine) (records : List Feature)
    → line_decided line records ≡ (is_unnamed line.names || list_any (tag_decides (bases_up_to line)) (tags_of line.names records))
decided_by_tags line records = ap (λ b. is_unnamed line.names || b) (decided_tagged (bases_up_to line) line.names records)

pub decided_stays : decided_lines_stay
decided_stays line records more e = grind (arith, (decided_by_tags line (records ++ more)), (tags_append (Some line.names) None records more), list_any-append, (decided_by_tags line records))

-- records that start after these bases
abbrev pub AreBehind : ℕ → List Feature → Type 0
AreBehind bases rs = AllByRecursion (λ (r : Feature). bases ≤ r.start) rs

behind_rest : (bases : ℕ) (rs more : List Feature) → AreBehind bases (rs ++ more) → AreBehind bases more
behind_rest bases [] more h = h
behind_rest bases (r ∷ rs) more h = behind_rest bases rs more h.1

blocks_drop : (rs more : List Feature) → AreInBlocks (rs ++ more) → AreInBlocks more
blocks_drop [] more h = h
blocks_drop (r ∷ rs) more h = blocks_drop rs more (grind arith)

pub blocks_front : (rs more : List Feature) → AreInBlocks (rs ++ more) → AreInBlocks rs
blocks_front [] more h = tt
blocks_front (r ∷ []) more h = tt
blocks_front (r ∷ s ∷ rs) more h = (h.0, blocks_front (s ∷ rs) more h.1)

-- once a record has decided a line: the block belongs to none, or to the last sequence, and the record starts after the line
module _ (bases : ℕ) where
  abbrev IsPast : Option (List (List ℕ)) → Feature → Type 0
  IsPast None r = ⊤
  IsPast (Some []) r = bases ≤ r.start
  IsPast (Some (name ∷ names)) r = ⊥

  past_next : (left : Option (List (List ℕ))) (r s : Feature) (t : Bool) → bytes_eq r.chrom s.chrom ≡ t → IsBlockUpTo (locus_at r) (locus_at s) → IsPast left r
      → IsPast (cond t left (left_by left s.chrom)) s
  past_next left r s t e up h = search rules

  -- all that follow it in order
  past_all : (left : Option (List (List ℕ))) (r : Feature) (rs : List Feature) → IsPast left r → AreInBlocks (r ∷ rs) → AreBehind bases (own_in (tags chrom_of left (Some r.chrom) rs))
  past_all left r [] h placed = tt
  past_all left r (s ∷ ss) h placed =
      let now = past_next left r s (bytes_eq r.chrom s.chrom) refl placed.0 h in
      grind (arith, (past_all (next_left chrom_of left (Some r.chrom) s) s ss now placed.1))

  after_by : (left : Option (List (List ℕ))) (r : Feature) (rs more : List Feature) (t : Bool) → block_decides bases left (r ∷ []) ≡ t
      → (t || list_any (tag_decides bases) (tags chrom_of left (Some r.chrom) rs)) ≡ true → AreInBlocks (r ∷ (rs ++ more))
      → (list_any (tag_decides bases) (tags chrom_of left (Some r.chrom) rs) ≡ true → AreInBlocks (rs ++ more) → AreBehind bases (own_in (tags chrom_of (leave left (Some r.chrom) rs) (last_from (Some r.chrom) rs) more)))
      → AreBehind bases (own_in (tags chrom_of (leave left (Some r.chrom) rs) (last_from (Some r.chrom) rs) more))
  after_by left r rs more true d e placed rest = grind (arith, (past_all left r (rs ++ more) (grind arith) placed), (tags_append left (Some r.chrom) rs more), flat_map-append, behind_rest)
  after_by left r rs more false d e placed rest = rest e (grind arith)

  -- the records that follow those that decide a line
  after_all : (left : Option (List (List ℕ))) (last : Option (List ℕ)) (rs more : List Feature) → list_any (tag_decides bases) (tags chrom_of left last rs) ≡ true → AreInBlocks (rs ++ more)
      → AreBehind bases (own_in (tags chrom_of (leave left last rs) (last_from last rs) more))
  after_all left last [] more e placed = absurd (let apart : false ≡ true = e in cc)
  after_all left last (r ∷ rs) more e placed =
      after_by (next_left chrom_of left last r) r rs more (block_decides bases (next_left chrom_of left last r) (r ∷ [])) refl e placed
      (λ d p. after_all (next_left chrom_of left last r) (Some r.chrom) rs more d p)

  before_by : (left : Option (List (List ℕ))) (r : Feature) (more : List Feature) → block_decides bases left (r ∷ []) ≡ true → AreInBlocks (r ∷ more)
      → AreBehind bases (items_if_last left (r ∷ []) ++ own_in (tags chrom_of left (Some r.chrom) more))
  before_by left r more d placed = grind (arith, past_all)

  drop_false : (b : Bool) → (b || false) ≡ true → b ≡ true
  drop_false b e = grind arith

  before_split : (left : Option (List (List ℕ))) (last : Option (List ℕ)) (rs : List Feature) (r : Feature) (more : List Feature) (a : Bool) → list_any (tag_decides bases) (tags chrom_of left last rs) ≡ a
      → (a || (block_decides bases (next_left chrom_of (leave left last rs) (last_from last rs) r) (r ∷ []) || false)) ≡ true → AreInBlocks (rs ++ r ∷ more)
      → AreBehind bases (own_in (tags chrom_of (leave left last rs) (last_from last rs) (r ∷ more)))
  before_split left last rs r more true a e placed = after_all left last rs (r ∷ more) a placed
  before_split left last rs r more false a e placed = grind (arith, before_by, drop_false, blocks_drop)

  -- the record that decides it and those that follow
  pub before_all : (left : Option (List (List ℕ))) (last : Option (List ℕ)) (rs : List Feature) (r : Feature) (more : List Feature)
      → list_any (tag_decides bases) (tags chrom_of left last (rs ++ r ∷ [])) ≡ true → AreInBlocks (rs ++ r ∷ more)
      → AreBehind bases (own_in (tags chrom_of (leave left last rs) (last_from last rs) (r ∷ more)))
  before_all left last rs r more e placed = grind (arith, before_split, list_any-append, tags_append)

  no_cover : (position : ℕ) (rs : List Feature) → position < bases → AreBehind bases rs → list_any (record_covers position) rs ≡ false
  no_cover position [] low h = refl
  no_cover position (r ∷ rs) low h = grind (arith, (no_cover position rs low h.1))

  -- they mask nothing before
  masked_same : (how : MaskHow) (rs extra : List Feature) (position : ℕ) (text : List ℕ) → position + length text ≤ bases → AreBehind bases extra
      → masked_from how (rs ++ extra) position text ≡ masked_from how rs position text
  masked_same how rs extra position [] low h = refl
  masked_same how rs extra position (base ∷ text) low h = grind (arith, masked_same how rs extra (suc position) text (omega arith) h, list_any-append, no_cover)

none_own : (last : Option (List ℕ)) (rs : List Feature) → own_in (tags chrom_of None last rs) ≡ []
none_own last [] = refl
none_own last (r ∷ rs) = grind (arith, none_own (Some r.chrom) rs)

-- before the first header no record is one of the line's sequence
pub unnamed_own : (rs : List Feature) → own_records [] rs ≡ []
unnamed_own [] = refl
unnamed_own (r ∷ rs) = own_tagged [] (r ∷ rs) ∙ none_own (Some r.chrom) rs

-- the records of the line's sequence, split where it was decided
own_split : (names : List (List ℕ)) (rs more : List Feature) → own_records names (rs ++ more) ≡ own_records names rs ++ own_in (tags chrom_of (leave (Some names) None rs) (last_from None rs) more)
own_split names rs more = grind (arith, (own_tagged names (rs ++ more)), (tags_append (Some names) None rs more), flat_map-append, (own_tagged names rs))

module _ (how : MaskHow) (line : SequenceLine) where
  abbrev text_by : List Feature → List ℕ
  text_by own = cond (is_sequence_header line.text) line.text (masked_from how own line.before line.text)

  stay_text : (rs more : List Feature) → AreInBlocks (rs ++ more) → (u : Bool) → is_unnamed line.names ≡ u → (u || list_any (tag_decides (bases_up_to line)) (tags_of line.names rs)) ≡ true
      → masked_text how (rs ++ more) line ≡ masked_text how rs line
  stay_text rs more placed true u e = ap text_by (grind (arith, unnamed_own))
  stay_text rs more placed false u e = grind (arith, (own_split line.names rs more), (after_all (bases_up_to line) (Some line.names) None rs more e placed), masked_same)

  before_text : (rs : List Feature) (r : Feature) (more : List Feature) → AreInBlocks (rs ++ r ∷ more) → (u : Bool) → is_unnamed line.names ≡ u → (u || list_any (tag_decides (bases_up_to line)) (tags_of line.names (rs ++ r ∷ []))) ≡ true
      → masked_text how (rs ++ r ∷ more) line ≡ masked_text how rs line
  before_text rs r more placed true u e = ap text_by (grind (arith, unnamed_own))
  before_text rs r more placed false u e = grind (arith, (own_split line.names rs (r ∷ more)), (before_all (bases_up_to line) (Some line.names) None rs r more e placed), masked_same)

-- a record that decides a line isn't held by it
module _ (line : SequenceLine) where
  abbrev reaches : Feature → Bool
  reaches r = nat_lt r.start (bases_up_to line) && nat_lt line.before r.stop

  none_reaches : (rs : List Feature) → AreBehind (bases_up_to line) rs → filter reaches rs ≡ []
  none_reaches [] h = refl
  none_reaches (r ∷ rs) h = grind (arith, (none_reaches rs h.1))

  held_same : (rs extra : List Feature) → AreBehind (bases_up_to line) extra
      → filter reaches (rs ++ extra) ≡ filter reaches rs
  held_same rs extra h = grind (arith, filter-append, none_reaches, append-nil)

  held_by_tags : (rs : List Feature) (r : Feature) → AreInBlocks (rs ++ r ∷ []) → (u : Bool)
      → is_unnamed line.names ≡ u
      → (u || list_any (tag_decides (bases_up_to line)) (tags_of line.names (rs ++ r ∷ []))) ≡ true
      → held_for_line line (rs ++ r ∷ []) ≡ held_for_line line rs
  held_by_tags rs r placed true u e = grind (arith, unnamed_own)
  held_by_tags rs r placed false u e = grind (arith, (own_split line.names rs (r ∷ [])), held_same, (before_all (bases_up_to line) (Some line.names) None rs r [] e placed))

  pub held_before : (rs : List Feature) (r : Feature) → AreInBlocks (rs ++ r ∷ [])
      → line_decided line (rs ++ r ∷ []) ≡ true → held_for_line line (rs ++ r ∷ []) ≡ held_for_line line rs
  held_before rs r placed e = grind (arith, held_by_tags, decided_by_tags)

pub masked_stay : masked_lines_stay
masked_stay how line rs more placed e =
    ap (λ t. t ++ end_bytes line.ending) (stay_text how line rs more placed (is_unnamed line.names) refl (sym (decided_by_tags line rs) ∙ e))

pub masked_before : masked_lines_are_before
masked_before how line rs r e more placed =
    ap (λ t. t ++ end_bytes line.ending) (before_text how line rs r more placed (is_unnamed line.names) refl (sym (decided_by_tags line (rs ++ r ∷ [])) ∙ e))

-- Lemmas on masking as a meeting of two inputs.

abbrev chrom_at : Member Feature → List ℕ
chrom_at m = m.item.chrom

abbrev pub items : List (Member Feature) → List Feature
items ms = map (λ (m : Member Feature). m.item) ms

-- what is reported of a record after which these names are left, or later
abbrev told_by : Option (List (List ℕ)) → Member Feature → Option FaultValue → Option FaultValue
told_by None m later = Some (fault_at_line Second m.line NoSequence)
told_by (Some names) m later = later

abbrev told_of : List (Tagged (Member Feature)) → Option FaultValue
told_of [] = None
told_of (t ∷ ts) = told_by t.left t.item (told_of ts)

told_later : (names : List (List ℕ)) (ms : List (Member Feature)) (ts : List (Tagged (Member Feature))) → told_of ts ≡ told_of (tag_items (Some names) ms ++ ts)
told_later names [] ts = refl
told_later names (m ∷ ms) ts = told_later names ms ts

-- what is reported of the first block that belongs to no sequence
abbrev told_in : List (Owned (Member Feature)) → Option FaultValue
told_in os = option_and_then (λ (o : Owned (Member Feature)). told_at_first o.block.items) (find (λ (o : Owned (Member Feature)). is_none o.left) os)

told_spread : (left : Option (List (List ℕ))) (bs : List (Block (Member Feature))) → AllHaveOne bs → told_in (owned_from left bs) ≡ told_of (spread (owned_from left bs))
told_spread left [] h = refl
told_spread left (b ∷ bs) h = grind (arith, (told_spread (left_by left b.chrom) bs h.1), told_later)

told_tagged : (names : List (List ℕ)) (ms : List (Member Feature)) → no_sequence names ms ≡ told_of (tags chrom_at (Some names) None ms)
told_tagged names ms = grind (arith, (told_spread (Some names) (blocks_by chrom_at ms) (blocks_have_one chrom_at ms)), (tags_all chrom_at (Some names) ms))

-- after a block that belongs to none, all belong to none
pub none_leaves : (last : Option (List ℕ)) (rs : List Feature) → leave None last rs ≡ None
none_leaves last [] = refl
none_leaves last (r ∷ rs) = ap (λ left. leave left (Some r.chrom) rs) (grind arith) ∙ none_leaves (Some r.chrom) rs

never_owned : (last : Option (List ℕ)) (rs : List Feature) → is_some (leave None last rs) ≡ true → ⊥
never_owned last rs e = let apart : false ≡ true = sym (ap is_some (none_leaves last rs)) ∙ e in absurd (let it : ⊥ = cc in it)

none_by : (left : Option (List (List ℕ))) (m : Member Feature) (ms : List (Member Feature)) → is_some (leave left (Some m.item.chrom) (items ms)) ≡ true
    → ((l : Option (List (List ℕ))) → is_some (leave l (Some m.item.chrom) (items ms)) ≡ true → told_of (tags chrom_at l (Some m.item.chrom) ms) ≡ None)
    → told_by left m (told_of (tags chrom_at left (Some m.item.chrom) ms)) ≡ None
none_by left m ms e rest = grind (arith, never_owned)

none_told : (left : Option (List (List ℕ))) (last : Option (List ℕ)) (ms : List (Member Feature)) → is_some (leave left last (items ms)) ≡ true → told_of (tags chrom_at left last ms) ≡ None
none_told left last [] e = refl
none_told left last (m ∷ ms) e = none_by (next_left chrom_at left last m) m ms e (λ l k. none_told l (Some m.item.chrom) ms k)

pub lack_none : owned_lack_none
lack_none names ms e = told_tagged names ms ∙ none_told (Some names) None ms (ap is_some (leave_all (Some names) (items ms)) ∙ e)

first_here : (left : Option (List (List ℕ))) (m : Member Feature) (later : Option FaultValue) → left ≡ None → told_by left m later ≡ Some (fault_at_line Second m.line NoSequence)
first_here left m later e = ap (λ l. told_by l m later) e

first_told : (left : Option (List (List ℕ))) (last : Option (List ℕ)) (past more : List (Member Feature)) (m : Member Feature) → is_some (leave left last (items past)) ≡ true → leave left last (items (past ++ m ∷ [])) ≡ None
    → told_of (tags chrom_at left last (past ++ m ∷ more)) ≡ Some (fault_at_line Second m.line NoSequence)
first_told left last [] more m e none = first_here (next_left chrom_at left last m) m (told_of (tags chrom_at (next_left chrom_at left last m) (Some m.item.chrom) more)) none
first_told left last (p ∷ past) more m e none = grind (arith, never_owned, first_told (next_left chrom_at left last p) (Some p.item.chrom) past more m e none)

pub first_is_told : first_unowned_is_told
first_is_told = grind (arith, told_tagged, first_told, leave_all)

-- Lemmas on what is held by a line.

module _ (from to position : ℕ) (low : from ≤ position) (high : position < to) where
  any_held_at : (r : Feature) (rs : List Feature) (t : Bool) → (nat_lt r.start to && nat_lt from r.stop) ≡ t
      → list_any (record_covers position) (filter (λ (r : Feature). nat_lt r.start to && nat_lt from r.stop) rs) ≡ list_any (record_covers position) rs
      → list_any (record_covers position) (cond t (r ∷ filter (λ (r : Feature). nat_lt r.start to && nat_lt from r.stop) rs) (filter (λ (r : Feature). nat_lt r.start to && nat_lt from r.stop) rs)) ≡ list_any (record_covers position) (r ∷ rs)
  any_held_at r rs t e rest = grind arith

  -- of the positions in between, the records that reach into them cover those that all cover
  any_held : (rs : List Feature) → list_any (record_covers position) (filter (λ (r : Feature). nat_lt r.start to && nat_lt from r.stop) rs) ≡ list_any (record_covers position) rs
  any_held [] = refl
  any_held (r ∷ rs) = any_held_at r rs (nat_lt r.start to && nat_lt from r.stop) refl (any_held rs)

masked_alike : (how : MaskHow) (held records : List Feature) (bases : List ℕ) (position : ℕ)
    → ((at : ℕ) → position ≤ at → at < position + length bases → list_any (record_covers at) held ≡ list_any (record_covers at) records)
    → masked_from how held position bases ≡ masked_from how records position bases
masked_alike how held records [] position h = refl
masked_alike how held records (base ∷ bases) position h = grind (arith, (masked_alike how held records bases (suc position) (λ at low high. h at (omega arith) (omega arith))))

pub held_alone : held_mask_alone
held_alone how line records plain =
    let own = own_records line.names records in
    let count : bases_in line.text ≡ length line.text = ap (λ b. cond b 0 (length line.text)) plain in
    masked_alike how (held_for_line line records) own line.text line.before (λ at low high. any_held line.before (line.before + bases_in line.text) at low (omega (arith, high, count)) own)
    ∙ sym (ap (λ b. cond b line.text (masked_from how own line.before line.text)) plain)
