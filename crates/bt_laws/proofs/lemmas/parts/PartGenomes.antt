-- Records of parts, each with its own part of the genome file.
use Rattle.bt_lines.proofs.Std.{rules, ◌≡◌, ℕ, ◌+◌, ◌<◌, true, false, cond, List, [], ◌∷◌, ◌++◌, ◌||◌, length, Option, Some, None, inl, refl, sym, ap, ◌∙◌, arith, subst, IsTrue, bytes_eq, is_some, option_map, or_parts, AllByRecursion, map-append, flat_map-append, append-nil, ⊤, list_any, list_any-append}
use Rattle.std.specs.declared.cmp.Ordering.TheVariants.{Less, Greater}
use Rattle.bt_bed.specs.model.Order.{Order, is_among, rank_of, rank_order}
use Rattle.bt_bed.specs.calls.Orders.{AreDistinct, IsTotal, ArePlaced, IsPlacedBefore}
use Rattle.bt_bed.proofs.lemmas.parse.NameLemmas.{same_name, name_ne-sym}
use Rattle.bt_bed.proofs.lemmas.order.OrderLemmas.{among_ranked}
use Rattle.bt_runs.proofs.lemmas.definitions.Standing.{known_rank}
use Rattle.bt_lines.specs.model.Lines.{TextLine}
use Rattle.bt_lines.specs.declared.fault.Input.{Input}
use Rattle.bt_bed.specs.model.Feature.{Feature, interval_of, intervals_of, Interval, last_from, last_of}
use Rattle.bt_bed.specs.model.BedLine.{record_of}
use Rattle.bt_bed.specs.model.Genome.{Entry, genome_names}
use Rattle.bt_bed.specs.model.Good.{good_after, bed_format, line_says}
use Rattle.bt_bed.specs.model.Sorted.{Locus, sorting_of, has_records}
use Rattle.bt_laws.specs.Parts.{LiesWithin, ComeBefore, StandsBefore, said_records}
use Rattle.bt_laws.proofs.lemmas.parts.PartLines.{alike_records, records_on, Earlier, alike_lines, lines_join}
use Rattle.bt_runs.proofs.lemmas.Lists.{all_back, all_front, all_so, all_map, all_swapped, all_unmap}
use Rattle.bt_laws.proofs.lemmas.pipes.LinesBack.{placed_known}
use Rattle.bt_laws.proofs.lemmas.single.Sequences.{owners_stay_so}
use Rattle.bt_seq.proofs.lemmas.definitions.KnowsLemmas.{is_last, leave, leave_all, one_leaves}
use Rattle.bt_seq.proofs.lemmas.definitions.MaskPrefixLemmas.{chrom_of, none_leaves}
use Rattle.bt_seq.proofs.lemmas.Sam.{last_from as last_tagged, own_in, own_tagged, Tagged, tag_decides, tag_items, tags, tags_append, tags_of}
use Rattle.bt_seq.specs.model.SequenceBlocks.{block_decides, items_if_last, names_behind as sequences_behind, own_records}

abbrev shifted : ℕ → Option ℕ → Option ℕ
shifted k rank = option_map (λ r. k + r) rank

-- whether a name is among two lists of names
pub among_append : (xs ys : List (List ℕ)) (name : List ℕ) → is_among (xs ++ ys) name ≡ (is_among xs name || is_among ys name)
among_append [] ys name = refl
among_append (x ∷ xs) ys name = grind (arith, (among_append xs ys name))

rank_none : (xs : List (List ℕ)) (name : List ℕ) → is_among xs name ≡ false → rank_of xs name ≡ None
rank_none xs name e = grind (arith, (among_ranked xs name), (rank_of xs name))

-- the rank of a name among two lists of names
rank_both : (xs ys : List (List ℕ)) (name : List ℕ) → rank_of (xs ++ ys) name ≡ cond (is_among xs name) (rank_of xs name) (shifted (length xs) (rank_of ys name))
rank_both [] ys name = sym (grind arith)
rank_both (x ∷ xs) ys name = grind (arith, (rank_both xs ys name))

-- what is among all names is among those of the part
abbrev pub Within : List (List ℕ) → List (List ℕ) → List ℕ → Type 0
Within part whole name = IsTrue (is_among whole name) → IsTrue (is_among part name)

-- two orders that agree on the names of some kind
pub record Agree (mine yours : Order) (P : List ℕ → Type 0) : Type 0 where
  pub knows : (a : List ℕ) → P a → mine.knows a ≡ yours.knows a
  pub compare : (a b : List ℕ) → P a → P b → mine.compare a b ≡ yours.compare a b

module _ (xs ys : List (List ℕ)) where
  module _ (distinct : AreDistinct (xs ++ ys)) where
    -- no name is among both
    not_first : (xs ys : List (List ℕ)) (name : List ℕ) → AreDistinct (xs ++ ys) → is_among ys name ≡ true → is_among xs name ≡ false
    not_first [] ys name distinct e = refl
    not_first (x ∷ xs) ys name distinct e = grind (arith, (not_first xs ys name distinct.1 e), (same_name x name), among_append)

    pub no_first : (name : List ℕ) → is_among ys name ≡ true → is_among xs name ≡ false
    no_first name e = not_first xs ys name distinct e

  rank_low : (xs : List (List ℕ)) (name : List ℕ) (i : ℕ) → rank_of xs name ≡ Some i → i < length xs
  rank_low [] name i e = cc
  rank_low (x ∷ xs) name i e = grind (arith, (rank_of xs name), (rank_low xs name))

  -- a name of the first part comes before one of the second
  pub first_less : (a b : List ℕ) → AreDistinct (xs ++ ys) → is_among xs a ≡ true → is_among ys b ≡ true → ((rank_order (xs ++ ys)).compare a b ≡ Less) × ((rank_order (xs ++ ys)).compare b a ≡ Greater)
  first_less a b distinct one two = grind (arith, rank_low, (known_rank (rank_of xs a) (among_ranked xs a ∙ one)), (known_rank (rank_of ys b) (among_ranked ys b ∙ two)), (rank_both xs ys a), (rank_both xs ys b), (no_first distinct b two))

-- ---- records of parts

-- the records of two texts
pub records_both : (one two : List ℕ) → StandsBefore one two → said_records (one ++ two) ≡ said_records one ++ said_records two
records_both one two ends = grind (arith, (lines_join 1 one two ends), flat_map-append, alike_records, alike_lines)

module _ (mine yours : Order) (P : List ℕ → Type 0) (agree : Agree mine yours P) (input : Input) where
  abbrev Mine : Option Locus → Type 0
  Mine None = Unit {0}
  Mine (Some last) = P last.chrom

  -- what is good depends on the order by the names that come alone
  pub agree_good : (last : Option Locus) (lines : List TextLine) → Mine last → AllByRecursion (λ r. P r.chrom) (records_on lines) → good_after (bed_format (sorting_of mine)) input last lines ≡ good_after (bed_format (sorting_of yours)) input last lines
  unfolding good_after line_says
  agree_good last [] m p = refl
  agree_good last (line ∷ lines) m p = grind (arith, (record_of line.text), all_front, all_back, (λ (now : Option Locus). agree_good now lines))

-- names of the entries of both parts
pub names_both : (ones twos : List Entry) → genome_names (ones ++ twos) ≡ genome_names ones ++ genome_names twos
names_both ones twos = grind (arith, map-append)

module _ (e_one e_two : List Entry) where
  pub agree_first : Agree (rank_order (genome_names (e_one ++ e_two))) (rank_order (genome_names e_one)) (Within (genome_names e_one) (genome_names (e_one ++ e_two)))
  agree_first = grind (arith, (names_both e_one e_two), rank_both, rank_none, among_append)

  module _ (distinct : AreDistinct (genome_names (e_one ++ e_two))) where
    pub apart_both : AreDistinct (genome_names e_one ++ genome_names e_two)
    apart_both = subst AreDistinct (names_both e_one e_two) distinct

    pub agree_second : Agree (rank_order (genome_names (e_one ++ e_two))) (rank_order (genome_names e_two)) (Within (genome_names e_two) (genome_names (e_one ++ e_two)))
    agree_second = grind (arith, (names_both e_one e_two), rank_both, no_first, among_append)

    pub entry_less : (a b : List ℕ) → is_among (genome_names e_one) a ≡ true → is_among (genome_names e_two) b ≡ true
        → ((rank_order (genome_names (e_one ++ e_two))).compare a b ≡ Less) × ((rank_order (genome_names (e_one ++ e_two))).compare b a ≡ Greater)
    entry_less a b one two = grind (arith, names_both, first_less)

    -- the records of the first part come before those of the second
    pub within_before : (ones twos : List Feature) → AllByRecursion (LiesWithin e_one (e_one ++ e_two)) ones → AllByRecursion (LiesWithin e_two (e_one ++ e_two)) twos → ComeBefore (rank_order (genome_names (e_one ++ e_two))) ones twos
    within_before ones twos one two = grind (arith, all_so, entry_less, among_ranked)

-- Which sequences the records of two parts belong to, record by record.

abbrev Names : Type 0
Names = List (List ℕ)

-- ---- one name among names

none_found : (name : List ℕ) (xs ys : Names) → sequences_behind name xs ≡ None → sequences_behind name (xs ++ ys) ≡ sequences_behind name ys
none_found name [] ys e = refl
none_found name (x ∷ xs) ys e = grind (arith, (none_found name xs ys))

pub off_found : (name : List ℕ) (xs : Names) → is_among xs name ≡ false → sequences_behind name xs ≡ None
off_found name [] e = refl
off_found name (x ∷ xs) e = grind (arith, (off_found name xs (or_parts (bytes_eq x name) (is_among xs name) e).1))

-- what isn't among names isn't among those after one of them
off_behind : (name other : List ℕ) (xs now : Names) → is_among xs name ≡ false → sequences_behind other xs ≡ Some now → (is_among now name ≡ false) × (bytes_eq other name ≡ false)
off_behind name other [] now off e = cc
off_behind name other (x ∷ xs) now off e = grind (arith, (off_behind name other xs now), (same_name x other))

-- ---- what records leave

pub leave_append : (left : Option Names) (last : Option (List ℕ)) (rs more : List Feature) → leave left last (rs ++ more) ≡ leave (leave left last rs) (last_tagged last rs) more
leave_append left last [] more = refl
leave_append left last (r ∷ rs) more = leave_append (one_leaves left last r) (Some r.chrom) rs more

-- after a block that belongs to none, all belong to none
none_tags : (last : Option (List ℕ)) (rs : List Feature) → tags chrom_of None last rs ≡ tag_items None rs
none_tags last [] = refl
none_tags last (r ∷ rs) = grind (arith, (none_tags (Some r.chrom) rs))

none_own : (rs : List Feature) → own_in (tag_items None rs) ≡ []
none_own [] = refl
none_own (r ∷ rs) = none_own rs

-- the first of the later records, put after the others, belongs to none
abbrev pub IsLost : Names → List Feature → List Feature → Type 0
IsLost names ones [] = ⊤
IsLost names ones (r ∷ twos) = leave (Some names) None (ones ++ r ∷ []) ≡ None

pub tags_first : (names : Names) (ones twos : List Feature) → IsLost names ones twos → tags_of names (ones ++ twos) ≡ tags_of names ones ++ tag_items None twos
tags_first names ones twos lost = grind (arith, (tags_append (Some names) None ones twos), (tags_of names ones), leave_append, none_tags)

-- the later records mask no sequence of the first part
pub own_first : (names : Names) (ones twos : List Feature) → IsLost names ones twos → own_records names (ones ++ twos) ≡ own_records names ones
own_first names ones twos lost = grind (arith, own_tagged, tags_first, flat_map-append, none_own, append-nil)

-- ---- after more names

pub next_more : (left now more : Names) (last : Option (List ℕ)) (r : Feature) → one_leaves (Some left) last r ≡ Some now → one_leaves (Some (left ++ more)) last r ≡ Some (now ++ more)
next_more left now more last r e = grind (arith, (owners_stay_so left more (r ∷ []) now))

leaves_more : (names more rest : Names) (rs : List Feature) → leave (Some names) None rs ≡ Some rest → leave (Some (names ++ more)) None rs ≡ Some (rest ++ more)
leaves_more names more rest rs e = grind (arith, leave_all, owners_stay_so)

-- if a name follows, no record masks the last sequence, nor decides a line of it
not_last : (bases : ℕ) (front : Names) (n : List ℕ) (ns : Names) (rs : List Feature) → (items_if_last (Some (front ++ n ∷ ns)) rs ≡ []) × (block_decides bases (Some (front ++ n ∷ ns)) rs ≡ false)
not_last bases [] n ns rs = (refl, refl)
not_last bases (m ∷ front) n ns rs = (refl, refl)

-- none of these
abbrev NoneOf : ℕ → List (Tagged Feature) → Type 0
NoneOf bases ts = (own_in ts ≡ []) × (list_any (tag_decides bases) ts ≡ false)

none_last : (bases : ℕ) (n : List ℕ) (ns left rest : Names) (last : Option (List ℕ)) (rs : List Feature) → leave (Some left) last rs ≡ Some rest → NoneOf bases (tags chrom_of (Some (left ++ n ∷ ns)) last rs)
none_last bases n ns left rest last [] e = (refl, refl)
none_last bases n ns left rest last (r ∷ rs) e = by_next (one_leaves (Some left) last r) refl e (λ now d. none_last bases n ns now rest (Some r.chrom) rs d)
  where
    by_next : (o : Option Names) → one_leaves (Some left) last r ≡ o → leave o (Some r.chrom) rs ≡ Some rest → ((now : Names) → leave (Some now) (Some r.chrom) rs ≡ Some rest → NoneOf bases (tags chrom_of (Some (now ++ n ∷ ns)) (Some r.chrom) rs)) → NoneOf bases (tags chrom_of (Some (left ++ n ∷ ns)) last (r ∷ rs))
    by_next None is e next = absurd (let apart : None ≡ Some rest = sym (none_leaves (Some r.chrom) rs) ∙ e in cc)
    by_next (Some now) is e next = grind (arith, (next_more left now (n ∷ ns) last r is), (not_last bases now n ns (r ∷ [])), (next now e))

-- records of the first part alone decide no line of the second
pub any_behind : (bases : ℕ) (names rest : Names) (n : List ℕ) (ns : Names) (ones : List Feature) → leave (Some names) None ones ≡ Some rest → list_any (tag_decides bases) (tags_of (names ++ n ∷ ns) ones) ≡ false
any_behind bases names rest n ns ones e = (none_last bases n ns names rest None ones e).1

-- the names left by the first records, then the block of the first of the later ones
pub next_enters : (rest more : Names) (last : Option (List ℕ)) (r : Feature) → one_leaves (Some rest) last r ≡ None → one_leaves (Some (rest ++ more)) last r ≡ sequences_behind r.chrom more
next_enters rest more last r e = grind (arith, none_found)

module _ (names rest : Names) (ones : List Feature) (kept : leave (Some names) None ones ≡ Some rest) where
  lost_next : (r : Feature) (rs : List Feature) → IsLost names ones (r ∷ rs) → one_leaves (Some rest) (last_tagged None ones) r ≡ None
  lost_next r rs lost = grind (arith, one_leaves, (last_tagged None ones), (leave_append (Some names) None ones (r ∷ [])))

  -- the first of the later records lies on another chromosome than the last of the first ones
  pub apart_next : (r : Feature) (rs : List Feature) → IsLost names ones (r ∷ rs) → is_last (last_tagged None ones) r.chrom ≡ false
  apart_next r rs lost = grind (arith, (lost_next r rs lost))

  later_tags : (more : Names) (twos : List Feature) → IsLost names ones twos → tags chrom_of (leave (Some (names ++ more)) None ones) (last_tagged None ones) twos ≡ tags_of more twos
  later_tags more [] lost = refl
  later_tags more (r ∷ rs) lost = grind (arith, (leaves_more names more rest ones kept), (next_enters rest more (last_tagged None ones) r (lost_next r rs lost)))

  -- what the later records leave, after the names of the first part
  pub later_leave : (more : Names) (r : Feature) (rs : List Feature) → IsLost names ones (r ∷ rs) → leave (Some (names ++ more)) None (ones ++ r ∷ rs) ≡ leave (Some more) None (r ∷ rs)
  later_leave more r rs lost = grind (arith, (leaves_more names more rest ones kept), next_enters, leave_append)

  -- whether all belong to a sequence
  pub both_owned : (more : Names) (twos : List Feature) → IsLost names ones twos → is_some (leave (Some (names ++ more)) None (ones ++ twos)) ≡ is_some (leave (Some more) None twos)
  both_owned more [] lost = grind (arith, (append-nil ones), (leaves_more names more rest ones kept))
  both_owned more (r ∷ rs) lost = ap is_some (grind (arith, (leaves_more names more rest ones kept), next_enters, leave_append))

  module _ (n : List ℕ) (ns : Names) (twos : List Feature) (lost : IsLost names ones twos) where
    -- a sequence of the second part is masked by its own records
    pub own_second : own_records (names ++ n ∷ ns) (ones ++ twos) ≡ own_records (n ∷ ns) twos
    own_second = grind (arith, own_tagged, (tags_append (Some (names ++ n ∷ ns)) None ones twos), (later_tags (n ∷ ns) twos lost), flat_map-append, (none_last 0 n ns names rest None ones kept))

    -- and its lines are decided by them
    pub any_second : (bases : ℕ) → list_any (tag_decides bases) (tags_of (names ++ n ∷ ns) (ones ++ twos)) ≡ list_any (tag_decides bases) (tags_of (n ∷ ns) twos)
    any_second bases = grind (arith, (tags_append (Some (names ++ n ∷ ns)) None ones twos), (later_tags (n ∷ ns) twos lost), list_any-append, (any_behind bases names rest n ns ones kept))

-- ---- names of one part alone

abbrev pub AreOff : Names → List Feature → Type 0
AreOff names rs = AllByRecursion (λ r. is_among names r.chrom ≡ false) rs

-- records without a sequence have none after it either
pub lost_more : (left more : Names) (last : Option (List ℕ)) (rs : List Feature) → AreOff more rs → leave (Some left) last rs ≡ None → leave (Some (left ++ more)) last rs ≡ None
lost_more left more last [] off e = cc
lost_more left more last (r ∷ rs) off e =
    grind (arith, (one_leaves (Some left) last r), next_enters, off_found, next_more, (λ (now : Names). lost_more now more (Some r.chrom) rs off.1))

-- a record that is named as no sequence belongs to none
lost_by : (left : Names) (last : Option (List ℕ)) (ones : List Feature) (r : Feature) → is_last last r.chrom ≡ false → is_among left r.chrom ≡ false → leave (Some left) last (ones ++ r ∷ []) ≡ None
lost_by left last [] r apart off = grind (arith, off_found)
lost_by left last (s ∷ ss) r apart off =
    grind (arith, (sequences_behind s.chrom left), none_leaves, off_behind, (same_name s.chrom r.chrom), (λ (now : Names). lost_by now (Some s.chrom) ss r))

pub lost_off : (names : Names) (ones twos : List Feature) → AreOff names twos → IsLost names ones twos
lost_off names ones twos off = grind (arith, lost_by)

-- fewer names own no more
pub left_fewer : (names more : Names) (rs : List Feature) → leave (Some (names ++ more)) None rs ≡ None → leave (Some names) None rs ≡ None
left_fewer names more rs lost = by_left (leave (Some names) None rs) refl
  where
    by_left : (o : Option Names) → leave (Some names) None rs ≡ o → o ≡ None
    by_left None e = refl
    by_left (Some rest) e = let more = leaves_more names more rest rs e in cc

pub lost_fewer : (names more : Names) (ones twos : List Feature) → IsLost (names ++ more) ones twos → IsLost names ones twos
lost_fewer names more ones twos lost = grind (arith, left_fewer)

-- after records that belong to none, none has a sequence
pub none_behind : (names : Names) (ones more : List Feature) → leave (Some names) None ones ≡ None → leave (Some names) None (ones ++ more) ≡ None
none_behind names ones more e = grind (arith, leave_append, none_leaves)

-- a record that belongs to none decides each line
any_none : (bases : ℕ) (left : Names) (last : Option (List ℕ)) (rs : List Feature) → leave (Some left) last rs ≡ None → list_any (tag_decides bases) (tags chrom_of (Some left) last rs) ≡ true
any_none bases left last [] e = cc
any_none bases left last (r ∷ rs) e = grind (arith, (one_leaves (Some left) last r), (λ (now : Names). any_none bases now (Some r.chrom) rs))

pub any_lost : (bases : ℕ) (names more own : Names) (rs : List Feature) → names ≡ own ++ more → leave (Some names) None rs ≡ None → list_any (tag_decides bases) (tags_of own rs) ≡ true
any_lost bases names more own rs is e = any_none bases own None rs (left_fewer own more rs (subst (λ ns. leave (Some ns) None rs ≡ None) is e))

-- Records of two parts, none of which lies on a chromosome of the other part.

-- no record of the one lies on a chromosome of the other
pub record Away (ones twos : List Interval) : Type 0 where
  pub first : AllByRecursion (λ r. has_records r.chrom twos ≡ false) ones
  pub second : AllByRecursion (λ s. has_records s.chrom ones ≡ false) twos

pub none_has : (name : List ℕ) (rs : List Interval) → AllByRecursion (λ r. bytes_eq r.chrom name ≡ false) rs → has_records name rs ≡ false
none_has name [] h = refl
none_has name (r ∷ rs) h = grind (arith, (none_has name rs h.1))

pub has_none : (name : List ℕ) (rs : List Interval) → has_records name rs ≡ false → AllByRecursion (λ r. bytes_eq r.chrom name ≡ false) rs
has_none name [] e = tt
has_none name (r ∷ rs) e = let parts = or_parts (bytes_eq r.chrom name) (has_records name rs) e in (parts.0, has_none name rs parts.1)

pub away_by : (ones twos : List Interval) → AllByRecursion (λ r. AllByRecursion (λ s. bytes_eq r.chrom s.chrom ≡ false) twos) ones → Away ones twos
away_by ones twos h = record {
  first = all_so _ _ ones (λ r k. none_has r.chrom twos (all_so _ _ twos (λ s e. name_ne-sym r.chrom s.chrom e) k)) h;
  second = all_so _ _ twos (λ s k. none_has s.chrom ones k) (all_swapped (λ r s. bytes_eq r.chrom s.chrom ≡ false) ones twos h);
}

-- the last of the records is one of them
pub last_is : (P : Interval → Type 0) (q : Interval) (qs : List Interval) → AllByRecursion P (q ∷ qs) → P (last_from q qs)
last_is P q [] h = h.0
last_is P q (s ∷ ss) h = last_is P s ss h.1

pub last_behind : (ones : List Interval) (q : Interval) (qs : List Interval) → last_of (ones ++ q ∷ qs) ≡ Some (last_from q qs)
last_behind [] q qs = refl
last_behind (r ∷ []) q qs = refl
last_behind (r ∷ s ∷ ss) q qs = last_behind (s ∷ ss) q qs

pub has_append : (name : List ℕ) (xs ys : List Interval) → has_records name (xs ++ ys) ≡ (has_records name xs || has_records name ys)
has_append name [] ys = refl
has_append name (x ∷ xs) ys = grind (arith, (has_append name xs ys))

module _ (order : Order) (total : IsTotal order) where
  pub names_apart : (ones twos : List Feature) → AllByRecursion (λ r. IsTrue (order.knows r.chrom)) ones → Earlier order total ones twos → AllByRecursion (λ a. AllByRecursion (λ b. bytes_eq a.chrom b.chrom ≡ false) twos) ones
  names_apart [] twos known early = tt
  names_apart (a ∷ ones) twos known early = (all_so _ _ twos (λ b less. search rules) early.0, names_apart ones twos known.1 early.1)

  pub records_away : (ones twos : List Feature) → ArePlaced order (intervals_of ones) → Earlier order total ones twos → Away (intervals_of ones) (intervals_of twos)
  records_away ones twos placed early = away_by (intervals_of ones) (intervals_of twos) (grind (arith, all_map, all_so, (names_apart ones twos (all_unmap _ interval_of ones (placed_known order (intervals_of ones) placed)) early)))

  first_before : (r : Feature) (twos : List Feature) → AllByRecursion (λ s. order.compare r.chrom s.chrom ≡ Less) twos → IsPlacedBefore order (interval_of r) (intervals_of twos)
  first_before r [] h = tt
  first_before r (s ∷ twos) h = inl h.0

  pub placed_both : (ones twos : List Feature) → ArePlaced order (intervals_of ones) → ArePlaced order (intervals_of twos) → Earlier order total ones twos → ArePlaced order (intervals_of (ones ++ twos))
  placed_both [] twos one two early = two
  placed_both (r ∷ []) twos one two early = (one.0, first_before r twos early.0, two)
  placed_both (r ∷ s ∷ ones) twos one two early = (one.0, one.1, placed_both (s ∷ ones) twos one.2 two early.1)

  pub names_behind : (ones twos : List Feature) → AllByRecursion (λ r. IsTrue (order.knows r.chrom)) ones → Earlier order total ones twos → AllByRecursion (λ a. AllByRecursion (λ b. bytes_eq a.chrom b.chrom ≡ false) ones) twos
  names_behind ones twos known early =
      all_swapped (λ b a. bytes_eq a.chrom b.chrom ≡ false) ones twos
      (all_so _ _ ones (λ b k. all_so _ _ twos (λ a e. name_ne-sym b.chrom a.chrom e) k) (names_apart ones twos known early))
