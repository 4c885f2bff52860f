-- What intersect and subtract write is an input of the next command, and what is read of it.
use Rattle.bt_lines.proofs.Std.{◌≡◌, ℕ, ◌+◌, ◌-◌, ◌<◌, ◌≤◌, true, false, not, List, [], ◌∷◌, ◌++◌, map, filter, length, max, min, refl, sym, ap, ap₂, ◌∙◌, subst, inl, inr, arith, append_assoc, append-nil, decimal, IsTrue, flat_map, AllByRecursion, bytes_decides, flat_map-append, rules, eqb, replicate, ends_with_byte, strip_last, map-append, slice_split_at}
use Rattle.bt_lines.specs.calls.Line.{NoLineFeed}
use Rattle.bt_bed.specs.model.Feature.{Feature, interval_of, intervals_of, Interval, Span}
use Rattle.bt_bed.specs.model.Positions.{AreApartFrom, IsCovered}
use Rattle.bt_bed.specs.model.BedLine.{says_nothing, bed_text, cut_to, kept_columns, strand_named}
use Rattle.bt_bed.specs.calls.Orders.{ArePlaced, IsTotal}
use Rattle.bt_bed.specs.model.Order.{Order}
use Rattle.bt_sweep.specs.model.Hits.{is_hit, hits_among, shared_bases}
use Rattle.bt_sweep.specs.model.Lines.{cut, hit_line, intersect, lines_for, lines_of, pieces}
use Rattle.bt_sweep.specs.calls.LineLaws.{IsLeft}
use Rattle.bt_sweep.specs.declared.hits.hit_rule.HitRule.{HitRule}
use Rattle.bt_sweep.specs.declared.output.shape.Shape.{Shape}
use Rattle.bt_sweep.specs.declared.output.shape.Shape.TheVariants.{Count, Cut, CutAndB, Missing, Once, OrigA, OrigBoth, Overlap, Pieces, Whole}
use Rattle.bt_sweep.proofs.lemmas.definitions.PieceLemmas.{are_pieces}
use Rattle.bt_sweep.proofs.lemmas.definitions.HitLemmas.{hit_overlaps, overlap_parts}
use Rattle.bt_laws.specs.Pipes.{begins_with_a, AreDisjoint, IsInput, is_no_header, EndsPlain, KeepsStrand, TakesNoStrand, copies_written, is_a_alone, line_count, read_alone, read_before, records_for, records_written}
use Rattle.bt_runs.proofs.lemmas.Lists.{EachPair, all_any, all_flat_map, all_map, all_so, filter_all, all_zip, map_map, all_unmap, flat_map_same, map_flat}
use Rattle.bt_laws.proofs.lemmas.pipes.LinesBack.{clear_both, clear_number, Columns, IsColumns, lines_back, record_back, text_of_columns, placed_known, IsSaid, tail_clear, strip_number, kept_by, name_first, record_with, strip_both, strip_columns}
use Rattle.bt_laws.proofs.lemmas.pipes.Placing.{IsBehind, UpTo, apart_spread, pairs_any, pairs_filter, pairs_flat, pairs_from_map, pairs_map, pairs_placed, pairs_so, pairs_weaker, placed_pairs, spread_pairs}
use Rattle.bt_lines.specs.model.Lines.{pieces as columns_of}
use Rattle.bt_lines.proofs.lemmas.reader.lines.TextLemmas.{IsColumn}
use Rattle.bt_bed.specs.calls.Features.{columns_in, is_kept}
use Rattle.bt_bed.specs.declared.record.strand.Strand.TheVariants.{Dot}
use Rattle.bt_bed.proofs.lemmas.parse.FeatureLemmas.{kept_is_cut, pieces_are_columns}
use Rattle.bt_bed.proofs.lemmas.read.ColumnLemmas.{kept_again}
use Rattle.bt_laws.proofs.lemmas.single.Records.{IsDigit, decimal_digits, number_column, columns_text, line_columns}

-- ---- the lines as columns

abbrev pub columns_at : Feature → List ℕ → Columns
columns_at a tail = record { at = interval_of a; tail = tail }

unfoldable pub hit_columns : Shape → Feature → Feature → Columns
hit_columns Cut a b = columns_at (cut a b) a.rest
hit_columns OrigA a b = columns_at a a.rest
hit_columns CutAndB a b = columns_at (cut a b) (a.rest ++ 9 ∷ bed_text b)
hit_columns OrigBoth a b = columns_at a (a.rest ++ 9 ∷ bed_text b)
hit_columns Overlap a b = columns_at a (a.rest ++ 9 ∷ (bed_text b ++ 9 ∷ decimal (shared_bases a b)))
hit_columns Once a b = columns_at a a.rest
hit_columns Missing a b = columns_at a a.rest
hit_columns Count a b = columns_at a a.rest
hit_columns Pieces a b = columns_at a a.rest
hit_columns Whole a b = columns_at a a.rest

unfoldable pub piece_columns : Feature → Span → Columns
piece_columns a p = columns_at (cut_to p.start p.stop a) a.rest

unfoldable pub columns_for : Shape → Feature → List Feature → List Columns
columns_for Cut a found = map (hit_columns Cut a) found
columns_for OrigA a found = map (hit_columns OrigA a) found
columns_for CutAndB a found = map (hit_columns CutAndB a) found
columns_for OrigBoth a found = map (hit_columns OrigBoth a) found
columns_for Overlap a found = map (hit_columns Overlap a) found
columns_for Once a [] = []
columns_for Once a (b ∷ more) = columns_at a a.rest ∷ []
columns_for Missing a [] = columns_at a a.rest ∷ []
columns_for Missing a (b ∷ more) = []
columns_for Count a found = columns_at a (a.rest ++ 9 ∷ decimal (length found)) ∷ []
columns_for Pieces a found = map (piece_columns a) (pieces a found)
columns_for Whole a [] = columns_at a a.rest ∷ []
columns_for Whole a (b ∷ more) = []

abbrev pub line_text : Columns → List ℕ
line_text line = text_of_columns line ++ 10 ∷ []

map_lines : {B : Type 0} (f : B → List ℕ) (g : B → Columns) (bs : List B) → ((b : B) → f b ≡ line_text (g b)) → flat_map f bs ≡ flat_map line_text (map g bs)
map_lines f g [] h = refl
map_lines f g (b ∷ bs) h = ap₂ (λ x y. x ++ y) (h b) (map_lines f g bs h)

alone_text : (line : Columns) → line_text line ≡ flat_map line_text (line ∷ [])
alone_text line = sym (append-nil (line_text line))

lines_as : (shape : Shape) (a : Feature) (found : List Feature) → lines_of shape a found ≡ flat_map line_text (columns_for shape a found)
unfolding columns_for hit_columns piece_columns
lines_as Cut a found = grind (arith, map_lines)
lines_as OrigA a found = grind (arith, map_lines)
lines_as CutAndB a found = grind (arith, map_lines, append_assoc)
lines_as OrigBoth a found = grind (arith, map_lines, append_assoc)
lines_as Overlap a found = map_lines (hit_line Overlap a) (hit_columns Overlap a) found (λ b. simp append_assoc)
lines_as Once a [] = refl
lines_as Once a (b ∷ more) = alone_text (columns_at a a.rest)
lines_as Missing a [] = alone_text (columns_at a a.rest)
lines_as Missing a (b ∷ more) = refl
lines_as Count a found = grind (arith, append_assoc)
lines_as Pieces a found = grind (arith, map_lines)
lines_as Whole a [] = alone_text (columns_at a a.rest)
lines_as Whole a (b ∷ more) = refl

module _ (shape : Shape) (rule : HitRule) (second : List Feature) where
  unfoldable pub part : Feature → List Columns
  part a = columns_for shape a (hits_among rule a second)

  unfoldable pub all_columns : List Feature → List Columns
  all_columns first = flat_map part first

  text_as : (first : List Feature) → intersect shape rule first second ≡ flat_map line_text (all_columns first)
  unfolding lines_for part all_columns
  text_as [] = refl
  text_as (a ∷ first) = grind (arith, (text_as first), lines_as, flat_map-append)

-- ---- each is written so

clear_record : (b : Feature) → IsSaid b → NoLineFeed (bed_text b)
clear_record b is = grind (arith, tail_clear)

abbrev pub Hit : HitRule → Feature → Feature → Type 0
Hit rule a b = IsSaid b × (is_hit rule a b ≡ true)

pub cut_bounds : (rule : HitRule) (a b : Feature) → is_hit rule a b ≡ true → max a.start b.start < min a.stop b.stop
cut_bounds rule a b h = grind (arith, hit_overlaps)

pub same_name : (rule : HitRule) (a b : Feature) → is_hit rule a b ≡ true → a.chrom ≡ b.chrom
same_name rule a b h = (bytes_decides a.chrom b.chrom).0 (overlap_parts a b (hit_overlaps rule a b h)).0

module _ (rule : HitRule) (a : Feature) (is : IsSaid a) where
  hit_is : (shape : Shape) (b : Feature) → Hit rule a b → IsColumns (hit_columns shape a b)
  unfolding hit_columns
  hit_is shape b hit = grind (arith, cut_bounds, clear_both, clear_record, clear_number)

  hits_are : (shape : Shape) (found : List Feature) → AllByRecursion (Hit rule a) found → AllByRecursion IsColumns (map (hit_columns shape a) found)
  hits_are shape found h = all_map IsColumns (hit_columns shape a) found (all_so (Hit rule a) (λ b. IsColumns (hit_columns shape a b)) found (λ b k. hit_is shape b k) h)

  -- the pieces lie in the record
  pieces_in : (first : ℕ) (found : List Feature) (ps : List Span) → AreApartFrom first ps → ((p : ℕ) → IsCovered ps p → IsLeft a found p) → AllByRecursion (λ (p : Span). (a.start ≤ p.start) × (p.start < p.stop) × (p.stop ≤ a.stop)) ps
  pieces_in first found [] apart h = tt
  pieces_in first found (p ∷ ps) apart h =
      let begin = h p.start (inl (omega arith, apart.1)) in
      let last = h (p.stop - 1) (inl (omega (arith, apart.1), omega (arith, apart.1))) in
      ((begin.from_start, apart.1, omega (arith, last.before_stop, apart.1)), pieces_in (p.stop + 1) found ps apart.2 (λ q c. h q (inr c)))

  pub piece_bounds : (found : List Feature) → AllByRecursion (λ (p : Span). (a.start ≤ p.start) × (p.start < p.stop) × (p.stop ≤ a.stop)) (pieces a found)
  piece_bounds found = let are = are_pieces a found in pieces_in 0 found (pieces a found) are.apart are.within

  part_is : (shape : Shape) (found : List Feature) → AllByRecursion (Hit rule a) found → AllByRecursion IsColumns (columns_for shape a found)
  unfolding columns_for piece_columns
  part_is shape found h = grind (arith, hits_are, clear_both, clear_number, all_map, all_so, piece_bounds)

-- ---- which are hits

pub all_hits : (rule : HitRule) (a : Feature) (bs : List Feature) → AllByRecursion IsSaid bs → AllByRecursion (Hit rule a) (hits_among rule a bs)
all_hits rule a [] h = tt
all_hits rule a (b ∷ bs) h = grind (arith, (all_hits rule a bs h.1))

-- ---- where the lines of one record lie, if they begin with it

part_at : (shape : Shape) (a : Feature) (found : List Feature) → begins_with_a shape ≡ true → AllByRecursion (λ (line : Columns). line.at ≡ interval_of a) (columns_for shape a found)
unfolding columns_for hit_columns
part_at shape a found begins = grind (arith, all_map, all_any)

no_headers : (lines : List Columns) → AllByRecursion (λ (line : Columns). says_nothing line.at.chrom ≡ false) lines → filter is_no_header (map record_back lines) ≡ map record_back lines
no_headers lines h = filter_all is_no_header (map record_back lines) (all_map (λ r. is_no_header r ≡ true) record_back lines (all_so (λ (line : Columns). says_nothing line.at.chrom ≡ false) (λ line. not (says_nothing line.at.chrom) ≡ true) lines (λ line e. ap not e) h))

pub pairs_of_places : (order : Order) (total : IsTotal order) (as_read : List Feature) → EachPair (UpTo order total) (intervals_of as_read) → EachPair (λ (a b : Feature). UpTo order total (interval_of a) (interval_of b)) as_read
pairs_of_places order total as_read h = grind (arith, pairs_from_map)

-- the names of all lines are those of records that were read
part_named : (shape : Shape) (a : Feature) (found : List Feature) → AllByRecursion (λ (line : Columns). line.at.chrom ≡ a.chrom) (columns_for shape a found)
unfolding columns_for hit_columns piece_columns
part_named shape a found = grind (arith, all_map, all_any)

-- ---- lines of records in order

module _ (order : Order) (total : IsTotal order) where
  abbrev LineUpTo : Columns → Columns → Type 0
  LineUpTo k l = UpTo order total k.at l.at

  module _ (part : Feature → List Columns) (Of : Feature → Columns → Type 0) (Follows : Feature → Feature → Type 0) (first : List Feature) (of : AllByRecursion (λ a. AllByRecursion (Of a) (part a)) first) (follow : EachPair Follows first) where
    cross_all : (R : Columns → Columns → Type 0) → ((a b : Feature) (k l : Columns) → Follows a b → Of a k → Of b l → R k l) → EachPair (λ a b. AllByRecursion (λ k. AllByRecursion (R k) (part b)) (part a)) first
    cross_all R f = pairs_so (λ a. AllByRecursion (Of a) (part a)) Follows (λ a b. AllByRecursion (λ k. AllByRecursion (R k) (part b)) (part a)) first
        (λ a b one two follows. all_so (Of a) (λ k. AllByRecursion (R k) (part b)) (part a) (λ k w. all_so (Of b) (R k) (part b) (λ l v. f a b k l follows w v) two) one) of follow

    lines_placed : ((a : Feature) (line : Columns) → Of a line → line.at.chrom ≡ a.chrom) → ((a b : Feature) (k l : Columns) → Follows a b → Of a k → Of b l → LineUpTo k l)
        → AllByRecursion (λ (a : Feature). IsTrue (order.knows a.chrom)) first → AllByRecursion (λ a. EachPair LineUpTo (part a)) first → ArePlaced order (map (λ (line : Columns). line.at) (flat_map part first))
    lines_placed named cross known own = pairs_placed order total (map (λ (line : Columns). line.at) (flat_map part first))
        (all_map (λ (r : Interval). IsTrue (order.knows r.chrom)) (λ (line : Columns). line.at) (flat_map part first)
        (all_flat_map (λ (line : Columns). IsTrue (order.knows line.at.chrom)) part first
        (all_zip (λ a. AllByRecursion (Of a) (part a)) (λ (a : Feature). IsTrue (order.knows a.chrom)) (λ a. AllByRecursion (λ (line : Columns). IsTrue (order.knows line.at.chrom)) (part a)) first
        (λ a all k. all_so (Of a) (λ (line : Columns). IsTrue (order.knows line.at.chrom)) (part a) (λ line is. subst (λ name. IsTrue (order.knows name)) (sym (named a line is)) k) all) of known)))
        (pairs_map (UpTo order total) (λ (line : Columns). line.at) (flat_map part first) (pairs_flat LineUpTo part first own (cross_all LineUpTo cross)))

module _ (order : Order) (total : IsTotal order) (shape : Shape) (rule : HitRule) (first second : List Feature) (said : AllByRecursion IsSaid first) (said_second : AllByRecursion IsSaid second) (placed : ArePlaced order (intervals_of first)) where
  lines : List Columns
  lines = all_columns shape rule second first

  all_are : AllByRecursion IsColumns lines
  unfolding lines all_columns part
  all_are = grind (arith, all_flat_map, all_so, part_is, all_hits)

  all_named : AllByRecursion (λ (line : Columns). says_nothing line.at.chrom ≡ false) lines
  unfolding lines all_columns part
  all_named = grind (arith, all_flat_map, all_so, part_named)

  lines_input : ArePlaced order (map (λ (line : Columns). line.at) lines) → IsInput order (intersect shape rule first second) (map record_back lines)
  unfolding lines
  lines_input at = grind (arith, text_as, no_headers, all_named, lines_back, all_are)

  -- lines that begin with records of the first input
  module _ (begins : begins_with_a shape ≡ true) where
    pub kept_back : IsInput order (intersect shape rule first second) (map record_back (all_columns shape rule second first))
    unfolding lines all_columns part
    kept_back =
        let at : AllByRecursion (λ a. AllByRecursion (λ (line : Columns). line.at ≡ interval_of a) (part shape rule second a)) first = all_any _ first (λ a. part_at shape a (hits_among rule a second) begins) in
        lines_input (lines_placed order total (part shape rule second) (λ a line. line.at ≡ interval_of a) (λ a b. UpTo order total (interval_of a) (interval_of b)) first at (pairs_of_places order total first (placed_pairs order total (intervals_of first) placed))
        (λ a line is. ap (λ (r : Interval). r.chrom) is) (λ a b k l up one two. rw (one, two) up) (all_unmap _ interval_of first (placed_known order (intervals_of first) placed))
        (all_so (λ a. AllByRecursion (λ (line : Columns). line.at ≡ interval_of a) (part shape rule second a)) (λ a. EachPair (LineUpTo order total) (part shape rule second a)) first (λ a all. pairs_any (λ (line : Columns). line.at ≡ interval_of a) (LineUpTo order total) (part shape rule second a) (λ k l one two. rw (one, two) (inr (refl, omega arith))) all) at))

-- ---- lines whose start and end are cut, of records that have no base in common

pieces_behind : (a : Feature) (found : List Feature) → EachPair (IsBehind 1) (pieces a found)
pieces_behind a found = spread_pairs 1 0 (pieces a found) (apart_spread 0 (pieces a found) (are_pieces a found).apart)

pairs_zip : {A : Type 0} (R S : A → A → Type 0) (xs : List A) → EachPair R xs → EachPair S xs → EachPair (λ x y. R x y × S x y) xs
pairs_zip R S [] h k = tt
pairs_zip R S (x ∷ xs) h k = grind (arith, all_zip, (pairs_zip R S xs h.1 k.1))

-- a line lies within the record
pub record IsWithin (a : Feature) (line : Columns) : Type 0 where
  pub same : line.at.chrom ≡ a.chrom
  pub from_start : a.start ≤ line.at.start
  pub non_empty : line.at.start < line.at.stop
  pub to_stop : line.at.stop ≤ a.stop

cut_within : (rule : HitRule) (a b : Feature) (tail : List ℕ) → Hit rule a b → IsWithin a (columns_at (cut a b) tail)
cut_within rule a b tail hit = grind (arith, (cut_bounds rule a b hit.1))

part_within : (shape : Shape) (rule : HitRule) (a : Feature) (is : IsSaid a) (found : List Feature) → begins_with_a shape ≡ false → AllByRecursion (Hit rule a) found → AllByRecursion (IsWithin a) (columns_for shape a found)
unfolding columns_for hit_columns piece_columns
part_within Cut rule a is found e h = all_map (IsWithin a) (hit_columns Cut a) found (all_so (Hit rule a) (λ b. IsWithin a (hit_columns Cut a b)) found (λ b k. cut_within rule a b a.rest k) h)
part_within CutAndB rule a is found e h = all_map (IsWithin a) (hit_columns CutAndB a) found (all_so (Hit rule a) (λ b. IsWithin a (hit_columns CutAndB a b)) found (λ b k. cut_within rule a b (a.rest ++ 9 ∷ bed_text b) k) h)
part_within Pieces rule a is found e h = grind (arith, all_map, all_so, (piece_bounds rule a is found))
part_within _ rule a is found e h = cc

-- starts that don't fall
abbrev Rise : Feature → Feature → Type 0
Rise b c = b.start ≤ c.start

module _ (order : Order) (total : IsTotal order) where
  hits_rise : (rule : HitRule) (a : Feature) (bs : List Feature) → IsTrue (order.knows a.chrom) → AllByRecursion IsSaid bs → ArePlaced order (intervals_of bs) → EachPair Rise (hits_among rule a bs)
  hits_rise rule a bs known said placed = grind (arith, pairs_so, same_name, (all_hits rule a bs said), pairs_filter, (pairs_of_places order total bs (placed_pairs order total (intervals_of bs) placed)))

  part_rises : (shape : Shape) (a : Feature) (found : List Feature) → begins_with_a shape ≡ false → EachPair Rise found → EachPair (LineUpTo order total) (columns_for shape a found)
  unfolding columns_for hit_columns piece_columns
  part_rises shape a found e h = grind (arith, pairs_map, pairs_weaker, (pieces_behind a found))

  abbrev FollowsApart : Feature → Feature → Type 0
  FollowsApart a b = UpTo order total (interval_of a) (interval_of b) × AreDisjoint (interval_of a) (interval_of b)

  cross_up : (a b : Feature) (k l : Columns) → FollowsApart a b → IsWithin a k → IsWithin b l → LineUpTo order total k l
  cross_up a b k l p1 one two = grind arith

  cross_apart : (a b : Feature) (k l : Columns) → FollowsApart a b → IsWithin a k → IsWithin b l → AreDisjoint k.at l.at
  cross_apart a b k l follows one two same = grind arith

  module _ (shape : Shape) (rule : HitRule) (first second : List Feature) (said : AllByRecursion IsSaid first) (said_second : AllByRecursion IsSaid second) (placed : ArePlaced order (intervals_of first)) (placed_second : ArePlaced order (intervals_of second))
      (apart : EachPair AreDisjoint (intervals_of first)) (cuts : begins_with_a shape ≡ false) where
    abbrev cut_part : Feature → List Columns
    cut_part a = columns_for shape a (hits_among rule a second)

    all_within : AllByRecursion (λ a. AllByRecursion (IsWithin a) (cut_part a)) first
    all_within = grind (arith, all_so, part_within, all_hits)

    follow_apart : EachPair FollowsApart first
    follow_apart = grind (arith, pairs_zip, (pairs_of_places order total first (placed_pairs order total (intervals_of first) placed)), (placed_pairs order total (intervals_of first) placed), (pairs_from_map AreDisjoint interval_of first apart))

    cut_lines : List Columns
    cut_lines = flat_map cut_part first

    cut_placed : ArePlaced order (map (λ (line : Columns). line.at) cut_lines)
    unfolding cut_lines
    cut_placed =
        let known = all_unmap _ interval_of first (placed_known order (intervals_of first) placed) in
        lines_placed order total cut_part IsWithin FollowsApart first all_within follow_apart (λ a line w. w.same) cross_up known
        (all_so _ (λ a. EachPair (LineUpTo order total) (cut_part a)) first (λ a k. part_rises shape a (hits_among rule a second) cuts (hits_rise rule a second k said_second placed_second)) known)

  pub cut_back : (shape : Shape) (rule : HitRule) (first second : List Feature) (said : AllByRecursion IsSaid first) (said_second : AllByRecursion IsSaid second) (placed : ArePlaced order (intervals_of first)) (placed_second : ArePlaced order (intervals_of second))
      (apart : EachPair AreDisjoint (intervals_of first)) (cuts : begins_with_a shape ≡ false) → IsInput order (intersect shape rule first second) (map record_back (all_columns shape rule second first))
  unfolding cut_lines lines all_columns part
  cut_back shape rule first second said said_second placed placed_second apart cuts =
      lines_input order total shape rule first second said said_second placed (cut_placed shape rule first second said said_second placed placed_second apart cuts)

  -- pieces of records that have no base in common have none
  pub pieces_back : (rule : HitRule) (first second : List Feature) → AllByRecursion IsSaid first → AllByRecursion IsSaid second → ArePlaced order (intervals_of first) → ArePlaced order (intervals_of second)
      → EachPair AreDisjoint (intervals_of first) → EachPair AreDisjoint (intervals_of (map record_back (all_columns Pieces rule second first)))
  unfolding cut_lines lines all_columns part columns_for piece_columns
  pieces_back rule first second said said_second placed placed_second apart =
      let cut = cut_lines Pieces rule first second said said_second placed placed_second apart refl in
      subst (EachPair AreDisjoint) (sym (map_map record_back interval_of (λ line. line.at) cut (all_any _ cut (λ line. refl))))
      (pairs_map AreDisjoint (λ (line : Columns). line.at) cut
      (pairs_flat (λ k l. AreDisjoint k.at l.at) (λ a. map (piece_columns a) (pieces a (hits_among rule a second))) first
      (all_any _ first (λ a. pairs_map (λ k l. AreDisjoint k.at l.at) (piece_columns a) (pieces a (hits_among rule a second))
      (pairs_weaker (IsBehind 1) (λ s t. AreDisjoint (piece_columns a s).at (piece_columns a t).at) (pieces a (hits_among rule a second))
      (λ s t up same. omega (arith, up.1)) (pieces_behind a (hits_among rule a second)))))
      (cross_all order total (cut_part Pieces rule first second said said_second placed placed_second apart refl) IsWithin FollowsApart first (all_within Pieces rule first second said said_second placed placed_second apart refl)
      (follow_apart Pieces rule first second said said_second placed placed_second apart refl) (λ k l. AreDisjoint k.at l.at) cross_apart)))

-- The records that the lines of intersect and subtract are read as.

-- ---- the columns of a line, read again

pub all_read : (shape : Shape) (rule : HitRule) (first second : List Feature) → map record_back (all_columns shape rule second first) ≡ records_written shape rule first second
unfolding all_columns part columns_for hit_columns piece_columns
all_read shape rule first second = grind (arith, map_flat, map_map, all_any, record_with, strip_both)

-- ---- copies of a record

-- what each of some records has in common with a
same_copies : {X : Type 0} (h : Feature → X) (f : Feature → Feature) (a : Feature) (found : List Feature) → AllByRecursion (λ b. h (f b) ≡ h a) found → map h (map f found) ≡ map h (replicate (length found) a)
same_copies h f a [] e = refl
same_copies h f a (b ∷ found) e = ap₂ (λ x y. x ∷ y) e.0 (same_copies h f a found e.1)

same_all : (f : Feature → Feature) (a : Feature) (found : List Feature) → ((b : Feature) → f b ≡ a) → map f found ≡ replicate (length found) a
same_all f a [] e = refl
same_all f a (b ∷ found) e = ap₂ (λ x y. x ∷ y) (e b) (same_all f a found e)

map_flat_same : {X : Type 0} (h : Feature → X) (f g : Feature → List Feature) (first : List Feature) → AllByRecursion (λ a. map h (f a) ≡ map h (g a)) first → map h (flat_map f first) ≡ map h (flat_map g first)
map_flat_same h f g [] e = refl
map_flat_same h f g (a ∷ first) e = grind (arith, (map-append h (f a) (flat_map f first)), (map_flat_same h f g first e.1), (map-append h (g a) (flat_map g first)))

-- ---- places

pub places_stay : (shape : Shape) (rule : HitRule) (first second : List Feature) → begins_with_a shape ≡ true → intervals_of (records_written shape rule first second) ≡ intervals_of (copies_written shape rule first second)
places_stay shape rule first second e = grind (arith, map_flat_same, all_any, same_copies)

-- ---- records alone

alone_same : (a : Feature) → IsSaid a → EndsPlain a → read_alone a ≡ a
alone_same a is plain = grind arith

pub records_stay : (shape : Shape) (rule : HitRule) (first second : List Feature) → is_a_alone shape ≡ true → AllByRecursion IsSaid first → AllByRecursion EndsPlain first → records_written shape rule first second ≡ copies_written shape rule first second
records_stay shape rule first second e said plain =
    flat_map_same (λ a. records_for shape a (hits_among rule a second)) (λ a. replicate (line_count shape (length (hits_among rule a second))) a) first
    (all_zip IsSaid EndsPlain (λ a. records_for shape a (hits_among rule a second) ≡ replicate (line_count shape (length (hits_among rule a second))) a) first
    (λ a is ends. grind (arith, same_all)) said plain)

-- ---- a number is a column, and names no strand

digits_unsigned : (ds : List ℕ) → AllByRecursion IsDigit ds → strand_named ds ≡ Dot
digits_unsigned ds h = search rules

pub number_unsigned : (n : ℕ) → strand_named (decimal n) ≡ Dot
number_unsigned n = digits_unsigned (decimal n) (decimal_digits n)

-- ---- the columns of a text that goes on

more_from : (x : List ℕ) (xs : List (List ℕ)) → IsColumn x → AllByRecursion IsColumn xs → (text : List ℕ) → columns_of 9 ((x ++ kept_columns xs) ++ 9 ∷ text) ≡ x ∷ (xs ++ columns_of 9 text)
more_from x [] h hs text = grind (arith, (append-nil x), slice_split_at, eqb)
more_from x (y ∷ ys) h hs text = grind (arith, (more_from y ys hs.0 hs.1 text), append_assoc, slice_split_at)

more_columns : (xs : List (List ℕ)) → AllByRecursion IsColumn xs → (text : List ℕ) → columns_in (kept_columns xs ++ 9 ∷ text) ≡ xs ++ columns_of 9 text
more_columns [] h text = refl
more_columns (x ∷ xs) h text = more_from x xs h.0 h.1 text

columns_both : (rest text : List ℕ) → IsTrue (is_kept rest) → columns_in (rest ++ 9 ∷ text) ≡ columns_in rest ++ columns_of 9 text
columns_both rest text kept = grind (arith, (kept_again rest kept), more_columns, pieces_are_columns)

-- ---- strands

some_both : (xs ys : List ℕ) → 0 < length xs → 0 < length (xs ++ ys)
some_both [] ys some = absurd (omega (arith, some))
some_both (x ∷ xs) ys some = omega arith

module _ (a : Feature) (is : IsSaid a) where
  after_number : (n : ℕ) → (read_before (decimal n) a).strand ≡ a.strand
  after_number n = grind (arith, (append-nil (decimal n)), (kept_is_cut (decimal n) [] (number_column n) tt), strip_number, columns_both, number_unsigned)

  module _ (rule : HitRule) (unsigned : length (columns_in a.rest) ≡ 2 → strand_named a.chrom ≡ Dot) (b : Feature) (hit : Hit rule a b) where
    same_unsigned : length (columns_in a.rest) ≡ 2 → strand_named b.chrom ≡ Dot
    same_unsigned two = grind (arith, same_name)

    both_strand : (read_before (bed_text b) a).strand ≡ a.strand
    both_strand =
        let said = hit.0.feature in
        let text : strip_last 13 (9 ∷ bed_text b) ≡ 9 ∷ columns_text b.chrom b.start b.stop (strip_last 13 b.rest) =
        strip_both 13 (9 ∷ []) (bed_text b) (subst (λ l. 0 < length l) (sym (name_first b.chrom b.start b.stop said.named said.non_empty said.in_range b.rest)) (some_both b.chrom (9 ∷ (decimal b.start ++ 9 ∷ (decimal b.stop ++ b.rest))) said.named.some))
        ∙ ap (λ l. 9 ∷ l) (strip_columns b.chrom b.start b.stop said.named said.non_empty said.in_range b.rest) in
        grind (arith, columns_both, line_columns, number_unsigned, (kept_by b.chrom b.start b.stop said.named said.non_empty said.in_range b.rest (ends_with_byte 13 b.rest) refl said.kept (strip_last 13 b.rest) refl), same_unsigned)

    overlap_strand : (n : ℕ) → (read_before (bed_text b ++ 9 ∷ decimal n) a).strand ≡ a.strand
    overlap_strand n = grind (arith, (strip_both 13 (9 ∷ bed_text b) (9 ∷ decimal n) (omega arith)), (strip_number n), append_assoc, columns_both, line_columns, number_unsigned, same_unsigned)

  strands_for : (rule : HitRule) (shape : Shape) (found : List Feature) → begins_with_a shape ≡ true → is_a_alone shape ≡ false → TakesNoStrand shape a → AllByRecursion (Hit rule a) found
      → map (λ (r : Feature). r.strand) (records_for shape a found) ≡ map (λ (r : Feature). r.strand) (replicate (line_count shape (length found)) a)
  strands_for rule shape found begins alone plain hits = grind (arith, same_copies, all_so, both_strand, overlap_strand, after_number)

  cut_strands_for : (rule : HitRule) (shape : Shape) (found : List Feature) → begins_with_a shape ≡ false → KeepsStrand shape a → AllByRecursion (Hit rule a) found → AllByRecursion (λ (r : Feature). r.strand ≡ a.strand) (records_for shape a found)
  cut_strands_for rule Cut found e plain h = grind (arith, all_map, all_any, (alone_same a is plain))
  cut_strands_for rule CutAndB found e unsigned h = grind (arith, all_map, all_so, both_strand)
  cut_strands_for rule Pieces found e plain h = grind (arith, all_map, all_any, (alone_same a is plain))
  cut_strands_for rule _ found e plain h = cc

pub cut_stay : (shape : Shape) (rule : HitRule) (first second : List Feature) → begins_with_a shape ≡ false → AllByRecursion IsSaid first → AllByRecursion IsSaid second → AllByRecursion (KeepsStrand shape) first
    → AllByRecursion (λ a. AllByRecursion (λ (r : Feature). r.strand ≡ a.strand) (records_for shape a (hits_among rule a second))) first
cut_stay shape rule first second e said said_second keeps = grind (arith, all_zip, cut_strands_for, all_hits)

pub strands_stay : (shape : Shape) (rule : HitRule) (first second : List Feature) → begins_with_a shape ≡ true → is_a_alone shape ≡ false → AllByRecursion IsSaid first → AllByRecursion IsSaid second → AllByRecursion (TakesNoStrand shape) first
    → map (λ (r : Feature). r.strand) (records_written shape rule first second) ≡ map (λ (r : Feature). r.strand) (copies_written shape rule first second)
strands_stay shape rule first second e alone said said_second unsigned = grind (arith, map_flat_same, replicate, length, all_zip, strands_for, all_hits)
