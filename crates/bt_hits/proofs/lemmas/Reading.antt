-- Lemmas on the records of a text.
use Rattle.bt_lines.proofs.Std.{◌≡◌, ℕ, ◌+◌, ◌<◌, ◌≤◌, List, [], ◌∷◌, ◌++◌, Option, None, Some, Result, Ok, Err, option_map, length, take, drop, refl, sym, ap, subst, ◌∙◌, arith, suc, append_assoc, append-nil, slice_split_at, slice_split_none, take_all, strip_last, eqb, slice_get, ◌-◌}
use Rattle.bt_lines.specs.calls.Columns.{IsBefore}
use Rattle.bt_lines.specs.declared.fault.Input.{Input}
use Rattle.bt_lines.specs.declared.fault.Kind.{Kind}
use Rattle.bt_lines.specs.model.Lines.{lines_from, numbered, pieces, whole_text}
use Rattle.bt_bed.specs.model.BedLine.{record_of}
use Rattle.bt_bed.specs.model.Feature.{Feature, intervals_of}
use Rattle.bt_bed.specs.calls.Orders.{ArePlaced, IsTotal}
use Rattle.bt_bed.proofs.lemmas.Definitions.{placed_good}
use Rattle.bt_lines.specs.declared.fault.Input.TheVariants.{First}
use Rattle.bt_bed.specs.model.Good.{Good, bed_format, bed_good, good_after, good_with, in_order, items_in, line_says, locus_at, said_after}
use Rattle.bt_bed.specs.model.Order.{Order}
use Rattle.bt_bed.specs.model.Sorted.{Locus, Sorting, sorting_of}
use Rattle.bt_hits.specs.calls.Listing.{AreRecordsOf}
use Rattle.bt_hits.specs.inside.Reading.{AddsLine, adds_none, adds_one, last_in, place_of, records_in, said_then}

last_pushed : (rs : List Feature) (r : Feature) → last_in (rs ++ r ∷ []) ≡ Some r
last_pushed [] r = refl
last_pushed (q ∷ []) r = refl
last_pushed (q ∷ s ∷ rs) r = last_pushed (s ∷ rs) r

last_at : (r : Feature) (rs : List Feature) → slice_get (r ∷ rs) (length rs) ≡ last_in (r ∷ rs)
last_at r [] = refl
last_at r (s ∷ rs) = last_at s rs

-- the last of some records is the one at the last index
pub last_got : (rs : List Feature) (n : ℕ) → n ≡ length rs → slice_get rs (n - 1) ≡ last_in rs
last_got [] n e = subst (λ (m : ℕ). slice_get [] (m - 1) ≡ last_in []) (sym e) refl
last_got (r ∷ rs) n e =
    let before : n - 1 ≡ length rs = omega (arith, e) in
    ap (slice_get (r ∷ rs)) before ∙ last_at r rs

after_both : (before : List Feature) (r : Feature) (o : Option (List Feature)) → option_map (λ rs. before ++ rs) (option_map (λ rs. r ∷ rs) o) ≡ option_map (λ rs. (before ++ r ∷ []) ++ rs) o
after_both before r None = refl
after_both before r (Some rs) = ap Some (sym (append_assoc before (r ∷ []) rs))

module _ (sorting : Sorting) where
  -- the records after others, of pieces that come next
  abbrev pub records_after : List Feature → List (List ℕ) → Option (List Feature)
  records_after before more = option_map (λ rs. before ++ rs) (records_in sorting (place_of (last_in before)) more)

  -- one more piece was read
  pub piece_read : (before after : List Feature) (piece : List ℕ) (more : List (List ℕ)) → AddsLine sorting before (strip_last 13 piece) after → records_after before (piece ∷ more) ≡ records_after after more
  piece_read before _ piece more (adds_none e) = ap (λ s. option_map (λ rs. before ++ rs) (said_then s (place_of (last_in before)) (λ now. records_in sorting now more))) e
  piece_read before _ piece more (adds_one r e) =
      ap (λ s. option_map (λ rs. before ++ rs) (said_then s (place_of (last_in before)) (λ now. records_in sorting now more))) e
      ∙ after_both before r (records_in sorting (Some (locus_at r)) more)
      ∙ ap (λ l. option_map (λ rs. (before ++ r ∷ []) ++ rs) (records_in sorting (place_of l) more)) (sym (last_pushed before r))

  -- the records of the pieces
  pub record AreGood (rs : List Feature) (good : Good Feature) : Type 0 where
    pub items : items_in good ≡ rs
    pub faultless : good.fault ≡ None

  module _ (input : Input) where
    with_first : (r : Feature) (n : ℕ) (f : Option Locus → Good Feature) (rs : List Feature) (o : Option (List Feature))
        → ((found : List Feature) → o ≡ Some found → AreGood found (f (Some (locus_at r)))) → option_map (λ found. r ∷ found) o ≡ Some rs
        → AreGood rs (good_with (bed_format sorting) input n None (Ok (Some r)) f)
    with_first r n f rs None each e = absurd (cc)
    with_first r n f rs (Some found) each e =
        let rest = each found refl in
        let is : r ∷ found ≡ rs = cc in
        record { items = ap (λ l. r ∷ l) rest.items ∙ is; faultless = rest.faultless }

    line_good : (n : ℕ) (last : Option Locus) (said : Result (Option Feature) Kind) (f : Option Locus → Good Feature) (h : Option Locus → Option (List Feature)) (rs : List Feature)
        → ((now : Option Locus) (found : List Feature) → h now ≡ Some found → AreGood found (f now)) → said_then said last h ≡ Some rs
        → AreGood rs (good_with (bed_format sorting) input n last said f)
    line_good n last (Err kind) f h rs each e = absurd (cc)
    line_good n last (Ok None) f h rs each e = each last rs e
    line_good n last (Ok (Some r)) f h rs each e = with_first r n f rs (h (Some (locus_at r))) (each (Some (locus_at r))) e

    none_good : (last : Option Locus) (rs : List Feature) → Some [] ≡ Some rs → AreGood rs (good_after (bed_format sorting) input last [])
    unfolding good_after
    none_good last rs e = record { items = cc; faultless = refl }

    pieces_good : (n : ℕ) (last : Option Locus) (ps : List (List ℕ)) (rs : List Feature) → records_in sorting last ps ≡ Some rs → AreGood rs (good_after (bed_format sorting) input last (numbered n ps))
    unfolding good_after line_says record_of
    pieces_good n last [] rs e = none_good last rs e
    pieces_good n last ([] ∷ []) rs e = none_good last rs e
    pieces_good n last ((b ∷ bs) ∷ []) rs e =
        line_good n last (line_says sorting last (strip_last 13 (b ∷ bs))) (λ now. good_after (bed_format sorting) input now []) (λ now. Some []) rs (λ now found. none_good now found) e
    pieces_good n last (p ∷ q ∷ more) rs e =
        line_good n last (line_says sorting last (strip_last 13 p)) (λ now. good_after (bed_format sorting) input now (numbered (suc n) (q ∷ more))) (λ now. records_in sorting now (q ∷ more)) rs
        (λ now found. pieces_good (suc n) now (q ∷ more) found) e

-- the records of a text are those of its pieces
pub text_good : (order : Order) (text : List ℕ) (rs : List Feature) → records_in (sorting_of order) None (pieces 10 text) ≡ Some rs → AreRecordsOf order text rs
unfolding lines_from
text_good order text rs e = record {
  items = λ input. (pieces_good (sorting_of order) input 1 None (pieces 10 text) rs e).items;
  faultless = λ input. grind (arith, ((pieces_good (sorting_of order) input 1 None (pieces 10 text) rs e).faultless));
}

-- they are sorted
pub text_placed : (order : Order) → IsTotal order → (text : List ℕ) (rs : List Feature) → AreRecordsOf order text rs → ArePlaced order (intervals_of rs)
text_placed order total text rs are = subst (λ (l : List Feature). ArePlaced order (intervals_of l)) (are.items First) (placed_good First order (whole_text text) total)

-- the first piece of a text
pub piece_first : (rest : List ℕ) (count : ℕ) → IsBefore 10 rest count → count < length rest → pieces 10 rest ≡ take count rest ∷ pieces 10 (drop (count + 1) rest)
piece_first rest count is h = ap (pieces 10) (is.cut h) ∙ slice_split_at (λ b. eqb b 10) (take count rest) 10 (drop (count + 1) rest) is.clear refl

-- the last piece
pub piece_last : (rest : List ℕ) (count : ℕ) → IsBefore 10 rest count → count ≡ length rest → pieces 10 rest ≡ take count rest ∷ []
piece_last rest count is h =
    let all : take count rest ≡ rest = take_all count rest (omega arith) in
    sym (ap (pieces 10) all) ∙ slice_split_none (λ b. eqb b 10) (take count rest) is.clear

module _ (sorting : Sorting) (last : Option Locus) (text : List ℕ) where
  pub says_none : record_of text ≡ Ok None → line_says sorting last text ≡ Ok None
  unfolding line_says
  says_none e = ap (said_after sorting last) e

  pub says_one : (r : Feature) → record_of text ≡ Ok (Some r) → in_order sorting last r ≡ Ok (Some r) → line_says sorting last text ≡ Ok (Some r)
  unfolding line_says
  says_one r e next = ap (said_after sorting last) e ∙ next
