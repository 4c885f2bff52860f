-- Words that stand across the border of two pieces of a text.
use Rattle.bt_lines.proofs.Std.{arith, ◌≡◌, ℕ, ◌+◌, ◌-◌, ◌≤◌, ◌⊎◌, inl, inr, true, List, [], ◌++◌, Option, None, Some, length, take, drop, min, refl, sym, ap, subst, ◌∙◌, codes, append_assoc, length-append, length-take, length-take-le, take-append-drop, get_or-append-add, get_or_append_left, is_some, slice_index, false≢true, add_assoc, cases_lt, drop-take, length-drop, take-append-le, take-take, take-append-add, drop-append-add}
use native.Mathlib.Nat.{zero-add}
use Rattle.std.specs.List.{copy_within}
use Rattle.memchr.specs.Find.{FindsNeedle, OccursAt}
use Rattle.drop_in.specs.calls.Marks.{Has, HasMark, our_words, overlap}
use Rattle.drop_in.specs.declared.marks.Mark.{Mark}
use Rattle.drop_in.specs.declared.marks.Mark.TheVariants.{Ours, KnownVersion}

-- a search for words says whether some bytes have them
module _ (hay words : List ℕ) where
  pub found_has : (found : Option ℕ) → FindsNeedle hay words 0 found → is_some found ≡ true → Has words hay
  found_has None finds is = absurd (false≢true is)
  found_has (Some place) finds is = (place, finds.1)

  pub has_found : (found : Option ℕ) → FindsNeedle hay words 0 found → Has words hay → is_some found ≡ true
  has_found None finds has =
      absurd (finds has.0 (omega arith) (omega (arith, has.1.fits)) has.1)
  has_found (Some place) finds has = refl

-- what stands in a text stands behind what comes before it
pub occurs_behind : (before bytes words : List ℕ) (place : ℕ) → OccursAt bytes words place
    → OccursAt (before ++ bytes) words (length before + place)
occurs_behind before bytes words place occurs = record {
  fits = omega (arith, occurs.fits, length-append before bytes);
  reads = λ j within.
      ap (λ at. slice_index (before ++ bytes) at) (add_assoc (length before) place j)
      ∙ get_or-append-add before bytes (place + j) 0 ∙ occurs.reads j within;
}

-- and the other way round
pub occurs_without : (before bytes words : List ℕ) (place : ℕ) → OccursAt (before ++ bytes) words (length before + place)
    → OccursAt bytes words place
occurs_without before bytes words place occurs = record {
  fits = omega (arith, occurs.fits, length-append before bytes);
  reads = λ j within.
      sym (get_or-append-add before bytes (place + j) 0)
      ∙ sym (ap (λ at. slice_index (before ++ bytes) at) (add_assoc (length before) place j)) ∙ occurs.reads j within;
}

-- what ends before a text's end stands in it, whatever comes behind it
pub occurs_before : (bytes behind words : List ℕ) (place : ℕ) → place + length words ≤ length bytes
    → OccursAt (bytes ++ behind) words place → OccursAt bytes words place
occurs_before bytes behind words place ends occurs = record {
  fits = ends;
  reads = λ j within. sym (get_or_append_left bytes behind 0 (place + j) (omega (arith, ends, within))) ∙ occurs.reads j within;
}

-- bytes, of which the last are kept, and a piece that comes behind them
module _ (bytes piece : List ℕ) (kept : ℕ) (within : kept ≤ length bytes) where
  abbrev last : List ℕ
  last = drop (length bytes - kept) bytes

  abbrev front : List ℕ
  front = take (length bytes - kept) bytes

  same : bytes ++ piece ≡ front ++ (last ++ piece)
  same = ap (λ all. all ++ piece) (sym (take-append-drop (length bytes - kept) bytes)) ∙ append_assoc front last piece

  front_length : length front ≡ length bytes - kept
  front_length = length-take-le (length bytes - kept) bytes (omega arith)

  -- words in what is kept and the piece are words in all
  pub has_last : (words : List ℕ) → Has words (last ++ piece) → Has words (bytes ++ piece)
  has_last words has = (
    length front + has.0,
    subst (λ all. OccursAt all words (length front + has.0)) (sym same) (occurs_behind front (last ++ piece) words has.0 has.1),
  )

  -- words in all are words in the bytes before, or in what is kept and the piece, if enough is kept for words so long
  pub has_near : (words : List ℕ) → (kept ≡ length bytes) ⊎ (length words ≤ kept + 1) → Has words (bytes ++ piece)
      → Has words bytes ⊎ Has words (last ++ piece)
  has_near words enough has = elim (cases_lt (length bytes) (has.0 + length words)) [
    | inl past ↦
        let place : ℕ = has.0 - (length bytes - kept) in
        let is : length front + place ≡ has.0 = elim enough [
          | inl all ↦ omega (arith, front_length, all)
          | inr long ↦ omega (arith, front_length, past, long, within)
        ] in
        inr (
          place,
          occurs_without front (last ++ piece) words place
              (subst (λ at. OccursAt (front ++ (last ++ piece)) words at) (sym is)
              (subst (λ all. OccursAt all words has.0) same has.1)),
        )
    | inr ends ↦ inl (has.0, occurs_before bytes piece words has.0 ends has.1)
  ]

-- the same of a mark, if as many bytes are kept as its longest words need
module _ (bytes piece : List ℕ) (kept : ℕ) (is : kept ≡ min (length bytes) overlap) where
  within : kept ≤ length bytes
  within = omega (arith, is)

  enough : (words : List ℕ) → length words ≤ 29 → (kept ≡ length bytes) ⊎ (length words ≤ kept + 1)
  enough words short = elim (cases_lt (length bytes) 28) [
    | inl less ↦ inl (omega (arith, is, less))
    | inr more ↦ inr (omega (arith, is, more, short))
  ]

  near : (words : List ℕ) → length words ≤ 29 → Has words (bytes ++ piece)
      → Has words bytes ⊎ Has words (drop (length bytes - kept) bytes ++ piece)
  near words short has = has_near bytes piece kept within words (enough words short) has

  pub mark_last : (mark : Mark) → HasMark mark (drop (length bytes - kept) bytes ++ piece) → HasMark mark (bytes ++ piece)
  mark_last Ours has = has_last bytes piece kept within _ has
  mark_last KnownVersion (inl has) = inl (has_last bytes piece kept within _ has)
  mark_last KnownVersion (inr has) = inr (has_last bytes piece kept within _ has)

  -- the last bytes of all are the last ones of what is kept and the piece
  pub last_on : (n count : ℕ) (taken : List ℕ) → length piece ≡ count → n ≤ kept + length piece
      → taken ≡ drop (length bytes - kept) bytes ++ piece
      → drop (kept + count - n) taken ≡ drop (length (bytes ++ piece) - n) (bytes ++ piece)
  last_on n count taken long fits same_taken =
      let before = front bytes piece kept within in
      let at : length (bytes ++ piece) - n ≡ length before + (kept + count - n) =
      omega (arith, length-append bytes piece, front_length bytes piece kept within, within, fits, long) in
      ap (drop (kept + count - n)) same_taken
      ∙ sym (drop-append-add before (last bytes piece kept within ++ piece) (kept + count - n))
      ∙ sym (ap (drop (length before + (kept + count - n))) (same bytes piece kept within))
      ∙ sym (ap (λ k. drop k (bytes ++ piece)) at)

  pub mark_near : (mark : Mark) → HasMark mark (bytes ++ piece)
      → HasMark mark bytes ⊎ HasMark mark (drop (length bytes - kept) bytes ++ piece)
  mark_near Ours has = near our_words (omega arith) has
  mark_near KnownVersion (inl has) = elim (near (codes "v2.30.0") (omega arith) has) [
    | inl old ↦ inl (inl old)
    | inr new ↦ inr (inl new)
  ]
  mark_near KnownVersion (inr has) = elim (near (codes "v2.31.") (omega arith) has) [
    | inl old ↦ inl (inr old)
    | inr new ↦ inr (inr new)
  ]

-- what is kept stands in the block
pub is_within : (bytes block : List ℕ) (kept : ℕ) → kept ≡ min (length bytes) overlap
    → take kept block ≡ drop (length bytes - kept) bytes → kept ≤ length block
is_within bytes block kept is same =
    omega (arith, is, ap length same, length-take kept block, length-drop (length bytes - kept) bytes)

-- an empty text has no mark
pub no_mark : (mark : Mark) → HasMark mark [] → ⊥
no_mark Ours has = omega (arith, has.1.fits)
no_mark KnownVersion (inl has) = omega (arith, has.1.fits)
no_mark KnownVersion (inr has) = omega (arith, has.1.fits)

-- the last bytes before an end, moved to the front
pub moved_last : (block : List ℕ) (end kept : ℕ) → end ≤ length block → kept ≤ end
    → take kept (copy_within block (end - kept) end 0) ≡ drop (end - kept) (take end block)
moved_last block end kept fits less =
    let count : end - (end - kept) ≡ kept = omega arith in
    let all : (end - kept) + kept ≡ end = omega arith in
    let moved = drop (end - kept) block in
    let long : kept ≤ length moved = omega (arith, length-drop (end - kept) block) in
    let front : take kept (take kept moved ++ drop kept block) ≡ take kept moved =
    take-append-le kept (take kept moved) (drop kept block) (omega (arith, length-take-le kept moved long))
    ∙ take-take kept kept moved (omega arith) in
    let same : drop (end - kept) (take end block) ≡ take kept moved =
    subst (λ n. drop (end - kept) (take n block) ≡ take kept moved) all (drop-take (end - kept) kept block) in
    subst (λ n. take kept (take n moved ++ drop (0 + n) block) ≡ drop (end - kept) (take end block)) (sym count)
    (rw (zero-add kept) (front ∙ sym same))

-- what a read put behind the first bytes of a block
pub read_behind : (all block part : List ℕ) (first count : ℕ) → first ≤ length block → count ≤ length part
    → take (first + length part) all ≡ take first block ++ part
    → take (first + count) all ≡ take first block ++ take count part
read_behind all block part first count fits less put =
    sym (take-take (first + count) (first + length part) all (omega (arith, less)))
    ∙ ap (take (first + count)) put
    ∙ subst (λ n. take (n + count) (take first block ++ part) ≡ take first block ++ take count part)
    (length-take-le first block fits) (take-append-add (take first block) part count)
