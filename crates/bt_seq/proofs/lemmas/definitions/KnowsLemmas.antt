-- Lemmas on the names that blocks leave, record by record.
use Rattle.bt_lines.proofs.Std.{◌≡◌, ℕ, Bool, true, false, cond, List, [], ◌∷◌, ◌++◌, Option, Some, None, refl, sym, ap, ◌∙◌, bytes_eq, bytes_decides, ◌⊎◌, ◌&&◌, not, inl, inr, arith}
use Rattle.bt_bed.specs.model.Feature.{Feature}
use Rattle.bt_seq.specs.model.SequenceBlocks.{Block, blocks_by, left_by, owned_from, names_behind}
use Rattle.bt_seq.specs.calls.MaskState.{KnowsEarlier, KnowsOwn, last_chrom, owner_by, owners_are_found, Matched, is_it, owner_of, goes_on_block, left_at_last, next_goes_on_or_begins, left_after}
use Rattle.bt_seq.specs.declared.mask.matching.Owner.{Owner}
use Rattle.bt_seq.specs.declared.mask.matching.Owner.TheVariants.{Own, Earlier, Nobody}

-- whether there is a last chromosome, and it is this one
abbrev pub is_last : Option (List ℕ) → List ℕ → Bool
is_last None name = false
is_last (Some last) name = bytes_eq last name

-- what a record leaves after these names and the last chromosome
abbrev pub one_leaves : Option (List (List ℕ)) → Option (List ℕ) → Feature → Option (List (List ℕ))
one_leaves left last r = cond (is_last last r.chrom) left (left_by left r.chrom)

-- what records leave, one after another
abbrev pub leave : Option (List (List ℕ)) → Option (List ℕ) → List Feature → Option (List (List ℕ))
leave left last [] = left
leave left last (r ∷ rs) = leave (one_leaves left last r) (Some r.chrom) rs

abbrev blocks : List Feature → List (Block Feature)
blocks rs = blocks_by (λ r. r.chrom) rs

-- what blocks leave, the first of which may go on with the last chromosome
abbrev blocks_leave : Option (List (List ℕ)) → List ℕ → List (Block Feature) → Option (List (List ℕ))
blocks_leave left last [] = left
blocks_leave left last (b ∷ bs) = cond (bytes_eq last b.chrom) (left_at_last left (owned_from left bs)) (left_at_last left (owned_from left (b ∷ bs)))

-- after a last chromosome
leave_on : (left : Option (List (List ℕ))) (last : List ℕ) (rs : List Feature) → leave left (Some last) rs ≡ blocks_leave left last (blocks rs)
leave_on left last [] = refl
leave_on left last (r ∷ rs) = leave_on (one_leaves left (Some last) r) r.chrom rs ∙ (grind (arith, bytes_decides))

-- from the start
pub leave_all : (left : Option (List (List ℕ))) (rs : List Feature) → leave left None rs ≡ left_at_last left (owned_from left (blocks rs))
leave_all left [] = refl
leave_all left (r ∷ rs) = leave_on (left_by left r.chrom) r.chrom rs ∙ (grind (arith, bytes_decides))

-- one more
more_on : (left : Option (List (List ℕ))) (last : Option (List ℕ)) (s : Feature) (ss : List Feature) (r : Feature)
    → leave left last ((s ∷ ss) ++ r ∷ []) ≡ cond (goes_on_block (s ∷ ss) r) (leave left last (s ∷ ss)) (left_by (leave left last (s ∷ ss)) r.chrom)
more_on left last s [] r = refl
more_on left last s (t ∷ ss) r = more_on (one_leaves left last s) (Some s.chrom) t ss r

more : (left : Option (List (List ℕ))) (rs : List Feature) (r : Feature) → leave left None (rs ++ r ∷ []) ≡ cond (goes_on_block rs r) (leave left None rs) (left_by (leave left None rs) r.chrom)
more left [] r = refl
more left (s ∷ ss) r = more_on left None s ss r

pub goes_on_or_begins : next_goes_on_or_begins
goes_on_or_begins names records r = grind (arith, (leave_all (Some names) (records ++ r ∷ [])), (more (Some names) records r), (leave_all (Some names) records))

-- Lemmas on what an engine knows of sequences and blocks.

-- the owner, once it is known whether the record goes on with the last block
abbrev pub found_by : (own goes is_name : Bool) → Owner
found_by own goes is_name = cond goes (cond own Own Earlier) (cond (not own && is_name) Own Nobody)

pub owner_is : (m : Matched) (chrom : List ℕ) (own goes : Bool) → is_it m.last chrom ≡ goes → m.own ≡ own → owner_of m chrom ≡ found_by own goes (is_it m.name chrom)
owner_is m chrom own goes e o = rw (e, o) refl

some_left : (front : List (List ℕ)) (name : List ℕ) → Earlier ≡ owner_by (Some (front ++ name ∷ []))
some_left [] name = refl
some_left (n ∷ ns) name = refl

behind_first : (chrom name n : List ℕ) (ns : List (List ℕ)) (t : Bool) → cond t (Some ns) (names_behind chrom ns) ≡ None
    → (names_behind chrom ns ≡ None → names_behind chrom (ns ++ name ∷ []) ≡ cond (bytes_eq name chrom) (Some []) None)
    → cond t (Some (ns ++ name ∷ [])) (names_behind chrom (ns ++ name ∷ [])) ≡ cond (bytes_eq name chrom) (Some []) None
behind_first chrom name n ns t none rest = grind arith

behind_last : (chrom name : List ℕ) (front : List (List ℕ)) → names_behind chrom front ≡ None → names_behind chrom (front ++ name ∷ []) ≡ cond (bytes_eq name chrom) (Some []) None
behind_last chrom name [] none = refl
behind_last chrom name (n ∷ ns) none = behind_first chrom name n ns (bytes_eq n chrom) none (behind_last chrom name ns)

module _ (names : List (List ℕ)) (records : List Feature) (m : Matched) (r : Feature) where
  next_left : (left : Option (List (List ℕ))) → left_after names records ≡ left → left_after names (records ++ r ∷ []) ≡ cond (goes_on_block records r) left (left_by left r.chrom)
  next_left left e = goes_on_or_begins names records r ∙ ap (λ left. cond (goes_on_block records r) left (left_by left r.chrom)) e

  found_at : m.last ≡ last_chrom records → KnowsOwn names records m ⊎ KnowsEarlier names records m → (goes_on_block records r ≡ false → (e : KnowsEarlier names records m) → names_behind r.chrom e.before ≡ None)
      → owner_of m r.chrom ≡ owner_by (left_after names (records ++ r ∷ []))
  found_at last (inl k) none =
      owner_is m r.chrom true (goes_on_block records r) (ap (λ l. is_it l r.chrom) last ∙ (grind arith)) k.own
      ∙ (grind arith)
      ∙ sym (ap owner_by (next_left (Some []) k.left))
  found_at last (inr k) none =
      owner_is m r.chrom false (goes_on_block records r) (ap (λ l. is_it l r.chrom) last ∙ (grind arith)) k.own
      ∙ ap (λ n. found_by false (goes_on_block records r) (is_it n r.chrom)) k.named
      ∙ (grind (arith, some_left, behind_last))
      ∙ sym (ap owner_by (next_left (Some (k.before ++ k.name ∷ [])) k.left))

pub owners_found : owners_are_found
owners_found names records m r knows none = found_at names records m r knows.last knows.where_last none
