-- Lemmas on columns with tabs after them, in which the strand is the same.
use Rattle.bt_lines.proofs.Std.{◌≡◌, ℕ, zero, suc, ◌<◌, List, [], ◌∷◌, ◌++◌, length, replicate, refl, sym, ap, ◌∙◌, append-nil, arith, length-slice_split}
use Rattle.std.specs.List.{onto_first}
use Rattle.std.proofs.lemmas.List.Splits.{slice_split-cons_no, slice_split-cons_yes}
use Rattle.bt_lines.specs.model.Lines.{pieces}
use Rattle.bt_bed.specs.model.BedLine.{strand_of}

onto_append : (x : ℕ) (xss yss : List (List ℕ)) → 0 < length xss → onto_first x (xss ++ yss) ≡ onto_first x xss ++ yss
onto_append x [] yss h = absurd (omega (arith, h))
onto_append x (xs ∷ xss) yss h = refl

-- the pieces of two texts with a separator between them
pieces_joined : (s : ℕ) (text rest : List ℕ) → pieces s (text ++ s ∷ rest) ≡ pieces s text ++ pieces s rest
pieces_joined s [] rest = grind (arith, slice_split-cons_yes)
pieces_joined s (x ∷ xs) rest = grind (arith, onto_append, (pieces_joined s xs rest), slice_split-cons_yes, slice_split-cons_no, length-slice_split)

-- a text with separators after it has empty pieces more
pieces_ended : (s : ℕ) (text : List ℕ) (n : ℕ) → pieces s (text ++ replicate n s) ≡ pieces s text ++ replicate n []
pieces_ended s text zero = ap (pieces s) (append-nil text) ∙ sym (append-nil (pieces s text))
pieces_ended s text (suc n) = pieces_joined s text (replicate n s) ∙ ap (λ l. pieces s text ++ l) (pieces_ended s [] n)

-- empty columns change no strand
strand_with_empty : (columns : List (List ℕ)) (n : ℕ) → strand_of (columns ++ replicate n []) ≡ strand_of columns
strand_with_empty [] zero = refl
strand_with_empty [] (suc zero) = refl
strand_with_empty [] (suc (suc zero)) = refl
strand_with_empty [] (suc (suc (suc n))) = refl
strand_with_empty (name ∷ []) zero = refl
strand_with_empty (name ∷ []) (suc zero) = refl
strand_with_empty (name ∷ []) (suc (suc n)) = refl
strand_with_empty (name ∷ score ∷ []) zero = refl
strand_with_empty (name ∷ score ∷ []) (suc n) = refl
strand_with_empty (name ∷ score ∷ strand ∷ rest) n = refl

-- a text with tabs after it says the same strand
pub strand_before_tabs : (text : List ℕ) (n : ℕ) → strand_of (pieces 9 (text ++ replicate n 9)) ≡ strand_of (pieces 9 text)
strand_before_tabs text n = ap strand_of (pieces_ended 9 text n) ∙ strand_with_empty (pieces 9 text) n
