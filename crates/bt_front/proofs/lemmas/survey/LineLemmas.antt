-- Lemmas on the lines of a text whose bytes come one after another.
use Rattle.bt_lines.proofs.Std.{arith, ◌≡◌, ℕ, ◌+◌, ◌==◌, ◌++◌, Bool, true, false, List, [], ◌∷◌, ap, append-nil, append_assoc, cond, count_by, refl, subst, suc, sum_by-append, sum_by-cons, sym, ◌∙◌, add-zero}
use Rattle.std.specs.List.{onto_first, slice_split}
use Rattle.bt_lines.specs.model.Lines.{pieces}
use Rattle.bt_front.specs.calls.Bytes.{feeds_in, last_piece, open_line, raw_whole}
use Rattle.bt_front.specs.model.Odd.{RawLine, raw_lines, raw_numbered}

abbrev pub line_of : ℕ → List ℕ → RawLine
line_of number bytes = record { number = number; bytes = bytes }

-- The same lines, byte by byte, from a line that has begun.

-- the lines of what comes after a line has begun
abbrev pub last_on : ℕ → List ℕ → List RawLine
last_on number [] = []
last_on number (p ∷ pre) = line_of number (p ∷ pre) ∷ []

abbrev pub lines_on : ℕ → List ℕ → List ℕ → List RawLine
lines_on number pre [] = last_on number pre
lines_on number pre (b ∷ bs) = cond (b == 10) (line_of number pre ∷ lines_on (suc number) [] bs) (lines_on number (pre ++ b ∷ []) bs)

-- those that end in it
abbrev pub whole_on : ℕ → List ℕ → List ℕ → List RawLine
whole_on number pre [] = []
whole_on number pre (b ∷ bs) = cond (b == 10) (line_of number pre ∷ whole_on (suc number) [] bs) (whole_on number (pre ++ b ∷ []) bs)

-- and what is left of it
abbrev pub open_on : List ℕ → List ℕ → List ℕ
open_on pre [] = pre
open_on pre (b ∷ bs) = cond (b == 10) (open_on [] bs) (open_on (pre ++ b ∷ []) bs)

-- some pieces, the first of which goes on a line that has begun
abbrev prefixed : List ℕ → List (List ℕ) → List (List ℕ)
prefixed pre [] = pre ∷ []
prefixed pre (p ∷ ps) = (pre ++ p) ∷ ps

record SomePieces (ps : List (List ℕ)) : Type 0 where
  first : List ℕ
  rest : List (List ℕ)
  is : ps ≡ first ∷ rest

onto_some : (b : ℕ) (ps : List (List ℕ)) → SomePieces (onto_first b ps)
onto_some b [] = record { first = b ∷ []; rest = []; is = refl }
onto_some b (p ∷ ps) = record { first = b ∷ p; rest = ps; is = refl }

split_some : (t : Bool) (b : ℕ) (ps : List (List ℕ)) → SomePieces (cond t ([] ∷ ps) (onto_first b ps))
split_some true b ps = record { first = []; rest = ps; is = refl }
split_some false b ps = onto_some b ps

pieces_some : (bs : List ℕ) → SomePieces (pieces 10 bs)
pieces_some [] = record { first = []; rest = []; is = refl }
pieces_some (b ∷ bs) = split_some (b == 10) b (pieces 10 bs)

last_is : (n : ℕ) (pre : List ℕ) → raw_numbered n (pre ∷ []) ≡ last_on n pre
last_is n [] = refl
last_is n (p ∷ pre) = refl

more_is : (n : ℕ) (pre next : List ℕ) (rest : List (List ℕ)) → raw_numbered n (pre ∷ next ∷ rest) ≡ line_of n pre ∷ raw_numbered (suc n) (next ∷ rest)
more_is n [] next rest = refl
more_is n (p ∷ pre) next rest = refl

-- one byte more in front of some pieces, if the lines of what follows are known
numbered_step : (n : ℕ) (pre : List ℕ) (b : ℕ) (ps : List (List ℕ)) (some : SomePieces ps) (t : Bool) (fed on : List RawLine)
    → raw_numbered (suc n) (prefixed [] ps) ≡ fed → raw_numbered n (prefixed (pre ++ b ∷ []) ps) ≡ on
    → raw_numbered n (prefixed pre (cond t ([] ∷ ps) (onto_first b ps))) ≡ cond t (line_of n pre ∷ fed) on
numbered_step n pre b ps some true fed on one two =
    rw (append-nil, some.is, more_is n pre some.first some.rest) (ap (λ (ls : List RawLine). line_of n pre ∷ ls) (rw (some.is) at one))
numbered_step n pre b ps some false fed on one two =
    rw (some.is) (rw (some.is, append_assoc pre (b ∷ []) some.first) at two)

numbered_on : (n : ℕ) (pre bs : List ℕ) → raw_numbered n (prefixed pre (pieces 10 bs)) ≡ lines_on n pre bs
numbered_on n pre [] = rw append-nil (last_is n pre)
numbered_on n pre (b ∷ bs) =
    numbered_step n pre b (pieces 10 bs) (pieces_some bs) (b == 10) (lines_on (suc n) [] bs) (lines_on n (pre ++ b ∷ []) bs) (numbered_on (suc n) [] bs) (numbered_on n (pre ++ b ∷ []) bs)

whole_step : (n : ℕ) (pre : List ℕ) (b : ℕ) (ps : List (List ℕ)) (some : SomePieces ps) (t : Bool) (fed on : List RawLine)
    → raw_whole (suc n) (prefixed [] ps) ≡ fed → raw_whole n (prefixed (pre ++ b ∷ []) ps) ≡ on
    → raw_whole n (prefixed pre (cond t ([] ∷ ps) (onto_first b ps))) ≡ cond t (line_of n pre ∷ fed) on
whole_step n pre b ps some true fed on one two =
    rw (some.is, append-nil) (ap (λ (ls : List RawLine). line_of n pre ∷ ls) (rw (some.is) at one))
whole_step n pre b ps some false fed on one two =
    rw (some.is) (subst (λ (p : List ℕ). raw_whole n (p ∷ some.rest) ≡ on) (append_assoc pre (b ∷ []) some.first) (rw (some.is) at two))

wholes_on : (n : ℕ) (pre bs : List ℕ) → raw_whole n (prefixed pre (pieces 10 bs)) ≡ whole_on n pre bs
wholes_on n pre [] = refl
wholes_on n pre (b ∷ bs) =
    whole_step n pre b (pieces 10 bs) (pieces_some bs) (b == 10) (whole_on (suc n) [] bs) (whole_on n (pre ++ b ∷ []) bs) (wholes_on (suc n) [] bs) (wholes_on n (pre ++ b ∷ []) bs)

last_step : (pre : List ℕ) (b : ℕ) (ps : List (List ℕ)) (some : SomePieces ps) (t : Bool) (fed on : List ℕ)
    → last_piece (prefixed [] ps) ≡ fed → last_piece (prefixed (pre ++ b ∷ []) ps) ≡ on
    → last_piece (prefixed pre (cond t ([] ∷ ps) (onto_first b ps))) ≡ cond t fed on
last_step pre b ps some true fed on one two =
    rw (some.is) (rw (some.is) at one)
last_step pre b ps some false fed on one two =
    rw (some.is) (subst (λ (p : List ℕ). last_piece (p ∷ some.rest) ≡ on) (append_assoc pre (b ∷ []) some.first) (rw (some.is) at two))

opens_on : (pre bs : List ℕ) → last_piece (prefixed pre (pieces 10 bs)) ≡ open_on pre bs
opens_on pre [] = append-nil pre
opens_on pre (b ∷ bs) =
    last_step pre b (pieces 10 bs) (pieces_some bs) (b == 10) (open_on [] bs) (open_on (pre ++ b ∷ []) bs) (opens_on [] bs) (opens_on (pre ++ b ∷ []) bs)

unprefixed : (ps : List (List ℕ)) → SomePieces ps → prefixed [] ps ≡ ps
unprefixed ps some = rw (some.is) refl

pub lines_are : (text : List ℕ) → raw_lines text ≡ lines_on 1 [] text
lines_are text = ap (λ ps. raw_numbered 1 ps) (sym (unprefixed (pieces 10 text) (pieces_some text))) ∙ numbered_on 1 [] text

pub wholes_are : (bytes : List ℕ) → raw_whole 1 (pieces 10 bytes) ≡ whole_on 1 [] bytes
wholes_are bytes = ap (λ ps. raw_whole 1 ps) (sym (unprefixed (pieces 10 bytes) (pieces_some bytes))) ∙ wholes_on 1 [] bytes

pub open_is : (bytes : List ℕ) → (open_line bytes).bytes ≡ open_on [] bytes
open_is bytes = ap (λ ps. last_piece ps) (sym (unprefixed (pieces 10 bytes) (pieces_some bytes))) ∙ opens_on [] bytes

-- What comes after some bytes goes on their last line.

cond_more : (t : Bool) (line : RawLine) (a1 a2 w1 w2 : List RawLine) (o1 o2 : List ℕ) (f : List ℕ → List RawLine) → (t ≡ true → a1 ≡ w1 ++ f o1) → (t ≡ false → a2 ≡ w2 ++ f o2)
    → cond t (line ∷ a1) a2 ≡ cond t (line ∷ w1) w2 ++ f (cond t o1 o2)
cond_more true line a1 a2 w1 w2 o1 o2 f one two = ap (λ (ls : List RawLine). line ∷ ls) (one refl)
cond_more false line a1 a2 w1 w2 o1 o2 f one two = two refl

feeds_cons : (b : ℕ) (bs : List ℕ) → feeds_in (b ∷ bs) ≡ cond (b == 10) 1 0 + feeds_in bs
feeds_cons b bs = sum_by-cons (λ byte. cond (byte == 10) 1 0) b bs

counts_fed : (n m b : ℕ) (bs : List ℕ) → m ≡ n + feeds_in (b ∷ bs) → (b == 10) ≡ true → m ≡ suc n + feeds_in bs
counts_fed n m b bs e t =
    let h : m ≡ n + (1 + feeds_in bs) = e ∙ ap (λ (k : ℕ). n + k) (feeds_cons b bs) ∙ ap (λ (u : Bool). n + (cond u 1 0 + feeds_in bs)) t in
    omega (arith, h)

counts_on : (n m b : ℕ) (bs : List ℕ) → m ≡ n + feeds_in (b ∷ bs) → (b == 10) ≡ false → m ≡ n + feeds_in bs
counts_on n m b bs e t =
    let h : m ≡ n + (0 + feeds_in bs) = e ∙ ap (λ (k : ℕ). n + k) (feeds_cons b bs) ∙ ap (λ (u : Bool). n + (cond u 1 0 + feeds_in bs)) t in
    omega (arith, h)

lines_more : (n : ℕ) (pre xs ys : List ℕ) (m : ℕ) → m ≡ n + feeds_in xs
    → lines_on n pre (xs ++ ys) ≡ whole_on n pre xs ++ lines_on m (open_on pre xs) ys
lines_more n pre [] ys m e = rw e (rw add-zero refl)
lines_more n pre (b ∷ bs) ys m e =
    cond_more (b == 10) (line_of n pre) (lines_on (suc n) [] (bs ++ ys)) (lines_on n (pre ++ b ∷ []) (bs ++ ys)) (whole_on (suc n) [] bs) (whole_on n (pre ++ b ∷ []) bs) (open_on [] bs) (open_on (pre ++ b ∷ []) bs) (λ o. lines_on m o ys)
    (λ t. lines_more (suc n) [] bs ys m (counts_fed n m b bs e t)) (λ t. lines_more n (pre ++ b ∷ []) bs ys m (counts_on n m b bs e t))

pub lines_after : (xs ys : List ℕ) → raw_lines (xs ++ ys) ≡ whole_on 1 [] xs ++ lines_on (suc (feeds_in xs)) (open_on [] xs) ys
lines_after xs ys = lines_are (xs ++ ys) ∙ lines_more 1 [] xs ys (suc (feeds_in xs)) (omega arith)

whole_more : (n : ℕ) (pre xs ys : List ℕ) (m : ℕ) → m ≡ n + feeds_in xs
    → whole_on n pre (xs ++ ys) ≡ whole_on n pre xs ++ whole_on m (open_on pre xs) ys
whole_more n pre [] ys m e = rw e (rw add-zero refl)
whole_more n pre (b ∷ bs) ys m e =
    cond_more (b == 10) (line_of n pre) (whole_on (suc n) [] (bs ++ ys)) (whole_on n (pre ++ b ∷ []) (bs ++ ys)) (whole_on (suc n) [] bs) (whole_on n (pre ++ b ∷ []) bs) (open_on [] bs) (open_on (pre ++ b ∷ []) bs) (λ o. whole_on m o ys)
    (λ t. whole_more (suc n) [] bs ys m (counts_fed n m b bs e t)) (λ t. whole_more n (pre ++ b ∷ []) bs ys m (counts_on n m b bs e t))

open_more : (pre xs ys : List ℕ) → open_on pre (xs ++ ys) ≡ open_on (open_on pre xs) ys
open_more pre [] ys = refl
open_more pre (b ∷ bs) ys = grind (arith, (open_more [] bs ys), (open_more (pre ++ b ∷ []) bs ys))

pub feeds_more : (xs ys : List ℕ) → feeds_in (xs ++ ys) ≡ feeds_in xs + feeds_in ys
feeds_more xs ys = sum_by-append (λ byte. cond (byte == 10) 1 0) xs ys

-- One byte more.

pub wholes_push : (xs : List ℕ) (b : ℕ) → whole_on 1 [] (xs ++ b ∷ []) ≡ whole_on 1 [] xs ++ cond (b == 10) (line_of (suc (feeds_in xs)) (open_on [] xs) ∷ []) []
wholes_push xs b = whole_more 1 [] xs (b ∷ []) (suc (feeds_in xs)) (omega arith)

pub open_push : (xs : List ℕ) (b : ℕ) → open_on [] (xs ++ b ∷ []) ≡ cond (b == 10) [] (open_on [] xs ++ b ∷ [])
open_push xs b = open_more [] xs (b ∷ [])

pub feeds_push : (xs : List ℕ) (b : ℕ) → feeds_in (xs ++ b ∷ []) ≡ cond (b == 10) (suc (feeds_in xs)) (feeds_in xs)
feeds_push xs b = grind (arith, (feeds_more xs (b ∷ [])))

-- a line that has begun goes on up to its line feed
pub record GoesOn (number : ℕ) (begun : List ℕ) (lines : List RawLine) : Type 0 where
  pub more : List ℕ
  pub others : List RawLine
  pub is : lines ≡ line_of number (begun ++ more) ∷ others

one_last : (n : ℕ) (pre : List ℕ) (q : ℕ) → last_on n (pre ++ q ∷ []) ≡ line_of n (pre ++ q ∷ []) ∷ []
one_last n [] q = refl
one_last n (p ∷ pre) q = refl

going_step : (n : ℕ) (begun : List ℕ) (b : ℕ) (t : Bool) (fed on : List RawLine) → GoesOn n (begun ++ b ∷ []) on → GoesOn n begun (cond t (line_of n begun ∷ fed) on)
going_step n begun b true fed on goes = record { more = []; others = fed; is = rw append-nil refl }
going_step n begun b false fed on goes = record {
  more = b ∷ goes.more;
  others = goes.others;
  is = goes.is ∙ ap (λ (l : List ℕ). line_of n l ∷ goes.others) (append_assoc begun (b ∷ []) goes.more);
}

pub goes_on : (n : ℕ) (pre : List ℕ) (q : ℕ) (bs : List ℕ) → GoesOn n (pre ++ q ∷ []) (lines_on n (pre ++ q ∷ []) bs)
goes_on n pre q [] = record { more = []; others = []; is = rw append-nil (one_last n pre q) }
goes_on n pre q (b ∷ bs) =
    going_step n (pre ++ q ∷ []) b (b == 10) (lines_on (suc n) [] bs) (lines_on n ((pre ++ q ∷ []) ++ b ∷ []) bs) (goes_on n (pre ++ q ∷ []) b bs)
