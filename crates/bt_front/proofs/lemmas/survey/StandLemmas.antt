-- Lemmas on what a watch knows of a line.
use Rattle.bt_lines.proofs.Std.{arith, ◌≡◌, ℕ, ◌+◌, ◌-◌, ◌<◌, ◌≤◌, ◌==◌, ◌&&◌, ◌||◌, ◌++◌, ◌∙◌, Bool, true, false, List, [], ◌∷◌, Option, Some, None, ap, bytes_eq, codes, cond, get_or, if◌then◌else◌, length, length-append, list_any, list_any-append, nat_lt, nat_tests, not, or-false, or_parts, refl, ends_with_byte, strip_last, suc, sym, subst, take, zero}
use Rattle.bt_front.specs.calls.Bytes.{begun_as, is_plain_so_far, last_after}
use Rattle.bt_front.specs.declared.survey.byte_watch.ByteWatch.{ByteWatch}
use Rattle.bt_front.specs.declared.survey.oddity.Oddity.{Oddity}
use Rattle.bt_front.specs.declared.survey.oddity.Oddity.TheVariants.{Blank, DoubleReturn, Nul, Long, Vcf, ByteOrderMark, Gzip, HeaderName, FarEnd}
use Rattle.bt_front.specs.inside.Watching.{fed, is_blank_end, is_gzip_at, is_mark_at, lengthened, next_vcf, odd_in_line, oddity_at, stepped}
use Rattle.bt_front.specs.model.Odd.{begins_with, has_double_return, is_odd, is_plain}
use Rattle.bt_front.proofs.lemmas.survey.LineLemmas.{line_of}
use Rattle.bt_front.proofs.lemmas.survey.OddLemmas.{begins_push, begun_push, begun_whole, double_push, grows, grows_is, gzip_push, mark_push}
use Rattle.bt_front.proofs.lemmas.survey.TestLemmas.{above_next, nothing, suc_zero, two_one}

-- what a watch knows of the line of this number that has begun
pub record Stands (number : ℕ) (l : List ℕ) (w : ByteWatch) : Type 0 where
  pub so_far : is_plain_so_far (line_of number l) ≡ true
  pub line : w.line ≡ length l
  pub last : w.last ≡ last_after 10 l
  pub vcf : w.vcf ≡ begun_as (codes "##fileformat=VCF") l
  pub is_first : w.is_first ≡ (number == 1)
  pub first : w.is_first ≡ true → 0 < w.line → w.first ≡ get_or l 0 0

record SoFar (number : ℕ) (l : List ℕ) : Type 0 where
  double : has_double_return l ≡ false
  nul : list_any (λ byte. byte == 0) l ≡ false
  long : nat_lt 1015 (length l) ≡ false
  vcf : begins_with (codes "##fileformat=VCF") l ≡ false
  mark : ((number == 1) && begins_with (239 ∷ 187 ∷ 191 ∷ []) l) ≡ false
  gzip : ((number == 1) && begins_with (31 ∷ []) l) ≡ false

not_so : (b : Bool) → not b ≡ true → b ≡ false
not_so true e = sym e
not_so false e = refl

six_parts : (d u g v z k : Bool) → not (d || (u || (g || (v || (z || (k || false)))))) ≡ true
    → (d ≡ false) × (u ≡ false) × (g ≡ false) × (v ≡ false) × (z ≡ false) × (k ≡ false)
six_parts true u g v z k e = absurd (cc)
six_parts false true g v z k e = absurd (cc)
six_parts false false true v z k e = absurd (cc)
six_parts false false false true z k e = absurd (cc)
six_parts false false false false true k e = absurd (cc)
six_parts false false false false false true e = absurd (cc)
six_parts false false false false false false e = (refl, refl, refl, refl, refl, refl)

six_not : (d u g v z k : Bool) → d ≡ false → u ≡ false → g ≡ false → v ≡ false → z ≡ false → k ≡ false → not (d || (u || (g || (v || (z || (k || false)))))) ≡ true
six_not d u g v z k a b c e f h = rw (a, b, c, e, f, h) refl

so_far_parts : (n : ℕ) (l : List ℕ) → is_plain_so_far (line_of n l) ≡ true → SoFar n l
so_far_parts n l e =
    let p = six_parts (has_double_return l) (list_any (λ byte. byte == 0) l) (nat_lt 1015 (length l)) (begins_with (codes "##fileformat=VCF") l)
    ((n == 1) && begins_with (239 ∷ 187 ∷ 191 ∷ []) l) ((n == 1) && begins_with (31 ∷ []) l) e in
    record { double = p.0; nul = p.1; long = p.2; vcf = p.3; mark = p.4; gzip = p.5 }

so_far_is : (n : ℕ) (l : List ℕ) → SoFar n l → is_plain_so_far (line_of n l) ≡ true
so_far_is n l s =
    six_not (has_double_return l) (list_any (λ byte. byte == 0) l) (nat_lt 1015 (length l)) (begins_with (codes "##fileformat=VCF") l)
    ((n == 1) && begins_with (239 ∷ 187 ∷ 191 ∷ []) l) ((n == 1) && begins_with (31 ∷ []) l) s.double s.nul s.long s.vcf s.mark s.gzip

-- What the line has with one byte more.

pub record NextIs (n : ℕ) (l : List ℕ) (w : ByteWatch) (b : ℕ) : Type 0 where
  pub double : has_double_return (l ++ b ∷ []) ≡ ((b == 13) && (w.last == 13))
  pub nul : list_any (λ byte. byte == 0) (l ++ b ∷ []) ≡ (b == 0)
  pub long : nat_lt 1015 (length (l ++ b ∷ [])) ≡ nat_lt 1014 w.line
  pub vcf : begins_with (codes "##fileformat=VCF") (l ++ b ∷ []) ≡ (next_vcf w b == 16)
  pub mark : ((n == 1) && begins_with (239 ∷ 187 ∷ 191 ∷ []) (l ++ b ∷ [])) ≡ is_mark_at w b
  pub gzip : ((n == 1) && begins_with (31 ∷ []) (l ++ b ∷ [])) ≡ is_gzip_at w b

and_swap : (a b : Bool) → (a && b) ≡ (b && a)
and_swap true true = refl
and_swap true false = refl
and_swap false true = refl
and_swap false false = refl

or_new : (old new : Bool) → old ≡ false → (old || new) ≡ new
or_new old new e = rw e refl

and_or_new : (t old new : Bool) → (t && old) ≡ false → (t && (old || new)) ≡ (t && new)
and_or_new true old new e = rw e refl
and_or_new false old new e = refl

-- two that are the same where a test holds
guarded : (t x y : Bool) → (t ≡ true → x ≡ y) → (t && x) ≡ (t && y)
guarded true x y h = h refl
guarded false x y h = refl

next_vcf_is : (n : ℕ) (l : List ℕ) (w : ByteWatch) (b : ℕ) → Stands n l w → next_vcf w b ≡ (if grows (codes "##fileformat=VCF") l b then suc (length l) else 0)
next_vcf_is n l w b s =
    rw (s.vcf, s.line, begun_whole (codes "##fileformat=VCF") l) (ap (λ (t : Bool). if t then suc (length l) else 0) (sym (grows_is (codes "##fileformat=VCF") l b)))

counted_is : (g : Bool) (n : ℕ) → (g && (suc n == 16)) ≡ ((if g then suc n else 0) == 16)
counted_is true n = refl
counted_is false n = refl

length_push : (l : List ℕ) (b : ℕ) → length (l ++ b ∷ []) ≡ suc (length l)
length_push [] b = refl
length_push (x ∷ l) b = ap (λ (n : ℕ). suc n) (length_push l b)

some_length : (l : List ℕ) (k : ℕ) → (length l == suc k) ≡ true → 0 < length l
some_length l k e = grind (arith, nat_tests)

pub next_is : (n : ℕ) (l : List ℕ) (w : ByteWatch) (b : ℕ) → Stands n l w → NextIs n l w b
next_is n l w b s =
    let p = so_far_parts n l s.so_far in
    let head : (n == 1) ≡ true → 0 < length l → w.first ≡ get_or l 0 0 = λ one some. s.first (s.is_first ∙ one) (rw (s.line) some) in
    record {
      double = double_push l 10 b refl ∙ or_new (has_double_return l) ((last_after 10 l == 13) && (b == 13)) p.double ∙ and_swap (last_after 10 l == 13) (b == 13) ∙ ap (λ (x : ℕ). (b == 13) && (x == 13)) (sym s.last);
      nul = list_any-append (λ byte. byte == 0) l (b ∷ []) ∙ or_new (list_any (λ byte. byte == 0) l) ((b == 0) || false) p.nul ∙ or-false (b == 0);
      long = ap (λ (k : ℕ). nat_lt 1015 k) (length_push l b) ∙ above_next (length l) ∙ ap (λ (k : ℕ). nat_lt 1014 k) (sym s.line);
      vcf = begins_push (codes "##fileformat=VCF") l b ∙ or_new (begins_with (codes "##fileformat=VCF") l) (grows (codes "##fileformat=VCF") l b && (suc (length l) == 16)) p.vcf
          ∙ counted_is (grows (codes "##fileformat=VCF") l b) (length l) ∙ ap (λ (k : ℕ). k == 16) (sym (next_vcf_is n l w b s));
      mark = ap (λ (t : Bool). (n == 1) && t) (begins_push (239 ∷ 187 ∷ 191 ∷ []) l b)
          ∙ and_or_new (n == 1) (begins_with (239 ∷ 187 ∷ 191 ∷ []) l) (grows (239 ∷ 187 ∷ 191 ∷ []) l b && (suc (length l) == 3)) p.mark
          ∙ ap (λ (t : Bool). (n == 1) && t) (mark_push l b)
          ∙ rw (s.is_first, s.line, s.last) (guarded (n == 1) _ _ (λ one. guarded (length l == 2) _ _ (λ two. rw (head one (some_length l 1 two)) refl)));
      gzip = ap (λ (t : Bool). (n == 1) && t) (begins_push (31 ∷ []) l b)
          ∙ and_or_new (n == 1) (begins_with (31 ∷ []) l) (grows (31 ∷ []) l b && (suc (length l) == 1)) p.gzip
          ∙ ap (λ (t : Bool). (n == 1) && t) (gzip_push l b)
          ∙ rw (s.is_first, s.line) refl;
    }

-- The tests of a watch, one after the other.

abbrev chain : Bool → Bool → Bool → Bool → Bool → Bool → Option Oddity
chain u d g v k z = if u then Some Nul else (if d then Some DoubleReturn else (if g then Some Long else (if v then Some Vcf else (if k then Some Gzip else (if z then Some ByteOrderMark else None)))))

chain_parts : (u d g v k z : Bool) → chain u d g v k z ≡ None → (u ≡ false) × (d ≡ false) × (g ≡ false) × (v ≡ false) × (k ≡ false) × (z ≡ false)
chain_parts true d g v k z e = absurd (cc)
chain_parts false true g v k z e = absurd (cc)
chain_parts false false true v k z e = absurd (cc)
chain_parts false false false true k z e = absurd (cc)
chain_parts false false false false true z e = absurd (cc)
chain_parts false false false false false true e = absurd (cc)
chain_parts false false false false false false e = (refl, refl, refl, refl, refl, refl)

-- the test of an oddity
abbrev test_of : Oddity → Bool → Bool → Bool → Bool → Bool → Bool → Bool
test_of Blank u d g v k z = false
test_of DoubleReturn u d g v k z = d
test_of Nul u d g v k z = u
test_of Long u d g v k z = g
test_of Vcf u d g v k z = v
test_of ByteOrderMark u d g v k z = z
test_of Gzip u d g v k z = k
test_of HeaderName u d g v k z = false
test_of FarEnd u d g v k z = false

chain_some : (u d g v k z : Bool) (o : Oddity) → chain u d g v k z ≡ Some o → test_of o u d g v k z ≡ true
chain_some true d g v k z o e = let is : Nul ≡ o = cc in subst (λ (q : Oddity). test_of q true d g v k z ≡ true) is refl
chain_some false true g v k z o e = let is : DoubleReturn ≡ o = cc in subst (λ (q : Oddity). test_of q false true g v k z ≡ true) is refl
chain_some false false true v k z o e = let is : Long ≡ o = cc in subst (λ (q : Oddity). test_of q false false true v k z ≡ true) is refl
chain_some false false false true k z o e = let is : Vcf ≡ o = cc in subst (λ (q : Oddity). test_of q false false false true k z ≡ true) is refl
chain_some false false false false true z o e = let is : Gzip ≡ o = cc in subst (λ (q : Oddity). test_of q false false false false true z ≡ true) is refl
chain_some false false false false false true o e = let is : ByteOrderMark ≡ o = cc in subst (λ (q : Oddity). test_of q false false false false false true ≡ true) is refl
chain_some false false false false false false o e = absurd (cc)

-- The line with one byte more, if nothing is odd.

last_push : (x : ℕ) (l : List ℕ) (b : ℕ) → last_after x (l ++ b ∷ []) ≡ b
last_push x [] b = refl
last_push x (y ∷ l) b = last_push y l b

first_push : (l : List ℕ) (line first b : ℕ) → line ≡ length l → (0 < line → first ≡ get_or l 0 0) → (if line == 0 then b else first) ≡ get_or (l ++ b ∷ []) 0 0
first_push [] line first b e h = rw e refl
first_push (x ∷ l) line first b e h = let k : 0 < line = omega (arith, e) in rw (e, suc_zero (length l)) (h k)

line_push : (w : ByteWatch) (l : List ℕ) (b : ℕ) → w.line ≡ length l → nat_lt 1015 (length l) ≡ false → (lengthened w b).line ≡ length (l ++ b ∷ [])
line_push w l b e short =
    let f : nat_lt 1015 w.line ≡ false = ap (λ (k : ℕ). nat_lt 1015 k) e ∙ short in
    rw f (ap (λ (k : ℕ). suc k) e ∙ sym (length_push l b))

pub stands_next : (n : ℕ) (l : List ℕ) (w : ByteWatch) (b : ℕ) → Stands n l w → odd_in_line w b ≡ None → Stands n (l ++ b ∷ []) (lengthened w b)
stands_next n l w b s none =
    let now = next_is n l w b s in
    let t = chain_parts (b == 0) ((b == 13) && (w.last == 13)) (nat_lt 1014 w.line) (next_vcf w b == 16) (is_gzip_at w b) (is_mark_at w b) none in
    record {
      so_far = so_far_is n (l ++ b ∷ []) (record {
        double = now.double ∙ t.1;
        nul = now.nul ∙ t.0;
        long = now.long ∙ t.2;
        vcf = now.vcf ∙ t.3;
        mark = now.mark ∙ t.5;
        gzip = now.gzip ∙ t.4;
      });
      line = line_push w l b s.line (so_far_parts n l s.so_far).long;
      last = sym (last_push 10 l b);
      vcf = next_vcf_is n l w b s ∙ sym (begun_push (codes "##fileformat=VCF") l b);
      is_first = s.is_first;
      first = λ one some. first_push l w.line w.first b s.line (s.first one);
    }

-- The line with one byte more and others, if something is odd.

double_more : (l more : List ℕ) → has_double_return l ≡ true → has_double_return (l ++ more) ≡ true
double_more [] more e = absurd (cc)
double_more (x ∷ []) more e = absurd (cc)
double_more (x ∷ y ∷ l) more e = grind (arith, (double_more (y ∷ l) more))

begins_more : (beginning l more : List ℕ) → begins_with beginning l ≡ true → begins_with beginning (l ++ more) ≡ true
begins_more [] l more e = refl
begins_more (c ∷ beginning) [] more e = absurd (cc)
begins_more (c ∷ beginning) (x ∷ l) more e = grind (arith, (begins_more beginning l more))

any_more : (p : ℕ → Bool) (l more : List ℕ) → list_any p l ≡ true → list_any p (l ++ more) ≡ true
any_more p l more e = rw (list_any-append p l more, e) refl

long_more : (l more : List ℕ) → nat_lt 1015 (length l) ≡ true → nat_lt 1015 (length (l ++ more)) ≡ true
long_more l more e = let k = length-append l more in grind (arith, nat_tests)

and_more : (t x y : Bool) → (x ≡ true → y ≡ true) → (t && x) ≡ true → (t && y) ≡ true
and_more true x y h e = h e
and_more false x y h e = e

still_odd : (n : ℕ) (l more : List ℕ) (w : ByteWatch) (b : ℕ) → NextIs n l w b → (o : Oddity)
    → test_of o (b == 0) ((b == 13) && (w.last == 13)) (nat_lt 1014 w.line) (next_vcf w b == 16) (is_gzip_at w b) (is_mark_at w b) ≡ true
    → is_odd o (line_of n ((l ++ b ∷ []) ++ more)) ≡ true
still_odd n l more w b now Blank e = absurd (cc)
still_odd n l more w b now DoubleReturn e = double_more (l ++ b ∷ []) more (now.double ∙ e)
still_odd n l more w b now Nul e = any_more (λ byte. byte == 0) (l ++ b ∷ []) more (now.nul ∙ e)
still_odd n l more w b now Long e = long_more (l ++ b ∷ []) more (now.long ∙ e)
still_odd n l more w b now Vcf e = begins_more (codes "##fileformat=VCF") (l ++ b ∷ []) more (now.vcf ∙ e)
still_odd n l more w b now ByteOrderMark e = and_more (n == 1) _ _ (begins_more (239 ∷ 187 ∷ 191 ∷ []) (l ++ b ∷ []) more) (now.mark ∙ e)
still_odd n l more w b now Gzip e = and_more (n == 1) _ _ (begins_more (31 ∷ []) (l ++ b ∷ []) more) (now.gzip ∙ e)
still_odd n l more w b now HeaderName e = absurd (cc)
still_odd n l more w b now FarEnd e = absurd (cc)

pub odd_line : (n : ℕ) (l more : List ℕ) (w : ByteWatch) (b : ℕ) (o : Oddity) → Stands n l w → odd_in_line w b ≡ Some o → is_odd o (line_of n ((l ++ b ∷ []) ++ more)) ≡ true
odd_line n l more w b o s e =
    still_odd n l more w b (next_is n l w b s) o (chain_some (b == 0) ((b == 13) && (w.last == 13)) (nat_lt 1014 w.line) (next_vcf w b == 16) (is_gzip_at w b) (is_mark_at w b) o e)

-- The line at its end.

blank_one : (x : ℕ) (t : Bool) → bytes_eq (if t then [] else x ∷ []) [] ≡ (false || (true && t))
blank_one x true = refl
blank_one x false = refl

some_left : (n x : ℕ) (l : List ℕ) → 0 < n → bytes_eq (take n (x ∷ l)) [] ≡ false
some_left zero x l some = absurd (omega arith)
some_left (suc n) x l some = refl

blank_long : (x y : ℕ) (l : List ℕ) (t : Bool) → bytes_eq (if t then take (suc (suc (length l)) - 1) (x ∷ y ∷ l) else x ∷ y ∷ l) [] ≡ false
blank_long x y l true = some_left (suc (suc (length l)) - 1) x (y ∷ l) (omega arith)
blank_long x y l false = refl

blank_length : (l : List ℕ) (last : ℕ) → bytes_eq (strip_last 13 l) [] ≡ ((length l == 0) || ((length l == 1) && (last_after last l == 13)))
blank_length [] last = refl
blank_length (x ∷ []) last = blank_one x (x == 13)
blank_length (x ∷ y ∷ l) last = rw (suc_zero (suc (length l)), two_one (length l)) (blank_long x y l (ends_with_byte 13 (x ∷ y ∷ l)))

pub blank_is : (n : ℕ) (l : List ℕ) (w : ByteWatch) → Stands n l w → is_odd Blank (line_of n l) ≡ is_blank_end w
blank_is n l w s = rw (s.line, s.last) (blank_length l 10)

plain_by : (blank rest : Bool) → blank ≡ false → not rest ≡ true → not (blank || rest) ≡ true
plain_by blank rest e f = rw e f

pub plain_line : (n : ℕ) (l : List ℕ) (w : ByteWatch) → Stands n l w → is_blank_end w ≡ false → is_plain (line_of n l) ≡ true
plain_line n l w s e = plain_by (is_odd Blank (line_of n l)) _ (blank_is n l w s ∙ e) s.so_far

pub stands_fed : (k : ℕ) → Stands (suc (suc k)) [] fed
stands_fed k = record {
  so_far = so_far_is (suc (suc k)) [] (record { double = refl; nul = refl; long = refl; vcf = refl; mark = nothing (suc (suc k) == 1); gzip = nothing (suc (suc k) == 1) });
  line = refl;
  last = refl;
  vcf = refl;
  is_first = sym (two_one k);
  first = λ e some. absurd (omega (arith, some));
}
