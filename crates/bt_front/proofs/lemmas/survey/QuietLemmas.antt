-- Lemmas on bytes in which nothing is odd but the length of a line.
use Rattle.bt_lines.proofs.Std.{arith, ◌≡◌, ℕ, ◌+◌, ◌-◌, ◌<◌, ◌≤◌, ◌==◌, ◌&&◌, ◌||◌, ◌++◌, ◌∙◌, ◌⊎◌, inl, inr, Bool, true, false, List, [], ◌∷◌, Option, Some, None, ap, append_assoc, cases_Bool, codes, cond, get_or, if◌then◌else◌, is_some, le-leb, length, length-append, nat_lt, nat_tests, not, or_parts, refl, suc, sym, take, zero, ltb-false, lt-ltb, eqb-true, subst}
use Rattle.bt_front.specs.calls.Bytes.{feeds_in, last_after}
use Rattle.bt_front.specs.declared.survey.byte_watch.ByteWatch.{ByteWatch}
use Rattle.bt_front.specs.declared.survey.oddity.Oddity.{Oddity}
use Rattle.bt_front.specs.declared.survey.oddity.Oddity.TheVariants.{Blank, DoubleReturn, Nul, Long, Vcf, ByteOrderMark, Gzip}
use Rattle.bt_front.specs.inside.Watching.{AreQuiet, IsPassed, after, are_plain, fed, is_blank_end, is_gzip_at, is_mark_at, lengthened, may_be_odd, may_be_odd_first, may_begin, next_vcf, odd_in_line, oddity_at, stepped}
use Rattle.bt_front.specs.model.Odd.{has_special, is_mark}
use Rattle.bt_front.proofs.lemmas.survey.TestLemmas.{nothing, suc_zero, zero_suc}

-- What is known of the first of some quiet bytes.

pub record QuietHead (w : ByteWatch) (b : ℕ) : Type 0 where
  pub blank : ((b == 10) && is_blank_end w) ≡ false
  pub begun : (w.is_first && may_begin (if w.line == 0 then b else w.first)) ≡ false
  pub vcf : w.vcf ≡ 0
  pub short : w.line ≤ 1015
  pub nul : (b == 0) ≡ false
  pub return : (b == 13) ≡ false
  pub hash : (b == 35) ≡ false

special_parts : (b : ℕ) (bs : List ℕ) → has_special (b ∷ bs) ≡ false → (is_mark b ≡ false) × (has_special bs ≡ false)
special_parts b [] e = (e, refl)
special_parts b (c ∷ bs) e =
    let one = or_parts (is_mark b || ((b == 10) && (c == 10))) (has_special (c ∷ bs)) e in
    let two = or_parts (is_mark b) ((b == 10) && (c == 10)) one.0 in
    (two.0, one.1)

special_pair : (b c : ℕ) (bs : List ℕ) → has_special (b ∷ c ∷ bs) ≡ false → ((b == 10) && (c == 10)) ≡ false
special_pair b c bs e =
    let one = or_parts (is_mark b || ((b == 10) && (c == 10))) (has_special (c ∷ bs)) e in
    (or_parts (is_mark b) ((b == 10) && (c == 10)) one.0).1

not_above : (n m : ℕ) → nat_lt n m ≡ false → m ≤ n
not_above n m e = grind (arith, nat_tests)

pub above_not : (n m : ℕ) → m ≤ n → nat_lt n m ≡ false
above_not n m e = grind (arith, nat_tests)

pub quiet_head : (w : ByteWatch) (b : ℕ) (bs : List ℕ) → AreQuiet w (b ∷ bs) → QuietHead w b
quiet_head w b bs q =
    let blank : Bool = (b == 10) && is_blank_end w in
    let begun : Bool = w.is_first && may_begin (if w.line == 0 then b else w.first) in
    let one = or_parts ((blank || begun) || nat_lt 0 w.vcf) (nat_lt 1015 w.line) q.first in
    let two = or_parts (blank || begun) (nat_lt 0 w.vcf) one.0 in
    let three = or_parts blank begun two.0 in
    let mark = or_parts ((b == 0) || (b == 13)) (b == 35) (special_parts b bs q.special).0 in
    let bytes = or_parts (b == 0) (b == 13) mark.0 in
    record {
      blank = three.0;
      begun = three.1;
      vcf = let h : w.vcf ≤ 0 = not_above 0 w.vcf two.1 in omega arith;
      short = not_above 1015 w.line one.1;
      nul = bytes.0;
      return = bytes.1;
      hash = mark.1;
    }

quiet_is : (w : ByteWatch) (b : ℕ) → ((b == 10) && is_blank_end w) ≡ false → (w.is_first && may_begin (if w.line == 0 then b else w.first)) ≡ false
    → nat_lt 0 w.vcf ≡ false → nat_lt 1015 w.line ≡ false → may_be_odd w b ≡ false
quiet_is w b blank begun vcf short = rw (blank, begun, vcf, short) refl

vcf_next : (vcf line b : ℕ) → vcf ≡ 0 → (b == 35) ≡ false
    → (if (vcf == line) && (nat_lt line 16 && (b == get_or (codes "##fileformat=VCF") line 0)) then suc line else 0) ≡ 0
vcf_next vcf zero b e f = rw (e, f) refl
vcf_next vcf (suc line) b e f = rw (e, zero_suc line) refl

pub vcf_quiet : (w : ByteWatch) (b : ℕ) → QuietHead w b → next_vcf w b ≡ 0
vcf_quiet w b head = vcf_next w.vcf w.line b head.vcf head.hash

-- a text that may not begin so doesn't
not_begun : (first_line : Bool) (line first b : ℕ) → (first_line && may_begin (if line == 0 then b else first)) ≡ false
    → (first_line && ((line == 0) && (b == 31))) ≡ false
not_begun false line first b e = refl
not_begun true zero first b e = (or_parts (b == 31) (b == 239) e).0
not_begun true (suc line) first b e = rw (suc_zero line) refl

not_marked : (first_line : Bool) (line first b : ℕ) (rest : Bool) → (first_line && may_begin (if line == 0 then b else first)) ≡ false
    → (first_line && ((line == 2) && ((first == 239) && rest))) ≡ false
not_marked false line first b rest e = refl
not_marked true zero first b rest e = refl
not_marked true (suc line) first b rest e = rw ((or_parts (first == 31) (first == 239) (rw (suc_zero line) at e)).1) (nothing (suc line == 2))

chain_none : (u d g v k z : Bool) → u ≡ false → d ≡ false → g ≡ false → v ≡ false → k ≡ false → z ≡ false
    → (if u then Some Nul else (if d then Some DoubleReturn else (if g then Some Long else (if v then Some Vcf else (if k then Some Gzip else (if z then Some ByteOrderMark else None)))))) ≡ None
chain_none u d g v k z a b c e f h = rw (a, b, c, e, f, h) refl

chain_long : (u d g : Bool) (rest : Option Oddity) → u ≡ false → d ≡ false → g ≡ true
    → (if u then Some Nul else (if d then Some DoubleReturn else (if g then Some Long else rest))) ≡ Some Long
chain_long u d g rest a b c = rw (a, b, c) refl

no_return : (b last : Bool) → b ≡ false → (b && last) ≡ false
no_return b last e = rw e refl

none_in_line : (w : ByteWatch) (b : ℕ) → QuietHead w b → w.line ≤ 1014 → odd_in_line w b ≡ None
none_in_line w b head short =
    chain_none (b == 0) ((b == 13) && (w.last == 13)) (nat_lt 1014 w.line) (next_vcf w b == 16) (is_gzip_at w b) (is_mark_at w b)
    head.nul (no_return (b == 13) (w.last == 13) head.return) (above_not 1014 w.line short) (ap (λ (n : ℕ). n == 16) (vcf_quiet w b head))
    (not_begun w.is_first w.line w.first b head.begun) (not_marked w.is_first w.line w.first b ((w.last == 187) && (b == 191)) head.begun)

long_in_line : (w : ByteWatch) (b : ℕ) → QuietHead w b → 1014 < w.line → odd_in_line w b ≡ Some Long
long_in_line w b head long =
    chain_long (b == 0) ((b == 13) && (w.last == 13)) (nat_lt 1014 w.line) _
    head.nul (no_return (b == 13) (w.last == 13) head.return) (lt-ltb 1014 w.line long)

choose_feed : (t blank : Bool) (other : Option Oddity) → (t && blank) ≡ false → (t ≡ false → other ≡ None) → (if t then (if blank then Some Blank else None) else other) ≡ None
choose_feed true blank other e h = rw e refl
choose_feed false blank other e h = h refl

-- nothing is odd with the first of some quiet bytes, in a line that is short
pub none_quiet : (w : ByteWatch) (b : ℕ) (bs : List ℕ) → AreQuiet w (b ∷ bs) → ((b == 10) ≡ false → w.line ≤ 1014) → oddity_at w b ≡ None
none_quiet w b bs q short =
    let head = quiet_head w b bs q in
    choose_feed (b == 10) (is_blank_end w) (odd_in_line w b) head.blank (λ other. none_in_line w b head (short other))

-- and a line that has 1,015 bytes gets too long
pub long_quiet : (w : ByteWatch) (b : ℕ) (bs : List ℕ) → AreQuiet w (b ∷ bs) → (b == 10) ≡ false → w.line ≡ 1015 → oddity_at w b ≡ Some Long
long_quiet w b bs q other line =
    rw other (long_in_line w b (quiet_head w b bs q) (omega arith))

-- What comes next is quiet.

next_fed : (b c : ℕ) (cs : List ℕ) → has_special (b ∷ c ∷ cs) ≡ false → (b == 10) ≡ true → may_be_odd fed c ≡ false
next_fed b c cs special is =
    let pair : ((b == 10) && (c == 10)) ≡ false = special_pair b c cs special in
    let two : (c == 10) ≡ false = sym (ap (λ (t : Bool). t && (c == 10)) is) ∙ pair in
    rw two refl

not_blank : (t : Bool) (line : ℕ) (r : Bool) → r ≡ false → (t && ((suc line == 0) || ((suc line == 1) && r))) ≡ false
not_blank true line r e = rw (suc_zero line, e) (nothing (suc line == 1))
not_blank false line r e = refl

next_line : (w : ByteWatch) (b c : ℕ) → QuietHead w b → w.line ≤ 1014 → may_be_odd (lengthened w b) c ≡ false
next_line w b c head short =
    let e : nat_lt 1015 w.line ≡ false = above_not 1015 w.line (omega arith) in
    let line : (lengthened w b).line ≡ suc w.line = rw e refl in
    quiet_is (lengthened w b) c
    (rw line (not_blank (c == 10) w.line (b == 13) head.return))
    (rw (line, suc_zero w.line) head.begun)
    (ap (λ (n : ℕ). nat_lt 0 n) (vcf_quiet w b head))
    (rw line (above_not 1015 (suc w.line) (omega arith)))

pub quiet_next : (w : ByteWatch) (b : ℕ) (bs : List ℕ) → AreQuiet w (b ∷ bs) → ((b == 10) ≡ false → w.line ≤ 1014) → AreQuiet (stepped w b) bs
quiet_next w b [] q short = record { special = refl; first = refl }
quiet_next w b (c ∷ cs) q short = record {
  special = (special_parts b (c ∷ cs) q.special).1;
  first = elim (cases_Bool (b == 10)) [
    | inl t ↦ rw t (next_fed b c cs q.special t)
    | inr f ↦ rw f (next_line w b c (quiet_head w b (c ∷ cs) q) (short f))
  ];
}

-- a line grows by one byte at most
pub grown : (w : ByteWatch) (b : ℕ) → (stepped w b).line ≤ suc w.line
grown w b = grind arith
