-- Lemmas on a watch that passes some bytes.
use Rattle.bt_lines.proofs.Std.{arith, ◌≡◌, ℕ, ◌+◌, ◌-◌, ◌<◌, ◌≤◌, ◌==◌, ◌&&◌, ◌||◌, ◌++◌, ◌∙◌, ◌⊎◌, inl, inr, Bool, true, false, List, [], ◌∷◌, Option, Some, None, and_left, and_right, ap, append-nil, append_assoc, cases_Bool, cond, drop, drop-cons, get_or, if◌then◌else◌, is_some, length, length-append, length-take, nat_lt, nat_tests, not, refl, suc, sym, subst, take, take-append-drop, take_more, zero, drop-drop, length-drop, false_from_ne_true, eqb-true, eq-eqb}
use Rattle.bt_front.specs.calls.Bytes.{feeds_in, last_after}
use Rattle.bt_front.specs.declared.survey.byte_watch.ByteWatch.{ByteWatch}
use Rattle.bt_front.specs.declared.survey.byte_watch.OddBytes.{OddBytes}
use Rattle.bt_front.specs.declared.survey.oddity.Oddity.{Oddity}
use Rattle.bt_front.specs.declared.survey.oddity.Oddity.TheVariants.{Long}
use Rattle.bt_front.specs.inside.Watching.{AreQuiet, IsFound, IsPassed, after, are_plain, fed, lengthened, next_vcf, oddity_at, stepped}
use Rattle.bt_front.proofs.lemmas.survey.LineLemmas.{feeds_push}
use Rattle.bt_front.proofs.lemmas.survey.TestLemmas.{suc_zero}
use Rattle.bt_front.proofs.lemmas.survey.QuietLemmas.{QuietHead, above_not, grown, long_quiet, none_quiet, quiet_head, quiet_next, vcf_quiet}

pub after_more : (w : ByteWatch) (xs ys : List ℕ) → after w (xs ++ ys) ≡ after (after w xs) ys
after_more w [] ys = refl
after_more w (x ∷ xs) ys = after_more (stepped w x) xs ys

both_assoc : (a b c : Bool) → ((a && b) && c) ≡ (a && (b && c))
both_assoc true b c = refl
both_assoc false b c = refl

pub plain_more : (w : ByteWatch) (xs ys : List ℕ) → are_plain w (xs ++ ys) ≡ are_plain w xs && are_plain (after w xs) ys
plain_more w [] ys = refl
plain_more w (x ∷ xs) ys =
    ap (λ (t : Bool). not (is_some (oddity_at w x)) && t) (plain_more (stepped w x) xs ys)
    ∙ sym (both_assoc (not (is_some (oddity_at w x))) (are_plain (stepped w x) xs) (are_plain (after (stepped w x) xs) ys))

-- nothing is odd with one byte more
pub plain_push : (w : ByteWatch) (xs : List ℕ) (b : ℕ) → are_plain w xs ≡ true → oddity_at (after w xs) b ≡ None → are_plain w (xs ++ b ∷ []) ≡ true
plain_push w xs b plain none = rw (plain_more w xs (b ∷ []), plain, none) refl

pub after_push : (w : ByteWatch) (xs : List ℕ) (b : ℕ) → after w (xs ++ b ∷ []) ≡ stepped (after w xs) b
after_push w xs b = after_more w xs (b ∷ [])

-- a block around the byte at a place
pub around : (block : List ℕ) (i : ℕ) → i < length block → block ≡ take i block ++ get_or block i 0 ∷ drop (suc i) block
around block i within = sym (take-append-drop i block) ∙ ap (λ (l : List ℕ). take i block ++ l) (drop-cons block i 0 within)

-- the first byte with which something is odd is found
pub found_at : (w now : ByteWatch) (block : List ℕ) (i : ℕ) (found : OddBytes) → i < length block → now ≡ after w (take i block) → are_plain w (take i block) ≡ true
    → oddity_at now (get_or block i 0) ≡ Some found.oddity → found.feeds ≡ feeds_in (take i block) → IsFound w block found
found_at w now block i found within passed plain odd feeds = record {
  front = take i block;
  byte = get_or block i 0;
  rest = drop (suc i) block;
  is = around block i within;
  plain = plain;
  odd = ap (λ (v : ByteWatch). oddity_at v (get_or block i 0)) (sym passed) ∙ odd;
  feeds = feeds;
}

-- one byte of a block more
pub plain_next : (w now : ByteWatch) (block : List ℕ) (i : ℕ) → i < length block → now ≡ after w (take i block) → are_plain w (take i block) ≡ true
    → oddity_at now (get_or block i 0) ≡ None → are_plain w (take (i + 1) block) ≡ true
plain_next w now block i within passed plain none =
    rw (take_more block i 0 within) (plain_push w (take i block) (get_or block i 0) plain (ap (λ (v : ByteWatch). oddity_at v (get_or block i 0)) (sym passed) ∙ none))

pub after_next : (w now : ByteWatch) (block : List ℕ) (i : ℕ) → i < length block → now ≡ after w (take i block)
    → stepped now (get_or block i 0) ≡ after w (take (i + 1) block)
after_next w now block i within passed =
    rw (take_more block i 0 within, after_push w (take i block) (get_or block i 0)) (ap (λ (v : ByteWatch). stepped v (get_or block i 0)) passed)

pub feeds_next : (block : List ℕ) (i : ℕ) → i < length block → feeds_in (take (i + 1) block) ≡ cond (get_or block i 0 == 10) (suc (feeds_in (take i block))) (feeds_in (take i block))
feeds_next block i within = rw (take_more block i 0 within) (feeds_push (take i block) (get_or block i 0))

-- a line feed more
pub feed_more : (block : List ℕ) (i feeds new : ℕ) → i < length block → feeds ≡ feeds_in (take i block) → new ≡ feeds + 1 → get_or block i 0 ≡ 10 → new ≡ feeds_in (take (i + 1) block)
feed_more block i feeds new within same more is =
    let next : feeds_in (take (i + 1) block) ≡ suc (feeds_in (take i block)) = feeds_next block i within ∙ ap (λ (b : ℕ). cond (b == 10) (suc (feeds_in (take i block))) (feeds_in (take i block))) is in
    omega (arith, same, more, next)

-- another byte
pub feed_same : (block : List ℕ) (i feeds new : ℕ) → i < length block → feeds ≡ feeds_in (take i block) → new ≡ feeds → (get_or block i 0 ≡ 10 → ⊥) → new ≡ feeds_in (take (i + 1) block)
feed_same block i feeds new within same more other =
    let test : (get_or block i 0 == 10) ≡ false = false_from_ne_true (get_or block i 0 == 10) (λ t. other (eqb-true (get_or block i 0) 10 t)) in
    let next : feeds_in (take (i + 1) block) ≡ feeds_in (take i block) = feeds_next block i within ∙ ap (λ (t : Bool). cond t (suc (feeds_in (take i block))) (feeds_in (take i block))) test in
    more ∙ same ∙ sym next

-- Quiet bytes.

-- the line of some quiet bytes isn't too long
pub quiet_short : (w : ByteWatch) (block : List ℕ) → 0 < length block → AreQuiet w block → w.line ≤ 1015
quiet_short w [] some q = absurd (omega arith)
quiet_short w (b ∷ bs) some q = (quiet_head w b bs q).short

pub record QuietRun (w : ByteWatch) (s rest : List ℕ) : Type 0 where
  pub plain : are_plain w s ≡ true
  pub quiet : AreQuiet (after w s) rest
  pub line : (after w s).line ≤ w.line + length s

none_plain : (o : Option Oddity) (t : Bool) → o ≡ None → t ≡ true → (not (is_some o) && t) ≡ true
none_plain o t e f = rw (e, f) refl

pub quiet_run : (s rest : List ℕ) (w : ByteWatch) → AreQuiet w (s ++ rest) → w.line + length s ≤ 1015 → QuietRun w s rest
quiet_run [] rest w q short = record { plain = refl; quiet = q; line = omega arith }
quiet_run (b ∷ s) rest w q short =
    let small : w.line ≤ 1014 = omega arith in
    let more = grown w b in
    let next = quiet_run s rest (stepped w b) (quiet_next w b (s ++ rest) q (λ _. small)) (omega (arith, more)) in
    record {
      plain = none_plain (oddity_at w b) (are_plain (stepped w b) s) (none_quiet w b (s ++ rest) q (λ _. small)) next.plain;
      quiet = next.quiet;
      line = let le = next.line in omega (arith, le, more);
    }

feed_any : {A : Type 0} → true ≡ false → A
feed_any e = absurd (cc)

-- bytes up to a line feed are passed
pub passed_fed : (s rest : List ℕ) (w : ByteWatch) → AreQuiet w (s ++ 10 ∷ rest) → w.line + length s ≤ 1015 → IsPassed w (s ++ 10 ∷ []) fed
passed_fed s rest w q short =
    let run = quiet_run s (10 ∷ rest) w q short in
    record {
      is = sym (after_push w s 10);
      plain = λ _. plain_push w s 10 run.plain (none_quiet (after w s) 10 rest run.quiet (λ e. feed_any e));
      long = λ long. absurd (omega (arith, long));
    }

pub fed_quiet : (s rest : List ℕ) (w : ByteWatch) → AreQuiet w (s ++ 10 ∷ rest) → w.line + length s ≤ 1015 → AreQuiet fed rest
fed_quiet s rest w q short =
    let run = quiet_run s (10 ∷ rest) w q short in
    quiet_next (after w s) 10 rest run.quiet (λ e. feed_any e)

-- no byte is a line feed
abbrev pub HasNoFeed : List ℕ → Type 0
HasNoFeed [] = Unit {0}
HasNoFeed (b ∷ bs) = ((b == 10) ≡ false) × HasNoFeed bs

-- the watch after some bytes of a line
abbrev pub longer : ByteWatch → ℕ → List ℕ → ByteWatch
longer w x s = record {
  last = last_after x s;
  line = w.line + suc (length s);
  vcf = 0;
  is_first = w.is_first;
  first = if w.line == 0 then x else w.first;
}

one_longer : (w : ByteWatch) (x : ℕ) → w.line ≤ 1015 → next_vcf w x ≡ 0 → lengthened w x ≡ longer w x []
one_longer w x short vcf =
    let e : nat_lt 1015 w.line ≡ false = above_not 1015 w.line short in
    let f : w.line + suc 0 ≡ suc w.line = omega arith in
    rw (e, vcf, f) refl

more_longer : (w v : ByteWatch) (x y : ℕ) (s : List ℕ) → v ≡ longer w x [] → longer v y s ≡ longer w x (y ∷ s)
more_longer w v x y s e =
    let one : w.line + suc 0 ≡ suc w.line = omega arith in
    let f : (w.line + suc 0) + suc (length s) ≡ w.line + suc (suc (length s)) = omega arith in
    let g : ((w.line + suc 0) == 0) ≡ false = ap (λ (k : ℕ). k == 0) one ∙ suc_zero w.line in
    rw e (rw (f, g) refl)

pub line_run : (s rest : List ℕ) (w : ByteWatch) (x : ℕ) → AreQuiet w (x ∷ (s ++ rest)) → HasNoFeed (x ∷ s) → w.line + suc (length s) ≤ 1016 → after w (x ∷ s) ≡ longer w x s
line_run [] rest w x q none short =
    rw (none.0) (one_longer w x (omega arith) (vcf_quiet w x (quiet_head w x rest q)))
line_run (y ∷ s) rest w x q none short =
    let small : w.line ≤ 1014 = omega arith in
    let one : stepped w x ≡ longer w x [] = rw (none.0) (one_longer w x (omega arith) (vcf_quiet w x (quiet_head w x (y ∷ (s ++ rest)) q))) in
    let grew = grown w x in
    line_run s rest (stepped w x) y (quiet_next w x (y ∷ (s ++ rest)) q (λ _. small)) none.1 (omega (arith, grew))
    ∙ more_longer w (stepped w x) x y s one

-- the last of some bytes, and those before it
record LastOf (x : ℕ) (s : List ℕ) : Type 0 where
  front : List ℕ
  byte : ℕ
  is : x ∷ s ≡ front ++ byte ∷ []
  size : length front ≡ length s
  other : HasNoFeed (x ∷ s) → ((byte == 10) ≡ false) × HasNoFeed front

last_of : (x : ℕ) (s : List ℕ) → LastOf x s
last_of x [] = record { front = []; byte = x; is = refl; size = refl; other = λ none. (none.0, tt) }
last_of x (y ∷ s) =
    let rest = last_of y s in
    record {
      front = x ∷ rest.front;
      byte = rest.byte;
      is = ap (λ (l : List ℕ). x ∷ l) rest.is;
      size = ap (λ (n : ℕ). suc n) rest.size;
      other = λ none. let others = rest.other none.1 in (others.0, (none.0, others.1));
    }

line_grows : (s rest : List ℕ) (w : ByteWatch) → AreQuiet w (s ++ rest) → HasNoFeed s → w.line + length s ≤ 1015 → (after w s).line ≡ w.line + length s
line_grows [] rest w q none short = omega arith
line_grows (x ∷ s) rest w q none short =
    ap (λ (v : ByteWatch). v.line) (line_run s rest w x q none (omega arith))

-- bytes of a line are passed, the last of which may make it too long
pub passed_line : (s rest : List ℕ) (w : ByteWatch) (x : ℕ) → AreQuiet w ((x ∷ s) ++ rest) → HasNoFeed (x ∷ s) → w.line + suc (length s) ≤ 1016 → IsPassed w (x ∷ s) (longer w x s)
passed_line s rest w x q none short = record {
  is = sym (line_run s rest w x q none short);
  plain = λ small. (quiet_run (x ∷ s) rest w q (omega (arith, small))).plain;
  long = λ long.
      let last = last_of x s in
      let size = last.size in
      let others = last.other none in
      let joined : (x ∷ s) ++ rest ≡ last.front ++ (last.byte ∷ rest) = ap (λ (l : List ℕ). l ++ rest) last.is ∙ append_assoc last.front (last.byte ∷ []) rest in
      let quiet : AreQuiet w (last.front ++ (last.byte ∷ rest)) = subst (λ (l : List ℕ). AreQuiet w l) joined q in
      let room : w.line + length last.front ≤ 1015 = omega (arith, size) in
      let run = quiet_run last.front (last.byte ∷ rest) w quiet room in
      let line : (after w last.front).line ≡ 1015 = line_grows last.front (last.byte ∷ rest) w quiet others.1 room ∙ omega (arith, size, long) in
      (last.front, last.byte, last.is, run.plain, long_quiet (after w last.front) last.byte rest run.quiet others.0 line);
}

pub line_quiet : (s rest : List ℕ) (w : ByteWatch) (x : ℕ) → AreQuiet w ((x ∷ s) ++ rest) → HasNoFeed (x ∷ s) → w.line + suc (length s) ≤ 1015 → AreQuiet (longer w x s) rest
line_quiet s rest w x q none short =
    subst (λ (v : ByteWatch). AreQuiet v rest) (line_run s rest w x q none (omega arith)) (quiet_run (x ∷ s) rest w q (omega arith)).quiet

-- bytes that are passed, and more of them
pub passed_more : (w v u : ByteWatch) (xs ys : List ℕ) → IsPassed w xs v → v.line ≤ 1015 → IsPassed v ys u → IsPassed w (xs ++ ys) u
passed_more w v u xs ys one short two = record {
  is = two.is ∙ ap (λ (a : ByteWatch). after a ys) one.is ∙ sym (after_more w xs ys);
  plain = λ small. rw (plain_more w xs ys, one.plain short, ← one.is) (two.plain small);
  long = λ big.
      let found = two.long big in (
        xs ++ found.0,
        found.1,
        ap (λ (l : List ℕ). xs ++ l) found.2 ∙ sym (append_assoc xs found.0 (found.1 ∷ [])),
        rw (plain_more w xs found.0, one.plain short, ← one.is) found.3,
        rw (after_more w xs found.0, ← one.is) found.4,
      );
}

-- no bytes are passed
pub passed_none : (w : ByteWatch) → w.line ≤ 1015 → IsPassed w [] w
passed_none w short = record { is = refl; plain = λ _. refl; long = λ long. absurd (omega (arith, long, short)) }

long_goes_on : (w : ByteWatch) (b : ℕ) → oddity_at w b ≡ Some Long → (b == 10) ≡ false
long_goes_on w b e = grind arith

-- a line that got too long is found
pub found_long : (w v : ByteWatch) (block : List ℕ) (at : ℕ) (found : OddBytes) → IsPassed w (take at block) v → 1015 < v.line → found.oddity ≡ Long → found.feeds ≡ feeds_in (take at block) → IsFound w block found
found_long w v block at found passed big is feeds =
    let parts = passed.long big in
    record {
      front = parts.0;
      byte = parts.1;
      rest = drop at block;
      is = sym (take-append-drop at block) ∙ ap (λ (l : List ℕ). l ++ drop at block) parts.2 ∙ append_assoc parts.0 (parts.1 ∷ []) (drop at block);
      plain = parts.3;
      odd = parts.4 ∙ ap (λ (o : Oddity). Some o) (sym is);
      feeds = feeds ∙ ap (λ (l : List ℕ). feeds_in l) parts.2 ∙ feeds_push parts.0 parts.1 ∙ ap (λ (t : Bool). cond t (suc (feeds_in parts.0)) (feeds_in parts.0)) (long_goes_on (after w parts.0) parts.1 parts.4);
    }
