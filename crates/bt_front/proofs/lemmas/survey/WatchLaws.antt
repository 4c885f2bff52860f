-- What a watch shows of a text follows from what it does byte by byte.
use Rattle.bt_lines.proofs.Std.{arith, ◌≡◌, ℕ, ◌+◌, ◌<◌, ◌==◌, ◌&&◌, ◌||◌, ◌++◌, ◌∙◌, ◌⊎◌, inl, inr, Bool, true, false, List, [], ◌∷◌, Option, Some, None, IfNone, IfSome, ap, append-nil, append_assoc, cases_Bool, cond, if◌then◌else◌, is_some, length, list_all, list_all-append, not, refl, suc, sym, subst}
use Rattle.bt_lines.specs.model.Lines.{pieces}
use Rattle.bt_front.specs.calls.Bytes.{EndsBytes, IsOddAfter, ShowsBytes, feeds_in, open_line, raw_whole}
use Rattle.bt_front.specs.declared.survey.byte_watch.ByteWatch.{ByteWatch}
use Rattle.bt_front.specs.declared.survey.byte_watch.OddBytes.{OddBytes}
use Rattle.bt_front.specs.declared.survey.oddity.Oddity.{Oddity}
use Rattle.bt_front.specs.declared.survey.oddity.Oddity.TheVariants.{Blank}
use Rattle.bt_front.specs.inside.Watching.{IsFound, after, are_plain, fed, is_blank_end, lengthened, odd_in_line, oddity_at, stepped}
use Rattle.bt_front.specs.model.Odd.{IsFirstOdd, RawLine, is_odd, is_plain, raw_lines}
use Rattle.bt_front.proofs.lemmas.survey.LineLemmas.{GoesOn, feeds_more, feeds_push, goes_on, last_on, line_of, lines_after, lines_on, open_is, open_on, open_push, whole_on, wholes_are, wholes_push}
use Rattle.bt_front.proofs.lemmas.survey.TestLemmas.{suc_zero}
use Rattle.bt_front.proofs.lemmas.survey.StandLemmas.{Stands, blank_is, odd_line, plain_line, stands_fed, stands_next}

-- the lines before are plain, and the watch knows the line that has begun
record Known (bytes : List ℕ) (w : ByteWatch) : Type 0 where
  whole : list_all is_plain (whole_on 1 [] bytes) ≡ true
  stands : Stands (suc (feeds_in bytes)) (open_on [] bytes) w

known : (bytes : List ℕ) (w : ByteWatch) → ShowsBytes bytes w → Known bytes w
known bytes w shows = record {
  whole = ap (λ (ls : List RawLine). list_all is_plain ls) (sym (wholes_are bytes)) ∙ shows.whole;
  stands =
      let stands : Stands (suc (feeds_in bytes)) (open_line bytes).bytes w = record {
        so_far = shows.so_far;
        line = shows.line;
        last = shows.last;
        vcf = shows.vcf;
        is_first = shows.is_first;
        first = shows.first;
      } in subst (λ (l : List ℕ). Stands (suc (feeds_in bytes)) l w) (open_is bytes) stands;
}

shown : (bytes : List ℕ) (w : ByteWatch) → Known bytes w → ShowsBytes bytes w
shown bytes w k =
    let stands : Stands (suc (feeds_in bytes)) (open_line bytes).bytes w = subst (λ (l : List ℕ). Stands (suc (feeds_in bytes)) l w) (sym (open_is bytes)) k.stands in
    record {
      whole = ap (λ (ls : List RawLine). list_all is_plain ls) (wholes_are bytes) ∙ k.whole;
      so_far = stands.so_far;
      line = stands.line;
      last = stands.last;
      vcf = stands.vcf;
      is_first = stands.is_first;
      first = stands.first;
    }

-- One byte more.

blank_none : (t : Bool) → (if t then Some Blank else None) ≡ None → t ≡ false
blank_none true e = absurd (cc)
blank_none false e = refl

both : (a b : Bool) → a ≡ true → b ≡ true → (a && (b && true)) ≡ true
both a b e f = rw (e, f) refl

known_next : (bytes : List ℕ) (w : ByteWatch) (b : ℕ) (t : Bool) → (b == 10) ≡ t → Known bytes w → (if t then (if is_blank_end w then Some Blank else None) else odd_in_line w b) ≡ None
    → Known (bytes ++ b ∷ []) (if t then fed else lengthened w b)
known_next bytes w b true is k none = record {
  whole =
      let line : RawLine = line_of (suc (feeds_in bytes)) (open_on [] bytes) in
      rw (wholes_push bytes b, is, list_all-append is_plain (whole_on 1 [] bytes) (line ∷ []))
      (both (list_all is_plain (whole_on 1 [] bytes)) (is_plain line) k.whole (plain_line (suc (feeds_in bytes)) (open_on [] bytes) w k.stands (blank_none (is_blank_end w) none)));
  stands = rw (feeds_push bytes b, open_push bytes b, is) (stands_fed (feeds_in bytes));
}
known_next bytes w b false is k none = record {
  whole = rw (wholes_push bytes b, is, append-nil (whole_on 1 [] bytes)) k.whole;
  stands = rw (feeds_push bytes b, open_push bytes b, is) (stands_next (suc (feeds_in bytes)) (open_on [] bytes) w b k.stands none);
}

plain_parts : (o : Option Oddity) (t : Bool) → (not (is_some o) && t) ≡ true → (o ≡ None) × (t ≡ true)
plain_parts None t e = (refl, e)
plain_parts (Some o) t e = absurd (cc)

known_run : (bytes s : List ℕ) (w : ByteWatch) → Known bytes w → are_plain w s ≡ true → Known (bytes ++ s) (after w s)
known_run bytes [] w k plain = rw append-nil k
known_run bytes (b ∷ s) w k plain =
    let parts = plain_parts (oddity_at w b) (are_plain (stepped w b) s) plain in
    rw (← append_assoc bytes (b ∷ []) s) (known_run (bytes ++ b ∷ []) s (stepped w b) (known_next bytes w b (b == 10) refl k parts.0) parts.1)

pub shows_run : (bytes s : List ℕ) (w : ByteWatch) → ShowsBytes bytes w → are_plain w s ≡ true → ShowsBytes (bytes ++ s) (after w s)
shows_run bytes s w shows plain = shown (bytes ++ s) (after w s) (known_run bytes s w (known bytes w shows) plain)

-- The first odd line.

blank_some : (t : Bool) (o : Oddity) → (if t then Some Blank else None) ≡ Some o → (t ≡ true) × (Blank ≡ o)
blank_some true o e = (refl, cc)
blank_some false o e = absurd (cc)

odd_next : (n : ℕ) (l : List ℕ) (w : ByteWatch) (b : ℕ) (tail : List ℕ) (o : Oddity) (t : Bool) → (b == 10) ≡ t → Stands n l w
    → (if t then (if is_blank_end w then Some Blank else None) else odd_in_line w b) ≡ Some o
    → (line : RawLine) × (others : List RawLine) × (lines_on n l (b ∷ tail) ≡ line ∷ others) × (line.number ≡ n) × (is_odd o line ≡ true)
odd_next n l w b tail o true is s e =
    let parts = blank_some (is_blank_end w) o e in
    (line_of n l, lines_on (suc n) [] tail, rw is refl, refl, subst (λ (q : Oddity). is_odd q (line_of n l) ≡ true) parts.1 (blank_is n l w s ∙ parts.0))
odd_next n l w b tail o false is s e =
    let goes = goes_on n l b tail in
    (line_of n ((l ++ b ∷ []) ++ goes.more), goes.others, rw is goes.is, refl, odd_line n l goes.more w b o s e)

known_odd : (bytes : List ℕ) (w : ByteWatch) (b : ℕ) (tail : List ℕ) (o : Oddity) (number : ℕ) → Known bytes w → oddity_at w b ≡ Some o → number ≡ suc (feeds_in bytes)
    → IsFirstOdd (raw_lines (bytes ++ b ∷ tail)) number o
known_odd bytes w b tail o number k e is =
    let found = odd_next (suc (feeds_in bytes)) (open_on [] bytes) w b tail o (b == 10) refl k.stands e in
    record {
      before = whole_on 1 [] bytes;
      line = found.0;
      after = found.1;
      lines_are = lines_after bytes (b ∷ tail) ∙ ap (λ (ls : List RawLine). whole_on 1 [] bytes ++ ls) found.2;
      plain_before = k.whole;
      number_is = found.3 ∙ sym is;
      odd = found.4;
    }

spelled_out : (before block front : List ℕ) (b : ℕ) (rest more : List ℕ) → block ≡ front ++ b ∷ rest → (before ++ block) ++ more ≡ (before ++ front) ++ b ∷ (rest ++ more)
spelled_out before block front b rest more e = rw e (simp append_assoc)

pub shows_odd : (before block : List ℕ) (w : ByteWatch) (found : OddBytes) → ShowsBytes before w → IsFound w block found → IsOddAfter before block found
shows_odd before block w found shows is = λ more.
    let k = known_run before is.front w (known before w shows) is.plain in
    let number : suc (feeds_in before + found.feeds) ≡ suc (feeds_in (before ++ is.front)) = ap (λ (n : ℕ). suc n) (ap (λ (n : ℕ). feeds_in before + n) is.feeds ∙ sym (feeds_more before is.front)) in
    subst (λ (text : List ℕ). IsFirstOdd (raw_lines text) (suc (feeds_in before + found.feeds)) found.oddity) (sym (spelled_out before block is.front is.byte is.rest more is.is))
    (known_odd (before ++ is.front) (after w is.front) is.byte (is.rest ++ more) found.oddity (suc (feeds_in before + found.feeds)) k is.odd number)

pub look_plain : (result : Option OddBytes) (w new : ByteWatch) (block : List ℕ) → IfNone result (are_plain w block ≡ true) → IfNone result (new ≡ after w block)
    → IfNone result ((before : List ℕ) → ShowsBytes before w → ShowsBytes (before ++ block) new)
look_plain None w new block plain passed = λ before shows. subst (λ (v : ByteWatch). ShowsBytes (before ++ block) v) (sym passed) (shows_run before block w shows plain)
look_plain (Some found) w new block plain passed = tt

pub look_odd : (result : Option OddBytes) (w : ByteWatch) (block : List ℕ) → IfSome result (λ found. IsFound w block found)
    → IfSome result (λ found. (before : List ℕ) → ShowsBytes before w → IsOddAfter before block found)
look_odd None w block odd = tt
look_odd (Some found) w block odd = λ before shows. shows_odd before block w found shows odd

-- The end of the text.

lines_end : (bytes : List ℕ) → raw_lines bytes ≡ whole_on 1 [] bytes ++ last_on (suc (feeds_in bytes)) (open_on [] bytes)
lines_end bytes = ap (λ (text : List ℕ). raw_lines text) (sym (append-nil bytes)) ∙ lines_after bytes []

last_plain : (n : ℕ) (l : List ℕ) (w : ByteWatch) → Stands n l w → ((w.line == 1) && (w.last == 13)) ≡ false → list_all is_plain (last_on n l) ≡ true
last_plain n [] w s e = refl
last_plain n (x ∷ l) w s e =
    let line : (w.line == 0) ≡ false = ap (λ (k : ℕ). k == 0) s.line ∙ suc_zero (length l) in
    let blank : is_blank_end w ≡ false = rw (line, e) refl in
    rw (plain_line n (x ∷ l) w s blank) refl

list_both : (xs ys : List RawLine) → list_all is_plain xs ≡ true → list_all is_plain ys ≡ true → list_all is_plain (xs ++ ys) ≡ true
list_both xs ys e f = rw (list_all-append is_plain xs ys, e, f) refl

pub ends_plain : (bytes : List ℕ) (w : ByteWatch) → ShowsBytes bytes w → ((w.line == 1) && (w.last == 13)) ≡ false → list_all is_plain (raw_lines bytes) ≡ true
ends_plain bytes w shows e =
    let k = known bytes w shows in
    rw (lines_end bytes) (list_both (whole_on 1 [] bytes) (last_on (suc (feeds_in bytes)) (open_on [] bytes)) k.whole (last_plain (suc (feeds_in bytes)) (open_on [] bytes) w k.stands e))

last_blank : (n : ℕ) (l : List ℕ) (w : ByteWatch) → Stands n l w → (w.line == 1) ≡ true → last_on n l ≡ line_of n l ∷ []
last_blank n [] w s e = absurd (let f = ap (λ (k : ℕ). k == 1) s.line in cc)
last_blank n (x ∷ l) w s e = refl

both_end : (z a b : Bool) → a ≡ true → b ≡ true → (z || (a && b)) ≡ true
both_end true a b e f = refl
both_end false a b e f = rw (e, f) refl

pub ends_odd : (bytes : List ℕ) (w : ByteWatch) → ShowsBytes bytes w → (w.line == 1) ≡ true → (w.last == 13) ≡ true → IsFirstOdd (raw_lines bytes) (suc (feeds_in bytes)) Blank
ends_odd bytes w shows one last =
    let k = known bytes w shows in
    let n = suc (feeds_in bytes) in
    record {
      before = whole_on 1 [] bytes;
      line = line_of n (open_on [] bytes);
      after = [];
      lines_are = lines_end bytes ∙ ap (λ (ls : List RawLine). whole_on 1 [] bytes ++ ls) (last_blank n (open_on [] bytes) w k.stands one);
      plain_before = k.whole;
      number_is = refl;
      odd = blank_is n (open_on [] bytes) w k.stands ∙ both_end (w.line == 0) (w.line == 1) (w.last == 13) one last;
    }

both_of : (a b : Bool) → (a && b) ≡ true → (a ≡ true) × (b ≡ true)
both_of true b e = (refl, e)
both_of false b e = absurd (cc)

pub ends : (bytes : List ℕ) (w : ByteWatch) (found : Option Oddity) → ShowsBytes bytes w → found ≡ (if (w.line == 1) && (w.last == 13) then Some Blank else None) → EndsBytes bytes found
ends bytes w found shows is = record {
  plain = λ none. ends_plain bytes w shows (blank_none ((w.line == 1) && (w.last == 13)) (sym is ∙ none));
  odd = λ oddity some.
      let parts = blank_some ((w.line == 1) && (w.last == 13)) oddity (sym is ∙ some) in
      let two = both_of (w.line == 1) (w.last == 13) parts.0 in
      subst (λ (q : Oddity). IsFirstOdd (raw_lines bytes) (suc (feeds_in bytes)) q) parts.1 (ends_odd bytes w shows two.0 two.1);
}
