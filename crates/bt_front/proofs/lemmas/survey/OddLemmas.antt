-- Lemmas on what is odd in a line that gets one byte more.
use Rattle.bt_lines.proofs.Std.{arith, ◌≡◌, ℕ, ◌+◌, ◌-◌, ◌<◌, ◌≤◌, ◌==◌, ◌&&◌, ◌||◌, ◌++◌, ◌∙◌, Bool, true, false, List, [], ◌∷◌, Option, Some, None, IsTrue, ap, bytes_eq, codes, cond, get_or, if◌then◌else◌, is_some, length, length-append, list_any, list_any-append, nat_lt, nat_tests, not, or-false, refl, strip_last, suc, sym, take}
use Rattle.bt_front.specs.calls.Bytes.{begun_as, is_plain_so_far, last_after}
use Rattle.bt_front.specs.declared.survey.byte_watch.ByteWatch.{ByteWatch}
use Rattle.bt_front.specs.declared.survey.oddity.Oddity.{Oddity}
use Rattle.bt_front.specs.declared.survey.oddity.Oddity.TheVariants.{Blank, DoubleReturn, Nul, Long, Vcf, ByteOrderMark, Gzip, HeaderName, FarEnd}
use Rattle.bt_front.specs.inside.Watching.{fed, is_blank_end, is_gzip_at, is_mark_at, lengthened, next_vcf, odd_in_line, oddity_at, stepped}
use Rattle.bt_front.specs.model.Odd.{begins_with, has_double_return, is_odd, is_plain}
use Rattle.bt_front.proofs.lemmas.survey.LineLemmas.{line_of}
use Rattle.bt_front.proofs.lemmas.survey.TestLemmas.{just, nothing, one_two, spread, suc_suc}

-- What bytes have with one byte more.

double_next : (x y : ℕ) (l : List ℕ) (b : ℕ) → has_double_return ((y ∷ l) ++ b ∷ []) ≡ has_double_return (y ∷ l) || ((last_after y l == 13) && (b == 13))
double_next x y [] b = grind arith
double_next x y (z ∷ l) b = grind (arith, (double_next y z l b))

pub double_push : (l : List ℕ) (last b : ℕ) → (last == 13) ≡ false → has_double_return (l ++ b ∷ []) ≡ has_double_return l || ((last_after last l == 13) && (b == 13))
double_push [] last b e = grind arith
double_push (x ∷ []) last b e = grind arith
double_push (x ∷ y ∷ l) last b e = grind (arith, (double_next x y l b))

-- whether a line with one byte more is as the beginning
abbrev pub grows : List ℕ → List ℕ → ℕ → Bool
grows beginning l b = bytes_eq (l ++ b ∷ []) (take (suc (length l)) beginning)

pub begins_push : (beginning l : List ℕ) (b : ℕ) → begins_with beginning (l ++ b ∷ []) ≡ begins_with beginning l || (grows beginning l b && (suc (length l) == length beginning))
begins_push [] l b = refl
begins_push (c ∷ []) [] b = sym (just ((b == c) && true))
begins_push (c ∷ d ∷ beginning) [] b = rw (one_two (length beginning)) (nothing (b == c) ∙ sym (nothing ((b == c) && true)))
begins_push (c ∷ beginning) (x ∷ l) b =
    rw (suc_suc (suc (length l)) (length beginning), begins_push beginning l b)
    (spread (x == c) (begins_with beginning l) (grows beginning l b) (suc (length l) == length beginning))

pub grows_is : (beginning l : List ℕ) (b : ℕ) → grows beginning l b ≡ bytes_eq l (take (length l) beginning) && (nat_lt (length l) (length beginning) && (b == get_or beginning (length l) 0))
grows_is [] [] b = refl
grows_is [] (x ∷ l) b = refl
grows_is (c ∷ beginning) [] b = grind arith
grows_is (c ∷ beginning) (x ∷ l) b = grind (arith, (grows_is beginning l b))

pub begun_whole : (beginning l : List ℕ) → (begun_as beginning l == length l) ≡ bytes_eq l (take (length l) beginning)
begun_whole beginning [] = refl
begun_whole beginning (x ∷ l) = grind arith

pub begun_push : (beginning l : List ℕ) (b : ℕ) → begun_as beginning (l ++ b ∷ []) ≡ (if grows beginning l b then suc (length l) else 0)
begun_push beginning l b = grind (arith, (length-append l (b ∷ [])))

pub gzip_push : (l : List ℕ) (b : ℕ) → (grows (31 ∷ []) l b && (suc (length l) == 1)) ≡ ((length l == 0) && (b == 31))
gzip_push [] b = grind arith
gzip_push (x ∷ l) b = grind arith

pub mark_push : (l : List ℕ) (b : ℕ) → (grows (239 ∷ 187 ∷ 191 ∷ []) l b && (suc (length l) == 3)) ≡ ((length l == 2) && ((get_or l 0 0 == 239) && ((last_after 10 l == 187) && (b == 191))))
mark_push [] b = grind arith
mark_push (x ∷ []) b = grind arith
mark_push (x ∷ y ∷ []) b = grind arith
mark_push (x ∷ y ∷ z ∷ l) b = grind arith
