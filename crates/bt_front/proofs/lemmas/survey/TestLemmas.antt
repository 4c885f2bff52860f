-- Lemmas on tests of numbers, and on tests that are joined.
use Rattle.bt_lines.proofs.Std.{arith, ◌≡◌, ℕ, ◌==◌, ◌&&◌, ◌||◌, Bool, true, false, nat_lt, nat_tests, refl, suc}

pub suc_zero : (n : ℕ) → (suc n == 0) ≡ false
suc_zero n = grind (arith, nat_tests)

pub zero_suc : (n : ℕ) → (0 == suc n) ≡ false
zero_suc n = grind (arith, nat_tests)

pub suc_suc : (m n : ℕ) → (suc m == suc n) ≡ (m == n)
suc_suc m n = grind (arith, nat_tests)

pub two_one : (n : ℕ) → (suc (suc n) == 1) ≡ false
two_one n = grind (arith, nat_tests)

pub one_two : (n : ℕ) → (1 == suc (suc n)) ≡ false
one_two n = grind (arith, nat_tests)

pub above_next : (n : ℕ) → nat_lt 1015 (suc n) ≡ nat_lt 1014 n
above_next n = grind (arith, nat_tests)

pub nothing : (b : Bool) → (b && false) ≡ false
nothing true = refl
nothing false = refl

pub just : (b : Bool) → (b && true) ≡ b
just true = refl
just false = refl

pub spread : (t a g e : Bool) → (t && (a || (g && e))) ≡ ((t && a) || ((t && g) && e))
spread true a g e = refl
spread false a g e = refl
