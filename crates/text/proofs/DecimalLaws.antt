-- Laws of numbers in decimal: the kit's digits are those of a number in decimal; and how many there are at most.
use Prim.Native.Nat.{ℕ, zero, suc, ◌-◌, ◌/◌, ◌%◌, ◌^◌, ◌≤◌, ◌<◌}
use native.Mathlib.Nat.{pow-suc, pow-zero, one-le-pow}
use native.Mathlib.Omega.{arith}
use mathlib.Core.Path.{◌≡◌, refl}
use lib.ListN.{length, length-append}
use borrow.Author.Tests.{lt-ltb}
use Rattle.io.specs.Digits.{hex_digit_ascii, last_digits, IsDigitCount}
use Rattle.text.specs.Text.{digit, significant, decimal}
use Rattle.text.specs.Sizes.{byte_digits, short_digits, wide_digits}

-- ---- the kit's digits

last_glyph : (n : ℕ) → hex_digit_ascii (n % 10) ≡ digit (n % 10)
last_glyph n = simp (lt-ltb (n % 10) 10 (omega arith))

-- a tenth has one digit less
tenth_fewest : (n k : ℕ) → n < 10 ^ suc k → (1 ≤ k → 10 ^ k ≤ n) → IsDigitCount 10 0 (n / 10) k
tenth_fewest n zero fits low = (omega arith, omega (arith, pow-suc 10 0), λ some. absurd (omega arith))
tenth_fewest n (suc k) fits low =
    let e : suc k - 1 ≡ k = omega arith in
    let power = low (omega arith) in
    (omega arith, omega (arith, pow-suc 10 (suc k)), λ _. rw e (omega (arith, pow-suc 10 k)))

no_digit : (k : ℕ) → IsDigitCount 10 0 0 k → k ≡ 0
no_digit zero p = refl
no_digit (suc k) p =
    let e : suc k - 1 ≡ k = omega arith in
    let low : 10 ^ k ≤ 0 = rw e at (p.2 (omega arith)) in
    omega (arith, one-le-pow k 10 (omega arith))

digits-significant : (most n k : ℕ) → n ≤ most → IsDigitCount 10 0 n k → last_digits 10 k n ≡ significant most n
unfolding significant
digits-significant zero n k bound p =
    let e : n ≡ 0 = omega arith in
    rw (no_digit k (rw e at p))
digits-significant (suc most) zero k bound p = rw (no_digit k p)
digits-significant (suc most) (suc n) zero bound p = absurd (omega (arith, p.1, pow-zero 10))
digits-significant (suc most) (suc n) (suc k) bound p =
    let e : suc k - 1 ≡ k = omega arith in
    let tenth = tenth_fewest (suc n) k p.1 (λ _. rw e at (p.2 (omega arith))) in
    rw (last_glyph, digits-significant most (suc n / 10) k (omega arith) tenth)

-- the fewest digits that hold n, but at least one, are n in decimal
pub digits_decimal : (n k : ℕ) → IsDigitCount 10 1 n k → last_digits 10 k n ≡ decimal n
unfolding decimal
digits_decimal n zero p = absurd (omega arith)
digits_decimal n (suc k) p =
    let e : suc k - 1 ≡ k = omega arith in
    let tenth = tenth_fewest n k p.1 (λ some. rw e at (p.2 (omega arith))) in
    rw (last_glyph, digits-significant n (n / 10) k (omega arith) tenth)

-- ---- how many

significant_short : (most d n : ℕ) → n < 10 ^ d → length (significant most n) ≤ d
unfolding significant
significant_short zero d n fits = omega arith
significant_short (suc most) d zero fits = omega arith
significant_short (suc most) zero (suc n) fits = absurd (omega (arith, pow-zero 10))
significant_short (suc most) (suc d) (suc n) fits =
    rw length-append (omega (arith, significant_short most d (suc n / 10) (omega (arith, pow-suc 10 d))))

-- a number below ten to the d has at most d digits, where d is not 0
pub decimal_short : (d n : ℕ) → 1 ≤ d → n < 10 ^ d → length (decimal n) ≤ d
unfolding decimal
decimal_short zero n some fits = absurd (omega arith)
decimal_short (suc d) n some fits =
    rw length-append (omega (arith, significant_short n d (n / 10) (omega (arith, pow-suc 10 d))))

-- a number of one byte, of two, of four
module _ (n : ℕ) where
  pub of-byte : n < 2 ^ 8 → length (decimal n) ≤ byte_digits
  of-byte fits = decimal_short byte_digits n (omega arith) (omega arith)

  pub of_short : n < 2 ^ 16 → length (decimal n) ≤ short_digits
  of_short fits = decimal_short short_digits n (omega arith) (omega arith)

  pub of_wide : n < 2 ^ 32 → length (decimal n) ≤ wide_digits
  of_wide fits = decimal_short wide_digits n (omega arith) (omega arith)
