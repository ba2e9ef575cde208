-- Laws of the bits of a word: of a digit-wise operation, of a power of two, of what one word has and another lacks, and the lowest bit.
use Prim.Native.Nat.{ℕ, zero, suc, ◌+◌, ◌-◌, ◌*◌, ◌/◌, ◌%◌, ◌^◌, ◌<◌, min, max}
use native.Mathlib.Omega.{arith}
use native.Mathlib.Nat.{one-mul, mod-lt, div-eq_of_lt, div-one, pow-suc, mul-div-mul_right}
use native.Mathlib.Numerals.{one-add}
use mathlib.Core.Path.{◌≡◌, refl, sym, ap, ◌∙◌}
use mathlib.Core.Bool.{Bool, true, false, not, beq, ◌&&◌, ◌||◌, cond}
use lib.Arith.{digits_div, digits_mod}
use lib.Pow.{pow-lt, shr-shr}
use lib.Bits.{bit_and, bit_or, bit_xor, and_step, or_step, xor_step, differ, shifted_even, and_le_l}
use lib.Count.{count_trailing_zeros, under}
use lib.Dec.{eqb, eqb-zero-suc, eqb-suc-zero, eqb-suc-suc}
use borrow.Author.Tests.{eq-eqb, eqb-false}
use Rattle.sets.specs.Sets.{bit}

-- ---- one bit at a time

bit_first : (w : ℕ) → bit zero w ≡ eqb (w % 2) 1
unfolding bit
bit_first w = rw div-one

bit-next : (k w : ℕ) → bit (suc k) w ≡ bit k (w / 2)
unfolding bit
bit-next k w = rw (← one-add k, ← shr-shr w 1 k)

pub bit_of_zero : (k : ℕ) → bit k 0 ≡ false
bit_of_zero zero = bit_first 0
bit_of_zero (suc k) = bit-next k 0 ∙ bit_of_zero k

-- ---- an operation that goes digit by digit, and the test that it is on bits

-- what holds of the four pairs of digits holds of any two digits
on_digits : (P : ℕ → ℕ → Type 0) → P 0 0 → P 0 1 → P 1 0 → P 1 1 → (x y : ℕ) → x < 2 → y < 2 → P x y
on_digits P a b c d zero zero h k = a
on_digits P a b c d zero (suc zero) h k = b
on_digits P a b c d zero (suc (suc y)) h k = absurd (omega arith)
on_digits P a b c d (suc zero) zero h k = c
on_digits P a b c d (suc zero) (suc zero) h k = d
on_digits P a b c d (suc zero) (suc (suc y)) h k = absurd (omega arith)
on_digits P a b c d (suc (suc x)) y h k = absurd (omega arith)

module _ (op digit : ℕ → ℕ → ℕ) (test : Bool → Bool → Bool)
    (step : (a b : ℕ) → op a b ≡ op (a / 2) (b / 2) * 2 + digit (a % 2) (b % 2))
    (small : (x y : ℕ) → x < 2 → y < 2 → digit x y < 2)
    (tests : (x y : ℕ) → x < 2 → y < 2 → eqb (digit x y) 1 ≡ test (eqb x 1) (eqb y 1)) where
  low : (a : ℕ) → a % 2 < 2
  low a = mod-lt a {m = 2} (omega arith)

  bit_by : (k a b : ℕ) → bit k (op a b) ≡ test (bit k a) (bit k b)
  bit_by zero a b =
      let last : op a b % 2 ≡ digit (a % 2) (b % 2) =
      ap (λ (x : ℕ). x % 2) (step a b) ∙ digits_mod (op (a / 2) (b / 2)) {m = 2} (small _ _ (low a) (low b)) in
      rw (bit_first (op a b), bit_first a, bit_first b, last) (tests _ _ (low a) (low b))
  bit_by (suc k) a b =
      let rest : op a b / 2 ≡ op (a / 2) (b / 2) =
      ap (λ (x : ℕ). x / 2) (step a b) ∙ digits_div (op (a / 2) (b / 2)) {m = 2} (small _ _ (low a) (low b)) in
      rw (bit-next k (op a b), bit-next k a, bit-next k b, rest) (bit_by k (a / 2) (b / 2))

pub bit_or_lem : (k a b : ℕ) → bit k (bit_or a b) ≡ (bit k a || bit k b)
bit_or_lem =
    bit_by bit_or max ◌||◌ or_step
    (on_digits (λ x y. max x y < 2) (omega arith) (omega arith) (omega arith) (omega arith))
    (on_digits (λ x y. eqb (max x y) 1 ≡ (eqb x 1 || eqb y 1)) refl refl refl refl)

pub bit_xor_lem : (k a b : ℕ) → bit k (bit_xor a b) ≡ not (beq (bit k a) (bit k b))
bit_xor_lem =
    bit_by bit_xor differ (λ s t. not (beq s t)) xor_step
    (on_digits (λ x y. differ x y < 2) (omega arith) (omega arith) (omega arith) (omega arith))
    (on_digits (λ x y. eqb (differ x y) 1 ≡ not (beq (eqb x 1) (eqb y 1))) refl refl refl refl)

-- the bits that a has and b lacks
abbrev lacked : ℕ → ℕ → ℕ
lacked a b = a - bit_and a b

lacked-step : (a b : ℕ) → lacked a b ≡ lacked (a / 2) (b / 2) * 2 + (a % 2 - min (a % 2) (b % 2))
lacked-step a b = omega (arith, and_step a b, and_le_l (a / 2) (b / 2))

pub bit_lacked : (k a b : ℕ) → bit k (a - bit_and a b) ≡ (bit k a && not (bit k b))
bit_lacked =
    bit_by lacked (λ x y. x - min x y) (λ s t. s && not t) lacked-step
    (on_digits (λ x y. x - min x y < 2) (omega arith) (omega arith) (omega arith) (omega arith))
    (on_digits (λ x y. eqb (x - min x y) 1 ≡ (eqb x 1 && not (eqb y 1))) refl refl refl refl)

-- ---- a power of two

power-digit : (j k : ℕ) → 2 ^ k / 2 ^ j % 2 ≡ cond (eqb j k) 1 0
power-digit zero zero = refl
power-digit zero (suc k) = rw (eqb-zero-suc k, div-one) (rw one-mul at (shifted_even 1 k))
power-digit (suc j) zero = rw (eqb-suc-zero j, div-eq_of_lt {n = 2 ^ 0} {m = 2 ^ suc j} (pow-lt {i = 0} {j = suc j} (omega arith)))
power-digit (suc j) (suc k) =
    rw (eqb-suc-suc j k, pow-suc 2 k, pow-suc 2 j, mul-div-mul_right {m = 2} (2 ^ k) (2 ^ j) (omega arith)) (power-digit j k)

pub bit_power : (j k : ℕ) → bit j (2 ^ k) ≡ eqb j k
unfolding bit
bit_power j k = rw (power-digit j k) (go (eqb j k))
  where
    go : (b : Bool) → eqb (cond b 1 0) 1 ≡ b
    go true = refl
    go false = refl

-- ---- the lowest bit

half_lt : (n w : ℕ) → w < 2 ^ suc n → w / 2 < 2 ^ n
half_lt n w h = omega (arith, pow-suc 2 n)

-- a word of n bits with no bit is 0
pub no-bit : (n w : ℕ) → w < 2 ^ n → ((k : ℕ) → k < n → bit k w ≡ false) → w ≡ 0
no-bit zero w h none = omega arith
no-bit (suc n) w h none =
    let rest : w / 2 ≡ 0 = no-bit n (w / 2) (half_lt n w h) (λ k l. sym (bit-next k w) ∙ none (suc k) (omega arith)) in
    let odd = eqb-false (w % 2) 1 (sym (bit_first w) ∙ none zero (omega arith)) in
    even (w % 2) refl rest odd
  where
    even : (d : ℕ) → w % 2 ≡ d → w / 2 ≡ 0 → (w % 2 ≡ 1 → ⊥) → w ≡ 0
    even zero z rest odd = omega arith
    even (suc d) z rest odd = absurd (odd (omega arith))

module _ (w t : ℕ) where
  lowest-bit-step : (d : ℕ) → w % 2 ≡ d → (d ≡ 0 → bit t (w / 2) ≡ true) → bit (under d t) w ≡ true
  lowest-bit-step zero z ih = bit-next t w ∙ ih refl
  lowest-bit-step (suc d) z ih = bit_first w ∙ eq-eqb (w % 2) 1 (omega arith)

  lowest_fits_step : (n d : ℕ) → w % 2 ≡ d → (d ≡ 0 → t < n) → under d t < suc n
  lowest_fits_step n zero z ih = let h = ih refl in omega arith
  lowest_fits_step n (suc d) z ih = omega arith

  below-lowest-step : (d k : ℕ) → w % 2 ≡ d → k < under d t → ((j : ℕ) → j < t → bit j (w / 2) ≡ false) → bit k w ≡ false
  below-lowest-step zero zero z h ih = bit_first w ∙ ap (λ (x : ℕ). eqb x 1) z
  below-lowest-step zero (suc k) z h ih = bit-next k w ∙ ih k (omega arith)
  below-lowest-step (suc d) k z h ih = absurd (omega arith)

-- a word of n bits that is not 0 has the bit above its trailing zeros
pub lowest-bit : (n w : ℕ) → w < 2 ^ n → (w ≡ 0 → ⊥) → bit (count_trailing_zeros n w) w ≡ true
unfolding count_trailing_zeros
lowest-bit zero w h e = absurd (e (omega arith))
lowest-bit (suc n) w h e =
    lowest-bit-step w (count_trailing_zeros n (w / 2)) (w % 2) refl (λ z. lowest-bit n (w / 2) (half_lt n w h) (λ q. e (omega arith)))

-- which is one of the n
pub lowest_fits : (n w : ℕ) → w < 2 ^ n → (w ≡ 0 → ⊥) → count_trailing_zeros n w < n
unfolding count_trailing_zeros
lowest_fits zero w h e = absurd (e (omega arith))
lowest_fits (suc n) w h e =
    lowest_fits_step w (count_trailing_zeros n (w / 2)) n (w % 2) refl (λ z. lowest_fits n (w / 2) (half_lt n w h) (λ q. e (omega arith)))

-- and none below it
pub below-lowest : (n w k : ℕ) → k < count_trailing_zeros n w → bit k w ≡ false
unfolding count_trailing_zeros
below-lowest zero w k h = absurd (omega arith)
below-lowest (suc n) w k h = below-lowest-step w (count_trailing_zeros n (w / 2)) (w % 2) k refl h (λ j l. below-lowest n (w / 2) j l)
