-- Laws of the word of what is asked for: it is read from it again.
use Prim.Native.Nat.{ℕ, ◌+◌, ◌*◌, ◌/◌, ◌%◌, ◌<◌}
use native.Mathlib.Omega.{arith}
use mathlib.Core.Path.{◌≡◌, refl, ap, ◌∙◌}
use mathlib.Core.Bool.{Bool, true, false}
use lib.Arith.{digits_mod}
use lib.Dec.{eqb}
use Rattle.lists.specs.Lists.{one}
use Rattle.lists.proofs.ListLaws.{one_most}
use Rattle.request.specs.declared.Asked.{Asked}
use Rattle.request.specs.Asked.{operation_of}
use Rattle.store.specs.Requests.{byte, unit_r, unit_q, unit_strength, unit_amount, asked_in, word_of}

-- the fields are no wider than in the word
pub record Narrow (a : Asked) : Type 0 where
  pub code : a.code < byte
  pub r : a.r < byte
  pub q : a.q < byte
  pub amount : a.amount < unit_amount

-- the lowest eight bits of a number, where d stands there
lowest-byte : {w : ℕ} (above : ℕ) {d : ℕ} → w ≡ above * byte + d → d < byte → w % byte ≡ d
lowest-byte above e small = ap (λ (k : ℕ). k % byte) e ∙ digits_mod above small

module _ (a : Asked) (narrow : Narrow a) where
  strength-bit : word_of a / unit_strength % 2 ≡ one a.strong
  unfolding word_of
  strength-bit = let bit = one_most a.strong in omega arith

  pub asked-read : asked_in (word_of a) ≡ a
  unfolding asked_in word_of
  asked-read =
      let o = operation_of a in
      let w = word_of a in
      let bit = one_most a.strong in
      let above-q : ℕ = o.amount * byte + one a.strong in
      let above-r : ℕ = above-q * byte + o.q in
      let above-code : ℕ = above-r * byte + o.r in
      let from-code : w ≡ above-code * byte + o.code = omega arith in
      let from-r : w / unit_r ≡ above-r * byte + o.r = omega arith in
      let from-q : w / unit_q ≡ above-q * byte + o.q = omega arith in
      let code : w % byte ≡ o.code = lowest-byte above-code from-code narrow.code in
      let r : w / unit_r % byte ≡ o.r = lowest-byte above-r from-r narrow.r in
      let q : w / unit_q % byte ≡ o.q = lowest-byte above-q from-q narrow.q in
      let amount : w / unit_amount ≡ o.amount = omega arith in
      let strong : eqb (w / unit_strength % 2) 1 ≡ a.strong = ap (λ (k : ℕ). eqb k 1) strength-bit ∙ one_is a.strong in
      λ i. record { code = code i; r = r i; q = q i; strong = strong i; amount = amount i }
    where
      one_is : (b : Bool) → eqb (one b) 1 ≡ b
      one_is true = refl
      one_is false = refl
