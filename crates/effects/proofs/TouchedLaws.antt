-- Laws of the registers that an operation touches (`specs/Touched`): of one off the board, and of a claim of registers together. That no
-- other register changes is in `FrameLaws`, and laws of n registers from one on are in `SpanLaws`.
use Prim.Native.Nat.{ℕ, ◌+◌, ◌≤◌, ◌<◌}
use native.Mathlib.Omega.{arith}
use mathlib.Core.Path.{◌≡◌}
use mathlib.Core.Logic.{◌≢◌, ◌⊎◌, inl, inr}
use mathlib.Core.Bool.{true}
use mathlib.Core.List.{[]}
use Rattle.request.specs.declared.Operation.{Operation}
use Rattle.request.specs.Operations.{span}
use Rattle.effects.specs.Effect.{off_board}
use Rattle.effects.specs.internal.OnBoard.{ClaimOnBoard}
use Rattle.effects.specs.Touched.{registers_from, touched, Untouched}
use Rattle.effects.proofs.SpanLaws.{all_from}

module _ (o : Operation) where
  pub touched_off : off_board o ≡ true → touched o ≡ []
  unfolding touched
  touched_off off = simp off

  pub touched_together : ClaimOnBoard o → touched o ≡ registers_from (span o) o.r
  unfolding touched
  touched_together claim = simp (claim.on, claim.code)

  -- a claim of registers together leaves alone those below r and above q
  pub untouched_outside : ClaimOnBoard o → (k : ℕ) → (k < o.r) ⊎ (o.q < k) → Untouched o k
  untouched_outside claim k apart =
      rw (touched_together claim) (all_from (λ i. k ≢ i) (span o) o.r (λ i low high e. never i low high e apart))
    where
      never : (i : ℕ) → o.r ≤ i → i < o.r + span o → k ≡ i → (k < o.r) ⊎ (o.q < k) → ⊥
      never i low high e (inl below) = omega (arith, e)
      never i low high e (inr above) = omega (arith, e)
