-- `saved_word` meets its contract: the two halves of the word are r and q again.
use Prim.Native.Nat.{◌/◌, ◌%◌}
use native.Mathlib.Omega.{arith}
use mathlib.Core.Path.{◌≡◌, refl}
use Rattle.effects.specs.Effect.{range}
use Rattle.registers.specs.Rollback.{saved_word, saved_in}
use Rattle.registers.proofs.saved_word.Goals as goal

pub returns : goal.returns
unfolding saved_word saved_in
returns c =
    let s = c.args.s in
    let low : saved_word s % range ≡ s.r = omega arith in
    let high : saved_word s / range ≡ s.q = omega arith in
    record { word = refl; read = λ i. record { r = low i; q = high i } }
