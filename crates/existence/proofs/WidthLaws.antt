-- The width of a request: that it fits as a test, by which those that do not are counted; and that its operation fits the word that is
-- kept of it.
use Prim.Native.Nat.{◌≤◌, ◌<◌}
use native.Mathlib.Omega.{arith}
use mathlib.Core.Path.{◌≡◌, refl, ap}
use mathlib.Core.Bool.{Bool, true, false, not, ◌&&◌, and-false, or-true}
use lib.ListN.{length}
use lib.Dec.{leb, ltb, eqb}
use borrow.Author.Tests.{eqb-true, eq-eqb, leb-true, ltb-true, ltb-false, lt-ltb, not-false}
use Rattle.lists.proofs.BoolLaws.{true_not_false, both_true, both}
use Rattle.numbers.specs.Numbers.{most_panels}
use Rattle.request.specs.declared.Operation.{Operation}
use Rattle.request.specs.declared.Asked.{Asked}
use Rattle.request.specs.declared.Request.{Request}
use Rattle.request.specs.Asked.{operation_of, bad_asked}
use Rattle.request.specs.Operations.{bad_operation, last_code, last_register}
use Rattle.effects.specs.Effect.{range}
use Rattle.store.proofs.WordLaws.{Narrow}
use Rattle.existence.specs.Existence.{RequestFits}

-- x is wider than the code's types
unfoldable pub is_wide : Request → Bool
is_wide x = not (eqb (length x.context.words) most_panels && ltb x.asked.amount range)

pub fits : (x : Request) → is_wide x ≡ false → RequestFits x
unfolding is_wide
fits x e =
    let parts = both_true _ _ (not-false _ e) in
    record { words = eqb-true _ _ parts.0; amount = ltb-true _ _ parts.1 }

pub not_wide : (x : Request) → RequestFits x → is_wide x ≡ false
unfolding is_wide
not_wide x fit = ap not (both (eq-eqb _ _ fit.words) (lt-ltb _ _ fit.amount))

-- ---- what a request that is not bad asks for fits the word that is kept of it

module _ (o : Operation) (good : bad_operation o ≡ false) where
  small_code : (b : Bool) → leb o.code last_code ≡ b → o.code ≤ last_code
  unfolding bad_operation
  small_code true e = leb-true o.code last_code e
  small_code false e = true_not_false refl (rw (e, and-false) at good)

  small_r : (b : Bool) → ltb last_register o.r ≡ b → o.r ≤ last_register
  unfolding bad_operation
  small_r true e = true_not_false refl (rw (e, or-true) at good)
  small_r false e = ltb-false last_register o.r e

  small_q : (b : Bool) → ltb last_register o.q ≡ b → o.q ≤ last_register
  unfolding bad_operation
  small_q true e = true_not_false refl (rw (e, or-true) at good)
  small_q false e = ltb-false last_register o.q e

pub narrow : (a : Asked) → bad_asked a ≡ false → a.amount < range → Narrow a
unfolding bad_asked
narrow a good amount =
    let o = operation_of a in
    record {
      code = omega (arith, small_code o good _ refl);
      r = omega (arith, small_r o good _ refl);
      q = omega (arith, small_q o good _ refl);
      amount = amount;
    }
