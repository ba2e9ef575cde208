-- The amount that a move moves (`specs/Moves`): it is the least of three numbers, and so nothing that a move writes is out of range.
use Prim.Native.Nat.{ℕ, min}
use native.Mathlib.Omega.{arith}
use mathlib.Core.Path.{◌≡◌, refl, ◌∙◌}
use mathlib.Core.Bool.{Bool, true, false}
use mathlib.Core.List.{List}
use mathlib.Core.Logic.{◌⊎◌, inl, inr}
use lib.Dec.{leb}
use borrow.Author.Tests.{leb-true, leb-false}
use Rattle.request.specs.declared.Operation.{Operation}
use Rattle.effects.specs.Effect.{amount_moved}
use Rattle.effects.specs.Moves.{LeastOfThree}

one_of_two : (x y : ℕ) → (min x y ≡ x) ⊎ (min x y ≡ y)
one_of_two x y = go (leb x y) refl
  where
    go : (t : Bool) → leb x y ≡ t → (min x y ≡ x) ⊎ (min x y ≡ y)
    go true e = inl (omega (arith, leb-true x y e))
    go false e = inr (omega (arith, leb-false x y e))

one_of_three : (x y z : ℕ) → (min x (min y z) ≡ x) ⊎ ((min x (min y z) ≡ y) ⊎ (min x (min y z) ≡ z))
one_of_three x y z = go (one_of_two x (min y z)) (one_of_two y z)
  where
    go : (min x (min y z) ≡ x) ⊎ (min x (min y z) ≡ min y z) → (min y z ≡ y) ⊎ (min y z ≡ z)
        → (min x (min y z) ≡ x) ⊎ ((min x (min y z) ≡ y) ⊎ (min x (min y z) ≡ z))
    go (inl e) d = inl e
    go (inr e) (inl f) = inr (inl (e ∙ f))
    go (inr e) (inr f) = inr (inr (e ∙ f))

pub least_of_three : (o : Operation) (b : List ℕ) → LeastOfThree o b
unfolding amount_moved
least_of_three o b = record {
  at_most_asked = omega arith;
  at_most_held = omega arith;
  fits = λ h. omega arith;
  one_of_three = one_of_three _ _ _;
}
