-- `common::common_start` meets its contract. The invariant: the place, with what is common from there on, is the whole's.
use Prim.Native.Nat.{ℕ, min}
use native.Mathlib.Omega.{arith}
use borrow.Author.Tests.{eq-eqb, ne_eqb, ltb-true, ltb-false}
use mathlib.Core.Path.{◌≡◌, refl}
use mathlib.Core.Bool.{Bool, true, false}
use mathlib.Core.List.{List}
use lib.Dec.{eqb, ltb}
use lib.Seq.{slice}
use Rattle.lists.specs.Lists.{common_start}
use Rattle.lists.proofs.StepLaws.{common_on, common_stops, common_end_first, common_end_second}
use Rattle.ordering.proofs.common.common_start.Goals as goal

-- where one of the lists has no element at place p, nothing is common from there on
nothing_left : (xs ys : List ℕ) (n m p : ℕ) → p ≡ min n m → common_start eqb (slice p n xs) (slice p m ys) ≡ 0
nothing_left xs ys n m p e = go (ltb m n) refl
  where
    go : (b : Bool) → ltb m n ≡ b → common_start eqb (slice p n xs) (slice p m ys) ≡ 0
    go false f =
        let end : p ≡ n = omega (arith, ltb-false m n f) in
        rw end (common_end_first eqb xs (slice n m ys) n)
    go true f =
        let end : p ≡ m = omega (arith, ltb-true m n f) in
        rw end (common_end_second eqb (slice m n xs) ys m)

pub loop-place-preserved : goal.loop-place-preserved
loop-place-preserved c =
    let a = c.args in
    let v = c.loop-place in
    omega (
      arith,
      v.invariant,
      common_on eqb a.xs.now a.ys.now 0 v.place a.n a.m (omega arith) (omega arith) (omega arith) (omega arith)
          (eq-eqb _ _ c.if-xs-place.false),
    )

pub returns-then-xs-place : goal.returns-then-xs-place
returns-then-xs-place c =
    let a = c.args in
    let v = c.loop-place in
    omega (
      arith,
      v.invariant,
      common_stops eqb a.xs.now a.ys.now 0 v.place a.n a.m (omega arith) (omega arith) (omega arith) (omega arith)
          (ne_eqb _ _ c.if-xs-place.true),
    )

pub returns : goal.returns
returns c =
    let a = c.args in
    let v = c.loop-place in
    omega (arith, v.invariant, nothing_left a.xs.now a.ys.now a.n a.m v.place (omega arith))
