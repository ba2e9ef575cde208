-- `integers::integer_at` meets its contract: the loop goes down, and v is the integer in the bytes from i on.
use Prim.Native.Nat.{suc, ◌+◌, ◌-◌, ◌<◌}
use mathlib.Core.Path.{◌≡◌, refl, ◌∙◌}
use native.Mathlib.Nat.{add-zero, sub-zero}
use native.Mathlib.Omega.{arith}
use borrow.Author.Rules.{rules}
use lib.Dec.{lit<}
use lib.ListN.{get_or}
use Rattle.fields.specs.Integers.{integer_at}
use Rattle.fields.proofs.IntegerLaws.{integer_down, one_more_within, pow-widest}
use Rattle.fields.proofs.integers.integer_at.Goals as goal

pub loop-i-init : goal.loop-i-init
unfolding integer_at
loop-i-init c =
    let none : c.args.width - c.args.width ≡ 0 = omega arith in
    rw none (omega arith, refl, lit< tt)

pub overflow_mul-v : goal.overflow_mul-v
overflow_mul-v c =
    let most = pow-widest (suc (c.args.width - c.loop-i.i)) (omega arith) in
    let bound = one_more_within c.loop-i.v 0 _ c.loop-i.invariant.2 (lit< tt) in
    omega arith

pub overflow_add-v-in-loop-i : goal.overflow_add-v-in-loop-i
overflow_add-v-in-loop-i c =
    let most = pow-widest (suc (c.args.width - c.loop-i.i)) (omega arith) in
    let byte : get_or c.args.s.now (c.args.at + (c.loop-i.i - 1)) 0 < 256 = search rules in
    omega (arith, one_more_within _ _ _ c.loop-i.invariant.2 byte)

pub loop-i-preserved : goal.loop-i-preserved
loop-i-preserved c =
    let a = c.args in
    let l = c.loop-i in
    let byte : get_or a.s.now (a.at + (l.i - 1)) 0 < 256 = search rules in
    let one : a.width - (l.i - 1) ≡ suc (a.width - l.i) = omega arith in (
      omega arith,
      omega (arith, integer_down a.s.now a.at l.i a.width (omega arith) (omega arith)),
      rw one (one_more_within _ _ _ l.invariant.2 byte),
    )

pub returns : goal.returns
returns c =
    let a = c.args in
    let none : c.loop-i.i ≡ 0 = omega arith in
    let all : a.width - c.loop-i.i ≡ a.width = omega arith in
    (c.loop-i.invariant.1 ∙ rw none (simp (add-zero, sub-zero)), rw all at c.loop-i.invariant.2)
