-- `integers::put_integer` meets its contract: putting what is left from i on equals putting the whole.
use Prim.Native.Nat.{◌-◌}
use mathlib.Core.Path.{◌≡◌, refl, ◌∙◌}
use native.Mathlib.Nat.{add-zero, sub-zero}
use native.Mathlib.Omega.{arith}
use lib.ListN.{length-set}
use Rattle.fields.specs.Integers.{integer_bytes}
use Rattle.fields.proofs.IntegerLaws.{byte_put}
use Rattle.fields.proofs.integers.put_integer.Goals as goal

pub loop-i-init : goal.loop-i-init
loop-i-init c = (omega arith, refl, simp (add-zero, sub-zero))

pub loop-i-preserved : goal.loop-i-preserved
loop-i-preserved c =
    let a = c.args in
    let l = c.loop-i in (
      omega arith,
      simp length-set l.invariant.1,
      byte_put l.out a.at l.i a.width l.left (omega arith) ∙ l.invariant.2,
    )

pub returns : goal.returns
unfolding integer_bytes
returns c =
    let none : c.args.width - c.loop-i.i ≡ 0 = omega arith in
    rw none at c.loop-i.invariant.2
