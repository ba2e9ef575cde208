-- `sets::difference` meets its contract. The invariant: with the words from i on still to do, d leads to the whole difference.
use native.Mathlib.Omega.{arith}
use mathlib.Core.Path.{sym, ap, ◌∙◌}
use lib.ListN.{length-set}
use lib.Bits.{and_le_l}
use Rattle.sets.specs.Sets.{set_of, difference}
use Rattle.sets.proofs.WordLaws.{lacked-step, lacked-end}
use Rattle.sets.proofs.difference.Goals as goal

pub overflow_sub-d : goal.overflow_sub-d
overflow_sub-d c = and_le_l _ _

pub loop-i-preserved : goal.loop-i-preserved
loop-i-preserved c =
    let v = c.loop-i in
    (simp length-set v.invariant.0, v.invariant.1, lacked-step _ _ v.i (omega arith) (omega arith) ∙ v.invariant.2)

pub returns : goal.returns
unfolding difference
returns c =
    let v = c.loop-i in
    ap set_of (sym (lacked-end _ _ v.i (omega arith)) ∙ v.invariant.2)
