-- `unions::join_all` meets its contract; the laws of a turn are in `UnionLaws`.
use native.Mathlib.Omega.{arith}
use Rattle.unions.proofs.UnionLaws.{uniting_on, uniting_ends}
use Rattle.unions.proofs.join_all.Goals as goal

pub loop-i-preserved : goal.loop-i-preserved
loop-i-preserved c = uniting_on _ _ _ _ c.loop-i.invariant (omega arith)

pub returns : goal.returns
returns c = uniting_ends _ _ _ _ c.loop-i.invariant (omega arith)
