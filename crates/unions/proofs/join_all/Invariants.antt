-- `unions::join_all` meets its contract; the laws of a turn are in `UnionLaws`.
use Rattle.unions.proofs.UnionLaws.{Uniting}
use Rattle.unions.proofs.join_all.Given as goal

abbrev pub invariant-loop-i : goal.invariant-loop-i
invariant-loop-i l = Uniting l.initial.words l.others l.words l.i
