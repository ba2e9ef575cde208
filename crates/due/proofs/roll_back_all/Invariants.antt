-- The invariant of the loop of `due::roll_back_all`.
use Rattle.due.proofs.LoopLaws.{RollingTo}
use Rattle.due.proofs.roll_back_all.Given as goal

abbrev pub invariant-loop-left : goal.invariant-loop-left
invariant-loop-left l = RollingTo l.initial.p l.p l.left
