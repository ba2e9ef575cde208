-- The invariant of the loop of `due::execute_all`.
use Rattle.due.proofs.LoopLaws.{ExecutingTo}
use Rattle.due.proofs.execute_all.Given as goal

abbrev pub invariant-loop-at : goal.invariant-loop-at
invariant-loop-at l = ExecutingTo l.initial.p l.p l.replies l.count l.at
