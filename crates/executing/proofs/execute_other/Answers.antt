-- `execute_other` meets its contract: a move, a claim of registers together, or nothing.
use Rattle.executing.proofs.OneRegisterLaws.{executed_other}
use Rattle.executing.proofs.execute_other.Goals as goal

pub returns : goal.returns
returns c = executed_other _ _ c.requires c.if-code-eq-MOVE.false c.if-code-eq-CLAIM_ALL.false
