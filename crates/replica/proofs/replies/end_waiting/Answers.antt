-- `replica::end_waiting` meets its contract.
use Rattle.replica.proofs.replies.end_waiting.Goals as goal

pub returns-then-mark : goal.returns-then-mark
returns-then-mark c = rw c.if-mark.true c.leave.ensures

pub returns-else-mark : goal.returns-else-mark
returns-else-mark c = rw c.if-mark.false
