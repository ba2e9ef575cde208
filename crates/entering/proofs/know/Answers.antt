-- `entering::know` meets its contract.
use Rattle.entering.proofs.know.Goals as goal

pub returns-then-not-strong : goal.returns-then-not-strong
returns-then-not-strong c = rw c.if-not-strong.true c.join_at.ensures

pub returns-else-not-strong : goal.returns-else-not-strong
returns-else-not-strong c = rw c.if-not-strong.false
