-- `invoking::context_for` meets its contract.
use Rattle.invoking.proofs.context_for.Goals as goal

pub returns-then-strong : goal.returns-then-strong
returns-then-strong c = rw c.if-strong.true c.take_out.ensures
