-- `answers::put_steps` meets its contract.
use Rattle.encoding.proofs.answers.put_steps.Goals as goal

pub returns : goal.returns
returns c = rw c.none.ensures at c.put_reply.ensures
