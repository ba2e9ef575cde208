-- `answers::put_reply` meets its contract.
use Rattle.encoding.proofs.answers.put_reply.Goals as goal

pub returns : goal.returns
returns c = rw c.from.ensures at c.put_answer.ensures
