-- `answers::put_receipt` meets its contract.
use Rattle.encoding.proofs.answers.put_receipt.Goals as goal

pub returns : goal.returns
returns c = rw c.answer_in-answer.ensures at c.put_answer.ensures
