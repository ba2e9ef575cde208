-- `answers::answer_in` meets its contract.
use borrow.Author.Tests.{eq-eqb, ne_eqb}
use Rattle.encoding.proofs.answers.answer_in.Goals as goal

pub returns-then-r-eq0 : goal.returns-then-r-eq0
returns-then-r-eq0 c = rw (eq-eqb _ 0 c.if-r-eq0.true) (rw c.told.ensures at c.from.ensures)

pub returns : goal.returns
returns c = rw (ne_eqb _ 0 c.if-r-eq0.false) c.from-2.ensures
