-- `bare` meets its contract by those of its callees.
use Rattle.request.proofs.bare.Goals as goal

pub returns : goal.returns
returns c = rw (c.none.ensures, c.empty.ensures)
