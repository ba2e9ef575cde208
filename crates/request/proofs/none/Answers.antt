-- `none` meets its contract by those of its callees.
use Rattle.request.proofs.none.Goals as goal

pub returns : goal.returns
returns c = rw (c.bare.ensures, c.none.ensures)
