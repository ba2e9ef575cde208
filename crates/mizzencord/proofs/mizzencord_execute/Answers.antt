-- `mizzencord_execute` meets its contract, by that of the call on the replica.
use Rattle.creek.specs.Book.{execute}
use Rattle.replica.proofs.ChangesLaws.{kept_here}
use Rattle.mizzencord.proofs.mizzencord_execute.Goals as goal

pub execute-requires : goal.execute-requires
execute-requires c = record { panel = c.args.p.now.replica; invariant = c.requires }

pub returns : goal.returns
returns c = rw c.from.ensures (kept_here execute c.execute.ensures c.requires, c.execute.ensures.spare)
