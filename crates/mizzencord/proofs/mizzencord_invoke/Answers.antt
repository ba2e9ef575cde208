-- `mizzencord_invoke` meets its contract, by that of the call on the replica.
use Rattle.creek.specs.Book.{invoke}
use Rattle.replica.proofs.ChangesLaws.{kept_here}
use Rattle.mizzencord.proofs.mizzencord_invoke.Goals as goal

pub invoke-requires : goal.invoke-requires
invoke-requires c = record { panel = c.args.p.now.replica; invariant = c.requires }

pub returns : goal.returns
returns c = rw c.made_answer.ensures (kept_here (invoke _) c.invoke.ensures c.requires, c.invoke.ensures.spare)
