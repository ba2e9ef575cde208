-- `mizzencord_undo` meets its contract, by that of the call on the replica.
use Rattle.creek.specs.Book.{undo}
use Rattle.replica.proofs.ChangesLaws.{kept_here}
use Rattle.mizzencord.proofs.mizzencord_undo.Goals as goal

pub undo-requires : goal.undo-requires
undo-requires c = record { panel = c.args.p.now.replica; invariant = c.requires }

pub returns : goal.returns
returns c = rw c.from.ensures (kept_here undo c.undo.ensures c.requires, c.undo.ensures.spare)
