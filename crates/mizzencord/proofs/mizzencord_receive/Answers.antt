-- `mizzencord_receive` meets its contract, by that of the call on the replica.
use Rattle.intake.proofs.IntakeLaws.{received_here}
use Rattle.mizzencord.proofs.mizzencord_receive.Goals as goal

pub receive-requires : goal.receive-requires
receive-requires c = record { panel = c.args.p.now.replica; invariant = c.requires }

pub returns : goal.returns
returns c = (received_here _ c.receive.ensures c.requires, c.receive.ensures.spare)
