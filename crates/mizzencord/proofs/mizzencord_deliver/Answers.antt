-- `mizzencord_deliver` meets its contract, by that of the call on the replica.
use Rattle.creek.specs.Book.{deliver}
use Rattle.replica.proofs.ChangesLaws.{kept_here}
use Rattle.mizzencord.proofs.mizzencord_deliver.Goals as goal

pub deliver-heard-requires-clause-inv : goal.deliver-heard-requires-clause-inv
deliver-heard-requires-clause-inv c = record { panel = c.args.p.now.replica; invariant = c.requires }

pub returns : goal.returns
returns c =
    let heard = c.deliver-heard.ensures in
    rw (c.from.ensures, c.told.ensures) (kept_here (deliver _) heard c.requires, heard.spare)
