-- `showing::mizzencord_committed` meets its contract, by that of the call on the replica.
use Rattle.mizzencord.proofs.showing.mizzencord_committed.Goals as goal

pub returns : goal.returns
returns c = c.committed.ensures.shown c.args.p.now.replica c.requires
