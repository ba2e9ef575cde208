-- `showing::mizzencord_undos` meets its contract, by that of the call on the replica.
use Rattle.mizzencord.proofs.showing.mizzencord_undos.Goals as goal

pub returns : goal.returns
returns c = c.undos.ensures.shown c.args.p.now.replica c.requires
