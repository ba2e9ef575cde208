-- `showing::mizzencord_register` meets its contract, by that of the call on the replica.
use Rattle.mizzencord.proofs.showing.mizzencord_register.Goals as goal

pub returns : goal.returns
returns c = c.register.ensures.shown c.args.p.now.replica c.requires
