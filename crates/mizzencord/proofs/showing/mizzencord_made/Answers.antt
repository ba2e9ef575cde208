-- `showing::mizzencord_made` meets its contract, by that of the call on the replica.
use Rattle.mizzencord.proofs.showing.mizzencord_made.Goals as goal

pub returns : goal.returns
returns c = c.made.ensures.shown c.args.p.now.replica c.requires
