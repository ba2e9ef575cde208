-- `showing::mizzencord_own` meets its contract, by that of the call on the replica.
use Rattle.mizzencord.proofs.showing.mizzencord_own.Goals as goal

pub returns : goal.returns
returns c = c.own.ensures.shown c.args.p.now.replica c.requires
