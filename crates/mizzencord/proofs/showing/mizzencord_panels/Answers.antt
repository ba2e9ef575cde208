-- `showing::mizzencord_panels` meets its contract, by that of the call on the replica.
use Rattle.mizzencord.proofs.showing.mizzencord_panels.Goals as goal

pub returns : goal.returns
returns c = c.panels.ensures.shown c.args.p.now.replica c.requires
