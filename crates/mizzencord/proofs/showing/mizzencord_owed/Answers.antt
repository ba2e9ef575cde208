-- `showing::mizzencord_owed` meets its contract, by that of the call on the replica.
use Rattle.mizzencord.proofs.showing.mizzencord_owed.Goals as goal

pub owed-requires : goal.owed-requires
owed-requires c = record { panel = c.args.p.now.replica; invariant = c.requires }

pub returns : goal.returns
returns c = c.owed.ensures.shown c.args.p.now.replica c.requires
