-- `showing::mizzencord_at_place` meets its contract, by that of the call on the replica.
use Rattle.mizzencord.proofs.showing.mizzencord_at_place.Goals as goal

pub at_place-requires : goal.at_place-requires
at_place-requires c = record { panel = c.args.p.now.replica; invariant = c.requires }

pub returns : goal.returns
returns c = c.at_place.ensures.shown c.args.p.now.replica c.requires
