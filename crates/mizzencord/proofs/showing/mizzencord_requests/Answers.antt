-- `showing::mizzencord_requests` meets its contract, by that of the call on the replica.
use Rattle.mizzencord.proofs.showing.mizzencord_requests.Goals as goal

pub returns : goal.returns
returns c = c.requests.ensures.shown c.args.p.now.replica c.requires
