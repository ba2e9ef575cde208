-- `showing::mizzencord_request_status` meets its contract, by that of the call on the replica.
use Rattle.mizzencord.proofs.showing.mizzencord_request_status.Goals as goal

pub request_status-requires : goal.request_status-requires
request_status-requires c = record { panel = c.args.p.now.replica; invariant = c.requires }

pub returns : goal.returns
returns c = c.request_status.ensures.shown c.args.p.now.replica c.requires
