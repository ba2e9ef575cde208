-- `showing::mizzencord_executions` meets its contract, by that of the call on the replica.
use Rattle.mizzencord.proofs.showing.mizzencord_executions.Goals as goal

pub returns : goal.returns
returns c = c.executions.ensures.shown c.args.p.now.replica c.requires
