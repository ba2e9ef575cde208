-- `showing::mizzencord_commits` meets its contract, by that of the call on the replica.
use Rattle.mizzencord.proofs.showing.mizzencord_commits.Goals as goal

pub returns : goal.returns
returns c = c.commits.ensures.shown c.args.p.now.replica c.requires
