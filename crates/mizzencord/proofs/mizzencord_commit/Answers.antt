-- `mizzencord_commit` meets its contract, by that of the call on the replica.
use Rattle.creek.specs.Book.{commit}
use Rattle.replica.proofs.ChangesLaws.{kept_here}
use Rattle.mizzencord.proofs.mizzencord_commit.Goals as goal

pub commit-requires : goal.commit-requires
commit-requires c = record { panel = c.args.p.now.replica; invariant = c.requires }

pub returns : goal.returns
returns c = rw c.from.ensures (kept_here (commit _) c.commit.ensures c.requires, c.commit.ensures.spare)
