-- `mizzencord_run_due` meets its contract, by that of the call on the replica.
use Rattle.due.proofs.LoopLaws.{due_here}
use Rattle.mizzencord.proofs.mizzencord_run_due.Goals as goal

pub run_due-requires : goal.run_due-requires
run_due-requires c = record { panel = c.args.p.now.replica; invariant = c.requires }

pub returns : goal.returns
returns c = (due_here c.run_due.ensures c.requires, c.run_due.ensures.spare)
