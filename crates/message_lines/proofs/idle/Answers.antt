-- `idle` meets its contract.
use Rattle.due.proofs.LoopLaws.{due_here}
use Rattle.message_lines.proofs.LoopLaws.{idle-by}
use Rattle.message_lines.proofs.idle.Goals as goal

pub run_due-steps-requires : goal.run_due-steps-requires
run_due-steps-requires c = record { panel = c.args.p.now; invariant = c.requires }

pub returns : goal.returns
returns c = (idle-by (due_here c.run_due-steps.ensures c.requires), c.run_due-steps.ensures.spare)
