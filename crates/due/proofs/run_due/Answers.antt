-- `due::run_due` meets its contract.
use Rattle.due.proofs.LoopLaws.{nothing_left, still_asked, all_due_is}
use Rattle.due.proofs.run_due.Goals as goal

pub execute_all-requires-clause-asks : goal.execute_all-requires-clause-asks
execute_all-requires-clause-asks c = still_asked c.roll_back_all-undos.ensures.back c.requires.panel c.requires.invariant

pub execute_all-requires-clause-nothing_to_undo : goal.execute_all-requires-clause-nothing_to_undo
execute_all-requires-clause-nothing_to_undo c =
    nothing_left c.roll_back_all-undos.ensures.back c.requires.panel c.requires.invariant

pub returns : goal.returns
returns c = all_due_is c.roll_back_all-undos.ensures.back c.roll_back_all-undos.ensures.undos c.execute_all.ensures
