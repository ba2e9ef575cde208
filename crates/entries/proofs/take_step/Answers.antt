-- `take_step` meets its contract, step by step.
use native.Mathlib.Omega.{arith}
use Rattle.creek.specs.Book.{undo, execute}
use Rattle.replica.proofs.ChangesLaws.{kept_here}
use Rattle.due.proofs.LoopLaws.{due_here}
use Rattle.encoding.proofs.DueLaws.{steps-few, done_all_due}
use Rattle.encoding.proofs.CallLaws.{put-done, put-kept, call_changed, due_changed}
use Rattle.entries.proofs.take_step.Goals as goal

pub undo-requires : goal.undo-requires
undo-requires c = record { panel = c.args.p.now; invariant = c.requires.inv }

pub execute-requires : goal.execute-requires
execute-requires c = record { panel = c.args.p.now; invariant = c.requires.inv }

pub run_due-due-requires : goal.run_due-due-requires
run_due-due-requires c = record { panel = c.args.p.now; invariant = c.requires.inv }

pub overflow_add-due : goal.overflow_add-due
overflow_add-due c = omega (arith, steps-few _ _ c.requires.inv (due_here c.run_due-due.ensures c.requires.inv))

pub returns-in-Undo : goal.returns-in-Undo
returns-in-Undo c =
    let done = c.undo.ensures in
    rw c.in-Undo.is (put-kept (kept_here undo done c.requires.inv) c.put_reply.ensures, call_changed undo done)

pub returns-in-Execute : goal.returns-in-Execute
returns-in-Execute c =
    let done = c.execute.ensures in
    rw c.in-Execute.is
    (put-kept (kept_here execute done c.requires.inv) c.put_reply-in-Execute.ensures, call_changed execute done)

pub returns-in-AllDue : goal.returns-in-AllDue
returns-in-AllDue c =
    let done = c.run_due-due.ensures in
    rw c.in-AllDue.is
    (put-done (done_all_due _ _ (due_here done c.requires.inv)) c.put_steps.ensures, due_changed done)
