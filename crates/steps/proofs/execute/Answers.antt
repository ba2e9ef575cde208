-- `steps::execute` meets its contract.
use native.Mathlib.Omega.{arith}
use Prim.Native.Nat.{◌<◌}
use Rattle.steps.proofs.StepLaws.{execute_first_undo, execute_none, execute-next, execute-done}
use Rattle.steps.proofs.execute.Goals as goal
use Rattle.steps.proofs.execute.Goals.{Else-at-p-2}

more : (c : Else-at-p-2) → c.args.p.now.executed < c.args.p.now.ordered
more c = omega (arith, c.requires.invariant.counts, c.if-at-p-2.false)

pub returns-then-at-p : goal.returns-then-at-p
returns-then-at-p c = execute_first_undo _ c.if-at-p.true _ c.told.ensures

pub returns-then-at-p-2 : goal.returns-then-at-p-2
returns-then-at-p-2 c = execute_none _ c.if-at-p.false c.if-at-p-2.true _ c.told-then-at-p-2.ensures

pub execute_at-done-requires : goal.execute_at-done-requires
execute_at-done-requires c =
    execute-next c.args.p.now c.if-at-p.false (more (goal.at.execute_at-done-requires c).Else-at-p-2) c.requires.panel c.requires.invariant

pub returns : goal.returns
returns c =
    execute-done _ c.if-at-p.false (more (goal.at.returns c).Else-at-p-2) _ _ c.execute_at-done.ensures _
    c.count_executions.ensures.held
