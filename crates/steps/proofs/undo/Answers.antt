-- `steps::undo` meets its contract.
use native.Mathlib.Omega.{arith}
use Prim.Native.Nat.{◌<◌}
use Rattle.steps.proofs.StepLaws.{undo_none, undo_top, undo-done}
use Rattle.steps.proofs.undo.Goals as goal
use Rattle.steps.proofs.undo.Goals.{Else-p}

due : (c : Else-p) → c.args.p.now.executed < c.args.p.now.stacked
due c = omega (arith, c.requires.invariant.counts, c.if-p.false)

pub returns-then-p : goal.returns-then-p
returns-then-p c = undo_none _ c.if-p.true _ c.told.ensures

pub take_off-slot-requires : goal.take_off-slot-requires
take_off-slot-requires c =
    undo_top c.args.p.now (due (goal.at.take_off-slot-requires c).Else-p) c.requires.panel c.requires.invariant

pub returns : goal.returns
returns c =
    undo-done _ (due (goal.at.returns c).Else-p) _ _ c.take_off-slot.ensures _ c.number_of.ensures _ c.count_undos.ensures.held
