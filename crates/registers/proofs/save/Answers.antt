-- `save` meets its contract, on the board and off it.
use native.Mathlib.Omega.{arith}
use mathlib.Core.Path.{◌≡◌, sym, ◌∙◌}
use mathlib.Core.Bool.{false}
use Rattle.effects.specs.Effect.{off_board}
use Rattle.registers.specs.Rollback.{saved_of}
use Rattle.effects.proofs.RegisterLaws.{on_board_is}
use Rattle.registers.proofs.save.Goals as goal
use Rattle.registers.proofs.save.Goals.{Else-off_board}

on : (c : Else-off_board) → off_board c.args.o ≡ false
on c = sym c.off_board.ensures ∙ c.if-off_board.false

pub returns-then-off_board : goal.returns-then-off_board
unfolding saved_of
returns-then-off_board c = simp (sym c.off_board.ensures ∙ c.if-off_board.true)

pub bounds-registers-o : goal.bounds-registers-o
bounds-registers-o c = omega (arith, on_board_is _ (on (goal.at.bounds-registers-o c).Else-off_board))

pub bounds-registers-o-2 : goal.bounds-registers-o-2
bounds-registers-o-2 c = omega (arith, on_board_is _ (on (goal.at.bounds-registers-o-2 c).Else-off_board))

pub returns : goal.returns
unfolding saved_of
returns c = simp (on (goal.at.returns c).Else-off_board)
