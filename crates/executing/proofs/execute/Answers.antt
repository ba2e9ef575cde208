-- `execute` meets its contract: nothing off the board, else what the two functions for operations on the board do.
use Rattle.std.proofs.Common.{◌≡◌, false, sym, ◌∙◌}
use Rattle.effects.specs.Effect.{off_board}
use Rattle.effects.proofs.RegisterLaws.{executed_off}
use Rattle.executing.proofs.execute.Goals as goal
use Rattle.executing.proofs.execute.Goals.{Else-off_board}

on : (c : Else-off_board) → off_board c.args.o ≡ false
on c = sym c.off_board.ensures ∙ c.if-off_board.false

pub returns-then-off_board : goal.returns-then-off_board
returns-then-off_board c = executed_off _ _ (sym c.off_board.ensures ∙ c.if-off_board.true)

pub execute_one-requires : goal.execute_one-requires
execute_one-requires c =
    record { on = on (goal.at.execute_one-requires c).Else-off_board; one = cc }

pub execute_other-requires : goal.execute_other-requires
execute_other-requires c =
    record { on = on (goal.at.execute_other-requires c).Else-off_board; other = cc }
