-- `rollback` meets its contract: off the board, after a claim of registers together, and after any other operation.
use native.Mathlib.Omega.{arith}
use mathlib.Core.Path.{◌≡◌, sym, ◌∙◌}
use mathlib.Core.Bool.{false}
use borrow.Author.Tests.{ne_eqb}
use Rattle.effects.specs.Effect.{off_board}
use Rattle.registers.specs.Rollback.{not_taken, restored}
use Rattle.effects.proofs.RegisterLaws.{on_board_is}
use Rattle.registers.proofs.rollback.Goals as goal
use Rattle.registers.proofs.rollback.Goals.{Else-off_board}

on : (c : Else-off_board) → off_board c.args.o ≡ false
on c = sym c.off_board.ensures ∙ c.if-off_board.false

pub returns-then-off_board : goal.returns-then-off_board
unfolding restored
returns-then-off_board c = simp (sym c.off_board.ensures ∙ c.if-off_board.true)

pub bounds-registers-o : goal.bounds-registers-o
bounds-registers-o c = omega (arith, on_board_is _ (on (goal.at.bounds-registers-o c).Else-off_board))

pub returns-then-s-held : goal.returns-then-s-held
unfolding restored not_taken
returns-then-s-held c =
    simp (on (goal.at.returns-then-s-held c).Else-off_board, c.if-o-eq-CLAIM_ALL.true, c.if-s-held.true)

pub set_all-requires : goal.set_all-requires
set_all-requires c =
    on (goal.at.set_all-requires c).Else-off_board

pub returns-then-o-eq-CLAIM_ALL : goal.returns-then-o-eq-CLAIM_ALL
unfolding restored not_taken
returns-then-o-eq-CLAIM_ALL c =
    c.set_all.ensures ∙ simp (on (goal.at.returns-then-o-eq-CLAIM_ALL c).Else-off_board, c.if-o-eq-CLAIM_ALL.true, c.if-s-held.false)

pub bounds-registers-o-2 : goal.bounds-registers-o-2
bounds-registers-o-2 c = omega (arith, on_board_is _ (on (goal.at.bounds-registers-o-2 c).Else-off_board))

pub bounds-registers-o-3 : goal.bounds-registers-o-3
bounds-registers-o-3 c = omega (arith, on_board_is _ (on (goal.at.bounds-registers-o-3 c).Else-off_board))

pub returns : goal.returns
unfolding restored
returns c =
    simp (on (goal.at.returns c).Else-off_board, ne_eqb _ _ c.if-o-eq-CLAIM_ALL.false)
