-- `execute_move` meets its contract: what it works out is the amount moved, and its one return is a move's outcome.
use Rattle.std.proofs.Common.{◌≡◌, arith}
use Rattle.effects.specs.Effect.{amount_moved, moved}
use Rattle.effects.proofs.RegisterLaws.{on_board_is, executed-move}
use Rattle.executing.proofs.execute_move.Goals as goal
use Rattle.executing.proofs.execute_move.Goals.{After-min-amount}

amount_is : (c : After-min-amount) → c.min-amount.result ≡ amount_moved c.args.o c.args.registers.now
unfolding amount_moved
amount_is c = omega (arith, c.min-amount.ensures, c.min-most.ensures)

pub bounds-registers-r : goal.bounds-registers-r
bounds-registers-r c = omega (arith, on_board_is _ c.requires.on)

pub bounds-registers-q : goal.bounds-registers-q
bounds-registers-q c = omega (arith, on_board_is _ c.requires.on)

pub bounds-registers-r-2 : goal.bounds-registers-r-2
bounds-registers-r-2 c = omega (arith, on_board_is _ c.requires.on)

pub bounds-registers-q-2 : goal.bounds-registers-q-2
bounds-registers-q-2 c = omega (arith, on_board_is _ c.requires.on)

pub returns : goal.returns
unfolding moved
returns c = rw (amount_is c) (executed-move _ _ c.requires.on c.requires.code)
