-- `execute_one` meets its contract: the law of the operations on one register.
use Rattle.std.proofs.Common.{arith}
use borrow.Author.Tests.{le-leb, lt-leb}
use Rattle.effects.proofs.RegisterLaws.{on_board_is}
use Rattle.executing.proofs.OneRegisterLaws.{executed-one}
use Rattle.executing.proofs.execute_one.Goals as goal

pub bounds-registers-r : goal.bounds-registers-r
bounds-registers-r c = omega (arith, on_board_is _ c.requires.on)

pub bounds-registers-r-2 : goal.bounds-registers-r-2
bounds-registers-r-2 c = omega (arith, on_board_is _ c.requires.on)

pub returns-then-code-le-SET : goal.returns-then-code-le-SET
returns-then-code-le-SET c =
    rw c.value_after-after.ensures (rw (le-leb _ _ c.if-code-le-SET.true) at (executed-one c.args.o c.args.registers.now c.requires))

pub returns-else-code-le-SET : goal.returns-else-code-le-SET
returns-else-code-le-SET c =
    rw c.value_after-after.ensures (rw (lt-leb _ _ c.if-code-le-SET.false) at (executed-one c.args.o c.args.registers.now c.requires))
