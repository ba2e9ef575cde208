-- `off_board` meets its contract: its code is the definition.
use Rattle.std.proofs.Common.{refl}
use Rattle.effects.specs.Effect.{off_board}
use Rattle.executing.proofs.off_board.Goals as goal

pub returns : goal.returns
unfolding off_board
returns c = refl
