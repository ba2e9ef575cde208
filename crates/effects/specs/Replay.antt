-- A replay executes operations in turn on a zero board.
use Rattle.std.specs.Prelude.{ℕ, suc, List, [], ◌∷◌, replicate}
use Rattle.request.specs.declared.Operation.{Operation}
use Rattle.request.specs.Operations.{last_register}
use Rattle.effects.specs.Effect.{exec}

-- all 64 registers at 0
abbrev pub zero_board : List ℕ
zero_board = replicate (suc last_register) 0

-- the registers after operations are executed in turn on b
unfoldable pub replay_on : List ℕ → List Operation → List ℕ
replay_on b [] = b
replay_on b (o ∷ os) = replay_on (exec o b) os

-- the registers after operations are executed in turn on a zero board
unfoldable pub replay : List Operation → List ℕ
replay os = replay_on zero_board os
