-- What the functions for single codes ask of an operation.
use Rattle.std.specs.Prelude.{◌≡◌, false}
use Rattle.request.specs.declared.Operation.{Operation}
use Rattle.request.specs.Operations.{code_move, code_claim_all}
use Rattle.effects.specs.Effect.{off_board}

-- o is a move between registers on the board
pub record MoveOnBoard (o : Operation) : Type 0 where
  pub on : off_board o ≡ false
  pub code : o.code ≡ code_move

-- o is a claim of registers together, all of them on the board
pub record ClaimOnBoard (o : Operation) : Type 0 where
  pub on : off_board o ≡ false
  pub code : o.code ≡ code_claim_all
