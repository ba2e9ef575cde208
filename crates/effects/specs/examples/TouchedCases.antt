-- Which registers operations touch, case by case: one of each code, and those at the edges.
-- That they hold is `touched-cases` in `proofs/TouchedCases`.
use Rattle.std.specs.Prelude.{◌+◌, ◌≡◌, [], ◌∷◌}
use Rattle.request.specs.Operations.{code_read, code_set, code_add, code_move, last_code, last_register}
use Rattle.effects.specs.Claims.{claim_all, plain_claim}
use Rattle.effects.specs.Touched.{touched}

pub record TouchedCases : Type 0 where
  pub by_read : touched (record { code = code_read; r = 5; q = 0; amount = 0 }) ≡ []
  pub by_set : touched (record { code = code_set; r = 5; q = 0; amount = 9 }) ≡ 5 ∷ []
  pub by_add : touched (record { code = code_add; r = 5; q = 0; amount = 9 }) ≡ 5 ∷ []
  pub by_claim : touched (plain_claim 5 9) ≡ 5 ∷ []
  pub by_move : touched (record { code = code_move; r = 5; q = 2; amount = 9 }) ≡ 5 ∷ 2 ∷ []
  pub by_claim_together : touched (claim_all 60 63 9) ≡ 60 ∷ 61 ∷ 62 ∷ 63 ∷ []
  pub by_claim_alone : touched (claim_all 5 5 9) ≡ 5 ∷ []
  -- a claim with r above q
  pub by_claim_of_none : touched (claim_all 3 1 9) ≡ []
  -- q is not on the board
  pub by_move_off_board : touched (record { code = code_move; r = 5; q = last_register + 1; amount = 9 }) ≡ []
  pub by_unknown_code : touched (record { code = last_code + 1; r = 5; q = 2; amount = 9 }) ≡ []
