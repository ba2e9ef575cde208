-- Claims of registers together that tell apart how document 02's request (g) may be read, each with what the reading chosen says.
-- That they hold is `claim-readings-told` in `proofs/ClaimReadings`; why each is chosen is in docs/DECISIONS.md.
use Rattle.std.specs.Prelude.{◌≡◌, true, false, List, ◌∷◌, ◌++◌, ℕ, replicate}
use Rattle.request.specs.Operations.{bad_operation}
use Rattle.effects.specs.Effect.{Executed}
use Rattle.effects.specs.Replay.{zero_board}
use Rattle.effects.specs.Claims.{claim_all}

-- registers 2 and 3 hold 9 and 3, and every other one 0
abbrev pub nine_then_three : List ℕ
nine_then_three = 0 ∷ 0 ∷ 9 ∷ 3 ∷ replicate 60 0

-- register 1 holds 7, and every other one 0
abbrev pub one_seven : List ℕ
one_seven = 0 ∷ 7 ∷ replicate 62 0

pub record ClaimReadings : Type 0 where
  -- the lowest one held is the lowest-numbered one, not the one with the least value
  pub lowest_numbered : Executed (claim_all 1 4 7) nine_then_three nine_then_three 9
  -- at most four are q − r + 1 at most 4
  pub four_good : bad_operation (claim_all 60 63 7) ≡ false
  pub five_bad : bad_operation (claim_all 0 4 7) ≡ true
  -- a register that holds v already is held all the same
  pub own_value_held : Executed (claim_all 1 2 7) one_seven one_seven 7
  -- handed to the registers, a claim with r above q claims none, and responds v
  pub none_claimed : Executed (claim_all 3 1 7) zero_board zero_board 7
  -- one of more than four claims them all
  pub six_claimed : Executed (claim_all 0 5 7) zero_board (replicate 6 7 ++ replicate 58 0) 7
  -- one for 0 changes nothing, and responds 0 where all are 0
  pub claimed_for_zero : Executed (claim_all 1 2 0) zero_board zero_board 0
