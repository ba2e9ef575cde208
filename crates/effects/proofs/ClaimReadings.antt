-- Each reading of `specs/examples/ClaimReadings` is what the definitions compute.
use mathlib.Core.Path.{refl}
use Rattle.request.specs.Operations.{bad_operation}
use Rattle.effects.specs.Effect.{off_board, first_held, lowest_held, all_set, all_claimed, all_claimed_response, exec, response}
use Rattle.effects.specs.examples.ClaimReadings.{ClaimReadings}

pub claim-readings-told : ClaimReadings
unfolding bad_operation off_board first_held lowest_held all_set all_claimed all_claimed_response exec response
claim-readings-told = record {
  lowest_numbered = record { effect = refl; response = refl };
  four_good = refl;
  five_bad = refl;
  own_value_held = record { effect = refl; response = refl };
  none_claimed = record { effect = refl; response = refl };
  six_claimed = record { effect = refl; response = refl };
  claimed_for_zero = record { effect = refl; response = refl };
}
