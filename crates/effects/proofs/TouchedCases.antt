-- Each case of `specs/examples/TouchedCases` is what the definition computes.
use mathlib.Core.Path.{refl}
use Rattle.effects.specs.Effect.{off_board}
use Rattle.effects.specs.Touched.{registers_from, touched}
use Rattle.effects.specs.examples.TouchedCases.{TouchedCases}

pub touched-cases : TouchedCases
unfolding off_board registers_from touched
touched-cases = record {
  by_read = refl;
  by_set = refl;
  by_add = refl;
  by_claim = refl;
  by_move = refl;
  by_claim_together = refl;
  by_claim_alone = refl;
  by_claim_of_none = refl;
  by_move_off_board = refl;
  by_unknown_code = refl;
}
