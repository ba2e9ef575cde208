-- `numbers::bad` meets its contract: what it computes is the definition as it stands.
use mathlib.Core.Path.{refl}
use Rattle.numbers.specs.Numbers.{bad_number}
use Rattle.numbers.proofs.bad.Goals as goal

pub returns : goal.returns
unfolding bad_number
returns c = refl
