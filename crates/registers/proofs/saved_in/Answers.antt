-- `saved_in` meets its contract: what it computes is the definition as it stands.
use mathlib.Core.Path.{refl}
use Rattle.registers.specs.Rollback.{saved_in}
use Rattle.registers.proofs.saved_in.Goals as goal

pub returns : goal.returns
unfolding saved_in
returns c = refl
