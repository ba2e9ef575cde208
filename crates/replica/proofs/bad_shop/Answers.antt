-- `bad_shop` meets its contract.
use mathlib.Core.Path.{refl}
use Rattle.creek.specs.Calls.{bad_shop}
use Rattle.replica.proofs.bad_shop.Goals as goal

pub returns : goal.returns
unfolding bad_shop
returns c = refl
