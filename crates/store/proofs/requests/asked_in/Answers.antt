-- `asked_in` meets its contract: what it computes is the definition as it stands.
use mathlib.Core.Path.{refl}
use Rattle.store.specs.Requests.{asked_in}
use Rattle.store.proofs.requests.asked_in.Goals as goal

pub returns : goal.returns
unfolding asked_in
returns c = refl
