-- `Panel::executions` meets its contract.
use mathlib.Core.Path.{refl}
use Rattle.replica.specs.internal.Model.{model}
use Rattle.replica.proofs.Panel.executions.Goals as goal

pub returns : goal.returns
unfolding model
returns c = record { shown = λ p inv. refl }
