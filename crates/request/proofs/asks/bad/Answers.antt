-- `asks::bad` meets its contract by those of its callees.
use mathlib.Core.Path.{◌∙◌, ap}
use Rattle.request.specs.Operations.{bad_operation}
use Rattle.request.specs.Asked.{bad_asked}
use Rattle.request.proofs.asks.bad.Goals as goal

pub returns : goal.returns
unfolding bad_asked
returns c = c.bad.ensures ∙ ap bad_operation c.operation.ensures
