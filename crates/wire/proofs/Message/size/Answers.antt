-- `Message::size` meets its contract.
use mathlib.Core.Path.{sym, ap, ◌∙◌}
use Rattle.wire.specs.Layout.{least_size}
use Rattle.wire.proofs.MessageLaws.{runless-size}
use Rattle.wire.proofs.Message.size.Goals as goal

pub returns : goal.returns
returns c = c.least_size.ensures ∙ ap least_size c.kind.ensures ∙ sym (runless-size _)
