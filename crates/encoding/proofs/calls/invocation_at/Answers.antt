-- `calls::invocation_at` meets its contract.
use mathlib.Core.Path.{ap, ◌∙◌}
use Rattle.encoding.specs.Encoding.{message_at, message_of, request_in, invocation_of}
use Rattle.encoding.proofs.calls.invocation_at.Goals as goal

pub returns : goal.returns
unfolding message_at invocation_of
returns c = ap invocation_of (c.request_of-request.ensures ∙ ap (λ o. request_in (message_of o)) c.read.ensures)
