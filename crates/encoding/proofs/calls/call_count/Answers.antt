-- `calls::call_count` meets its contract.
use Rattle.encoding.specs.Encoding.{call_count}
use Rattle.encoding.proofs.calls.call_count.Goals as goal

pub returns : goal.returns
unfolding call_count
returns c = rw c.saturating_sub.ensures
