-- `invoking::at_least` meets its contract.
use Rattle.invoking.proofs.InvokingLaws.{as_asked, raised_to_last}
use Rattle.invoking.proofs.at_least.Goals as goal

pub returns-then-last-i : goal.returns-then-last-i
returns-then-last-i c = as_asked _ _ c.if-last-i.true

pub returns : goal.returns
returns c = raised_to_last _ _ c.if-last-i.false
