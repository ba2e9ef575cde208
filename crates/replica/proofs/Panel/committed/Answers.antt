-- `Panel::committed` meets its contract.
use Rattle.replica.proofs.ShowingLaws.{committed_are}
use Rattle.replica.proofs.Panel.committed.Goals as goal

pub returns : goal.returns
returns c = record { shown = λ p inv. committed_are _ inv }
