-- `Panel::owed` meets its contract.
use Rattle.replica.proofs.ShowingLaws.{owed_are}
use Rattle.replica.proofs.Panel.owed.Goals as goal

pub returns : goal.returns
returns c = record { shown = λ p inv. owed_are _ inv }
