-- `Panel::made` meets its contract.
use Rattle.replica.proofs.ShowingLaws.{made_are}
use Rattle.replica.proofs.Panel.made.Goals as goal

pub returns : goal.returns
returns c = record { shown = λ p inv. made_are _ inv }
