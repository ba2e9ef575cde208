-- `Panel::own` meets its contract.
use Rattle.replica.proofs.ShowingLaws.{own_is}
use Rattle.replica.proofs.Panel.own.Goals as goal

pub returns : goal.returns
returns c = record { shown = λ p inv. own_is _ inv }
