-- `Panel::requests` meets its contract.
use Rattle.replica.proofs.ShowingLaws.{requests_are}
use Rattle.replica.proofs.Panel.requests.Goals as goal

pub returns : goal.returns
returns c = record { shown = λ p inv. requests_are _ inv }
