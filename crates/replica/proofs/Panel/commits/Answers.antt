-- `Panel::commits` meets its contract.
use Rattle.replica.proofs.ShowingLaws.{commits_are}
use Rattle.replica.proofs.Panel.commits.Goals as goal

pub returns : goal.returns
returns c = record { shown = λ p inv. commits_are _ inv }
