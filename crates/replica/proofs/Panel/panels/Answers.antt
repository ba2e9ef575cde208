-- `Panel::panels` meets its contract.
use Rattle.replica.proofs.ShowingLaws.{panels_are}
use Rattle.replica.proofs.Panel.panels.Goals as goal

pub returns : goal.returns
returns c = record { shown = λ p inv. panels_are _ inv }
