-- `sets::is_empty` meets its contract: no word from the first on is not 0.
use mathlib.Core.Path.{ap, ◌∙◌}
use mathlib.Core.Bool.{not, not-not}
use Rattle.sets.specs.Sets.{is_empty, names_from}
use Rattle.sets.proofs.is_empty.Goals as goal

pub returns : goal.returns
unfolding is_empty names_from
returns c = ap not c.names_from.ensures ∙ not-not _
