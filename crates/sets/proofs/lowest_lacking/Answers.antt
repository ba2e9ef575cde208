-- `sets::lowest_lacking` meets its contract by those of its callees.
use mathlib.Core.Path.{ap, ◌∙◌}
use Rattle.sets.specs.Sets.{lowest, lowest_lacking}
use Rattle.sets.proofs.lowest_lacking.Goals as goal

pub returns : goal.returns
unfolding lowest_lacking
returns c = c.lowest.ensures ∙ ap lowest c.difference-d.ensures
