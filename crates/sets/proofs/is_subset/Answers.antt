-- `sets::is_subset` meets its contract by those of its callees.
use mathlib.Core.Path.{ap, ◌∙◌}
use Rattle.sets.specs.Sets.{is_empty, subset}
use Rattle.sets.proofs.is_subset.Goals as goal

pub returns : goal.returns
unfolding subset
returns c = c.is_empty.ensures ∙ ap is_empty c.difference-d.ensures
