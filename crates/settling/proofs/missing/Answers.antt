-- `settling::missing` meets its contract.
use mathlib.Core.Path.{◌∙◌, sym}
use Rattle.settling.specs.Settling.{missing_number}
use Rattle.settling.proofs.missing.Goals as goal

pub returns-then-is_subset : goal.returns-then-is_subset
unfolding missing_number
returns-then-is_subset c = rw (sym c.is_subset.ensures ∙ c.if-is_subset.true)

pub returns : goal.returns
unfolding missing_number
returns c = rw (sym c.is_subset.ensures ∙ c.if-is_subset.false, c.lowest_lacking.ensures)
