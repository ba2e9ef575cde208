-- `Kind::least_size` meets its contract: the sizes are those of the layout.
use borrow.Author.Rules.{rules}
use Rattle.wire.specs.Layout.{least_size, widths_with, layout}
use Rattle.wire.proofs.Kind.least_size.Goals as goal

pub returns-in-Weak : goal.returns-in-Weak
unfolding least_size widths_with layout
returns-in-Weak c = search rules

pub returns-in-Strong : goal.returns-in-Strong
unfolding least_size widths_with layout
returns-in-Strong c = search rules

pub returns-in-Settlement : goal.returns-in-Settlement
unfolding least_size widths_with layout
returns-in-Settlement c = search rules
