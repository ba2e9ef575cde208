-- `sets::lowest` meets its contract. The invariant: the lowest number is that of the words from the panel on.
use mathlib.Core.Path.{◌≡◌}
use lib.ListN.{length, drop}
use Rattle.numbers.specs.Numbers.{most_panels}
use Rattle.sets.specs.Sets.{lowest_from}
use Rattle.sets.proofs.lowest.Given as goal

abbrev pub invariant-loop-panel : goal.invariant-loop-panel
invariant-loop-panel l =
    (length l.word-items ≡ most_panels) × (lowest_from 0 l.word-items ≡ lowest_from l.panel (drop l.panel l.word-items))
