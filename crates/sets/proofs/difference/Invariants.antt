-- `sets::difference` meets its contract. The invariant: with the words from i on still to do, d leads to the whole difference.
use mathlib.Core.Path.{◌≡◌}
use lib.ListN.{length}
use Rattle.numbers.specs.Numbers.{most_panels}
use Rattle.sets.specs.Sets.{lacked_words}
use Rattle.sets.proofs.WordLaws.{lacked_from}
use Rattle.sets.proofs.difference.Given as goal

abbrev pub invariant-loop-i : goal.invariant-loop-i
invariant-loop-i l =
    (length l.d.words ≡ most_panels) × (length l.t.words ≡ most_panels)
    × (lacked_from l.i l.d.words l.t.words ≡ lacked_words l.initial.d.words l.t.words)
