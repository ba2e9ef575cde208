-- `later::take_out` meets its contract. The invariant: taking out those from the place on still leads to the whole.
use Prim.Native.Nat.{◌≤◌}
use mathlib.Core.Path.{◌≡◌}
use lib.Seq.{slice}
use Rattle.sets.specs.Sets.{set_of}
use Rattle.ordering.specs.Slots.{without}
use Rattle.ordering.proofs.later.take_out.Given as goal

abbrev pub invariant-loop-at : goal.invariant-loop-at
invariant-loop-at l =
    (l.from ≤ l.at) × (l.at ≤ l.to) × (without (set_of l.words) (slice l.at l.to l.order) ≡ without (set_of l.initial.words) (slice l.from l.to l.order))
