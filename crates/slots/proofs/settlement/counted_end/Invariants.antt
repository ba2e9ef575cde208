-- `settlement::counted_end` meets its contract; the laws of a turn are in `CountedLaws`.
use Prim.Native.Nat.{◌-◌}
use Rattle.ordering.specs.Slots.{most_slots}
use Rattle.slots.proofs.CountedLaws.{Counting}
use Rattle.slots.proofs.settlement.counted_end.Given as goal

abbrev pub invariant-loop-left : goal.invariant-loop-left
invariant-loop-left l = Counting l.order l.from l.moving l.words l.slot l.left l.end

abbrev pub decreases-loop-left : goal.decreases-loop-left
decreases-loop-left l = most_slots - l.end
