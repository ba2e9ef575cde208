-- `insertion::place` meets its contract; the laws of the search by halves are in `HalvesLaws` of the lists.
use Prim.Native.Nat.{◌-◌}
use Rattle.lists.proofs.HalvesLaws.{Halving}
use Rattle.ordering.specs.Slots.{comes_before}
use Rattle.ordering.proofs.insertion.place.Given as goal

abbrev pub invariant-loop-low : goal.invariant-loop-low
invariant-loop-low l = Halving (comes_before l.clocks l.clock l.slot) l.order 0 l.from l.to l.low l.high

abbrev pub decreases-loop-low : goal.decreases-loop-low
decreases-loop-low l = l.high - l.low
