-- `settlement::separate` meets its contract; the laws of a turn are in `SeparationLaws`.
use Rattle.slots.proofs.SeparationLaws.{Separating}
use Rattle.slots.proofs.settlement.separate.Given as goal

abbrev pub invariant-loop-i : goal.invariant-loop-i
invariant-loop-i l =
    Separating l.initial.order l.from l.to l.words l.slot l.order l.staying l.own l.count l.i
