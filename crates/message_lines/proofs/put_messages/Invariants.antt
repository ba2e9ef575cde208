-- `put_messages` meets its contract.
use Prim.Native.Nat.{◌-◌}
use lib.ListN.{length}
use Rattle.replica.specs.Memory.{memory, SameSpare}
use Rattle.message_lines.proofs.LoopLaws.{Putting}
use Rattle.message_lines.proofs.put_messages.Given as goal

abbrev pub invariant-loop-at : goal.invariant-loop-at
invariant-loop-at l =
    Putting (memory l.initial.p) l.input l.initial.out (memory l.p) l.out l.at l.behind l.place × SameSpare l.initial.p l.p

abbrev pub decreases-loop-at : goal.decreases-loop-at
decreases-loop-at l =
    length l.input - l.at
