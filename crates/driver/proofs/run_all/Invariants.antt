-- `run_all` meets its contract: what is left to do from each call on is the whole run.
use Prim.Native.Nat.{◌+◌, ◌*◌}
use Rattle.replica.specs.Memory.{memory, SameSpare}
use Rattle.encoding.specs.Encoding.{calls_at, call_size}
use Rattle.driver.proofs.Running.{Running}
use Rattle.driver.proofs.run_all.Given as goal

abbrev pub invariant-loop-i : goal.invariant-loop-i
invariant-loop-i l =
    Running (memory l.initial.p) l.s l.count l.initial.out l.out (memory l.p) (calls_at + call_size * l.i) l.behind l.i
    × SameSpare l.initial.p l.p
