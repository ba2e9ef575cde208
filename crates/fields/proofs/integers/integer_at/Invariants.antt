-- `integers::integer_at` meets its contract: the loop goes down, and v is the integer in the bytes from i on.
use Prim.Native.Nat.{◌+◌, ◌-◌, ◌^◌, ◌≤◌, ◌<◌}
use mathlib.Core.Path.{◌≡◌}
use Rattle.fields.specs.Integers.{integer_at}
use Rattle.fields.proofs.integers.integer_at.Given as goal

abbrev pub invariant-loop-i : goal.invariant-loop-i
invariant-loop-i l = (l.i ≤ l.width) × (l.v ≡ integer_at l.s (l.at + l.i) (l.width - l.i)) × (l.v < 256 ^ (l.width - l.i))
