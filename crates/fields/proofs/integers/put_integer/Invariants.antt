-- `integers::put_integer` meets its contract: putting what is left from i on equals putting the whole.
use Prim.Native.Nat.{◌+◌, ◌-◌, ◌≤◌}
use mathlib.Core.Path.{◌≡◌}
use lib.ListN.{length}
use lib.Seq.{sets}
use Rattle.fields.specs.Integers.{integer_bytes}
use Rattle.fields.proofs.integers.put_integer.Given as goal

abbrev pub invariant-loop-i : goal.invariant-loop-i
invariant-loop-i l =
    (l.i ≤ l.width)
    × (length l.out ≡ length l.initial.out)
    × (sets l.out (l.at + l.i) (integer_bytes (l.width - l.i) l.left) ≡ sets l.initial.out l.at (integer_bytes l.width l.v))
