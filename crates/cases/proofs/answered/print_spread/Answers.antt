-- `print_spread` meets its contract: a message that is read lies inside the bytes.
use native.Mathlib.Omega.{arith}
use mathlib.Core.Path.{sym}
use lib.Seq.{length-take-le}
use Rattle.wire.proofs.RoundTrip.{taken_inside}
use Rattle.cases.proofs.answered.print_spread.Goals as goal

pub slice_bounds-print_bytes-end : goal.slice_bounds-print_bytes-end
slice_bounds-print_bytes-end c =
    let read = sym (rw c.in-Ok-Some.field-0-is at c.in-Ok-Some.ensures) in
    sym (length-take-le _ _ (omega (arith, taken_inside _ _ _ _ read)))
