-- `members::mask` meets its contract: a shift of 1 by less than a word's bits loses nothing.
use Prim.Native.Nat.{◌-◌}
use native.Mathlib.Omega.{arith}
use native.Mathlib.Nat.{one-mul, mod-eq_of_lt}
use lib.Pow.{pow-lt}
use Rattle.numbers.specs.Numbers.{most_events}
use Rattle.members.proofs.mask.Goals as goal

pub returns : goal.returns
returns c =
    let k = c.args.n.event.0 - 1 in
    rw (one-mul, mod-eq_of_lt (pow-lt {i = k} {j = most_events} (omega arith)))
