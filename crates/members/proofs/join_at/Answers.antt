-- `members::join_at` meets its contract: a slot's number is good, and its word gains the bit that the slot's digits name.
use native.Mathlib.Omega.{arith}
use native.Mathlib.Nat.{one-mul, mod-eq_of_lt}
use Prim.Native.Nat.{◌+◌, ◌-◌, ◌/◌, ◌%◌}
use mathlib.Core.Path.{◌≡◌}
use lib.Pow.{pow-lt}
use Rattle.numbers.specs.Numbers.{most_panels, most_events}
use Rattle.numbers.specs.internal.Slots.{number_of}
use Rattle.sets.specs.Sets.{join}
use Rattle.numbers.proofs.NumberLaws.{number_good, number_of_good}
use Rattle.members.proofs.join_at.Goals as goal

pub returns : goal.returns
unfolding number_of join
returns c =
    let slot = c.args.slot in
    let panel : c.digits-panel.result.0 ≡ slot / 64 % 8 = omega arith in
    let event : c.digits-panel.result.1 ≡ slot % 64 = omega arith in
    let back : slot % 64 + 1 - 1 ≡ slot % 64 = omega arith in
    let small = pow-lt {i = slot % 64} {j = most_events} (omega arith) in
    rw (panel, event, number_good most_panels (number_of slot) (number_of_good slot), back, one-mul, mod-eq_of_lt small)
