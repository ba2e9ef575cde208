-- `members::has_slot` meets its contract: a slot's number is good, and the slot's digits are its word and its bit.
use native.Mathlib.Omega.{arith}
use Prim.Native.Nat.{◌+◌, ◌-◌, ◌/◌, ◌%◌}
use mathlib.Core.Path.{◌≡◌, sym}
use Rattle.numbers.specs.Numbers.{most_panels}
use Rattle.numbers.specs.internal.Slots.{number_of}
use Rattle.sets.specs.Sets.{bit}
use Rattle.numbers.proofs.NumberLaws.{number_good, number_of_good}
use Rattle.sets.proofs.SetLaws.{member_is_bit}
use Rattle.members.proofs.has_slot.Goals as goal

pub returns : goal.returns
unfolding bit number_of
returns c =
    let slot = c.args.slot in
    let panel : c.digits-panel.result.0 ≡ slot / 64 % 8 = omega arith in
    let event : c.digits-panel.result.1 ≡ slot % 64 + 1 - 1 = omega arith in
    rw (panel, event) (sym (member_is_bit _ (number_of slot) (number_good most_panels (number_of slot) (number_of_good slot))))
