-- `numbers::number_of` meets its contract: the digits of a slot that counts round are those of the definition.
use Prim.Native.Nat.{◌/◌, ◌%◌}
use native.Mathlib.Omega.{arith}
use mathlib.Core.Path.{◌≡◌}
use Rattle.numbers.specs.Numbers.{most_panels, most_events}
use Rattle.numbers.specs.internal.Slots.{number_of}
use Rattle.numbers.proofs.number_of.Goals as goal

pub returns : goal.returns
unfolding number_of
returns c =
    let panel : c.digits-panel.result.0 ≡ c.args.slot / most_events % most_panels = omega arith in
    let event : c.digits-panel.result.1 ≡ c.args.slot % most_events = omega arith in
    rw (panel, event)
