-- `numbers::slot_of` meets its contract: what it computes is the definition as it stands.
use native.Mathlib.Omega.{arith}
use Rattle.numbers.specs.internal.Slots.{slot_of}
use Rattle.numbers.proofs.slot_of.Goals as goal

pub returns : goal.returns
unfolding slot_of
returns c = omega arith
