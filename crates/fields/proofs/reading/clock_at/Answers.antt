-- `reading::clock_at` meets its contract: the clock stands where the layout has it.
use native.Mathlib.Nat.{add_assoc}
use Rattle.fields.specs.Widths.{decode}
use Rattle.fields.proofs.reading.clock_at.Goals as goal

pub returns : goal.returns
unfolding decode
returns c = rw c.integer_at-clock.ensures.0 (simp add_assoc)
