-- `reading::number_at` meets its contract: the fields stand where the layout has them.
use native.Mathlib.Nat.{add_assoc, add-zero}
use Rattle.fields.specs.Widths.{decode}
use Rattle.fields.specs.Integers.{integer_at}
use Rattle.fields.proofs.reading.number_at.Goals as goal

pub returns : goal.returns
unfolding decode integer_at
returns c = simp (add_assoc, add-zero)
