-- `answers::tight` meets its contract.
use Prim.Native.Nat.{ℕ, ◌/◌}
use mathlib.Core.Path.{ap}
use lib.Dec.{ltb}
use Rattle.encoding.specs.Encoding.{answer_size}
use Rattle.encoding.proofs.answers.tight.Goals as goal

pub returns : goal.returns
returns c = ap (λ (n : ℕ). ltb (c.args.room / answer_size) n) c.call_count-count.ensures
