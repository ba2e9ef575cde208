-- `context_at` meets its contract: storing the words that are left gives them all.
use Prim.Native.Nat.{◌≤◌, ◌+◌}
use mathlib.Core.Path.{◌≡◌}
use lib.ListN.{length}
use lib.Seq.{sets, slice}
use Rattle.numbers.specs.Numbers.{most_panels}
use Rattle.store.proofs.requests.context_at.Given as goal

abbrev pub invariant-loop-i : goal.invariant-loop-i
invariant-loop-i l =
    (l.i ≤ most_panels)
    × (length l.word-items ≡ most_panels)
    × (sets l.word-items l.i (slice (l.at + l.i) (l.at + most_panels) l.contexts) ≡ slice l.at (l.at + most_panels) l.contexts)
