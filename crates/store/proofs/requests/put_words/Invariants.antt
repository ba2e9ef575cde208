-- `put_words` meets its contract: storing the words that are left gives them all.
use Prim.Native.Nat.{◌≤◌, ◌+◌}
use mathlib.Core.Path.{◌≡◌}
use lib.ListN.{drop}
use lib.Seq.{sets}
use Rattle.numbers.specs.Numbers.{most_panels}
use Rattle.store.proofs.requests.put_words.Given as goal

abbrev pub invariant-loop-i : goal.invariant-loop-i
invariant-loop-i l =
    (l.i ≤ most_panels) × (sets l.contexts (l.at + l.i) (drop l.i l.word-items) ≡ sets l.initial.contexts l.at l.word-items)
