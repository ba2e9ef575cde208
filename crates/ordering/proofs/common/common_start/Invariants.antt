-- `common::common_start` meets its contract. The invariant: the place, with what is common from there on, is the whole's.
use Prim.Native.Nat.{◌+◌}
use mathlib.Core.Path.{◌≡◌}
use lib.Dec.{eqb}
use lib.Seq.{slice}
use Rattle.lists.specs.Lists.{common_start}
use Rattle.ordering.proofs.common.common_start.Given as goal

abbrev pub invariant-loop-place : goal.invariant-loop-place
invariant-loop-place l =
    l.place + common_start eqb (slice l.place l.n l.xs) (slice l.place l.m l.ys) ≡ l.at + common_start eqb (slice l.at l.n l.xs) (slice l.at l.m l.ys)
