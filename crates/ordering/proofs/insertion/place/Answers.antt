-- `insertion::place` meets its contract; the laws of the search by halves are in `HalvesLaws` of the lists.
use Prim.Native.Nat.{ℕ, ◌+◌, ◌-◌, ◌/◌}
use native.Mathlib.Omega.{arith}
use mathlib.Core.Path.{sym, ap, ◌∙◌}
use mathlib.Core.Bool.{not}
use Rattle.lists.proofs.HalvesLaws.{halving-passed, halving_failed, halving_ends}
use Rattle.ordering.proofs.SlotLaws.{comparison_asked}
use Rattle.ordering.proofs.InsertionLaws.{place_behind_last}
use Rattle.ordering.proofs.insertion.place.Goals as goal

-- the place that a turn looks at
abbrev middle : ℕ → ℕ → ℕ
middle low high = low + (high - low) / 2

pub comes_before-requires : goal.comes_before-requires
comes_before-requires c =
    comparison_asked _ _ _ _ (c.args.to - 1) c.requires.order (omega (arith, c.if-from-to.true)) (omega (arith, c.if-from-to.true))

pub returns-then-not-comes_before : goal.returns-then-not-comes_before
returns-then-not-comes_before c =
    place_behind_last _ _ _ _ _ _ c.requires c.if-from-to.true (ap not (sym c.comes_before.ensures ∙ c.if-not-comes_before.true))

pub comes_before-requires-in-loop-low : goal.comes_before-requires-in-loop-low
comes_before-requires-in-loop-low c =
    let v = c.loop-low in
    comparison_asked _ _ _ _ (middle v.low v.high) c.requires.order
    (omega (arith, v.invariant.first)) (omega (arith, v.invariant.last))

pub loop-low-preserved-then-comes_before : goal.loop-low-preserved-then-comes_before
loop-low-preserved-then-comes_before c =
    let v = c.loop-low in
    halving-passed _ _ _ _ _ c.requires.split _ _ v.invariant (middle v.low v.high) (omega arith) (omega arith)
    (sym c.comes_before-in-loop-low.ensures ∙ c.if-comes_before.true)

pub loop-low-preserved : goal.loop-low-preserved
loop-low-preserved c =
    let v = c.loop-low in
    halving_failed _ _ _ _ _ c.requires.split _ _ v.invariant (middle v.low v.high) (omega arith) (omega arith)
    (sym c.comes_before-in-loop-low.ensures ∙ c.if-comes_before.false)

pub returns : goal.returns
returns c =
    let a = c.requires.order.part in
    halving_ends _ _ _ _ _ _ _ c.loop-low.invariant (omega arith) (omega (arith, a))
