-- `later::take_out` meets its contract. The invariant: taking out those from the place on still leads to the whole.
use Prim.Native.Nat.{ℕ, ◌+◌}
use native.Mathlib.Omega.{arith}
use mathlib.Core.Path.{◌≡◌, sym, ap, ◌∙◌}
use lib.ListN.{get_or}
use lib.Seq.{slice}
use Rattle.sets.specs.declared.Context.{Context}
use Rattle.sets.specs.Sets.{set_of}
use Rattle.ordering.specs.Slots.{IsSlot, without}
use Rattle.ordering.proofs.SlotLaws.{part_slot, taken_out, without-next, without_end}
use Rattle.ordering.proofs.later.take_out.Goals as goal
use Rattle.ordering.proofs.later.take_out.Goals.{In-loop-at}

-- what stands at the place is a slot
slot_at : (c : In-loop-at) → IsSlot (get_or c.args.order.now c.loop-at.at 0)
slot_at c = part_slot c.args.order.now c.args.from c.args.to c.loop-at.at c.requires (omega arith) (omega arith)

pub bounds-words-panel : goal.bounds-words-panel
bounds-words-panel c = omega (arith, slot_at (goal.at.bounds-words-panel c).In-loop-at)

pub bounds-words-panel-in-loop-at : goal.bounds-words-panel-in-loop-at
bounds-words-panel-in-loop-at c = omega (arith, slot_at (goal.at.bounds-words-panel-in-loop-at c).In-loop-at)

pub bounds-words-panel-in-loop-at-2 : goal.bounds-words-panel-in-loop-at-2
bounds-words-panel-in-loop-at-2 c = omega (arith, slot_at (goal.at.bounds-words-panel-in-loop-at-2 c).In-loop-at)

pub loop-at-preserved : goal.loop-at-preserved
loop-at-preserved c =
    let v = c.loop-at in
    let order = c.args.order.now in
    rw (c.digits-panel.ensures.panel, c.digits-panel.ensures.event) (
      omega arith,
      omega arith,
      ap (λ (s : Context). without s (slice (v.at + 1) c.args.to order))
          (taken_out v.words (get_or order v.at 0) (slot_at (goal.at.loop-at-preserved c).In-loop-at))
          ∙ sym (without-next order (set_of v.words) v.at c.args.to (omega arith) (omega (arith, c.requires.long, c.requires.inside)))
          ∙ v.invariant.2,
    )

pub returns : goal.returns
returns c =
    let v = c.loop-at in
    let end : v.at ≡ c.args.to = omega arith in
    sym (without_end c.args.order.now (set_of v.words) c.args.to)
    ∙ ap (λ (i : ℕ). without (set_of v.words) (slice i c.args.to c.args.order.now)) (sym end)
    ∙ v.invariant.2
