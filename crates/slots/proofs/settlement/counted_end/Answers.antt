-- `settlement::counted_end` meets its contract; the laws of a turn are in `CountedLaws`.
use Prim.Native.Nat.{◌<◌}
use native.Mathlib.Omega.{arith}
use borrow.Author.Rules.{rules}
use mathlib.Core.Path.{◌≡◌, sym, ◌∙◌}
use lib.ListN.{get_or}
use Rattle.sets.specs.Sets.{set_of}
use Rattle.ordering.specs.Slots.{most_slots, in_words}
use Rattle.ordering.proofs.SlotLaws.{part_slot, in_words_member}
use Rattle.slots.proofs.CountedLaws.{counting_starts, counting_below, counting_some, counting_on, counting_ends}
use Rattle.slots.proofs.CountedLaws.{moves_tested}
use Rattle.slots.proofs.settlement.counted_end.Goals as goal
use Rattle.slots.proofs.settlement.counted_end.Goals.{In-loop-left, After-has_slot-named}

pub loop-left-init : goal.loop-left-init
loop-left-init c = counting_starts _ _ _ _ _

-- some are left, so the place is one of the order
below : (c : In-loop-left) → c.loop-left.end < most_slots
below c =
    let a = c.requires in
    let counted = a.counted in
    omega (arith, counting_below _ _ _ _ _ _ _ c.loop-left.invariant (omega arith) a.to counted, counted.asks.part.inside)

pub offset_bounds-order-end : goal.offset_bounds-order-end
offset_bounds-order-end c = search (rules, below (goal.at.offset_bounds-order-end c).In-loop-left)

pub bounds-order-end : goal.bounds-order-end
bounds-order-end c = search (rules, below (goal.at.bounds-order-end c).In-loop-left)

pub has_slot-named-requires : goal.has_slot-named-requires
has_slot-named-requires c =
    let a = c.requires in
    let v = c.loop-left in
    part_slot _ _ _ _ a.counted.asks.part v.invariant.low
    (counting_below _ _ _ _ _ _ _ v.invariant (omega arith) a.to a.counted)

-- the number of the slot at the place is in the words
named : (c : After-has_slot-named) → c.has_slot-named.result ≡ in_words c.args.words.now (get_or c.args.order.now c.loop-left.end 0)
named c =
    let a = c.requires in
    let v = c.loop-left in
    let below = counting_below _ _ _ _ _ _ _ v.invariant (omega arith) a.to a.counted in
    let slot = part_slot c.args.order.now c.args.from a.to v.end a.counted.asks.part v.invariant.low below in
    c.has_slot-named.ensures ∙ sym (in_words_member (set_of c.args.words.now) _ slot)

pub overflow_sub-left : goal.overflow_sub-left
overflow_sub-left c =
    let a = c.requires in
    let v = c.loop-left in
    counting_some _ _ _ _ _ _ _ v.invariant (omega arith) _ (moves_tested _ _ _ _ (named (goal.at.overflow_sub-left c).After-has_slot-named)) a.to a.counted

pub overflow_add-end : goal.overflow_add-end
overflow_add-end c = search (rules, below (goal.at.overflow_add-end c).In-loop-left)

pub loop-left-smaller : goal.loop-left-smaller
loop-left-smaller c = omega (arith, below (goal.at.loop-left-smaller c).In-loop-left)

pub loop-left-preserved : goal.loop-left-preserved
loop-left-preserved c =
    let v = c.loop-left in
    counting_on _ _ _ _ _ _ _ v.invariant (omega arith) _ (moves_tested _ _ _ _ (named (goal.at.loop-left-preserved c).After-has_slot-named))

pub returns : goal.returns
returns c = counting_ends _ _ _ _ _ _ _ c.loop-left.invariant (omega arith)
