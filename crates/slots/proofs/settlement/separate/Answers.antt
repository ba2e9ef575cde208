-- `settlement::separate` meets its contract; the laws of a turn are in `SeparationLaws`.
use native.Mathlib.Omega.{arith}
use mathlib.Core.Path.{refl, sym, ◌∙◌}
use mathlib.Core.Bool.{Bool, not, ◌||◌}
use lib.ListN.{get_or}
use lib.Dec.{eqb}
use Rattle.lists.proofs.ListLaws.{one_most}
use Rattle.sets.specs.Sets.{set_of}
use Rattle.ordering.specs.Slots.{IsSlot}
use Rattle.slots.specs.Settlement.{stays}
use Rattle.ordering.proofs.SlotLaws.{part_slot, in_words_member}
use Rattle.slots.proofs.SeparationLaws.{separating_here, separating_on, separating-end}
use Rattle.slots.proofs.settlement.separate.Goals as goal
use Rattle.slots.proofs.settlement.separate.Goals.{In-loop-i, After-has_slot-named}

pub loop-i-init : goal.loop-i-init
loop-i-init c = record {
  low = omega arith;
  high = c.requires.part.rising;
  own_low = omega arith;
  count_low = omega arith;
  named = refl;
  staying = refl;
  rest = refl;
  long = c.requires.part.long;
  staying_long = c.requires.long;
}

-- at the place stands a slot
slot_at : (c : In-loop-i) → IsSlot (get_or c.loop-i.order c.loop-i.i 0)
slot_at c =
    let a = c.requires.part in
    let v = c.loop-i in
    rw (separating_here _ _ _ _ _ _ _ _ _ _ v.invariant a.inside a.long)
    (part_slot _ _ _ v.i a v.invariant.low (omega arith))

pub has_slot-named-requires : goal.has_slot-named-requires
has_slot-named-requires c = slot_at (goal.at.has_slot-named-requires c).In-loop-i

-- the two tests of a turn: the slot is named, or it stays
abbrev named : After-has_slot-named → Bool
named c = c.has_slot-named.result

abbrev left : After-has_slot-named → Bool
left c =
    let v = c.loop-i in
    not (named c || eqb c.args.slot (get_or v.order v.i 0))

pub overflow_add-own : goal.overflow_add-own
overflow_add-own c =
    record { fits = omega (arith, one_most (named (goal.at.overflow_add-own c).After-has_slot-named), one_most (left (goal.at.overflow_add-own c).After-has_slot-named), c.loop-i.invariant.own_low) }

pub overflow_add-count : goal.overflow_add-count
overflow_add-count c =
    record { fits = omega (arith, one_most (named (goal.at.overflow_add-count c).After-has_slot-named), one_most (left (goal.at.overflow_add-count c).After-has_slot-named), c.loop-i.invariant.count_low) }

pub loop-i-preserved : goal.loop-i-preserved
unfolding stays
loop-i-preserved c =
    let a = c.requires.part in
    let v = c.loop-i in
    let named = c.has_slot-named.ensures ∙ sym (in_words_member (set_of c.args.words.now) _ (slot_at (goal.at.loop-i-preserved c).In-loop-i)) in
    rw named (separating_on _ _ _ _ _ _ _ _ _ _ v.invariant a.inside a.long (omega arith))

pub returns : goal.returns
returns c =
    let a = c.requires.part in
    separating-end _ _ _ _ _ _ _ _ _ _ c.loop-i.invariant a.inside a.long (omega arith)
