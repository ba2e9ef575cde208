-- `settlement::settle_moving` meets its contract; its laws are in `MovesLaws`, `AloneLaws` and `MovingLaws`.
use Prim.Native.Nat.{◌+◌, ◌≤◌, ◌<◌}
use native.Mathlib.Omega.{arith}
use borrow.Author.Rules.{rules}
use borrow.Author.Tests.{eqb-true}
use mathlib.Core.Path.{◌∙◌}
use Rattle.lists.proofs.BoolLaws.{both_true}
use Rattle.ordering.specs.Slots.{most_slots}
use Rattle.slots.specs.Settlement.{Counted, NoneBehind}
use Rattle.slots.proofs.AloneLaws.{settled_alone}
use Rattle.unions.proofs.LackedLaws.{lacked-few}
use Rattle.slots.proofs.MovingLaws.{settled_further}
use Rattle.slots.proofs.MovesLaws.{named_many, counted_by, some-moves, asked_upto, settled-run}
use Rattle.slots.proofs.settlement.settle_moving.Goals as goal
use Rattle.slots.proofs.settlement.settle_moving.Goals.{After-counted_end-end, After-lacked_count-named}

pub to_front-end-requires : goal.to_front-end-requires
to_front-end-requires c =
    let a = c.requires in
    record {
      order_asks = record { clocks_long = a.clocks_long; part = a.asks.part };
      rising = a.rising;
      once = a.asks.once;
    }

pub returns-then-named-eq0 : goal.returns-then-named-eq0
returns-then-named-eq0 c =
    let none = named_many _ _ _ _ _ _ _ c.requires _ c.lacked_count-named.ensures ∙ c.if-named-eq0.true in
    settled_alone _ _ _ _ _ c.requires.asks none _ _ c.to_front-end.ensures

-- ---- how many move
few : (c : After-lacked_count-named) → c.lacked_count-named.result ≤ most_slots
few c = omega (arith, c.lacked_count-named.ensures, lacked-few c.args.words.now c.args.settled.now)

counted : (c : After-lacked_count-named)
    → let a = c.args in Counted a.order.now a.from a.to (c.lacked_count-named.result + 1) a.words.now a.slot
counted c = counted_by _ _ _ _ _ _ _ c.requires _ c.lacked_count-named.ensures

pub overflow_add-named : goal.overflow_add-named
overflow_add-named c = search (rules, few (goal.at.overflow_add-named c).After-lacked_count-named)

pub counted_end-end-requires : goal.counted_end-end-requires
counted_end-end-requires c =
    record { to = c.args.to; counted = counted (goal.at.counted_end-end-requires c).After-lacked_count-named }

-- ---- the place behind the last that moves
behind : (c : After-counted_end-end)
    → let a = c.args in NoneBehind a.order.now a.to a.words.now a.slot c.counted_end-end.result
behind c = c.counted_end-end.ensures.end _ (counted_by _ _ _ _ _ _ _ c.requires _ c.lacked_count-named.ensures)

low : (c : After-counted_end-end) → c.args.from < c.counted_end-end.result
low c = some-moves _ _ _ _ _ _ (counted_by _ _ _ _ _ _ _ c.requires _ c.lacked_count-named.ensures) _ (behind c)

high : (c : After-counted_end-end) → c.counted_end-end.result ≤ most_slots
high c = omega (arith, (behind c).inside, c.requires.asks.part.inside)

pub overflow_sub-last : goal.overflow_sub-last
overflow_sub-last c = omega (arith, low (goal.at.overflow_sub-last c).After-counted_end-end)

pub offset_bounds-order-end : goal.offset_bounds-order-end
offset_bounds-order-end c = search (rules, low (goal.at.offset_bounds-order-end c).After-counted_end-end, high (goal.at.offset_bounds-order-end c).After-counted_end-end)

pub bounds-order-end : goal.bounds-order-end
bounds-order-end c = omega (arith, low (goal.at.bounds-order-end c).After-counted_end-end, high (goal.at.bounds-order-end c).After-counted_end-end)

pub overflow_sub-end : goal.overflow_sub-end
overflow_sub-end c = omega (arith, low (goal.at.overflow_sub-end c).After-counted_end-end)

pub overflow_add-named-2 : goal.overflow_add-named-2
overflow_add-named-2 c = search (rules, few (goal.at.overflow_add-named-2 c).After-lacked_count-named)

pub returns-then-end-from : goal.returns-then-end-from
returns-then-end-from c =
    let tests = both_true _ _ c.if-end-from.true in
    settled-run _ _ _ _ _ _ (counted (goal.at.returns-then-end-from c).After-lacked_count-named) _ (behind (goal.at.returns-then-end-from c).After-counted_end-end) (eqb-true _ _ tests.0) (eqb-true _ _ tests.1)

pub settle_upto-requires : goal.settle_upto-requires
settle_upto-requires c =
    asked_upto _ _ _ _ _ _ (counted (goal.at.settle_upto-requires c).After-lacked_count-named) _ (behind (goal.at.settle_upto-requires c).After-counted_end-end)

pub returns : goal.returns
returns c =
    settled_further _ _ _ _ _ (counted (goal.at.returns c).After-lacked_count-named).asks _ (behind (goal.at.returns c).After-counted_end-end).inside (behind (goal.at.returns c).After-counted_end-end).behind _ _ _ c.settle_upto.ensures
