-- `settlement::settle_upto` meets its contract; its laws are in `SettlementLaws`.
use Prim.Native.Nat.{◌<◌}
use borrow.Author.Rules.{rules}
use mathlib.Core.Path.{refl}
use Rattle.slots.proofs.SettlementLaws.{own_inside, put_asked, settled_by_lem}
use Rattle.slots.proofs.settlement.settle_upto.Goals as goal
use Rattle.slots.proofs.settlement.settle_upto.Goals.{After-separate-own}

pub separate-own-requires : goal.separate-own-requires
separate-own-requires c = record { part = c.requires.part; long = refl }

-- there is a place for the settled slot
own_below : (c : After-separate-own) → c.separate-own.result < c.args.end
own_below c = own_inside _ _ _ _ _ c.requires _ _ _ c.separate-own.ensures

pub offset_bounds-order-own : goal.offset_bounds-order-own
offset_bounds-order-own c = search (rules, own_below (goal.at.offset_bounds-order-own c).After-separate-own, c.requires.part.inside)

pub bounds-order-own : goal.bounds-order-own
bounds-order-own c = search (rules, own_below (goal.at.bounds-order-own c).After-separate-own, c.requires.part.inside)

pub overflow_add-committed : goal.overflow_add-committed
overflow_add-committed c = search (rules, own_below (goal.at.overflow_add-committed c).After-separate-own, c.requires.part.inside)

pub overflow_sub-end : goal.overflow_sub-end
overflow_sub-end c = search (rules, own_below (goal.at.overflow_sub-end c).After-separate-own)

pub put_first-requires : goal.put_first-requires
put_first-requires c =
    put_asked _ _ _ _ _ c.requires _ _ _ c.separate-own.ensures

pub returns : goal.returns
returns c =
    rw c.put_first.ensures (settled_by_lem _ _ _ _ _ c.requires _ _ _ c.separate-own.ensures)
