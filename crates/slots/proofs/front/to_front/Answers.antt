-- `front::to_front` meets its contract; its laws are in `FrontLaws`.
use Prim.Native.Nat.{◌<◌}
use native.Mathlib.Omega.{arith}
use Rattle.slots.proofs.FrontLaws.{front_slot, front_place_asks, front_behind, front_insertion_asks, fronted}
use Rattle.slots.proofs.front.to_front.Goals as goal
use Rattle.slots.proofs.front.to_front.Goals.{After-place-end}

pub bounds-clocks-slot : goal.bounds-clocks-slot
bounds-clocks-slot c = front_slot _ _ _ _ _ c.requires

pub place-end-requires : goal.place-end-requires
place-end-requires c = front_place_asks _ _ _ _ _ c.requires

-- the place is behind `from`
low : (c : After-place-end) → c.args.from < c.place-end.result
low c = front_behind _ _ _ _ _ c.requires _ c.place-end.ensures

pub overflow_sub-end : goal.overflow_sub-end
overflow_sub-end c = omega (arith, low (goal.at.overflow_sub-end c).After-place-end)

pub insert_at-requires : goal.insert_at-requires
insert_at-requires c = front_insertion_asks _ _ _ _ _ c.requires _ c.place-end.ensures

pub returns : goal.returns
returns c =
    fronted _ _ _ _ _ c.requires _ c.place-end.ensures _ c.insert_at.ensures
