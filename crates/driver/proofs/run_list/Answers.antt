-- `run_list` meets its contract.
use mathlib.Core.Path.{sym, ◌∙◌}
use Rattle.driver.proofs.RunLaws.{ran-nothing, room_for, ran_all}
use Rattle.driver.proofs.run_list.Goals as goal

pub returns-then-tight : goal.returns-then-tight
returns-then-tight c = rw c.from.ensures (ran-nothing _ _ (sym c.tight.ensures ∙ c.if-tight.true))

pub run_all-requires : goal.run_all-requires
run_all-requires c = record {
  inv = c.fresh-opened.ensures.0.invariant;
  count_value = c.call_count-count.ensures;
  room = room_for _ _ (sym c.tight.ensures ∙ c.if-tight.false) _;
}

pub returns : goal.returns
returns c =
    let shop = c.shop_in-panels.ensures in
    let fresh = rw (shop.0, shop.1) at c.fresh-opened.ensures.0 in
    rw c.outcome_number.ensures
    (ran_all _ _ (sym c.tight.ensures ∙ c.if-tight.false) _ fresh _ c.call_count-count.ensures _ _ c.run_all.ensures.0)
