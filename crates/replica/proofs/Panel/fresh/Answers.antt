-- `Panel::fresh` meets its contract.
use mathlib.Core.Path.{refl}
use Rattle.replica.proofs.FreshLaws.{fresh-refused, fresh-opened}
use Rattle.replica.proofs.Panel.fresh.Goals as goal

pub returns-then-bad : goal.returns-then-bad
returns-then-bad c = (fresh-refused _ _ _ c.bad_shop-bad.ensures _ c.shop_of-opened.ensures c.if-bad.true, refl)

pub returns : goal.returns
returns c = (fresh-opened _ _ _ c.bad_shop-bad.ensures _ c.shop_of-opened.ensures c.if-bad.false, refl)
