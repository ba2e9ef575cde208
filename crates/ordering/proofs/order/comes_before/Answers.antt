-- `order::comes_before` meets its contract: pairs are compared by their first, and by their second where that decides nothing.
use mathlib.Core.Path.{◌≡◌, refl, ◌∙◌}
use mathlib.Core.Bool.{Bool, true, false, cond, ◌&&◌, ◌||◌}
use lib.Dec.{ltb, eqb}
use lib.ListN.{get_or}
use Rattle.std.proofs.Common.{Some, Less, Equal, Greater}
use Rattle.std.specs.Ordering.{is_lt, is_some_and, partial_ordering_then}
use Rattle.ordering.specs.Slots.{comes_before}
use Rattle.ordering.proofs.order.comes_before.Goals as goal

-- by the tests of each: less, equal
pairs : (l e k f : Bool)
    → is_some_and is_lt (partial_ordering_then (Some (cond l Less (cond e Equal Greater))) (Some (cond k Less (cond f Equal Greater))))
    ≡ (l || e && k)
pairs true e k f = refl
pairs false true true f = refl
pairs false true false true = refl
pairs false true false false = refl
pairs false false k f = refl

pub returns : goal.returns
unfolding comes_before
returns c =
    let a = c.args in
    let other = get_or a.clocks.now a.t 0 in
    c.lt.ensures ∙ pairs (ltb a.clock other) (eqb a.clock other) (ltb a.slot a.t) (eqb a.slot a.t)
