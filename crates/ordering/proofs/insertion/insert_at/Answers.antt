-- `insertion::insert_at` meets its contract by the laws of an insertion by a copy.
use native.Mathlib.Omega.{arith}
use mathlib.Core.Path.{◌∙◌}
use Rattle.ordering.proofs.InsertionLaws.{inserted-first, inserted-rest, inserted-long}
use Rattle.ordering.proofs.insertion.insert_at.Goals as goal

pub returns : goal.returns
returns c =
    let a = c.args in
    let h = c.requires in
    rw c.copy_within.ensures.after (record {
      first = inserted-first a.n a.xs.now a.at a.s h.place (omega (arith, h));
      rest = inserted-rest a.n a.xs.now a.at a.s h.place (omega (arith, h));
      long = inserted-long a.n a.xs.now a.at a.s h.place (omega (arith, h)) ∙ h.long;
    })
