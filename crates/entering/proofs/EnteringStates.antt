-- What may enter the plan may enter the state.
use native.Mathlib.Omega.{arith}
use mathlib.Core.Path.{sym, ap, ◌∙◌}
use lib.ListN.{length}
use Rattle.lists.proofs.ListLaws.{one_zero}
use Rattle.numbers.specs.declared.Number.{Number}
use Rattle.request.specs.declared.Request.{Request}
use Rattle.numbers.specs.Numbers.{most_panels}
use Rattle.numbers.specs.internal.Slots.{GoodNumber}
use Rattle.sets.specs.Sets.{member}
use Rattle.numbers.proofs.NumberLaws.{good-number}
use Rattle.creek.proofs.HeldLaws.{good-request, widened, held-few}
use Rattle.creek.proofs.AcceptanceLaws.{New}
use Rattle.creek.proofs.EnteredLaws.{entered-length, entered_sound}
use Rattle.replica.specs.State.{State}
use Rattle.replica.specs.internal.Model.{plan_of, Inv}
use Rattle.entering.specs.Entering.{Enters}
use Rattle.replica.proofs.ModelLaws.{plan_sound, order-planned, length-order}
use Rattle.replica.proofs.RequestLaws.{count_held}

-- a number that is good in the shop is good in the largest one
pub good_widely : (p : State) → Inv p → (n : Number) → GoodNumber p.panels n → GoodNumber most_panels n
unfolding plan_of
good_widely p inv n good = widened (plan_sound p inv).held.few_panels good

-- ---- what may enter

module _ (p : State) (x : Request) (inv : Inv p) (new : New (plan_of p) x) where
  entering_good : GoodNumber most_panels x.number
  unfolding plan_of
  entering_good =
      good_widely p inv x.number (good-number p.panels x.number (good-request p.panels x new.good).number)

  pub new_enters : Enters p x
  new_enters = record {
    number = entering_good;
    absent = one_zero (member p.held x.number) (sym (count_held p inv x.number entering_good) ∙ new.absent);
    room =
        omega (
          arith,
          held-few (entered_sound (plan_of p) x new (plan_sound p inv)).held,
          entered-length (plan_of p) x,
          ap length (order-planned p) ∙ length-order p inv,
        );
  }
