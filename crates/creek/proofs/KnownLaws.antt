-- The known set with a number more, seen from the requests.
use mathlib.Core.Path.{◌≡◌, refl, ap, ◌∙◌}
use mathlib.Core.Bool.{Bool, true, false, not, ◌||◌}
use lib.ListN.{length}
use Rattle.sets.specs.declared.Context.{Context}
use Rattle.numbers.specs.declared.Number.{Number}
use Rattle.request.specs.declared.Request.{Request}
use Rattle.numbers.specs.Numbers.{same_number, most_panels}
use Rattle.numbers.specs.internal.Slots.{GoodNumber}
use Rattle.sets.specs.Sets.{member, join}
use Rattle.lists.proofs.BoolLaws.{true_not_false}
use Rattle.numbers.proofs.NumberLaws.{same_number_self}
use Rattle.sets.proofs.SetLaws.{member-join}
use Rattle.creek.specs.Plan.{has_number}
use Rattle.creek.specs.internal.Sound.{unknown}

-- a set with n, seen from a request of another number and from one of that number
module _ (known : Context) (n : Number) (words : length known.words ≡ most_panels) (good : GoodNumber most_panels n) where
  pub other_known : (y : Request) → has_number n y ≡ false → member (join known n) y.number ≡ member known y.number
  other_known y e = member-join known n y.number words good ∙ ap (λ (b : Bool). b || member known y.number) e

  pub now_known : member (join known n) n ≡ true
  now_known = member-join known n n words good ∙ ap (λ (b : Bool). b || member known n) (same_number_self n)

  -- what was known stays known
  pub still_known : (y : Request) → unknown (join known n) y ≡ true → unknown known y ≡ true
  still_known y e = go (member known y.number) refl
    where
      go : (b : Bool) → member known y.number ≡ b → not b ≡ true
      go false f = refl
      go true f = true_not_false e (ap not (member-join known n y.number words good ∙ or-true (same_number n y.number) f))
        where
          or-true : (c : Bool) {d : Bool} → d ≡ true → c || d ≡ true
          or-true true f = refl
          or-true false f = f
