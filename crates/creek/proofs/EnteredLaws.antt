-- A request enters the plan: how many requests it has then, and that it stays sound (`SoundPlan`).
use Prim.Native.Nat.{suc, ◌+◌}
use native.Mathlib.Omega.{arith}
use mathlib.Core.Path.{◌≡◌, refl, sym, ap, ◌∙◌}
use mathlib.Core.Bool.{Bool, true, false, beq}
use mathlib.Core.List.{List, ◌∷◌}
use lib.ListN.{length}
use Rattle.sets.specs.declared.Context.{Context}
use Rattle.request.specs.declared.Request.{Request}
use Rattle.numbers.specs.Numbers.{same_number, most_panels}
use Rattle.numbers.specs.internal.Slots.{GoodNumber}
use Rattle.sets.specs.Sets.{member, join}
use Rattle.request.specs.Order.{before}
use Rattle.numbers.proofs.NumberLaws.{good-number, same_number_self}
use Rattle.request.proofs.OrderLaws.{before_transitive, before_total}
use Rattle.lists.specs.Lists.{one, count, Ordered}
use Rattle.creek.specs.Plan.{Plan, order, has_number, known_with, placed, entered}
use Rattle.creek.specs.internal.Sound.{Held, unknown, known_against_strength, SoundPlan}
use Rattle.lists.proofs.ListLaws.{one_true, one_false, count-append, count_implies, count_weaker, counts-length}
use Rattle.lists.proofs.ListLaws.{count-insert, insert_ordered}
use Rattle.creek.proofs.HeldLaws.{good-request, widened, held_moved, held_known, held_more}
use Rattle.creek.proofs.AcceptanceLaws.{New}
use Rattle.creek.proofs.KnownLaws.{now_known, other_known, still_known}

-- ---- a request enters

pub placed-count : (p : Request → Bool) (x : Request) (l : List Request) → count p (placed x l) ≡ one (p x) + count p l
placed-count p x l = rw count-insert

pub placed_ordered : (x : Request) (l : List Request) → count (has_number x.number) l ≡ 0 → Ordered before l → Ordered before (placed x l)
placed_ordered x l = insert_ordered before before_transitive (λ y z. same_number y.number z.number) before_total x l

module _ (a : Plan) (x : Request) where
  pub entered-count : (p : Request → Bool) → count p (order (entered a x)) ≡ count p (x ∷ order a)
  unfolding entered
  entered-count p =
      omega (
        arith,
        count-append p a.committed (placed x a.tentative),
        placed-count p x a.tentative,
        count-append p a.committed a.tentative,
      )

  pub entered-length : length (order (entered a x)) ≡ suc (length (order a))
  entered-length = counts-length (order (entered a x)) (x ∷ order a) entered-count

  pub entered_committed : (entered a x).committed ≡ a.committed
  unfolding entered
  entered_committed = refl

module _ (a : Plan) (x : Request) (new : New a x) (sound : SoundPlan a) where
  enters-held : Held a.panels a.own a.known (order (entered a x))
  enters-held = held_moved (held_more sound.held x new.good new.last new.absent) (order (entered a x)) (entered-count a x)

  enters_good : GoodNumber most_panels x.number
  enters_good =
      widened sound.held.few_panels (good-number a.panels x.number (good-request a.panels x new.good).number)

  absent_tentative : count (has_number x.number) a.tentative ≡ 0
  absent_tentative = omega (arith, new.absent, count-append (has_number x.number) a.committed a.tentative)

  -- the known set after it, by whether it is strong
  abbrev known_after : Bool → Context
  known_after strong = known_with a.known strong x.number

  known_enters : (strong : Bool) → Held a.panels a.own (known_after strong) (order (entered a x))
  known_enters true = enters-held
  known_enters false =
      held_known enters-held x.number (omega (arith, entered-count a x (has_number x.number), one_true (same_number_self x.number)))

  committed_known_enters : (strong : Bool) → count (unknown (known_after strong)) a.committed ≡ 0
  committed_known_enters true = sound.committed_known
  committed_known_enters false =
      omega (
        arith,
        sound.committed_known,
        count_weaker (unknown (join a.known x.number)) (unknown a.known)
            (still_known a.known x.number sound.held.known_words enters_good) a.committed,
      )

  -- the other tentative requests are known as before
  others_as_before : (strong : Bool) (y : Request) → has_number x.number y ≡ false
      → known_against_strength (known_after strong) y ≡ true → known_against_strength a.known y ≡ true
  others_as_before true y other e = e
  others_as_before false y other e =
      ap (beq y.asked.strong) (sym (other_known a.known x.number sound.held.known_words enters_good y other)) ∙ e

  -- itself it is known exactly where it is weak
  itself_known : (strong : Bool) → beq strong (member (known_after strong) x.number) ≡ false
  itself_known true = go (member a.known x.number) refl
    where
      go : (b : Bool) → member a.known x.number ≡ b → beq true b ≡ false
      go true e = absurd (omega (arith, new.absent, sound.held.known_held x.number e))
      go false e = refl
  itself_known false = ap (beq false) (now_known a.known x.number sound.held.known_words enters_good)

  pub entered_sound : SoundPlan (entered a x)
  unfolding entered
  entered_sound = record {
    held = known_enters x.asked.strong;
    clock_order = placed_ordered x a.tentative absent_tentative sound.clock_order;
    committed_known = committed_known_enters x.asked.strong;
    tentative_known =
        omega (
          arith,
          placed-count (known_against_strength (known_after x.asked.strong)) x a.tentative,
          one_false (itself_known x.asked.strong),
          sound.tentative_known,
          absent_tentative,
          count_implies (known_against_strength (known_after x.asked.strong)) (known_against_strength a.known) (has_number x.number)
              (others_as_before x.asked.strong) a.tentative,
        );
  }
