-- Laws of clock order: it is irreflexive, transitive and total on different numbers; a panel's requests with rising events and no falling
-- clock are in it; among good numbers it goes by clock, then slot.
use Prim.Native.Nat.{◌≤◌, ◌<◌}
use native.Mathlib.Omega.{arith}
use mathlib.Core.Path.{◌≡◌, refl, ap, ◌∙◌}
use mathlib.Core.Bool.{true, false}
use mathlib.Core.Logic.{◌⊎◌, inl, inr}
use lib.Dec.{ltb}
use borrow.Author.Tests.{ltb-true, ltb-false, lt-ltb, le-ltb}
use Rattle.numbers.specs.Numbers.{same_number, most_panels}
use Rattle.numbers.specs.internal.Slots.{GoodNumber, slot_of}
use Rattle.numbers.specs.Lexicographic.{lexicographic}
use Rattle.numbers.proofs.NumberLaws.{same_number_of}
use Rattle.numbers.proofs.LexicographicLaws.{compared, lexicographic_less, lexicographic_equal, lexicographic_transitive}
use Rattle.numbers.proofs.LexicographicLaws.{lexicographic_total, slots_ordered}
use Rattle.request.specs.declared.Request.{Request}
use Rattle.request.specs.Order.{before}

pub before_irreflexive : (x : Request) → before x x ≡ false
unfolding before
before_irreflexive x =
    lexicographic_equal x.clock.0 _ _ refl ∙ lexicographic_equal x.number.panel.0 _ _ refl
    ∙ le-ltb x.number.event.0 _ (omega arith)

pub before_transitive : (x y z : Request) → before x y ≡ true → before y z ≡ true → before x z ≡ true
unfolding before
before_transitive x y z e f =
    lexicographic_transitive x.clock.0 y.clock.0 z.clock.0 _ _ _
    (lexicographic_transitive x.number.panel.0 y.number.panel.0 z.number.panel.0 _ _ _ events)
    e f
  where
    events : ltb x.number.event.0 y.number.event.0 ≡ true → ltb y.number.event.0 z.number.event.0 ≡ true
        → ltb x.number.event.0 z.number.event.0 ≡ true
    events p q = lt-ltb x.number.event.0 z.number.event.0 (omega (arith, ltb-true))

-- of two requests with different numbers one is before the other
pub before_total : (x y : Request) → before x y ≡ false → before y x ≡ false → same_number x.number y.number ≡ true
unfolding before
before_total x y e f =
    let clocks = lexicographic_total x.clock.0 y.clock.0 _ _ e f in
    let panels = lexicographic_total x.number.panel.0 y.number.panel.0 _ _ clocks.1 clocks.2 in
    let less = ltb-false x.number.event.0 y.number.event.0 panels.1 in
    let more = ltb-false y.number.event.0 x.number.event.0 panels.2 in
    same_number_of x.number y.number panels.0 (omega (arith, less, more))

-- of one panel's requests, one with a lower event and no higher clock reading is before the other
pub before_by_event : (x y : Request) → x.number.panel.0 ≡ y.number.panel.0 → x.clock.0 ≤ y.clock.0
    → x.number.event.0 < y.number.event.0 → before x y ≡ true
unfolding before
before_by_event x y panel clock event = go (compared x.clock.0 y.clock.0)
  where
    go : (x.clock.0 < y.clock.0) ⊎ ((y.clock.0 < x.clock.0) ⊎ (x.clock.0 ≡ y.clock.0)) → before x y ≡ true
    go (inl p) = lexicographic_less _ _ _ p
    go (inr (inl p)) = absurd (omega arith)
    go (inr (inr p)) = lexicographic_equal _ _ _ p ∙ lexicographic_equal _ _ _ panel ∙ lt-ltb _ _ event

-- among good numbers it goes by clock, then slot
pub before_by_slots : (x y : Request) → GoodNumber most_panels x.number → GoodNumber most_panels y.number
    → before x y ≡ lexicographic x.clock.0 y.clock.0 (ltb (slot_of x.number) (slot_of y.number))
unfolding before
before_by_slots x y g h = ap (lexicographic x.clock.0 y.clock.0) (slots_ordered x.number y.number g h)
