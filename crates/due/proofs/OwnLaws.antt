-- At most 64 requests of a panel are held: their events are distinct.
use Prim.Native.Nat.{ℕ, ◌+◌, ◌-◌, ◌≤◌}
use native.Mathlib.Omega.{arith}
use mathlib.Core.Path.{◌≡◌, sym}
use mathlib.Core.Bool.{true, false, ◌&&◌}
use mathlib.Core.List.{List}
use lib.Dec.{eqb, ltb}
use borrow.Author.Tests.{eqb-true, lt-ltb}
use Rattle.lists.specs.Lists.{count, keep}
use Rattle.lists.proofs.BoolLaws.{both, both_true}
use Rattle.lists.proofs.ListLaws.{count_implies, count-keep, pigeonhole}
use Rattle.sets.specs.declared.Context.{Context}
use Rattle.request.specs.declared.Request.{Request}
use Rattle.numbers.specs.Numbers.{numbered, most_events}
use Rattle.numbers.specs.internal.Slots.{GoodNumber}
use Rattle.numbers.proofs.NumberLaws.{good-number, same_number_of}
use Rattle.creek.specs.Plan.{is_of, has_number}
use Rattle.creek.specs.internal.Sound.{is_bad, Held}
use Rattle.creek.proofs.HeldLaws.{good-request}

-- ---- for the crate below

module _ {panels own : ℕ} {known : Context} {l : List Request} (h : Held panels own known l) where
  -- how many events of its panel come before it
  abbrev earlier : Request → ℕ
  earlier x = x.number.event.0 - 1

  right : (x : Request) → is_bad panels x ≡ false → GoodNumber panels x.number
  right x e = good-number panels x.number (good-request panels x e).number

  of_event : (k : ℕ) (x : Request) → is_bad panels x ≡ false → is_of own x && eqb (earlier x) k ≡ true → has_number (numbered own (k + 1)) x ≡ true
  of_event k x e t =
      let parts = both_true (is_of own x) (eqb (earlier x) k) t in
      let event : k + 1 ≡ x.number.event.0 = omega (arith, eqb-true (earlier x) k parts.1, right x e) in
      same_number_of (numbered own (k + 1)) x.number (sym (eqb-true x.number.panel.0 own parts.0)) event

  once : (k : ℕ) → count (λ x. eqb (earlier x) k) (keep (is_of own) l) ≤ 1
  once k =
      omega (
        arith,
        h.good,
        h.distinct (numbered own (k + 1)),
        count-keep (is_of own) (λ x. eqb (earlier x) k) l,
        count_implies (λ x. is_of own x && eqb (earlier x) k) (has_number (numbered own (k + 1))) (is_bad panels) (of_event k) l,
      )

  fits : (x : Request) → is_bad panels x ≡ false → is_of own x ≡ true → is_of own x && ltb (earlier x) most_events ≡ true
  fits x e t = both t (lt-ltb (earlier x) most_events (omega (arith, right x e)))

  pub own-few : count (is_of own) l ≤ most_events
  own-few =
      omega (
        arith,
        h.good,
        count-keep (is_of own) (λ x. ltb (earlier x) most_events) l,
        count_implies (is_of own) (λ x. is_of own x && ltb (earlier x) most_events) (is_bad panels) fits l,
        pigeonhole earlier (keep (is_of own) l) once most_events,
      )
