-- Laws of a slot that goes to the front of places in clock order: where it stands, and that it is inserted there.
use Prim.Native.Nat.{ℕ, ◌+◌, ◌-◌, ◌<◌}
use native.Mathlib.Omega.{arith}
use mathlib.Core.Path.{◌≡◌, sym, ap, ◌∙◌}
use mathlib.Core.List.{List, ◌∷◌, ◌++◌}
use lib.ListN.{take, drop, get_or}
use lib.Seq.{slice, slice-cons, take-take}
use lib.Dec.{eqb}
use borrow.Author.Tests.{eqb-true}
use Rattle.lists.specs.Lists.{count}
use Rattle.lists.specs.Places.{insert_at}
use Rattle.lists.proofs.ListLaws.{one_true, count-append}
use Rattle.lists.proofs.PlaceLaws.{slice_split}
use Rattle.lists.proofs.StartLaws.{Found, some-found}
use Rattle.ordering.specs.Slots.{IsSlot}
use Rattle.ordering.specs.Insertion.{PlaceAsks, place_for, InsertionAsks, Inserted}
use Rattle.ordering.proofs.SlotLaws.{part_slot}
use Rattle.ordering.proofs.OwnPlaceLaws.{own_place_asks, own_place}
use Rattle.slots.specs.Front.{FrontAsks, Fronted}

module _ (xs clocks : List ℕ) (from to s : ℕ) (h : FrontAsks xs clocks from to s) where
  -- the place where it stands
  standing : Found (eqb s) xs 0 from to
  standing =
      let part = h.order_asks.part in
      some-found (eqb s) xs 0 to (omega (arith, part)) (to - from) from (omega (arith, part)) (omega (arith, h.once))

  there : get_or xs standing.at 0 ≡ s
  there = sym (eqb-true s _ standing.passes)

  pub front_slot : IsSlot s
  front_slot = rw (sym there) (part_slot xs from to standing.at h.order_asks.part standing.low standing.high)

  pub front_place_asks : PlaceAsks clocks xs from to (get_or clocks s 0) s
  front_place_asks = own_place_asks clocks xs from to h.order_asks h.rising standing.at s standing.low standing.high there

  module _ (e : ℕ) (place : e ≡ place_for clocks xs from to (get_or clocks s 0) s) where
    behind : e ≡ standing.at + 1
    behind = place ∙ own_place clocks xs from to h.order_asks h.rising standing.at s standing.low standing.high there

    pub front_behind : from < e
    front_behind = omega (arith, behind, standing.low)

    pub front_insertion_asks : InsertionAsks xs (e - 1) from
    front_insertion_asks = record {
      place = omega (arith, behind, standing.low);
      room = omega (arith, behind, standing.high, h.order_asks.part);
      long = h.order_asks.part.long;
    }

    stood : e - 1 ≡ standing.at
    stood = omega (arith, behind)

    unmet : count (eqb s) (slice from standing.at xs) ≡ 0
    unmet =
        let k = standing.at in
        let last = standing.high in
        omega (
          arith,
          h.once,
          ap (count (eqb s))
              (slice_split k to (omega (arith, last)) from xs standing.low (omega (arith, last, h.order_asks.part))),
          count-append (eqb s) (slice from k xs) (slice k to xs),
          ap (count (eqb s)) (slice-cons k to xs 0 standing.high (omega (arith, h.order_asks.part))),
          one_true standing.passes,
        )

    pub fronted : (ys : List ℕ) → Inserted xs (e - 1) from s ys → Fronted xs from s ys e
    unfolding insert_at
    fronted ys ins =
        let end : e - 1 + 1 ≡ e = omega (arith, behind) in
        record {
          some = omega (arith, behind, standing.low);
          inside = omega (arith, behind, standing.high, h.order_asks.part);
          there = ap (λ (k : ℕ). get_or xs k 0) stood ∙ there;
          before = ap (λ (k : ℕ). count (eqb s) (slice from k xs)) stood ∙ unmet;
          first =
              ap (λ (k : ℕ). take k ys) (sym end) ∙ ins.first
              ∙ ap (λ (l : List ℕ). l ++ s ∷ slice from (e - 1) xs) (take-take from (e - 1) xs (omega (arith, behind, standing.low)));
          rest = ap (λ (k : ℕ). drop k ys) (sym end) ∙ ins.rest ∙ ap (λ (k : ℕ). drop k xs) end;
          long = ins.long;
        }
