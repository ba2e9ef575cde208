-- Requests at slots: two of them compared, and what is held under a number.
use Prim.Native.Nat.{ℕ}
use native.Mathlib.Omega.{arith}
use mathlib.Core.Path.{◌≡◌, refl, sym, ap, ◌∙◌}
use mathlib.Core.Bool.{true, false}
use mathlib.Core.List.{List}
use mathlib.Core.Option.{none, some, map}
use lib.Seq.{slice}
use lib.Dec.{eqb}
use borrow.Author.Tests.{eqb-true, eq-eqb}
use Rattle.lists.specs.Lists.{one, count, find}
use Rattle.lists.specs.Places.{All}
use Rattle.lists.proofs.BoolLaws.{same_test}
use Rattle.lists.proofs.ListLaws.{one_true, one_false, find-one, none-find}
use Rattle.lists.proofs.AllLaws.{all_weaken}
use Rattle.lists.proofs.MapLaws.{count_map, count_agree, find-map, find_agree}
use Rattle.numbers.specs.declared.Number.{Number}
use Rattle.request.specs.declared.Request.{Request}
use Rattle.numbers.specs.Numbers.{same_number, most_panels}
use Rattle.numbers.specs.internal.Slots.{GoodNumber, slot_of, number_of}
use Rattle.sets.specs.Sets.{member}
use Rattle.request.specs.Request.{same_request}
use Rattle.numbers.proofs.NumberLaws.{same_number_self, slot_fits, number_of_slot}
use Rattle.request.proofs.EqualityLaws.{same_request_sound, same_request_self}
use Rattle.ordering.specs.Slots.{IsSlot}
use Rattle.ordering.proofs.SlotLaws.{same_slot}
use Rattle.creek.specs.Plan.{order, has_number, held}
use Rattle.replica.specs.State.{State}
use Rattle.store.specs.Requests.{request_at}
use Rattle.replica.specs.internal.Model.{order_slots, plan_of, Inv}
use Rattle.replica.proofs.ModelLaws.{order-planned}

module _ (clocks askings contexts : List ℕ) where
  -- the requests at two slots are equal exactly where the slots are
  pub same-request : (s t : ℕ) → IsSlot s → IsSlot t → same_request (request_at clocks askings contexts s) (request_at clocks askings contexts t) ≡ eqb s t
  unfolding request_at
  same-request s t hs ht = same_test _ _ apart together
    where
      apart : same_request (request_at clocks askings contexts s) (request_at clocks askings contexts t) ≡ true → eqb s t ≡ true
      apart e =
          let one_number : number_of s ≡ number_of t = ap (λ (x : Request). x.number) (same_request_sound _ _ e) in
          sym (same_slot s t hs ht) ∙ ap (same_number (number_of s)) (sym one_number) ∙ same_number_self (number_of s)

      together : eqb s t ≡ true → same_request (request_at clocks askings contexts s) (request_at clocks askings contexts t) ≡ true
      together e =
          ap (λ (u : ℕ). same_request (request_at clocks askings contexts s) (request_at clocks askings contexts u)) (sym (eqb-true s t e))
          ∙ same_request_self (request_at clocks askings contexts s)

  -- the request at a slot has the number n exactly where it is n's slot
  pub number_at : (n : Number) → GoodNumber most_panels n → (t : ℕ) → IsSlot t
      → has_number n (request_at clocks askings contexts t) ≡ eqb (slot_of n) t
  unfolding request_at
  number_at n good t h =
      ap (λ (m : Number). same_number m (number_of t)) (sym (number_of_slot n good)) ∙ same_slot (slot_of n) t (slot_fits n good) h

-- the slots of the tentative requests
abbrev pub tentative_slots : State → List ℕ
tentative_slots p = slice p.committed p.ordered p.order

module _ (p : State) (inv : Inv p) (n : Number) (good : GoodNumber most_panels n) where
  abbrev at : ℕ → Request
  at = request_at p.clocks p.askings p.contexts

  -- a request of the order has the number n exactly where it stands at n's slot
  pub by_slot : All (λ t. has_number n (at t) ≡ eqb (slot_of n) t) (order_slots p)
  by_slot = all_weaken (number_at p.clocks p.askings p.contexts n good) (order_slots p) inv.order_slots_is

  -- the set of numbers held counts n's slot
  pub slot-count : count (eqb (slot_of n)) (order_slots p) ≡ one (member p.held n)
  slot-count = inv.held (slot_of n) (slot_fits n good) ∙ ap (λ (m : Number). one (member p.held m)) (number_of_slot n good)

  -- and the requests of that number
  pub count_held : count (has_number n) (order (plan_of p)) ≡ one (member p.held n)
  count_held =
      ap (count (has_number n)) (order-planned p)
      ∙ count_map at (has_number n) (order_slots p)
      ∙ count_agree _ _ (order_slots p) by_slot
      ∙ slot-count

  held_at : held (plan_of p) n ≡ map at (find (eqb (slot_of n)) (order_slots p))
  held_at =
      ap (find (has_number n)) (order-planned p)
      ∙ find-map at (has_number n) (order_slots p)
      ∙ ap (map at) (find_agree _ _ (order_slots p) by_slot)

  pub held_some : member p.held n ≡ true → held (plan_of p) n ≡ some (request_at p.clocks p.askings p.contexts (slot_of n))
  held_some e =
      let once = slot-count ∙ one_true e in
      held_at ∙ ap (map at)
      (find-one eqb eqb-true (λ t. eq-eqb t t refl) (eqb (slot_of n)) (slot_of n) (order_slots p) (eq-eqb (slot_of n) (slot_of n) refl)
      (omega arith) (omega arith))

  pub held_none : member p.held n ≡ false → held (plan_of p) n ≡ none
  held_none e = held_at ∙ ap (map at) (none-find (eqb (slot_of n)) (order_slots p) (slot-count ∙ one_false e))
