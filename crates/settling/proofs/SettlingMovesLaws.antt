-- A settlement and the set of the numbers settled: what `MovesAsk` says of a state holds, and after it the set has those settled then.
use Prim.Native.Nat.{ℕ, ◌≤◌}
use native.Mathlib.Omega.{arith}
use mathlib.Core.Path.{◌≡◌, refl, sym, ap, ◌∙◌}
use mathlib.Core.Bool.{Bool, true, false, ◌||◌, or_comm}
use mathlib.Core.List.{List}
use lib.ListN.{length, get_or}
use lib.Dec.{eqb}
use Rattle.lists.specs.Lists.{one}
use Rattle.numbers.specs.declared.Number.{Number}
use Rattle.numbers.specs.Numbers.{most_panels, same_number}
use Rattle.numbers.specs.internal.Slots.{GoodNumber, slot_of, number_of}
use Rattle.numbers.proofs.NumberLaws.{number_of_good, slot_of_number, number_of_slot, slot_fits}
use Rattle.sets.specs.declared.Context.{Context}
use Rattle.sets.specs.Sets.{set_of, member, join, subset}
use Rattle.sets.proofs.SetLaws.{subset-member, member-join, join-length}
use Rattle.request.specs.declared.Request.{Request}
use Rattle.request.specs.Order.{before}
use Rattle.ordering.specs.Slots.{IsSlot, InOrder, in_words, comes_before}
use Rattle.slots.specs.Settlement.{SettlementAsks, Settled, MovesAsk}
use Rattle.slots.specs.Marks.{Marks, Marked}
use Rattle.unions.specs.Union.{United}
use Rattle.ordering.proofs.SlotLaws.{same_slot, in_words_member, comes-before-order}
use Rattle.slots.proofs.MarkLaws.{moves_asked, marks-after}
use Rattle.store.specs.Requests.{request_at}
use Rattle.replica.specs.State.{State}
use Rattle.replica.specs.internal.Model.{plan_of, Inv}
use Rattle.replica.proofs.ModelLaws.{plan_sound, order_slot, tentative_ordered}
use Rattle.replica.proofs.RequestLaws.{count_held}

module _ (p : State) (inv : Inv p) where
  abbrev at : ℕ → Request
  at = request_at p.clocks p.askings p.contexts

  -- clock order of two requests, by their slots
  by_slots : (s t : ℕ) → IsSlot s → IsSlot t → before (at s) (at t) ≡ comes_before p.clocks (get_or p.clocks s 0) s t
  unfolding request_at
  by_slots s t hs ht =
      comes-before-order (at s) (at t) p.clocks t (number_of_good s) ht refl refl
      ∙ ap (λ (u : ℕ). comes_before p.clocks (get_or p.clocks s 0) u t) (slot_of_number s hs)

  -- the tentative slots stand in clock order
  pub tentative_in_order : InOrder p.clocks p.order p.committed p.ordered
  tentative_in_order = record {
    rising = λ i j low up high.
        sym (by_slots _ _ (order_slot p inv i (omega arith)) (order_slot p inv j high)) ∙ tentative_ordered p inv i j low up high;
  }

  -- the set of numbers held has those of the order
  held_marks : Marks p.order p.ordered p.held.words
  held_marks = record { marked = λ t h. inv.held t h ∙ ap one (sym (in_words_member p.held t h)) }

  module _ (context : Context) (knows : subset context p.known ≡ true) where
    -- what is named is known, and so held
    named-held : (t : ℕ) → IsSlot t → in_words context.words t ≡ true → in_words p.held.words t ≡ true
    unfolding plan_of
    named-held t h e =
        let known = subset-member context p.known (number_of t) knows (sym (in_words_member context t h) ∙ e) in
        let some = (plan_sound p inv).held.known_held (number_of t) known in
        in_words_member p.held t h
        ∙ there (member p.held (number_of t)) (omega (arith, some, count_held p inv (number_of t) (number_of_good t)))
      where
        there : (b : Bool) → 1 ≤ one b → b ≡ true
        there true f = refl
        there false f = absurd (omega arith)

    module _ (s : ℕ) (asks : SettlementAsks p.order p.committed p.ordered context.words s) where
      -- so a settlement may be made by the set of the numbers that are settled
      pub moves_by_state : MovesAsk p.order p.clocks p.committed p.ordered context.words p.settled.words s
      moves_by_state =
          moves_asked p.order p.committed p.ordered context.words p.settled.words p.held.words s asks inv.settled
          held_marks named-held p.clocks inv.lengths.requests.clocks tentative_in_order

      -- and after it that set has the numbers of those committed then
      pub marks_by_state : (order : List ℕ) (committed end : ℕ)
          → Settled p.order p.committed p.ordered context.words s order committed end
          → (after : List ℕ) → Marked p.settled.words context.words s after → Marks order committed after
      marks_by_state =
          marks-after p.order p.committed p.ordered context.words p.settled.words p.held.words s asks inv.settled
          held_marks named-held

-- ---- the set with the numbers of a context and n in it

module _ (n : Number) (good : GoodNumber most_panels n) {before words united after : List ℕ} (all : United before words united)
    (joined : set_of after ≡ join (set_of united) n) where
  -- of slots: n is the number of its own
  its_slot : (t : ℕ) → IsSlot t → same_number n (number_of t) ≡ eqb (slot_of n) t
  its_slot t h = ap (λ (m : Number). same_number m (number_of t)) (sym (number_of_slot n good)) ∙ same_slot (slot_of n) t (slot_fits n good) h

  pub marked_by : Marked before words (slot_of n) after
  marked_by = record {
    members = λ t h.
        in_words_member (set_of after) t h
        ∙ ap (λ (c : Context). member c (number_of t)) joined
        ∙ member-join (set_of united) n (number_of t) all.long good
        ∙ ap (λ (b : Bool). b || member (set_of united) (number_of t)) (its_slot t h)
        ∙ ap (λ (b : Bool). eqb (slot_of n) t || b) (sym (in_words_member (set_of united) t h) ∙ all.members t h)
        ∙ last_first (eqb (slot_of n) t) (in_words before t) (in_words words t);
    long = ap (λ (c : Context). length c.words) joined ∙ join-length (set_of united) n ∙ all.long;
  }
    where
      last_first : (a b c : Bool) → (a || (b || c)) ≡ (b || (c || a))
      last_first true true c = refl
      last_first false true c = refl
      last_first a false c = or_comm a c
