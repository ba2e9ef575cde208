-- The plan after a settlement: what the code may ask of the order, and the committed and the tentative list afterwards.
use Prim.Native.Nat.{ℕ, ◌≤◌}
use native.Mathlib.Omega.{arith}
use mathlib.Core.Path.{◌≡◌, sym, ap, ◌∙◌}
use mathlib.Core.Bool.{Bool}
use mathlib.Core.List.{List, [], ◌∷◌, ◌++◌, map-append}
use mathlib.Core.Option.{some}
use lib.ListN.{take, drop, take-append-drop}
use lib.Seq.{slice, take-take}
use lib.Dec.{eqb}
use Rattle.request.specs.declared.Request.{Request}
use Rattle.numbers.proofs.NumberLaws.{same_number_self}
use Rattle.lists.specs.Lists.{count, keep, find, common_start}
use Rattle.lists.specs.Places.{All}
use Rattle.lists.proofs.AllLaws.{all_weaken, all_take, all_drop, all_append}
use Rattle.lists.proofs.ListLaws.{count-append, found-counts}
use Rattle.lists.proofs.MapLaws.{map-take, map-drop, keep-map, keep_agree, count_map, count_agree}
use Rattle.ordering.specs.Slots.{IsSlot, in_words}
use Rattle.slots.specs.Settlement.{stays, settled, SettlementAsks, Settled}
use Rattle.ordering.proofs.SlotLaws.{part_of, same_slot, in_words_member}
use Rattle.slots.proofs.SlotLaws.{stays_by_number}
use Rattle.slots.proofs.SettlementLaws.{all_settled, count-settled, committed_inside, committed-settled, tentative-settled}
use Rattle.creek.specs.Plan.{order as order_planned, has_number, named, stays as stays_tentative, committing}
use Rattle.creek.proofs.CommittedLaws.{not_itself}
use Rattle.replica.specs.State.{State}
use Rattle.store.specs.Requests.{request_at}
use Rattle.replica.specs.internal.Model.{requests_at, order_slots, order_of, plan_of, Inv}
use Rattle.settling.proofs.SettlingHeldLaws.{kept_at, number_at, context_at, sound_plan}

-- the request kept at slot s is found among the tentative ones
abbrev pub Found : State → ℕ → Type 0
Found p s = find (has_number (number_at p s)) (plan_of p).tentative ≡ some (kept_at p s)

-- the slots of the tentative list
abbrev pub tentative_slots : State → List ℕ
tentative_slots p = slice p.committed p.ordered p.order

-- ---- what the code may ask of the order

module _ {p : State} {s : ℕ} (inv : Inv p) (slot : IsSlot s) (found : Found p s) where
  slots_tentative : All IsSlot (tentative_slots p)
  slots_tentative = all_drop IsSlot p.committed (order_slots p) inv.order_slots_is

  -- its number is counted among the tentative requests as its slot is among theirs
  count_tentative : count (has_number (number_at p s)) (plan_of p).tentative ≡ count (eqb s) (tentative_slots p)
  unfolding request_at plan_of
  count_tentative =
      ap (count (has_number (number_at p s))) (sym (map-drop (kept_at p) p.committed (order_slots p)))
      ∙ count_map (kept_at p) (has_number (number_at p s)) (tentative_slots p)
      ∙ count_agree (λ t. has_number (number_at p s) (kept_at p t)) (eqb s) (tentative_slots p)
      (all_weaken {P = IsSlot} {Q = λ t. has_number (number_at p s) (kept_at p t) ≡ eqb s t} (λ t h. same_slot s t slot h) (tentative_slots p)
      slots_tentative)

  pub settlement_asks : SettlementAsks p.order p.committed p.ordered (context_at p s).words s
  unfolding request_at
  settlement_asks = record {
    part = part_of p.order p.committed p.ordered inv.counts.committed inv.counts.ordered inv.lengths.order inv.order_slots_is;
    once =
        let a = plan_of p in
        let n = number_at p s in
        omega (
          arith,
          count_tentative,
          (sound_plan inv).held.distinct n,
          count-append (has_number n) a.committed a.tentative,
          found-counts (has_number n) (has_number n) (kept_at p s) a.tentative found (same_number_self n),
        );
    apart = in_words_member (context_at p s) s slot ∙ not_itself (plan_of p) (kept_at p s) found (sound_plan inv);
  }

-- ---- the two sides of a list of slots, as requests

module _ (p : State) (s : ℕ) (l : List ℕ) (slots : All IsSlot l) where
  named_side : requests_at p (keep (in_words (context_at p s).words) l) ≡ keep (named (kept_at p s)) (requests_at p l)
  unfolding request_at
  named_side =
      sym (keep-map (kept_at p) (named (kept_at p s)) l
      ∙ ap (requests_at p) (keep_agree (λ t. named (kept_at p s) (kept_at p t)) (in_words (context_at p s).words) l
      (all_weaken {P = IsSlot} {Q = λ t. named (kept_at p s) (kept_at p t) ≡ in_words (context_at p s).words t}
      (λ t h. sym (in_words_member (context_at p s) t h)) l slots)))

  staying_side : IsSlot s → requests_at p (keep (stays (context_at p s).words s) l) ≡ keep (stays_tentative (kept_at p s)) (requests_at p l)
  unfolding request_at
  staying_side slot =
      sym (keep-map (kept_at p) (stays_tentative (kept_at p s)) l
      ∙ ap (requests_at p) (keep_agree (λ t. stays_tentative (kept_at p s) (kept_at p t)) (stays (context_at p s).words s) l
      (all_weaken {P = IsSlot} {Q = λ t. stays_tentative (kept_at p s) (kept_at p t) ≡ stays (context_at p s).words s t}
      (λ t h. sym (stays_by_number (context_at p s) s t slot h)) l slots)))

-- ---- a settlement of the request kept at slot s, which puts the slots into that order, so many of them committed and so many executed

pub record Settlement (p : State) (s : ℕ) (order : List ℕ) (committed executed : ℕ) : Type 0 where
  pub invariant : Inv p
  pub slot : IsSlot s
  pub found : Found p s
  pub end : ℕ
  pub settled : Settled p.order p.committed p.ordered (context_at p s).words s order committed end
  pub common : executed ≡ common_start eqb (take p.executed p.stack) (take p.ordered order)

-- the standing order afterwards
abbrev pub order_then : State → List ℕ → List Request
order_then p order = requests_at p (take p.ordered order)

-- what is committed before the request, and what stands behind it
abbrev pub front_then : State → ℕ → List Request
front_then p s = take p.committed (order_of p) ++ keep (named (kept_at p s)) (drop p.committed (order_of p))

abbrev pub rest_then : State → ℕ → List Request
rest_then p s = keep (stays_tentative (kept_at p s)) (drop p.committed (order_of p))

module _ {p : State} {s : ℕ} {order : List ℕ} {committed executed : ℕ} (h : Settlement p s order committed executed) where
  asks : SettlementAsks p.order p.committed p.ordered (context_at p s).words s
  asks = settlement_asks h.invariant h.slot h.found

  front_taken : take p.committed (order_slots p) ≡ take p.committed p.order
  front_taken = take-take p.committed p.ordered p.order h.invariant.counts.committed

  pub committed_most : committed ≤ p.ordered
  committed_most = committed_inside _ _ _ _ _ _ _ _ asks h.settled

  -- the slots of the order are rearranged
  pub order-count : (test : ℕ → Bool) → count test (take p.ordered order) ≡ count test (order_slots p)
  order-count test =
      omega (
        arith,
        ap (count test) h.settled.first,
        count-append test (take p.committed p.order) (settled (context_at p s).words s (tentative_slots p)),
        count-settled (context_at p s).words s (tentative_slots p) asks.once asks.apart test,
        count-append test (take p.committed (order_slots p)) (tentative_slots p),
        ap (count test) (take-append-drop p.committed (order_slots p)),
        ap (count test) front_taken,
      )

  pub order_slots_then : All IsSlot (take p.ordered order)
  order_slots_then =
      let slots = h.invariant.order_slots_is in
      rw h.settled.first
      (all_append IsSlot (take p.committed p.order) (settled (context_at p s).words s (tentative_slots p))
      (rw front_taken at (all_take IsSlot p.committed (order_slots p) slots))
      (all_settled IsSlot (context_at p s).words s (tentative_slots p) h.slot asks.part.slots))

  pub committed_then : take committed (order_then p order)
      ≡ take p.committed (order_of p) ++ (keep (named (kept_at p s)) (drop p.committed (order_of p)) ++ kept_at p s ∷ [])
  committed_then =
      let front : requests_at p (take p.committed p.order) ≡ take p.committed (order_of p) =
      ap (requests_at p) (sym front_taken) ∙ map-take (kept_at p) p.committed (order_slots p) in
      sym (map-take (kept_at p) committed (take p.ordered order))
      ∙ ap (requests_at p) (take-take committed p.ordered order committed_most ∙ committed-settled _ _ _ _ _ _ _ _ asks h.settled)
      ∙ map-append (kept_at p) (take p.committed p.order) _
      ∙ rw (
        front,
        map-append (kept_at p),
        named_side p s (tentative_slots p) asks.part.slots,
        map-drop (kept_at p) p.committed (order_slots p),
      )

  pub tentative_then : drop committed (order_then p order) ≡ rest_then p s
  tentative_then =
      sym (map-drop (kept_at p) committed (take p.ordered order))
      ∙ ap (requests_at p) (tentative-settled _ _ _ _ _ _ _ _ asks h.settled)
      ∙ staying_side p s (tentative_slots p) asks.part.slots h.slot
      ∙ ap (keep (stays_tentative (kept_at p s))) (map-drop (kept_at p) p.committed (order_slots p))

  -- the standing order of the plan after the settlement
  pub order_then_lem : order_planned (committing (plan_of p) (kept_at p s)) ≡ order_then p order
  unfolding committing plan_of
  order_then_lem = rw (← committed_then, ← tentative_then) (take-append-drop committed (order_then p order))
