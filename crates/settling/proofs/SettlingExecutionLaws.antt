-- The execution and the reply after a settlement: the mark falls to the common start, and the response of a request that stays executed
-- is the one that was kept at its place.
use Prim.Native.Nat.{ℕ, ◌+◌, ◌-◌, ◌≤◌, ◌<◌}
use native.Mathlib.Omega.{arith}
use mathlib.Core.Path.{◌≡◌, sym, ap, ◌∙◌}
use mathlib.Core.List.{List, [], ◌∷◌, ◌++◌, map-append, append_assoc}
use lib.ListN.{length, take, drop, get_or, length-append, length-map, length-take, take-append-drop}
use lib.Seq.{take-take, take_at, get_or_at, length-take-le}
use lib.Dec.{eqb, leb}
use Rattle.request.specs.declared.Request.{Request}
use Rattle.request.specs.Request.{same_request}
use Rattle.numbers.proofs.NumberLaws.{same_number_self}
use Rattle.request.proofs.EqualityLaws.{same_request_sound}
use Rattle.request.specs.Asked.{operation_of}
use Rattle.effects.specs.Effect.{response}
use Rattle.effects.specs.Replay.{replay}
use Rattle.lists.specs.Lists.{count, some_passes, keep, common_start}
use Rattle.lists.specs.Places.{All}
use Rattle.lists.proofs.AllLaws.{all_take}
use Rattle.lists.proofs.ListLaws.{one_true, count-append, common_start_most, common_start_both}
use Rattle.lists.proofs.MapLaws.{map-take, common_start-map}
use Rattle.ordering.specs.Slots.{IsSlot}
use Rattle.creek.specs.Plan.{order as order_planned, has_number, named, committing}
use Rattle.creek.specs.Execution.{operations, adjusted}
use Rattle.creek.specs.internal.Stack.{stacked}
use Rattle.creek.specs.Replies.{response_in}
use Rattle.creek.proofs.CommittedLaws.{committing-count}
use Rattle.creek.proofs.ResponseLaws.{response_behind}
use Rattle.creek.proofs.StackLaws.{stacked-adjusted}
use Rattle.replica.specs.State.{State}
use Rattle.replica.specs.internal.Model.{requests_at, order_of, board_slots, board_of, plan_of, operation_at, registers_before}
use Rattle.lists.proofs.StartLaws.{common_start_second, take_behind, start_passes}
use Rattle.replica.proofs.RequestLaws.{same-request}
use Rattle.settling.proofs.SettlingHeldLaws.{kept_at, number_at, sound_plan}
use Rattle.settling.proofs.SettlingPlanLaws.{Settlement, order_then, front_then, rest_then, committed_most, order_slots_then}
use Rattle.settling.proofs.SettlingPlanLaws.{committed_then, tentative_then, order_then_lem}

-- ---- a request in the middle of a board

module _ (front : List Request) (x : Request) (rest : List Request) (k : ℕ) (place : length front ≡ k) where
  operation_there : operation_at (front ++ x ∷ rest) k ≡ operation_of x.asked
  operation_there =
      rw (map-append (λ y. operation_of y.asked) front (x ∷ rest))
      (get_or_at (operations front) (operation_of x.asked) (operations rest) _ k (length-map front (λ y. operation_of y.asked) ∙ place))

  registers_there : registers_before (front ++ x ∷ rest) k ≡ replay (operations front)
  registers_there = ap (λ (l : List Request). replay (operations l)) (take_at front (x ∷ rest) k place)

module _ {p : State} {s : ℕ} {order : List ℕ} {committed executed : ℕ} (h : Settlement p s order committed executed) where
  -- ---- the mark

  pub executed_most : executed ≤ p.executed
  executed_most =
      omega (
        arith,
        h.common,
        common_start_most eqb (take p.executed p.stack) (take p.ordered order),
        length-take p.executed p.stack,
      )

  pub executed_ordered : executed ≤ p.ordered
  executed_ordered =
      omega (
        arith,
        h.common,
        common_start_second eqb (take p.executed p.stack) (take p.ordered order),
        length-take p.ordered order,
      )

  -- it is the common start of the requests too
  common_requests : common_start same_request (take p.executed (board_of p)) (order_then p order) ≡ executed
  common_requests =
      let inside = take-take p.executed p.stacked p.stack h.invariant.counts.executed in
      let slots : All IsSlot (take p.executed p.stack) =
      rw inside at (all_take IsSlot p.executed (board_slots p) h.invariant.board_slots_is) in
      let same = common_start-map (kept_at p) IsSlot eqb same_request (same-request p.clocks p.askings p.contexts)
      (take p.executed p.stack) (take p.ordered order) slots (order_slots_then h) in
      ap (λ (l : List Request). common_start same_request l (order_then p order))
      (sym (map-take (kept_at p) p.executed (board_slots p)) ∙ ap (requests_at p) inside)
      ∙ same ∙ omega (arith, h.common)

  -- what stays executed is a start of the new order
  executed_front : take executed (board_of p) ≡ take executed (order_then p order)
  executed_front =
      sym (take-take executed p.executed (board_of p) executed_most)
      ∙ rw common_requests at (common_start_both same_request same_request_sound (take p.executed (board_of p)) (order_then p order))

  pub execution_then : stacked (board_of p) executed (order_then p order)
      ≡ adjusted (order_planned (committing (plan_of p) (kept_at p s))) (stacked (board_of p) p.executed (order_of p))
  execution_then =
      sym (ap (λ (l : List Request). adjusted l (stacked (board_of p) p.executed (order_of p))) (order_then_lem h)
      ∙ stacked-adjusted (board_of p) p.executed (order_of p) (order_then p order)
      ∙ ap (λ (k : ℕ). stacked (board_of p) k (order_then p order)) common_requests)

  -- ---- the settled request's place

  -- it is the last committed
  front_length : length (front_then p s) + 1 ≡ committed
  front_length =
      let named_front = keep (named (kept_at p s)) (drop p.committed (order_of p)) in
      let long : length (order_then p order) ≡ p.ordered =
      length-map (take p.ordered order) (kept_at p)
      ∙ length-take-le p.ordered order (omega (arith, h.settled.long, h.invariant.counts)) in
      omega (
        arith,
        ap length (committed_then h),
        length-take-le committed (order_then p order) (omega (arith, committed_most h)),
        length-append (take p.committed (order_of p)) (named_front ++ kept_at p s ∷ []),
        length-append named_front (kept_at p s ∷ []),
        length-append (take p.committed (order_of p)) named_front,
      )

  order_parts : order_then p order ≡ front_then p s ++ kept_at p s ∷ rest_then p s
  order_parts =
      sym (take-append-drop committed (order_then p order))
      ∙ rw (committed_then h, tentative_then h)
      (ap (λ (l : List Request). l ++ rest_then p s)
      (sym (append_assoc (take p.committed (order_of p)) (keep (named (kept_at p s)) (drop p.committed (order_of p))) (kept_at p s ∷ [])))
      ∙ append_assoc (front_then p s) (kept_at p s ∷ []) (rest_then p s))

  -- none before it has its number
  front-without : count (has_number (number_at p s)) (front_then p s) ≡ 0
  front-without =
      let test = has_number (number_at p s) in
      omega (
        arith,
        committing-count (plan_of p) (kept_at p s) h.found (sound_plan h.invariant) test,
        (sound_plan h.invariant).held.distinct (number_at p s),
        ap (count test) (order_then_lem h ∙ order_parts),
        count-append test (front_then p s) (kept_at p s ∷ rest_then p s),
        one_true (same_number_self (number_at p s)),
      )

  -- ---- the reply

  -- it stays executed exactly where the mark lies behind it
  pub stays_executed : some_passes (has_number (number_at p s)) (take executed (board_of p)) ≡ leb committed executed
  stays_executed =
      ap (some_passes (has_number (number_at p s))) (executed_front ∙ ap (take executed) order_parts)
      ∙ start_passes (has_number (number_at p s)) (front_then p s) (kept_at p s) (rest_then p s)
      (same_number_self (number_at p s)) front-without executed
      ∙ ap (λ (k : ℕ). leb k executed) front_length

  module _ (done : committed ≤ executed) where
    -- what is executed behind it
    abbrev next : List Request
    next = take (executed - length (front_then p s) - 1) (rest_then p s)

    executed_parts : take executed (board_of p) ≡ front_then p s ++ kept_at p s ∷ next
    executed_parts =
        executed_front ∙ ap (take executed) order_parts
        ∙ take_behind executed (front_then p s) (kept_at p s) (rest_then p s) (omega (arith, front_length))

    board_parts : board_of p ≡ front_then p s ++ kept_at p s ∷ (next ++ drop executed (board_of p))
    board_parts =
        sym (take-append-drop executed (board_of p)) ∙ ap (λ (l : List Request). l ++ drop executed (board_of p)) executed_parts
        ∙ append_assoc (front_then p s) (kept_at p s ∷ next) (drop executed (board_of p))

    -- its response is the one kept at its place
    pub response-kept : get_or p.responses (committed - 1) 0 ≡ response_in (number_at p s) (take executed (board_of p))
    response-kept =
        let behind = next ++ drop executed (board_of p) in
        let place : length (front_then p s) ≡ committed - 1 = omega (arith, front_length) in
        let inside : committed - 1 < length (board_of p) =
        omega (arith, ap length board_parts, length-append (front_then p s) (kept_at p s ∷ behind)) in
        h.invariant.log.replies (committed - 1) inside
        ∙ ap (λ (l : List Request). response (operation_at l (committed - 1)) (registers_before l (committed - 1))) board_parts
        ∙ rw (
          operation_there (front_then p s) (kept_at p s) behind (committed - 1) place,
          registers_there (front_then p s) (kept_at p s) behind (committed - 1) place,
        )
        (sym (ap (response_in (number_at p s)) executed_parts ∙ response_behind (kept_at p s) (front_then p s) next front-without))
