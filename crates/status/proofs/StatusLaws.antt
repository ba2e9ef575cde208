-- What the state has of a request is what `creek` says of it: refused, held and not executed, executed.
use Prim.Native.Nat.{ℕ, suc, ◌+◌, ◌≤◌, ◌<◌}
use native.Mathlib.Omega.{arith}
use mathlib.Core.Path.{◌≡◌, refl, sym, ap, ◌∙◌}
use mathlib.Core.Bool.{Bool, true, false, not, cond}
use mathlib.Core.List.{List}
use lib.ListN.{length, take, get_or}
use lib.Seq.{take-take, get_or-take}
use lib.Dec.{leb, ltb}
use borrow.Author.Tests.{lt-ltb, ltb-true}
use Rattle.lists.specs.Lists.{one, count, some_passes}
use Rattle.lists.proofs.AllLaws.{all_weaken}
use Rattle.lists.proofs.ListLaws.{one_true, passes_count}
use Rattle.lists.proofs.MapLaws.{leading-map, leading_agree, map-take}
use Rattle.lists.proofs.StartLaws.{passes_below}
use Rattle.numbers.specs.declared.Number.{Number}
use Rattle.numbers.specs.Numbers.{bad_number, most_panels}
use Rattle.numbers.specs.internal.Slots.{GoodNumber, slot_of}
use Rattle.numbers.proofs.NumberLaws.{good-number}
use Rattle.sets.specs.Sets.{member}
use Rattle.request.specs.declared.Request.{Request}
use Rattle.request.specs.declared.Operation.{Operation}
use Rattle.request.specs.Operations.{no_operation}
use Rattle.request.specs.Asked.{operation_of}
use Rattle.request.specs.Refusal as refused
use Rattle.effects.specs.Effect.{response}
use Rattle.effects.specs.Replay.{zero_board, replay}
use Rattle.creek.specs.Plan.{order, has_number}
use Rattle.creek.specs.Execution.{operations}
use Rattle.creek.specs.Replies.{response_in}
use Rattle.creek.specs.Status.{status_refusal, status_place, status_settled, status_awaited, status_executed, status_response}
use Rattle.creek.proofs.HeldLaws.{widened}
use Rattle.replica.specs.State.{State}
use Rattle.replica.specs.declared.Panel.{Panel}
use Rattle.replica.specs.internal.Model.{order_slots, order_of, board_of, plan_of, book_of, model, operation_at, registers_before, Inv}
use Rattle.replica.proofs.ModelLaws.{plan_sound, request_of, length-order, length-board, order-planned, executed_start, order_distinct}
use Rattle.replica.proofs.RequestLaws.{by_slot, count_held}
use Rattle.status.specs.Status.{StatusShown, status_uses}
use Rattle.status.specs.internal.Place.{stand_before, refused_status}
use Rattle.status.proofs.LeadingLaws.{first, first_inside, first_passes, first_start, response_first}

module _ (p : State) (inv : Inv p) (n : Number) where
  -- ---- refused

  pub status_bad : bad_number p.panels n ≡ true → StatusShown p n (refused_status refused.bad_number)
  unfolding status_refusal status_place status_settled status_awaited status_executed status_response model book_of plan_of
  status_bad e = record { refusal = rw e; place = rw e; settled = rw e; awaited = rw e; executed = rw e; response = rw e }

  module _ (good : bad_number p.panels n ≡ false) where
    pub good_slot : GoodNumber most_panels n
    unfolding plan_of
    good_slot = widened (plan_sound p inv).held.few_panels (good-number p.panels n good)

    -- the set of numbers held tells whether it is held
    here_is : some_passes (has_number n) (order (plan_of p)) ≡ member p.held n
    here_is = ap (leb 1) (count_held p inv n good_slot) ∙ told (member p.held n)
      where
        told : (b : Bool) → leb 1 (one b) ≡ b
        told true = refl
        told false = refl

    -- the refusal, by whether it is held
    refusal_here : (b : Bool) → member p.held n ≡ b → status_refusal (model p) n ≡ cond (not b) refused.not_here refused.accepted
    unfolding status_refusal model book_of plan_of
    refusal_here b e = rw (good, here_is ∙ e)

    pub status_not_here : member p.held n ≡ false → StatusShown p n (refused_status refused.not_here)
    unfolding status_place status_settled status_awaited status_executed status_response
    status_not_here e =
        let off = refusal_here false e in
        record { refusal = sym off; place = rw off; settled = rw off; awaited = rw off; executed = rw off; response = rw off }

    -- ---- held

    module _ (here : member p.held n ≡ true) where
      some-held : 1 ≤ count (has_number n) (order_of p)
      some-held =
          omega (arith, ap (count (has_number n)) (order-planned p), count_held p inv n good_slot, one_true here)

      abbrev behind : ℕ
      behind = first (has_number n) (order_of p)

      -- those that stand before its slot stand before it
      pub before_is : stand_before (slot_of n) (order_slots p) ≡ behind
      before_is =
          sym (leading-map (request_of p) (λ x. not (has_number n x)) (order_slots p)
          ∙ leading_agree _ _ (order_slots p) (all_weaken (λ t e. ap not e) (order_slots p) (by_slot p inv n good_slot)))

      before_inside : behind < length (order_of p)
      before_inside = first_inside (has_number n) (order_of p) some-held

      -- it is among the first k exactly where those are more than stand before it
      among : (k : ℕ) → some_passes (has_number n) (take k (order_of p)) ≡ ltb behind k
      among k =
          passes_below (has_number n) (order_of p) behind k (request_of p 0) before_inside
          (first_passes (has_number n) (order_of p) (request_of p 0) some-held) (order_distinct p inv n)

      place_is : status_place (model p) n ≡ suc behind
      unfolding status_place model book_of
      place_is = rw (refusal_here true here) (ap (λ (l : List Request). suc (first (has_number n) l)) (order-planned p))

      settled_is : status_settled (model p) n ≡ ltb behind p.committed
      unfolding status_settled model book_of plan_of
      settled_is = rw (refusal_here true here) (among p.committed)

      awaited_is : status_awaited (model p) n ≡ member p.awaiting n
      unfolding status_awaited model
      awaited_is = rw (refusal_here true here)

      executed_is : status_executed (model p) n ≡ ltb behind p.executed
      unfolding status_executed model book_of
      executed_is = rw (refusal_here true here) (ap (some_passes (has_number n)) (executed_start p inv) ∙ among p.executed)

      -- the response kept at its place
      kept_is : behind < p.executed → get_or p.responses behind 0 ≡ response_in n (take p.executed (board_of p))
      unfolding response_in replay
      kept_is h =
          let e = p.executed in
          let start = take e (board_of p) in
          let place : first (has_number n) start ≡ behind =
          ap (first (has_number n)) (executed_start p inv) ∙ first_start (has_number n) e (order_of p) h in
          let some : 1 ≤ count (has_number n) start =
          passes_count (has_number n) start (ap (some_passes (has_number n)) (executed_start p inv) ∙ among e ∙ lt-ltb behind e h) in
          let operation : operation_at start behind ≡ operation_at (board_of p) behind =
          ap (λ (l : List Operation). get_or l behind no_operation) (map-take (λ x. operation_of x.asked) e (board_of p))
          ∙ get_or-take e (operations (board_of p)) behind no_operation h in
          inv.log.replies behind (omega (arith, inv.counts, length-board p inv))
          ∙ ap (λ (o : Operation). response o (registers_before (board_of p) behind)) (sym operation)
          ∙ ap (λ (l : List Request). response (operation_at start behind) (replay (operations l)))
          (sym (take-take behind e (board_of p) (omega arith)))
          ∙ ap (λ (k : ℕ). response (operation_at start k) (replay (operations (take k start)))) (sym place)
          ∙ sym (response_first zero_board n start some)

      response_is : behind < p.executed → status_response (model p) n ≡ get_or p.responses behind 0
      unfolding status_response model book_of
      response_is h = rw (executed_is ∙ lt-ltb behind p.executed h) (sym (kept_is h))

      -- ---- the whole status, from one equation for each value that is computed

      module _ {slot k : ℕ} (of_number : slot ≡ slot_of n) (found : k ≡ stand_before slot (order_slots p)) where
        place_found : k ≡ behind
        place_found = found ∙ ap (λ (s : ℕ). stand_before s (order_slots p)) of_number ∙ before_is

        pub found_inside : k < p.ordered
        found_inside = omega (arith, place_found, before_inside, length-order p inv)

        executed-found : ltb k p.executed ≡ status_executed (model p) n
        executed-found = ap (λ (j : ℕ). ltb j p.executed) place_found ∙ sym executed_is

        pub status_held : {awaited : Bool} {response : ℕ} → awaited ≡ member p.awaiting n
            → response ≡ cond (ltb k p.executed) (get_or p.responses k 0) 0
            → StatusShown p n (record {
              response = response;
              place = k + 1;
              settled = ltb k p.committed;
              awaited = awaited;
              executed = ltb k p.executed;
              refusal = refused.accepted;
            })
        unfolding status_response
        status_held {response = response} waits kept = record {
          refusal = sym (refusal_here true here);
          place = omega (arith, place_found, place_is);
          settled = ap (λ (j : ℕ). ltb j p.committed) place_found ∙ sym settled_is;
          awaited = waits ∙ sym awaited_is;
          executed = executed-found;
          response = go (ltb k p.executed) refl kept;
        }
          where
            go : (b : Bool) → ltb k p.executed ≡ b → response ≡ cond b (get_or p.responses k 0) 0 → response ≡ status_response (model p) n
            go true e r =
                let done : behind < p.executed = omega (arith, place_found, ltb-true k p.executed e) in
                r ∙ ap (λ (j : ℕ). get_or p.responses j 0) place_found ∙ sym (response_is done)
            go false e r = rw (sym executed-found ∙ e) r

-- a status goes by the fields that it uses alone: q is any panel with these as p has them
pub status_by : (p q r : Panel) → status_uses (record q {
  committed = p.committed;
  ordered = p.ordered;
  executed = p.executed;
  panels = p.panels;
  held = p.held;
  awaiting = p.awaiting;
  order = p.order;
  responses = p.responses;
}) r ≡ status_uses p r
status_by p q r = refl
