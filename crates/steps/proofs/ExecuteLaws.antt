-- Execute: when it is refused, its answer, the state that it leads to, and that this state is the replica after `creek`'s step.
use Rattle.counters.specs.Counted.{executions_counted}
use Prim.{tt}
use Prim.Native.Nat.{ℕ, suc, ◌+◌, ◌<◌}
use native.Mathlib.Omega.{arith}
use native.Mathlib.Numerals.{add-one}
use mathlib.Core.Path.{◌≡◌, sym, ap, ◌∙◌}
use mathlib.Core.Bool.{Bool}
use mathlib.Core.List.{List, [], ◌∷◌, ◌++◌, map-append}
use lib.ListN.{length, take, drop, get_or, set, length-set}
use lib.Seq.{take-suc-set}
use lib.Dec.{ltb}
use Rattle.lists.proofs.AllLaws.{all_append}
use Rattle.sets.specs.declared.Context.{Context}
use Rattle.numbers.specs.declared.Number.{Number}
use Rattle.request.specs.declared.Operation.{Operation}
use Rattle.request.specs.declared.Asked.{Asked}
use Rattle.request.specs.declared.Request.{Request}
use Rattle.numbers.specs.internal.Slots.{number_of}
use Rattle.sets.specs.Sets.{set_of, member}
use Rattle.request.specs.Refusal as refused
use Rattle.request.specs.Asked.{operation_of}
use Rattle.numbers.proofs.NumberLaws.{same_number_self}
use Rattle.effects.specs.Effect.{response, Executed}
use Rattle.registers.specs.Rollback.{saved_of, saved_in}
use Rattle.ordering.specs.Slots.{IsSlot}
use Rattle.creek.specs.declared.Answer.{Answer}
use Rattle.creek.specs.Plan.{has_number, is_committed}
use Rattle.creek.specs.Execution.{executed_next, execute_refusal}
use Rattle.creek.specs.internal.Stack.{stacked}
use Rattle.creek.specs.Book.{execute, refusal, accepted}
use Rattle.creek.specs.Replies.{reply, mark_of, execution_mark, execution_reply, accepted_answer, awaiting_after, accepted_awaiting}
use Rattle.creek.specs.Calls.{accept}
use Rattle.creek.specs.internal.Sound.{Sound}
use Rattle.creek.proofs.AwaitingLaws.{awaiting-length, awaited-before}
use Rattle.creek.proofs.StackLaws.{stacked_executed}
use Rattle.counters.specs.declared.Counters.{Counters}
use Rattle.replica.specs.State.{State}
use Rattle.store.specs.Requests.{asked_in, request_at}
use Rattle.replica.specs.Promises.{Kept}
use Rattle.replica.specs.internal.Model.{requests_at, board_slots, order_of, board_of, plan_of, book_of, model, Inv}
use Rattle.replica.proofs.States.{executed_state}
use Rattle.replica.proofs.KeptLaws.{kept-accepted}
use Rattle.replica.proofs.ModelLaws.{registers_are, request_of, next_slot, length-order, length-board, order_distinct, rollback_first, rollback_none, next_slot_lem, todo_first, order-next, todo_none}
use Rattle.replica.proofs.LogLaws.{log_longer}
use Rattle.lists.proofs.StartLaws.{passes_below}

-- what the request that is executed next asks for, its operation and whether it is strong
abbrev pub next_asked : State → Asked
next_asked p = asked_in (get_or p.askings (next_slot p) 0)

abbrev pub next_operation : State → Operation
next_operation p = operation_of (next_asked p)

abbrev pub next_strong : State → Bool
next_strong p = (next_asked p).strong

-- the mark of its reply, by its place
abbrev pub next_mark : State → ℕ
next_mark p = mark_of (member p.awaiting (number_of (next_slot p))) (next_strong p) (ltb p.executed p.committed)

-- the number and the mark of its reply, as they are computed
pub record NextReply (p : State) (n : Number) (m : ℕ) : Type 0 where
  pub number : n ≡ number_of (next_slot p)
  pub mark : m ≡ next_mark p

module _ (p : State) (inv : Inv p) where
  pub execute_undo_first : p.executed < p.stacked → refusal (book_of p) execute ≡ refused.undo_first
  unfolding refusal execute_refusal
  execute_undo_first h = rw (rollback_first p inv h)

  pub execute-nothing : p.executed ≡ p.stacked → p.executed ≡ p.ordered → refusal (book_of p) execute ≡ refused.nothing_to_do
  unfolding refusal execute_refusal
  execute-nothing e f = rw (rollback_none p inv (sym e), todo_none p inv f)

  module _ (idle : p.executed ≡ p.stacked) (more : p.executed < p.ordered) where
    abbrev x : Request
    x = request_of p (next_slot p)

    pub execute_taken : refusal (book_of p) execute ≡ refused.accepted
    unfolding refusal execute_refusal
    execute_taken = rw (rollback_none p inv (sym idle), todo_first p inv more)

    -- ---- the answer

    next_committed : is_committed (book_of p).plan (number_of (next_slot p)) ≡ ltb p.executed p.committed
    unfolding book_of plan_of request_at
    next_committed =
        passes_below (has_number (number_of (next_slot p))) (order_of p) p.executed p.committed (request_of p 0)
        (omega (arith, length-order p inv))
        (ap (has_number (number_of (next_slot p))) (order-next p inv more) ∙ same_number_self (number_of (next_slot p)))
        (order_distinct p inv (number_of (next_slot p)))

    pub execute-answer : accepted_answer (book_of p) p.awaiting execute
        ≡ reply (number_of (next_slot p)) (response (next_operation p) p.registers) (next_mark p)
    unfolding accepted_answer execution_reply execution_mark request_at
    execute-answer =
        ap (execution_reply (book_of p) p.awaiting) (todo_first p inv more) ∙ rw (registers_are p inv, next_committed)

    -- ---- the state

    slots_more : take (p.executed + 1) (set p.stack p.executed (next_slot p)) ≡ board_slots p ++ next_slot p ∷ []
    slots_more =
        rw (add-one p.executed)
        (take-suc-set p.stack p.executed (next_slot p) (omega (arith, inv.counts, inv.lengths))
        ∙ ap (λ (k : ℕ). take k p.stack ++ next_slot p ∷ []) idle)

    board_more : requests_at p (take (p.executed + 1) (set p.stack p.executed (next_slot p))) ≡ board_of p ++ x ∷ []
    board_more = ap (requests_at p) slots_more ∙ map-append (request_of p) (board_slots p) (next_slot p ∷ [])

    board_height : length (board_of p) ≡ p.executed
    board_height = length-board p inv ∙ sym idle

    execute_execution : executed_next (book_of p).execution ≡ stacked (board_of p ++ x ∷ []) (p.executed + 1) (order_of p)
    unfolding book_of
    execute_execution =
        let next : drop (length (board_of p)) (order_of p) ≡ x ∷ drop (suc p.executed) (order_of p) =
        ap (λ (k : ℕ). drop k (order_of p)) board_height ∙ todo_first p inv more in
        let height : suc (length (board_of p)) ≡ p.executed + 1 = omega (arith, board_height) in
        ap (λ (k : ℕ). executed_next (stacked (board_of p) k (order_of p))) (sym board_height)
        ∙ stacked_executed (board_of p) x (order_of p) (drop (suc p.executed) (order_of p)) next
        ∙ ap (λ (k : ℕ). stacked (board_of p ++ x ∷ []) k (order_of p)) height

    module _ (after : List ℕ) (word v : ℕ) (n : Number) (mark : ℕ) (awaiting : List ℕ) (counters : Counters)
        (before : saved_in word ≡ saved_of (next_operation p) p.registers)
        (done : Executed (next_operation p) p.registers after v)
        (about : NextReply p n mark)
        (left : set_of awaiting ≡ awaiting_after p.awaiting n mark)
        (counted : counters ≡ executions_counted p.counters 1) where
      abbrev q : State
      q = executed_state p after word v awaiting counters

      -- number and mark as the model has them
      waits : set_of awaiting ≡ awaiting_after p.awaiting (number_of (next_slot p)) (next_mark p)
      waits =
          left
          ∙ ap (λ (m : Number). awaiting_after p.awaiting m mark) about.number
          ∙ ap (awaiting_after p.awaiting (number_of (next_slot p))) about.mark

      pub answer_is : reply n v mark ≡ accepted_answer (book_of p) p.awaiting execute
      answer_is =
          ap (λ (m : Number). reply m v mark) about.number
          ∙ ap (reply (number_of (next_slot p)) v) about.mark
          ∙ ap (λ (w : ℕ). reply (number_of (next_slot p)) w (next_mark p)) done.response
          ∙ sym execute-answer

      pub execute-model : model q ≡ accept (model p) execute
      unfolding model book_of plan_of accept accepted accepted_awaiting
      execute-model =
          let execution = ap (λ (l : List Request). stacked l (p.executed + 1) (order_of p)) board_more ∙ sym execute_execution in
          let awaits = waits ∙ ap (λ (a : Answer). awaiting_after p.awaiting a.number a.mark) (sym execute-answer) in
          let commits : p.commits ≡ p.commits + 0 = omega arith in
          let undos : counters.undos ≡ p.counters.undos + 0 = ap (λ (k : Counters). k.undos) counted ∙ omega arith in
          let executions : counters.executions ≡ p.counters.executions + 1 = ap (λ (k : Counters). k.executions) counted in
          λ i. record {
            book = record { plan = plan_of p; execution = execution i };
            awaiting = awaits i;
            commits = commits i;
            counters = record { undos = undos i; executions = executions i };
          }

      pub execute_inv : Sound (model q) → Inv q
      unfolding plan_of request_at
      execute_inv sound =
          let room = inv.counts in
          let long = inv.lengths in
          record {
            counts = record {
              committed = room.committed;
              ordered = room.ordered;
              executed = omega arith;
              stacked = omega (arith, room);
              done = omega arith;
            };
            lengths = record {
              requests = long.requests;
              order = long.order;
              stack = length-set p.stack p.executed (next_slot p) ∙ long.stack;
              saved = length-set p.saved p.executed word ∙ long.saved;
              responses = length-set p.responses p.executed v ∙ long.responses;
              held = long.held;
              awaiting =
                  ap (λ (a : Context). length a.words) waits
                  ∙ awaiting-length p.awaiting (number_of (next_slot p)) (next_mark p) ∙ long.awaiting;
              settled = long.settled;
            };
            held = inv.held;
            settled = inv.settled;
            order_slots_is = inv.order_slots_is;
            board_slots_is = rw slots_more (all_append IsSlot (board_slots p) (next_slot p ∷ []) inv.board_slots_is (next_slot_lem p inv more, tt));
            log =
                rw board_more
                (log_longer (board_of p) x p.registers after p.saved p.responses word v inv.log
                (omega (arith, board_height, room, long)) (omega (arith, board_height, room, long)) before done p.executed board_height);
            events = inv.events;
            clock = inv.clock;
            awaiting_own = λ n h.
                inv.awaiting_own n
                (awaited-before p.awaiting (number_of (next_slot p)) (next_mark p) n
                (ap (λ (a : Context). member a n) (sym waits) ∙ h));
            sound = sound;
          }

      pub execute-kept : (a : Answer) → a ≡ reply n v mark → Kept p execute (record { answer = a; state = q })
      execute-kept a e = kept-accepted p q execute execute_taken a inv (e ∙ answer_is) execute-model execute_inv
