-- Undo: when it is refused, the state that it leads to, and that this state is the replica after `creek`'s step.
use Rattle.counters.specs.Counted.{undos_counted}
use Prim.Native.Nat.{ℕ, ◌+◌, ◌-◌, ◌<◌}
use native.Mathlib.Omega.{arith}
use mathlib.Core.Path.{◌≡◌, sym, ap, ◌∙◌}
use mathlib.Core.List.{List}
use lib.ListN.{get_or}
use lib.Seq.{take-take}
use Rattle.lists.proofs.AllLaws.{all_take}
use Rattle.numbers.specs.internal.Slots.{number_of}
use Rattle.request.specs.Refusal as refused
use Rattle.request.specs.Asked.{operation_of}
use Rattle.registers.specs.Rollback.{restored}
use Rattle.ordering.specs.Slots.{IsSlot}
use Rattle.creek.specs.declared.Answer.{Answer}
use Rattle.creek.specs.Execution.{undone, undo_refusal}
use Rattle.creek.specs.internal.Stack.{stacked}
use Rattle.creek.specs.Book.{undo, refusal, accepted}
use Rattle.creek.specs.Replies.{no_mark, reply, undo_reply, accepted_answer, accepted_awaiting}
use Rattle.creek.specs.Calls.{accept}
use Rattle.creek.specs.internal.Sound.{Sound}
use Rattle.creek.proofs.StackLaws.{stacked-undone}
use Rattle.counters.specs.declared.Counters.{Counters}
use Rattle.replica.specs.State.{State}
use Rattle.store.specs.Requests.{asked_in, request_at}
use Rattle.replica.specs.Promises.{Kept}
use Rattle.replica.specs.internal.Model.{board_slots, order_of, plan_of, book_of, model, saved_at, Inv}
use Rattle.replica.proofs.States.{undone_state}
use Rattle.replica.proofs.KeptLaws.{kept-accepted}
use Rattle.replica.proofs.ModelLaws.{request_of, top_slot, beneath, board_last, beneath-length, rollback_first, rollback_none}
use Rattle.replica.proofs.LogLaws.{log_shorter}

module _ (p : State) (inv : Inv p) where
  pub undo-refused : p.executed ≡ p.stacked → refusal (book_of p) undo ≡ refused.nothing_to_undo
  unfolding refusal undo_refusal
  undo-refused e = rw (rollback_none p inv (sym e))

  module _ (due : p.executed < p.stacked) where
    pub undo_taken : refusal (book_of p) undo ≡ refused.accepted
    unfolding refusal undo_refusal
    undo_taken = rw (rollback_first p inv due)

    pub undo-answer : accepted_answer (book_of p) p.awaiting undo ≡ reply (number_of (top_slot p)) 0 no_mark
    unfolding accepted_answer undo_reply request_at
    undo-answer = ap undo_reply (rollback_first p inv due)

    undo_execution : undone (book_of p).execution ≡ stacked (beneath p inv due) p.executed (order_of p)
    unfolding book_of
    undo_execution =
        rw (board_last p inv due)
        (stacked-undone (beneath p inv due) (request_of p (top_slot p)) p.executed (order_of p) (omega (arith, beneath-length p inv due)))

    module _ (registers : List ℕ)
        (back : registers ≡ restored (operation_of (asked_in (get_or p.askings (top_slot p) 0))) (saved_at p.saved (p.stacked - 1))
        p.registers) where
      abbrev after : State
      after = undone_state p registers (undos_counted p.counters 1)

      pub undo-model : model after ≡ accept (model p) undo
      unfolding model book_of plan_of accept accepted accepted_awaiting
      undo-model =
          let commits : p.commits ≡ p.commits + 0 = omega arith in
          let executions : p.counters.executions ≡ p.counters.executions + 0 = omega arith in
          λ i. record {
            book = record { plan = plan_of p; execution = sym undo_execution i };
            awaiting = p.awaiting;
            commits = commits i;
            counters = record { undos = p.counters.undos + 1; executions = executions i };
          }

      pub undo_inv : Sound (model after) → Inv after
      unfolding plan_of request_at
      undo_inv sound = record {
        counts = record {
          committed = inv.counts.committed;
          ordered = inv.counts.ordered;
          executed = omega arith;
          stacked = omega (arith, inv.counts);
          done = inv.counts.done;
        };
        lengths = record {
          requests = inv.lengths.requests;
          order = inv.lengths.order;
          stack = inv.lengths.stack;
          saved = inv.lengths.saved;
          responses = inv.lengths.responses;
          held = inv.lengths.held;
          awaiting = inv.lengths.awaiting;
          settled = inv.lengths.settled;
        };
        held = inv.held;
        settled = inv.settled;
        order_slots_is = inv.order_slots_is;
        board_slots_is =
            rw (← take-take (p.stacked - 1) p.stacked p.stack (omega arith))
            (all_take IsSlot (p.stacked - 1) (board_slots p) inv.board_slots_is);
        log =
            log_shorter (beneath p inv due) (request_of p (top_slot p)) p.registers registers p.saved p.responses
            (rw (board_last p inv due) at inv.log) (rw (beneath-length p inv due) back);
        events = inv.events;
        clock = inv.clock;
        awaiting_own = inv.awaiting_own;
        sound = sound;
      }

      pub undo-kept : (counters : Counters) (a : Answer) → counters ≡ undos_counted p.counters 1
          → a ≡ reply (number_of (top_slot p)) 0 no_mark → Kept p undo (record { answer = a; state = undone_state p registers counters })
      undo-kept counters a counted e = rw counted (kept-accepted p after undo undo_taken a inv (e ∙ sym undo-answer) undo-model undo_inv)
