-- The due steps one after the other: after each the job that is left is the whole job. First one step, then the two loops of `run_due`,
-- each with what holds at its start, after each turn and at its end.
use Rattle.counters.specs.Counted.{undos_counted, executions_counted}
use Prim.Native.Nat.{ℕ, suc, ◌+◌, ◌-◌, ◌≤◌, ◌<◌}
use native.Mathlib.Omega.{arith}
use native.Mathlib.Numerals.{add-one}
use mathlib.Core.Path.{◌≡◌, refl, sym, ap, ◌∙◌}
use mathlib.Core.Bool.{Bool, true, false, not}
use mathlib.Core.List.{List, [], ◌∷◌, ◌++◌, append-nil}
use lib.ListN.{length, take, drop, get_or, set, replicate, length-set, length-replicate, take-append-drop}
use lib.Seq.{take-suc, take-suc-set, drop-set-lt, drop-drop, length-take-le, append_snoc}
use lib.Dec.{eqb}
use borrow.Author.Tests.{eq-eqb, ne_eqb}
use Rattle.lists.specs.Lists.{one, count, cons_if}
use Rattle.lists.proofs.ListLaws.{one_true, count-append}
use Rattle.numbers.specs.declared.Number.{Number}
use Rattle.request.specs.declared.Request.{Request}
use Rattle.request.specs.Asked.{operation_of}
use Rattle.numbers.specs.internal.Slots.{number_of}
use Rattle.sets.specs.Sets.{set_of, member}
use Rattle.effects.specs.Effect.{Executed}
use Rattle.registers.specs.Rollback.{saved_of, saved_in, restored}
use Rattle.creek.specs.declared.Answer.{Answer}
use Rattle.creek.specs.Plan.{is_of}
use Rattle.creek.specs.Book.{Call, undo, execute}
use Rattle.creek.specs.Replies.{reply_in, no_mark, reply, awaiting_after}
use Rattle.creek.specs.Calls.{Replica, step, answer}
use Rattle.creek.specs.History.{due_call, after_due_steps, idled}
use Rattle.creek.proofs.ExecutionLaws.{idle-owed}
use Rattle.creek.specs.Showing.{owed_shown}
use Rattle.counters.specs.declared.Counters.{Counters}
use Rattle.creek.specs.declared.Reply.{Reply}
use Rattle.replica.specs.State.{State, Called}
use Rattle.store.specs.Requests.{asked_in, request_at}
use Rattle.replica.specs.Promises.{Kept}
use Rattle.replica.specs.internal.Model.{order_of, plan_of, book_of, model, saved_at, Inv}
use Rattle.due.specs.Due.{DueOutcome, no_reply, is_awaited, due_replies, most_replies, padded, replies_owed, RunDue}
use Rattle.due.specs.internal.Job.{SameJob, RolledBack, ExecutedAll}
use Rattle.replica.proofs.States.{undone_state, executed_state}
use Rattle.replica.proofs.ModelLaws.{request_of, top_slot, next_slot, order-planned, plan_sound, length-order, rollback_first, rollback_none, rollback-length, todo-length, order-next}
use Rattle.steps.proofs.UndoLaws.{undo-kept}
use Rattle.steps.proofs.ExecuteLaws.{next_operation, NextReply, execute-kept}
use Rattle.replica.proofs.ShowingLaws.{owed_are}
use Rattle.due.proofs.OwnLaws.{own-few}

-- ---- one due step

module _ (p : State) (inv : Inv p) where
  due-undo : p.executed < p.stacked → due_call (model p).book ≡ undo
  unfolding model
  due-undo h = rw (rollback_first p inv h)

  due-execute : p.executed ≡ p.stacked → due_call (model p).book ≡ execute
  unfolding model
  due-execute e = rw (rollback_none p inv (sym e))

module _ (p : State) (c : Call) (r : Called) (kept : Kept p c r) (is : due_call (model p).book ≡ c)
    (less : owed_shown (model p) ≡ suc (owed_shown (model r.state))) where
  state_on : idled (model r.state) ≡ idled (model p)
  unfolding after_due_steps
  state_on =
      ap (after_due_steps (owed_shown (model r.state))) (kept.state ∙ ap (step (model p)) (sym is))
      ∙ ap (λ (k : ℕ). after_due_steps k (model p)) (sym less)

  replies_on : cons_if (is_awaited r.answer) (reply_in r.answer) (replies_owed r.state) ≡ replies_owed p
  unfolding due_replies
  replies_on =
      let rest : Replica → List Reply = due_replies (owed_shown (model r.state)) in
      ap (λ (m : Replica). cons_if (is_awaited r.answer) (reply_in r.answer) (rest m)) kept.state
      ∙ ap (λ (a : Answer). cons_if (is_awaited a) (reply_in a) (rest (step (model p) c))) kept.answer
      ∙ ap (λ (d : Call). cons_if (is_awaited (answer (model p) d)) (reply_in (answer (model p) d)) (rest (step (model p) d))) (sym is)
      ∙ ap (λ (k : ℕ). due_replies k (model p)) (sym less)

  replies_quiet : r.answer.mark ≡ no_mark → replies_owed r.state ≡ replies_owed p
  replies_quiet e =
      ap (λ (b : Bool). cons_if (not b) (reply_in r.answer) (replies_owed r.state)) (sym (eq-eqb r.answer.mark no_mark e)) ∙ replies_on

  replies-shown : (r.answer.mark ≡ no_mark → ⊥) → reply_in r.answer ∷ replies_owed r.state ≡ replies_owed p
  replies-shown n =
      ap (λ (b : Bool). cons_if (not b) (reply_in r.answer) (replies_owed r.state)) (sym (ne_eqb r.answer.mark no_mark n)) ∙ replies_on

-- nothing is owed any more
module _ (q : State) (none : owed_shown (model q) ≡ 0) where
  state-end : idled (model q) ≡ model q
  unfolding after_due_steps
  state-end = ap (λ (k : ℕ). after_due_steps k (model q)) none

  replies-end : replies_owed q ≡ []
  unfolding due_replies
  replies-end = ap (λ (k : ℕ). due_replies k (model q)) none

-- ---- the loop of undos

-- from p to q only undos were done
pub record Rolling (p q : State) : Type 0 where
  pub invariant : Inv q
  pub executed : q.executed ≡ p.executed
  pub ordered : q.ordered ≡ p.ordered
  pub job : SameJob p q

pub rolling_start : (p : State) → Inv p → Rolling p p
rolling_start p inv = record { invariant = inv; executed = refl; ordered = refl; job = record { state = refl; replies = refl } }

pub rolling_on : (p q : State) → Rolling p q → q.executed < q.stacked → (registers : List ℕ) (counters : Counters)
    → registers ≡ restored (operation_of (asked_in (get_or q.askings (top_slot q) 0))) (saved_at q.saved (q.stacked - 1)) q.registers
    → counters ≡ undos_counted q.counters 1 → Rolling p (undone_state q registers counters)
rolling_on p q h below registers counters back counted =
    let kept = undo-kept q h.invariant below registers back counters _ counted refl in
    let called : Called = record { answer = reply (number_of (top_slot q)) 0 no_mark; state = undone_state q registers counters } in
    let is = due-undo q h.invariant below in
    let less : owed_shown (model q) ≡ suc (owed_shown (model called.state)) =
    omega (arith, owed_are q h.invariant, owed_are called.state kept.invariant) in
    record {
      invariant = kept.invariant;
      executed = h.executed;
      ordered = h.ordered;
      job = record {
        state = state_on q undo called kept is less ∙ h.job.state;
        replies = replies_quiet q undo called kept is less refl ∙ h.job.replies;
      };
    }

pub rolling-end : (p q : State) → Rolling p q → q.stacked ≤ q.executed → RolledBack p q
rolling-end p q h all = record {
  invariant = h.invariant;
  nothing = omega (arith, h.invariant.counts);
  executed = h.executed;
  ordered = h.ordered;
  job = h.job;
}

-- ---- the loop of executions

-- from p to q only executions were done, and the first n of the array are the replies that fell due
pub record Executing (p q : State) (replies : List Reply) (n : ℕ) : Type 0 where
  pub invariant : Inv q
  pub nothing : q.executed ≡ q.stacked
  pub state : idled (model q) ≡ idled (model p)
  pub shown : take n replies ++ replies_owed q ≡ replies_owed p
  pub rest : drop n replies ≡ replicate (most_replies - n) no_reply
  pub long : length replies ≡ most_replies
  -- each was about an own request
  pub few : n ≤ count (is_of q.own.0) (take q.executed (order_of q))

pub executing_start : (p : State) (none : Reply) → Inv p → p.executed ≡ p.stacked → none ≡ no_reply
    → Executing p p (replicate most_replies none) 0
executing_start p none inv e z = rw z record {
  invariant = inv;
  nothing = e;
  state = refl;
  shown = refl;
  rest = refl;
  long = length-replicate most_replies no_reply;
  few = omega arith;
}

module _ (p q : State) (replies : List Reply) (n : ℕ) (h : Executing p q replies n) where
  -- at most 64 replies fall due
  own_within : (k : ℕ) → count (is_of q.own.0) (take k (order_of q)) ≤ most_replies
  unfolding book_of plan_of
  own_within k =
      omega (
        arith,
        own-few (plan_sound q h.invariant).held,
        ap (count (is_of q.own.0)) (order-planned q),
        ap (count (is_of q.own.0)) (take-append-drop k (order_of q)),
        count-append (is_of q.own.0) (take k (order_of q)) (drop k (order_of q)),
      )

  pub executing-end : q.ordered ≤ q.executed → (undos executions : ℕ) → executions ≡ p.ordered - p.executed
      → ExecutedAll p undos (record { undos = undos; executions = executions; count = n; replies = replies; state = q })
  executing-end all undos executions e = record {
    state = sym (state-end q none) ∙ h.state;
    handed = refl;
    executions = e;
    count = sym (ap length (sym whole) ∙ length-take-le n replies inside);
    replies =
        sym (take-append-drop n replies)
        ∙ ap (λ (l : List Reply). take n replies ++ l) h.rest
        ∙ ap (λ (k : ℕ). take n replies ++ replicate (most_replies - k) no_reply) (sym (length-take-le n replies inside))
        ∙ ap padded whole;
    idle = idle-owed (model q).book.execution none;
    invariant = h.invariant;
  }
    where
      none : owed_shown (model q) ≡ 0
      none = omega (arith, owed_are q h.invariant, h.nothing)

      inside : n ≤ length replies
      inside = omega (arith, h.few, h.long, own_within q.executed)

      whole : take n replies ≡ replies_owed p
      whole = sym (append-nil (take n replies)) ∙ ap (λ (l : List Reply). take n replies ++ l) (sym (replies-end q none)) ∙ h.shown

  module _ (more : q.executed < q.ordered) (after : List ℕ) (word v : ℕ) (number : Number) (mark : ℕ)
      (before : saved_in word ≡ saved_of (next_operation q) q.registers)
      (done : Executed (next_operation q) q.registers after v)
      (about : NextReply q number mark) where
    own_more : count (is_of q.own.0) (take (q.executed + 1) (order_of q))
        ≡ count (is_of q.own.0) (take q.executed (order_of q)) + one (is_of q.own.0 (request_of q (next_slot q)))
    own_more =
        let split : take (q.executed + 1) (order_of q) ≡ take q.executed (order_of q) ++ request_of q (next_slot q) ∷ [] =
        rw (add-one q.executed)
        (take-suc (order_of q) q.executed (request_of q 0) (omega (arith, length-order q h.invariant))
        ∙ ap (λ (x : Request). take q.executed (order_of q) ++ x ∷ []) (order-next q h.invariant more)) in
        omega (
          arith,
          ap (count (is_of q.own.0)) split,
          count-append (is_of q.own.0) (take q.executed (order_of q)) (request_of q (next_slot q) ∷ []),
        )

    -- a reply is due only to an own request
    awaited_own : (mark ≡ no_mark → ⊥) → is_of q.own.0 (request_of q (next_slot q)) ≡ true
    unfolding request_at
    awaited_own due = go (member q.awaiting (number_of (next_slot q))) refl
      where
        go : (b : Bool) → member q.awaiting (number_of (next_slot q)) ≡ b → eqb (number_of (next_slot q)).panel.0 q.own.0 ≡ true
        go true e = eq-eqb (number_of (next_slot q)).panel.0 q.own.0 (h.invariant.awaiting_own (number_of (next_slot q)) e)
        go false e = absurd (due (about.mark ∙ rw e))

    pub executing_room : (mark ≡ no_mark → ⊥) → n < most_replies
    executing_room due = omega (arith, h.few, own_more, one_true (awaited_own due), own_within (q.executed + 1))

    module _ (awaiting : List ℕ) (counters : Counters)
        (left : set_of awaiting ≡ awaiting_after q.awaiting number mark)
        (counted : counters ≡ executions_counted q.counters 1) where
      abbrev called : Called
      called = record { answer = reply number v mark; state = executed_state q after word v awaiting counters }

      kept : Kept q execute called
      kept = execute-kept q h.invariant h.nothing more after word v number mark awaiting counters before done about left counted _ refl

      is : due_call (model q).book ≡ execute
      is = due-execute q h.invariant h.nothing

      less : owed_shown (model q) ≡ suc (owed_shown (model called.state))
      less = omega (arith, owed_are q h.invariant, owed_are called.state kept.invariant, h.nothing)

      -- nobody waits for the reply
      pub executing_quiet : mark ≡ no_mark → Executing p (executed_state q after word v awaiting counters) replies n
      executing_quiet e = record {
        invariant = kept.invariant;
        nothing = refl;
        state = state_on q execute called kept is less ∙ h.state;
        shown = ap (λ (l : List Reply). take n replies ++ l) (replies_quiet q execute called kept is less e) ∙ h.shown;
        rest = h.rest;
        long = h.long;
        few = omega (arith, h.few, own_more);
      }

      pub executing-replied : (mark ≡ no_mark → ⊥) → (x : Reply) → x ≡ reply_in called.answer
          → Executing p (executed_state q after word v awaiting counters) (set replies n x) (n + 1)
      executing-replied due x said =
          let inside : n < length replies = omega (arith, executing_room due, h.long) in
          let front : take (n + 1) (set replies n x) ≡ take n replies ++ x ∷ [] =
          rw (add-one n) (take-suc-set replies n x inside) in
          let left_over : most_replies - n ≡ suc (most_replies - (n + 1)) = omega (arith, executing_room due) in
          record {
            invariant = kept.invariant;
            nothing = refl;
            state = state_on q execute called kept is less ∙ h.state;
            shown =
                ap (λ (l : List Reply). l ++ replies_owed called.state) front
                ∙ append_snoc (take n replies) x (replies_owed called.state)
                ∙ ap (λ (x : Reply). take n replies ++ x ∷ replies_owed called.state) said
                ∙ ap (λ (l : List Reply). take n replies ++ l) (replies-shown q execute called kept is less due)
                ∙ h.shown;
            rest =
                drop-set-lt (n + 1) replies n x (omega arith)
                ∙ sym (drop-drop 1 n replies)
                ∙ ap (drop 1) (h.rest ∙ ap (λ (k : ℕ). replicate k no_reply) left_over);
            long = length-set replies n x ∙ h.long;
            few = omega (arith, h.few, own_more, one_true (awaited_own due));
          }

-- ---- both

-- from p to q all that was to be rolled back was undone, and from there all that was to do was executed
pub run_through : (p q : State) (r : DueOutcome) → Inv p → RolledBack p q → ExecutedAll q (p.stacked - p.executed) r → RunDue p r
unfolding model
run_through p q r inv back all = record {
  state = all.state ∙ back.job.state;
  undos = all.handed ∙ sym (rollback-length p inv);
  executions = all.executions ∙ ap (λ (k : ℕ). k - q.executed) back.ordered ∙ ap (λ (k : ℕ). p.ordered - k) back.executed ∙ sym (todo-length p inv);
  count = all.count ∙ ap length back.job.replies;
  replies = all.replies ∙ ap padded back.job.replies;
  idle = all.idle;
  invariant = all.invariant;
}
