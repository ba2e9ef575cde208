-- The two steps on a panel in place: what a refused and an accepted one lead to there.
use Prim.Native.Nat.{ℕ, ◌+◌, ◌-◌, ◌≤◌, ◌<◌}
use native.Mathlib.Omega.{arith}
use mathlib.Core.Path.{◌≡◌, refl, sym, ap, subst, ◌∙◌}
use mathlib.Core.Bool.{false}
use mathlib.Core.List.{List}
use lib.Dec.{eqb}
use borrow.Author.Tests.{eqb-false}
use Rattle.sets.specs.Sets.{set_of}
use Rattle.counters.specs.declared.Counters.{Counters}
use Rattle.counters.specs.Counted.{most_steps, undos_counted, undos_held, executions_counted, executions_held}
use Rattle.numbers.specs.declared.Number.{Number}
use Rattle.numbers.specs.Numbers.{no_number}
use Rattle.numbers.specs.internal.Slots.{number_of}
use Rattle.request.specs.Refusal as refused
use Rattle.creek.specs.declared.Reply.{Reply}
use Rattle.creek.specs.Book.{undo, execute, refusal}
use Rattle.creek.specs.Replies.{no_mark, refused_with, reply, reply_answer, reply_in, named_by_refusal}
use Rattle.replica.specs.State.{State}
use Rattle.replica.specs.declared.Panel.{Panel}
use Rattle.replica.specs.Memory.{memory, Done}
use Rattle.replica.specs.Uses.{undoing_uses, stepping_uses}
use Rattle.replica.specs.Promises.{Kept}
use Rattle.replica.specs.internal.Model.{book_of, Inv}
use Rattle.board.specs.Board.{TopAsks, rolled_back, TakenOff, NextAsks, ExecutedAt}
use Rattle.replica.proofs.ChangesLaws.{changed_by}
use Rattle.replica.proofs.BoundLaws.{undos_fit, executions_fit, undos_held_are, executions_held_are}
use Rattle.replica.proofs.KeptLaws.{kept-refused}
use Rattle.replica.proofs.ModelLaws.{top_slot_lem, next_slot_lem}
use Rattle.replica.proofs.States.{undone_state}
use Rattle.steps.proofs.UndoLaws.{undo-refused, undo-kept}
use Rattle.steps.proofs.ExecuteLaws.{execute_undo_first, execute-nothing, execute-kept}

-- ---- undo

module _ (p : Panel) where
  pub undo_none : p.executed ≡ p.stacked → (r : Reply) → r ≡ reply_in (refused_with refused.nothing_to_undo no_number)
      → Done p undo (reply_answer r) p
  unfolding named_by_refusal
  undo_none idle r said =
      rw said (record {
        kept = λ o inv.
            let s = memory (undoing_uses p o) in
            kept-refused s undo refused.nothing_to_undo _ inv (undo-refused s inv idle) (λ e. omega arith) refl;
        spare = refl;
        others = refl;
      })

  module _ (due : p.executed < p.stacked) where
    pub undo_top : (o : Panel) → Inv (memory (undoing_uses p o)) → TopAsks p.stack (p.stacked - 1)
    undo_top o inv =
        record { place = omega (arith, inv.counts, inv.lengths); slot = top_slot_lem (memory (undoing_uses p o)) inv due }

    module _ (q : Panel) (s : ℕ) (off : TakenOff p (p.stacked - 1) q s) (n : Number) (is : n ≡ number_of s) where
      undo_keeps : (o : Panel) → Inv (memory (undoing_uses p o)) → Kept (memory (undoing_uses p o)) undo (record {
        answer = reply n 0 no_mark;
        state = undone_state (memory (undoing_uses p o)) q.registers (undos_counted o.counters 1);
      })
      undo_keeps o inv =
          let s = memory (undoing_uses p o) in
          subst (λ (b : List ℕ). Kept s undo (record { answer = reply n 0 no_mark; state = undone_state s b (undos_counted o.counters 1) }))
          (sym (ap (λ (r : Panel). r.registers) off.panel))
          (undo-kept s inv due (rolled_back p (p.stacked - 1)) refl (undos_counted o.counters 1) _ refl
          (ap (λ (m : Number). reply m 0 no_mark) (is ∙ ap number_of off.slot)))

      -- a panel's counter has room for the undo
      pub undo_counts : (o : Panel) → Inv (memory (undoing_uses p o)) → o.counters.undos + 1 ≤ most_steps
      undo_counts o inv = undos_fit _ (undo_keeps o inv).invariant

      pub undo-done : (counters : Counters) → counters ≡ undos_held q.counters 1
          → Done p undo (reply n 0 no_mark) (record q { stacked = p.stacked - 1; counters = counters })
      undo-done counters counted = record {
        kept = λ o inv.
            let s = memory (undoing_uses p o) in
            subst (λ (c : Counters). Kept s undo (record { answer = reply n 0 no_mark; state = undone_state s q.registers c }))
            (undos_held_are o.counters 1 (undo_counts o inv)) (undo_keeps o inv);
        spare = ap (λ (r : Panel). r.spare) off.panel;
        others =
            ap (λ (r : Panel). record r { stacked = p.stacked - 1; counters = counters })
            (changed_by (λ (r : Panel). record p { registers = r.registers }) off.panel refl)
            ∙ ap (λ (c : Counters). record p { stacked = p.stacked - 1; counters = c; registers = q.registers })
            (counted ∙ ap (λ (r : Panel). undos_held r.counters 1) off.panel);
      }

-- ---- execute

module _ (p : Panel) where
  -- a refused execution on p
  refused_by_lem : (word : ℕ) → eqb word refused.accepted ≡ false
      → ((o : Panel) → Inv (memory (stepping_uses p o)) → refusal (book_of (memory (stepping_uses p o))) execute ≡ word)
      → (r : Reply) → r ≡ reply_in (refused_with word no_number) → Done p execute (reply_answer r) p
  unfolding named_by_refusal
  refused_by_lem word refuses by r said =
      rw said (record {
        kept = λ o inv.
            let s = memory (stepping_uses p o) in
            rw refuses (kept-refused s execute word _ inv (by o inv) (eqb-false word refused.accepted refuses) refl);
        spare = refl;
        others = rw refuses refl;
      })

  pub execute_first_undo : (p.executed ≡ p.stacked → ⊥) → (r : Reply) → r ≡ reply_in (refused_with refused.undo_first no_number)
      → Done p execute (reply_answer r) p
  execute_first_undo due =
      refused_by_lem refused.undo_first refl (λ o inv. execute_undo_first (memory (stepping_uses p o)) inv (omega (arith, inv.counts)))

  module _ (idle : p.executed ≡ p.stacked) where
    pub execute_none : p.executed ≡ p.ordered → (r : Reply) → r ≡ reply_in (refused_with refused.nothing_to_do no_number)
        → Done p execute (reply_answer r) p
    execute_none all =
        refused_by_lem refused.nothing_to_do refl (λ o inv. execute-nothing (memory (stepping_uses p o)) inv idle all)

    module _ (more : p.executed < p.ordered) where
      pub execute-next : (o : Panel) → Inv (memory (stepping_uses p o)) → NextAsks p.order p.executed
      execute-next o inv =
          record { place = omega (arith, inv.counts, inv.lengths); slot = next_slot_lem (memory (stepping_uses p o)) inv more }

    module _ (more : p.executed < p.ordered) (q : Panel) (r : Reply) (next : ExecutedAt p p.executed q r) where
      -- the state after it: of what is read and written what p became, the rest that of the other panel
      abbrev executed : State → (stack saved responses : List ℕ) → Counters → State
      executed s stack saved responses counters = record s {
        executed = p.executed + 1;
        stacked = p.executed + 1;
        counters = counters;
        awaiting = set_of q.awaiting;
        stack = stack;
        registers = q.registers;
        saved = saved;
        responses = responses;
      }

      execute_keeps : (o : Panel) → Inv (memory (stepping_uses p o)) → Kept (memory (stepping_uses p o)) execute (record {
        answer = reply r.number r.response r.mark;
        state = executed (memory (stepping_uses p o)) q.stack q.saved q.responses (executions_counted o.counters 1);
      })
      execute_keeps o inv =
          let s = memory (stepping_uses p o) in
          subst (λ (z : Panel). Kept s execute (record {
            answer = reply r.number r.response r.mark;
            state = executed s z.stack z.saved z.responses (executions_counted o.counters 1);
          })) (sym next.panel)
          (execute-kept s inv idle more q.registers next.word r.response r.number r.mark q.awaiting (executions_counted o.counters 1)
          next.restores next.done (record { number = next.number; mark = next.mark }) next.waits refl _ refl)

      -- a panel's counter has room for the execution
      pub execute_counts : (o : Panel) → Inv (memory (stepping_uses p o)) → o.counters.executions + 1 ≤ most_steps
      execute_counts o inv = executions_fit _ (execute_keeps o inv).invariant

      -- with a counter as 32 bits hold it
      held : (o : Panel) → Inv (memory (stepping_uses p o)) → Kept (memory (stepping_uses p o)) execute (record {
        answer = reply r.number r.response r.mark;
        state = executed (memory (stepping_uses p o)) q.stack q.saved q.responses (executions_held o.counters 1);
      })
      held o inv =
          let s = memory (stepping_uses p o) in
          subst (λ (c : Counters). Kept s execute (record {
            answer = reply r.number r.response r.mark;
            state = executed s q.stack q.saved q.responses c;
          })) (executions_held_are o.counters 1 (execute_counts o inv)) (execute_keeps o inv)

      pub execute-done : (counters : Counters) → counters ≡ executions_held q.counters 1
          → Done p execute (reply_answer r) (record q { executed = p.executed + 1; stacked = p.executed + 1; counters = counters })
      execute-done counters counted = rw next.refusal (record {
        kept = held;
        spare = ap (λ (z : Panel). z.spare) next.panel;
        others =
            ap (λ (z : Panel). record z { executed = p.executed + 1; stacked = p.executed + 1; counters = counters })
            (changed_by (λ (z : Panel). record p {
              awaiting = z.awaiting;
              stack = z.stack;
              registers = z.registers;
              saved = z.saved;
              responses = z.responses;
            }) next.panel refl)
            ∙ ap (λ (c : Counters). record p {
              executed = p.executed + 1;
              stacked = p.executed + 1;
              counters = c;
              awaiting = q.awaiting;
              stack = q.stack;
              registers = q.registers;
              saved = q.saved;
              responses = q.responses;
            }) (counted ∙ ap (λ (z : Panel). executions_held z.counters 1) next.panel);
      })
