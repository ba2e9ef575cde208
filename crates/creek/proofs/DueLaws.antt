-- Only due steps: each is accepted while something is owed and leaves the plan as it was, and after as many as are owed nothing is; the
-- undos and executions that were owed are then counted as done.
use Prim.Native.Nat.{ℕ, zero, suc, ◌+◌, ◌≤◌, ◌<◌}
use native.Mathlib.Omega.{arith}
use mathlib.Core.Path.{◌≡◌, refl, sym, ap, ◌∙◌}
use mathlib.Core.Bool.{Bool, true, false, cond}
use mathlib.Core.List.{List, ◌∷◌, ◌++◌}
use lib.ListN.{length}
use lib.Dec.{eqb}
use borrow.Author.Tests.{eqb-true, eqb-false, eq-eqb}
use Rattle.request.specs.declared.Request.{Request}
use Rattle.request.specs.Refusal as refused
use Rattle.effects.specs.Replay.{replay}
use Rattle.lists.specs.Lists.{is_nil}
use Rattle.creek.specs.Plan.{order}
use Rattle.creek.specs.Execution.{Execution, operations, registers, is_idle}
use Rattle.creek.specs.Book.{Call, undo, execute, Book, refusal, is_accepted, accepted}
use Rattle.creek.specs.Calls.{Replica, accept, step}
use Rattle.creek.specs.History.{run, due_call, after_due_steps, idled, due_calls}
use Rattle.creek.specs.Showing.{undos_shown, executions_shown, owed_shown}
use Rattle.creek.specs.internal.Sound.{Sound}
use Rattle.creek.proofs.CallLaws.{step-accepted, step_book}
use Rattle.creek.proofs.ExecutionLaws.{undone_todo, undone_rollback, executed_rollback, executes, undo_due}
use Rattle.creek.proofs.ExecutionLaws.{execute_due, idle-owed, busy-owed, idle-board}
use Rattle.creek.proofs.SoundLaws.{step_sound}

-- the undos done and those owed number together the same in q as in r, and so do the executions
record SameTotals (r q : Replica) : Type 0 where
  undos : undos_shown q + length q.book.execution.rollback ≡ undos_shown r + length r.book.execution.rollback
  executions : executions_shown q + length q.book.execution.todo ≡ executions_shown r + length r.book.execution.todo

-- the step is accepted, and does one of those that are owed
record DoesOne (r : Replica) (c : Call) : Type 0 where
  taken : refusal r.book c ≡ refused.accepted
  less : suc (owed_shown (accept r c)) ≡ owed_shown r
  totals : SameTotals r (accept r c)

-- the due step does while something is owed
due-step : (r : Replica) → 1 ≤ owed_shown r → DoesOne r (due_call r.book)
unfolding refusal accept accepted
due-step r h = go (is_nil e.rollback) refl
  where
    e : Execution
    e = r.book.execution

    go : (v : Bool) → is_nil e.rollback ≡ v → DoesOne r (cond v execute undo)
    go true f =
        let t = execute_due e f h in
        let todo = (executes e t).todo_less in
        let rollback = ap length (executed_rollback e) in
        record {
          taken = t;
          less = omega (arith, todo, rollback);
          totals = record { undos = omega (arith, rollback); executions = omega (arith, todo) };
        }
    go false f =
        let t = undo_due e f in
        let todo = ap length (undone_todo e) in
        let rollback = undone_rollback e t in
        record {
          taken = t;
          less = omega (arith, todo, rollback);
          totals = record { undos = omega (arith, rollback); executions = omega (arith, todo) };
        }

-- a due step leaves the plan as it was
pub due_plan : (r : Replica) → (step r (due_call r.book)).book.plan ≡ r.book.plan
unfolding step accept accepted
due_plan r = go (is_nil r.book.execution.rollback) (is_accepted r.book (due_call r.book))
  where
    go : (u v : Bool) → (cond v (accept r (cond u execute undo)) r).book.plan ≡ r.book.plan
    go true true = refl
    go false true = refl
    go u false = refl

pub later_plan : (k : ℕ) (r : Replica) → (after_due_steps k r).book.plan ≡ r.book.plan
unfolding after_due_steps
later_plan zero r = refl
later_plan (suc k) r = later_plan k (step r (due_call r.book)) ∙ due_plan r

pub later-owed : (k : ℕ) (r : Replica) → k ≤ owed_shown r → owed_shown (after_due_steps k r) + k ≡ owed_shown r
unfolding after_due_steps
later-owed zero r h = omega arith
later-owed (suc k) r h =
    let d = due-step r (omega arith) in
    let o = ap owed_shown (step-accepted r (due_call r.book) (eq-eqb _ _ d.taken)) in
    omega (arith, later-owed k (step r (due_call r.book)) (omega (arith, d.less)), d.less)

later_totals : (k : ℕ) (r : Replica) → k ≤ owed_shown r → SameTotals r (after_due_steps k r)
unfolding after_due_steps
later_totals zero r h = record { undos = refl; executions = refl }
later_totals (suc k) r h =
    let d = due-step r (omega arith) in
    let same = step-accepted r (due_call r.book) (eq-eqb _ _ d.taken) in
    let now : SameTotals r (step r (due_call r.book)) = rw same d.totals in
    let later = later_totals k (step r (due_call r.book)) (omega (arith, d.less, ap owed_shown same)) in
    record { undos = later.undos ∙ now.undos; executions = later.executions ∙ now.executions }

pub later_sound : (k : ℕ) (r : Replica) → Sound r → Sound (after_due_steps k r)
unfolding after_due_steps
later_sound zero r i = i
later_sound (suc k) r i = later_sound k (step r (due_call r.book)) (step_sound r (due_call r.book) i)

positive : (n : ℕ) → (n ≡ 0 → ⊥) → 1 ≤ n
positive zero h = absurd (h refl)
positive (suc n) h = omega arith

module _ (r : Replica) (i : Sound r) where
  pub due_accepted : (k : ℕ) → k < owed_shown r → refusal (after_due_steps k r).book (due_call (after_due_steps k r).book) ≡ refused.accepted
  due_accepted k h = (due-step (after_due_steps k r) (omega (arith, later-owed k r (omega arith)))).taken

  pub idle_exactly : (k : ℕ) → k ≤ owed_shown r → is_idle (after_due_steps k r).book.execution ≡ eqb k (owed_shown r)
  idle_exactly k h = go (eqb k (owed_shown r)) refl
    where
      left : owed_shown (after_due_steps k r) + k ≡ owed_shown r
      left = later-owed k r h

      go : (v : Bool) → eqb k (owed_shown r) ≡ v → is_idle (after_due_steps k r).book.execution ≡ v
      go true e = idle-owed (after_due_steps k r).book.execution (omega (arith, left, eqb-true k (owed_shown r) e))
      go false e =
          busy-owed (after_due_steps k r).book.execution
          (positive (owed_shown (after_due_steps k r)) (λ none. eqb-false k (owed_shown r) e (omega (arith, left))))

  pub replayed : registers (idled r).book.execution
      ≡ replay (operations (r.book.plan.committed ++ r.book.plan.tentative))
  unfolding registers
  replayed =
      let last = later-owed (owed_shown r) r (omega arith) in
      let on_board_is = idle-board (idled r).book.execution (later_sound (owed_shown r) r i).follows (omega arith) in
      ap (λ (l : List Request). replay (operations l)) (on_board_is ∙ ap order (later_plan (owed_shown r) r))

-- as many due steps as are owed do each undo and each execution that is owed
module _ (r : Replica) where
  none_left : owed_shown (idled r) ≡ 0
  none_left = omega (arith, later-owed (owed_shown r) r (omega arith))

  totals : SameTotals r (idled r)
  totals = later_totals (owed_shown r) r (omega arith)

  pub undos-done : undos_shown (idled r) ≡ undos_shown r + length r.book.execution.rollback
  undos-done = omega (arith, none_left, totals.undos)

  pub executions-done : executions_shown (idled r) ≡ executions_shown r + length r.book.execution.todo
  executions-done = omega (arith, none_left, totals.executions)

-- ---- so many due steps as a list of calls

pub due_calls_lem : (k : ℕ) (r : Replica)
    → due_calls (suc k) r.book ≡ due_call r.book ∷ due_calls k (step r (due_call r.book)).book
unfolding due_calls
due_calls_lem k r =
    ap (λ (b : Book). due_call r.book ∷ due_calls k b) (sym (step_book r (due_call r.book)))

pub run_due_is : (k : ℕ) (r : Replica) → run r (due_calls k r.book) ≡ after_due_steps k r
unfolding run due_calls after_due_steps
run_due_is zero r = refl
run_due_is (suc k) r = ap (run r) (due_calls_lem k r) ∙ run_due_is k (step r (due_call r.book))
