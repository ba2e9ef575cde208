-- Laws of the execution: what adjusting, an undo and a carry-out do to the board, to the order that is followed and to what is owed.
use Prim.Native.Nat.{suc, ◌+◌, ◌-◌, ◌≤◌}
use native.Mathlib.Omega.{arith}
use mathlib.Core.Path.{◌≡◌, refl, sym, ap, ◌∙◌}
use mathlib.Core.Bool.{Bool, true, false, not, ◌&&◌}
use mathlib.Core.List.{List, [], ◌++◌, reverse, append_assoc, append-nil, reverse-append, reverse-reverse}
use lib.ListN.{length, take, drop, length-append, length-drop, length-reverse, take-append-drop}
use Rattle.request.specs.declared.Request.{Request}
use Rattle.request.specs.Request.{same_request}
use Rattle.request.specs.Refusal as refused
use Rattle.request.proofs.EqualityLaws.{same_request_sound, same_request_self}
use Rattle.lists.specs.Lists.{count, is_nil, common_start}
use Rattle.creek.specs.Plan.{met}
use Rattle.creek.specs.Execution.{Execution, board, owed, is_idle, adjusted, undone, undo_refusal, executed_next, execute_refusal}
use Rattle.lists.proofs.ListLaws.{count-append, count-reverse, count-drop, common_start_both, common_start_lost, nil_is, length-nil}
use Rattle.lists.proofs.ListLaws.{first-length, not-nil}

-- what is executed and then what is to do is that order
abbrev pub Follows : List Request → Execution → Type 0
Follows order e = e.executed ++ e.todo ≡ order

pub board-length : (e : Execution) → length (board e) ≡ length e.executed + length e.rollback
board-length e = simp (length-append, length-reverse)

pub board-count : (test : Request → Bool) (e : Execution) → count test (board e) ≡ count test e.executed + count test e.rollback
board-count test e = omega (arith, count-append test e.executed (reverse e.rollback), count-reverse test e.rollback)

-- ---- adjusting

module _ (order : List Request) (e : Execution) where
  pub adjusted_follows : Follows order (adjusted order e)
  unfolding adjusted
  adjusted_follows =
      rw (common_start_both same_request same_request_sound e.executed order)
      (take-append-drop (common_start same_request e.executed order) order)

  -- adjusting changes nothing on the board
  pub adjusted-board : board (adjusted order e) ≡ board e
  unfolding adjusted
  adjusted-board = rw (reverse-append e.rollback, reverse-reverse, ← append_assoc, take-append-drop)

  rollback_more : length (adjusted order e).rollback
      ≡ length e.rollback + (length e.executed - common_start same_request e.executed order)
  unfolding adjusted
  rollback_more = simp (length-append, length-reverse, length-drop)

  -- it adds to the rollback list at most all of the old order
  pub rollback_most : {old : List Request} → Follows old e → length (adjusted order e).rollback ≤ length e.rollback + length old
  rollback_most f = omega (arith, rollback_more, length-append e.executed e.todo, ap length f)

-- and where both orders start with c, at most what follows it in the old one
pub rollback_most_behind : (e : Execution) (c t u : List Request) → Follows (c ++ t) e
    → length (adjusted (c ++ u) e).rollback ≤ length e.rollback + length t
rollback_most_behind e c t u f =
    omega (arith, rollback_more (c ++ u) e, common_start_lost same_request same_request_self c e.executed e.todo t u f)

-- ---- an accepted undo

pub undone_executed : (e : Execution) → (undone e).executed ≡ e.executed
unfolding undone
undone_executed e = refl

pub undone_todo : (e : Execution) → (undone e).todo ≡ e.todo
unfolding undone
undone_todo e = refl

pub undone_follows : {order : List Request} (e : Execution) → Follows order e → Follows order (undone e)
unfolding undone
undone_follows e f = f

pub undone-count : (test : Request → Bool) (e : Execution) → count test (board (undone e)) ≤ count test (board e)
unfolding undone
undone-count test e = omega (arith, board-count test e, board-count test (undone e), count-drop test 1 e.rollback)

module _ (e : Execution) (taken : undo_refusal e ≡ refused.accepted) where
  pub undone_rollback : length e.rollback ≡ suc (length (undone e).rollback)
  unfolding undone undo_refusal
  undone_rollback = go (is_nil e.rollback) refl taken
    where
      go : (b : Bool) → is_nil e.rollback ≡ b → met b refused.nothing_to_undo refused.accepted ≡ refused.accepted
          → length e.rollback ≡ suc (length (drop 1 e.rollback))
      go true f h = absurd (omega arith)
      go false f h = (first-length e.rollback f).0

-- ---- an accepted carry-out

pub executed_rollback : (e : Execution) → (executed_next e).rollback ≡ e.rollback
unfolding executed_next
executed_rollback e = refl

pub executed_follows : {order : List Request} (e : Execution) → Follows order e → Follows order (executed_next e)
unfolding executed_next
executed_follows {order} e f =
    append_assoc e.executed (take 1 e.todo) (drop 1 e.todo)
    ∙ ap (λ (l : List Request). e.executed ++ l) (take-append-drop 1 e.todo) ∙ f

-- what an accepted carry-out tells
pub record Executes (e : Execution) : Type 0 where
  pub nothing_back : e.rollback ≡ []
  pub executed_more : length (executed_next e).executed ≡ suc (length e.executed)
  pub todo_less : length e.todo ≡ suc (length (executed_next e).todo)

pub executes : (e : Execution) → execute_refusal e ≡ refused.accepted → Executes e
unfolding executed_next execute_refusal
executes e taken = go (is_nil e.rollback) (is_nil e.todo) refl refl taken
  where
    go : (b d : Bool) → is_nil e.rollback ≡ b → is_nil e.todo ≡ d
        → met (not b) refused.undo_first (met d refused.nothing_to_do refused.accepted) ≡ refused.accepted → Executes e
    go false d f g h = absurd (omega arith)
    go true true f g h = absurd (omega arith)
    go true false f g h =
        let first = first-length e.todo g in
        record {
          nothing_back = nil_is e.rollback f;
          executed_more = simp length-append (omega arith);
          todo_less = first.0;
        }

-- with nothing to be undone, the board is the executed list
pub board_executed : (e : Execution) → e.rollback ≡ [] → board e ≡ e.executed
board_executed e none = ap (λ (l : List Request). e.executed ++ reverse l) none ∙ append-nil e.executed

-- ---- the step that is due

pub undo_due : (e : Execution) → is_nil e.rollback ≡ false → undo_refusal e ≡ refused.accepted
unfolding undo_refusal
undo_due e f = rw f

pub execute_due : (e : Execution) → is_nil e.rollback ≡ true → 1 ≤ owed e → execute_refusal e ≡ refused.accepted
unfolding execute_refusal
execute_due e f h = rw (f, not-nil e.todo (omega (arith, ap length (nil_is e.rollback f))))

-- nothing is owed exactly where the execution is idle
pub idle-owed : (e : Execution) → owed e ≡ 0 → is_idle e ≡ true
idle-owed e h = rw (length-nil e.rollback (omega arith), length-nil e.todo (omega arith))

pub busy-owed : (e : Execution) → 1 ≤ owed e → is_idle e ≡ false
busy-owed e h = go (is_nil e.rollback) (is_nil e.todo) refl refl
  where
    go : (b d : Bool) → is_nil e.rollback ≡ b → is_nil e.todo ≡ d → b && d ≡ false
    go true true f g = absurd (omega (arith, ap length (nil_is e.rollback f), ap length (nil_is e.todo g)))
    go true false f g = refl
    go false d f g = refl

-- an idle execution has exactly the order on the board
pub idle-board : {order : List Request} (e : Execution) → Follows order e → owed e ≡ 0 → board e ≡ order
idle-board e f z =
    let back : e.rollback ≡ [] = nil_is e.rollback (length-nil e.rollback (omega arith)) in
    let todo : e.todo ≡ [] = nil_is e.todo (length-nil e.todo (omega arith)) in
    board_executed e back ∙ sym (append-nil e.executed) ∙ ap (λ (l : List Request). e.executed ++ l) (sym todo) ∙ f
