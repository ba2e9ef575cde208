-- Demand 3 as one statement about a list of calls from what fresh returned. Every list of calls keeps it: `demand_3` in `proofs/Demand`.
use Rattle.std.specs.Prelude.{ℕ, ◌+◌, ◌-◌, ◌*◌, ◌/◌, ◌≤◌, ◌<◌, ◌≡◌, Bool, List, ◌++◌, length, eqb}
use Rattle.counters.specs.Counted.{most_steps}
use Rattle.request.specs.Order.{before}
use Rattle.request.specs.Refusal as refused
use Rattle.effects.specs.Replay.{replay}
use Rattle.lists.specs.Lists.{Ordered}
use Rattle.creek.specs.Execution.{board, operations, registers, is_idle}
use Rattle.creek.specs.Book.{Call, refusal}
use Rattle.creek.specs.Calls.{Replica, fresh, brings_request, is_commit, is_undo, is_execute}
use Rattle.creek.specs.History.{run, accepted_in, due_call, after_due_steps}
use Rattle.creek.specs.Showing.{requests_shown, commits_shown, undos_shown, executions_shown, owed_shown}

-- the bound: n(n−1)/2 + s·n − s(s−1)/2
unfoldable pub most_undos : ℕ → ℕ → ℕ
most_undos n s = n * (n - 1) / 2 + s * n - s * (s - 1) / 2

module _ (panels own : ℕ) (calls : List Call) where
  -- the replica after the calls
  abbrev pub now : Replica
  now = run (fresh panels own) calls

  -- the replica after k due steps more
  abbrev pub after_due : ℕ → Replica
  after_due k = after_due_steps k now

  -- how many calls of a kind were accepted among them
  abbrev pub accepted_of : (Call → Bool) → ℕ
  accepted_of kind = accepted_in (fresh panels own).book calls kind

  pub record Demand3 : Type 0 where
    -- with n requests, made or heard, and s settlements accepted, the undo steps done and those still on the undo list number together
    -- at most the bound
    pub bounded : undos_shown now + length now.book.execution.rollback ≤ most_undos (accepted_of brings_request) (accepted_of is_commit)
    -- carry-outs done exceed undos done by exactly the number of requests on the board
    pub on_board_is : executions_shown now ≡ undos_shown now + length (board now.book.execution)
    -- the counts shown are exactly those of the accepted calls in the list
    pub requests_shown_is : requests_shown now ≡ accepted_of brings_request
    pub commits_shown_is : commits_shown now ≡ accepted_of is_commit
    pub undos_shown_is : undos_shown now ≡ accepted_of is_undo
    pub executions_shown_is : executions_shown now ≡ accepted_of is_execute
    -- if only the step that is due is called, each is accepted, and the replica is idle exactly when as many are done as were owed
    pub due_accepted : (k : ℕ) → k < owed_shown now → refusal (after_due k).book (due_call (after_due k).book) ≡ refused.accepted
    pub idle_exactly : (k : ℕ) → k ≤ owed_shown now → is_idle (after_due k).book.execution ≡ eqb k (owed_shown now)
    -- the registers then are one replay of the committed requests in their order and then the tentative ones in clock order
    pub plan_kept : (k : ℕ) → (after_due k).book.plan ≡ now.book.plan
    pub replayed : registers (after_due (owed_shown now)).book.execution
        ≡ replay (operations (now.book.plan.committed ++ now.book.plan.tentative))
    pub clock_order : Ordered before now.book.plan.tentative
    -- neither step counter is ever above 262,656
    pub undos_few : undos_shown now ≤ most_steps
    pub executions_few : executions_shown now ≤ most_steps
