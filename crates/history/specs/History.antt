-- A list of calls on a panel, all due steps at once and other calls done in one among them: the states and answers that it leads through,
-- each call keeping its contract; what the shift book says of the same calls; and demand 3 as a statement about the panel's last state.
-- Every list of calls keeps it: `panel_demand_3` in `proofs/History`.
use Rattle.counters.specs.Counted.{most_steps}
use Rattle.std.specs.Prelude.{ℕ, ◌+◌, ◌-◌, ◌≤◌, ◌≡◌, Bool, List, [], ◌∷◌, ◌++◌, map, length, replicate, eqb}
use Rattle.request.specs.Order.{before}
use Rattle.request.specs.Refusal as refused
use Rattle.effects.specs.Replay.{replay}
use Rattle.lists.specs.Lists.{keep, Ordered}
use Rattle.creek.specs.declared.Answer.{Answer}
use Rattle.creek.specs.Execution.{board, operations, owed, is_idle}
use Rattle.creek.specs.Book.{Call, Book, noted_all}
use Rattle.creek.specs.Calls.{fresh, brings_request, is_commit, is_undo, is_execute}
use Rattle.creek.specs.History.{run, answers_to, refusals, accepted_in, due_calls, refusals_in}
use Rattle.creek.specs.Showing.{requests_shown, commits_shown, undos_shown, executions_shown, owed_shown}
use Rattle.creek.specs.Demand.{most_undos}
use Rattle.replica.specs.State.{State, Called}
use Rattle.creek.specs.Replies.{reply_in}
use Rattle.due.specs.Due.{DueOutcome, no_reply, is_awaited, most_replies, RunDue}
use Rattle.creek.specs.declared.Reply.{Reply}
use Rattle.replica.specs.Promises.{Kept}
use Rattle.replica.specs.internal.Model.{model, Inv}

-- ---- the shift book, fed the calls alone

-- the book that is told P and the own panel
abbrev pub opened_book : ℕ → ℕ → Book
opened_book panels own = (fresh panels own).book

-- ---- the panel

-- the single steps that all due steps at once stand for on p: as many as it owes, each the step that is due then
abbrev pub steps_due : State → List Call
steps_due p = due_calls (owed_shown (model p)) (model p).book

-- the answers that these would have had
abbrev pub answers_due : State → List Answer
answers_due p = answers_to (model p) (steps_due p)

-- those calls were done on p in one, as `creek` runs them one after the other, and q is the state then
pub record DoneInOne (p : State) (done : List Call) (q : State) : Type 0 where
  pub state : model q ≡ run (model p) done
  pub invariant : Inv q

-- from p those calls lead to q with those answers: each of the five calls, and all due steps at once wherever they are called, get the
-- state that the last one returned and keep their contract, which supposes the invariant; all due steps at once stand in the lists for
-- the single steps and their answers, and so do calls done in one, as by a message received (`specs/Received`), for these calls
pub data Leads : State → List Call → List Answer → State → Type 0 where
  stay : {p : State} → Leads p [] [] p
  call : {p q : State} {c : Call} {cs : List Call} {answers : List Answer} (r : Called)
      → (Inv p → Kept p c r) → Leads r.state cs answers q → Leads p (c ∷ cs) (r.answer ∷ answers) q
  all_due_is : {p q : State} {cs : List Call} {answers : List Answer} (r : DueOutcome)
      → (Inv p → RunDue p r) → Leads r.state cs answers q → Leads p (steps_due p ++ cs) (answers_due p ++ answers) q
  in_one : {p q : State} {done cs : List Call} {answers : List Answer} (r : State)
      → (Inv p → DoneInOne p done r) → Leads r cs answers q → Leads p (done ++ cs) (answers_to (model p) done ++ answers) q

-- number, response and mark of each answer that has a mark
abbrev pub replies_in : List Answer → List Reply
replies_in answers = map reply_in (keep is_awaited answers)

-- ---- demand 3 of the panel

-- what holds of the panel `last` to which k steps, each due then, led from q, with those answers
pub record DueStepsDone (q : State) (k : ℕ) (answers : List Answer) (last : State) : Type 0 where
  -- each is accepted
  pub accepted : refusals_in answers ≡ replicate k refused.accepted
  -- the panel is idle exactly when as many are done as it reported owed
  pub idle_exactly : is_idle (model last).book.execution ≡ eqb k (owed_shown (model q))
  -- its registers then: one replay of the settled requests in their order and then the unsettled ones, which are in clock order
  pub replayed : k ≡ owed_shown (model q)
      → last.registers ≡ replay (operations ((model q).book.plan.committed ++ (model q).book.plan.tentative))

-- what holds of what all due steps at once returned on q
pub record AllDueDone (q : State) (r : DueOutcome) : Type 0 where
  -- the same as of the single steps, as many as the panel reported owed
  pub steps : DueStepsDone q (owed_shown (model q)) (answers_due q) r.state
  -- the counters shown have grown by exactly the undos and carry-outs that it says it did
  pub undos : undos_shown (model r.state) ≡ undos_shown (model q) + r.undos
  pub executions : executions_shown (model r.state) ≡ executions_shown (model q) + r.executions
  -- the replies that it gives are those of the single steps, with zeros behind them
  pub count : r.count ≡ length (replies_in (answers_due q))
  pub replies : r.replies ≡ replies_in (answers_due q) ++ replicate (most_replies - r.count) no_reply

module _ (panels own : ℕ) (calls : List Call) where
  -- the shift book after those calls
  abbrev pub shift_book : Book
  shift_book = noted_all (opened_book panels own) calls

  -- how many calls of a kind it accepted
  abbrev pub accepted_calls : (Call → Bool) → ℕ
  accepted_calls kind = accepted_in (opened_book panels own) calls kind

  -- what holds of the panel q to which they led, with those answers, from what fresh returned; all due steps at once, wherever they were
  -- called, stand in the list for the single steps (`steps_due`), and in the answers for theirs (`answers_due`)
  pub record PanelDemand3 (answers : List Answer) (q : State) : Type 0 where
    -- the panel's five lists and its known set are the book's, and with them the requests on the board, due and idle
    pub book : (model q).book ≡ shift_book
    -- the accepted calls are those that the book accepts, and the others have its refusal numbers
    pub refused_alike : refusals_in answers ≡ refusals (opened_book panels own) calls
    -- every field of every answer is as `creek` has it
    pub answered : answers ≡ answers_to (fresh panels own) calls
    -- the registers are one replay of the requests on the board
    pub replayed : q.registers ≡ replay (operations (board shift_book.execution))
    -- with n requests and s settlements accepted, the undos done and those still on the undo list number together at most the bound
    pub bounded : undos_shown (model q) + length shift_book.execution.rollback
        ≤ most_undos (accepted_calls brings_request) (accepted_calls is_commit)
    -- carry-outs done exceed undos done by exactly the number of requests on the board
    pub on_board_is : executions_shown (model q) ≡ undos_shown (model q) + length (board shift_book.execution)
    -- the counts shown are exactly those of the accepted calls in the list
    pub requests_shown_is : requests_shown (model q) ≡ accepted_calls brings_request
    pub commits_shown_is : commits_shown (model q) ≡ accepted_calls is_commit
    pub undos_shown_is : undos_shown (model q) ≡ accepted_calls is_undo
    pub executions_shown_is : executions_shown (model q) ≡ accepted_calls is_execute
    -- what it reports owed is what the book owes
    pub owed_shown_is : owed_shown (model q) ≡ owed shift_book.execution
    -- if from there only the step that is due is called
    pub due_steps_done : (k : ℕ) (more : List Answer) (last : State) → k ≤ owed_shown (model q) → Leads q (due_calls k shift_book) more last
        → DueStepsDone q k more last
    -- if from there all due steps are called at once
    pub all_due_done : (r : DueOutcome) → RunDue q r → AllDueDone q r
    -- the unsettled list is in clock order
    pub clock_order : Ordered before shift_book.plan.tentative
    -- neither step counter is ever above 262,656
    pub undos_few : undos_shown (model q) ≤ most_steps
    pub executions_few : executions_shown (model q) ≤ most_steps
