-- The worthless panels of document 01's condition (c), over the records that the calls' contracts cite: what a panel is to its callers,
-- when it keeps its contracts, the five ways to be worthless, three more of all due steps at once and one of messages received, and the
-- statement that each of them breaks a contract (`no_worthless_panel` in `proofs/Worthless`).
use Prim.{Unit}
use Rattle.std.specs.Prelude.{ℕ, ◌+◌, ◌≤◌, ◌<◌, ◌≡◌, Bool, List, [], ◌∷◌, ◌++◌, map, get_or}
use Rattle.request.specs.Operations.{last_register}
use Rattle.request.specs.Refusal as refused
use Rattle.effects.specs.Replay.{replay}
use Rattle.creek.specs.declared.Answer.{Answer}
use Rattle.creek.specs.Execution.{operations}
use Rattle.creek.specs.Book.{Call, execute}
use Rattle.creek.specs.Calls.{is_undo, is_execute}
use Rattle.creek.specs.History.{answers_to}
use Rattle.creek.specs.Showing.{requests_shown, commits_shown, undos_shown, executions_shown, owed_shown}
use Rattle.creek.specs.examples.Notation.{set_to, make}
use Rattle.replica.specs.State.{State, Opened, Called}
use Rattle.due.specs.Due.{DueOutcome, no_reply, RunDue}
use Rattle.replica.specs.declared.RegisterValue.{RegisterValue}
use Rattle.replica.specs.declared.PlacedRequest.{PlacedRequest}
use Rattle.replica.specs.Promises.{Fresh, Kept}
use Rattle.replica.specs.internal.Model.{model, Inv}
use Rattle.replica.specs.Shown.{RegisterShown, PlaceShown}
use Rattle.wire.specs.Reader.{read_at}
use Rattle.intake.specs.Intake.{Received}
use Rattle.history.specs.History.{steps_due, answers_due, accepted_calls}
use Rattle.history.specs.Received.{calls_in, Reception}

-- what may be called on a panel: one of the five calls, all due steps at once, or to receive what stands at a place of a run of bytes
pub data PanelCall : Type 0 where
  single : Call → PanelCall
  run_due : PanelCall
  receive : List ℕ → ℕ → PanelCall

-- the calls of `creek` that it stands for on p: all due steps at once for the single steps, a message received for its call
abbrev pub stands_for : State → PanelCall → List Call
stands_for p (single c) = c ∷ []
stands_for p run_due = steps_due p
stands_for p (receive s at) = calls_in (read_at s at)

-- those calls, each a single one
abbrev pub singly : List Call → List PanelCall
singly calls = map single calls

-- a panel as its callers see it: any functions for fresh, the five calls, all due steps at once, receiving, and the showing calls
pub record Panel : Type 0 where
  pub fresh : ℕ → ℕ → Opened
  pub call : State → Call → Called
  pub run_due_is : State → DueOutcome
  pub receive : State → List ℕ → ℕ → Reception
  pub register : State → ℕ → RegisterValue
  pub requests : State → ℕ
  pub commits : State → ℕ
  pub undos : State → ℕ
  pub executions : State → ℕ
  pub owed : State → ℕ
  pub place : State → ℕ → PlacedRequest

-- ---- a panel that keeps its contracts

module _ (panel : Panel) where
  -- the state that a call returns
  abbrev pub next : State → PanelCall → State
  next p (single c) = (panel.call p c).state
  next p run_due = (panel.run_due_is p).state
  next p (receive s at) = (panel.receive p s at).state

  -- the state after those calls, each on what the last one returned
  abbrev pub after : State → List PanelCall → State
  after p [] = p
  after p (c ∷ cs) = after (next p c) cs

  -- the calls of `creek` that those calls stand for
  abbrev pub stand_for : State → List PanelCall → List Call
  stand_for p [] = []
  stand_for p (c ∷ cs) = stands_for p c ++ stand_for (next p c) cs

  -- the answer to a call, for all due steps at once those of the single steps, and for a message received that of its call
  abbrev pub answer_to : State → PanelCall → List Answer
  answer_to p (single c) = (panel.call p c).answer ∷ []
  answer_to p run_due = answers_due p
  answer_to p (receive s at) = answers_to (model p) (calls_in (read_at s at))

  -- the answers to those calls
  abbrev pub answers_from : State → List PanelCall → List Answer
  answers_from p [] = []
  answers_from p (c ∷ cs) = answer_to p c ++ answers_from (next p c) cs

  -- the call keeps its contract, which supposes the invariant
  abbrev pub KeepsCall : State → PanelCall → Type 0
  KeepsCall p (single c) = Inv p → Kept p c (panel.call p c)
  KeepsCall p run_due = Inv p → RunDue p (panel.run_due_is p)
  KeepsCall p (receive s at) = Inv p → Received p (read_at s at) (panel.receive p s at).receipt (panel.receive p s at).state

  -- each of those calls keeps its contract
  abbrev pub KeepsCalls : State → List PanelCall → Type 0
  KeepsCalls p [] = Unit {0}
  KeepsCalls p (c ∷ cs) = KeepsCall p c × KeepsCalls (next p c) cs

  -- the state after those calls from what fresh returned
  abbrev pub reached : ℕ → ℕ → List PanelCall → State
  reached panels own calls = after (panel.fresh panels own).state calls

  -- fresh, those calls and the showing calls after them keep their contracts
  pub record Keeps (panels own : ℕ) (calls : List PanelCall) : Type 0 where
    pub fresh : Fresh panels own (panel.fresh panels own)
    pub kept : KeepsCalls (panel.fresh panels own).state calls
    pub register : (k : ℕ) → let q = reached panels own calls in Inv q → RegisterShown q k (panel.register q k)
    pub requests : let q = reached panels own calls in Inv q → panel.requests q ≡ requests_shown (model q)
    pub commits : let q = reached panels own calls in Inv q → panel.commits q ≡ commits_shown (model q)
    pub undos : let q = reached panels own calls in Inv q → panel.undos q ≡ undos_shown (model q)
    pub executions : let q = reached panels own calls in Inv q → panel.executions q ≡ executions_shown (model q)
    pub owed : let q = reached panels own calls in Inv q → panel.owed q ≡ owed_shown (model q)
    pub place : (k : ℕ) → let q = reached panels own calls in Inv q → PlaceShown q k (panel.place q k)

  -- ---- five ways to be worthless

  -- every state that a caller can get from fresh and the five calls has the property
  abbrev pub Everywhere : (State → Type 0) → Type 0
  Everywhere P = (panels own : ℕ) (calls : List Call) → P (reached panels own (singly calls))

  abbrev pub Accepts : State → Call → Type 0
  Accepts p c = (panel.call p c).answer.refusal ≡ refused.accepted

  -- it refuses each call
  abbrev pub RefusesEach : Type 0
  RefusesEach = Everywhere (λ p. (c : Call) → Accepts p c → ⊥)

  -- it gives a fixed reply: every carry-out that it accepts has this response, whatever the other calls answer
  abbrev pub RepliesAlways : ℕ → Type 0
  RepliesAlways response = Everywhere (λ p. Accepts p execute → (panel.call p execute).answer.response ≡ response)

  -- its calls leave the state alone
  abbrev pub LeavesAlone : Type 0
  LeavesAlone = Everywhere (λ p. (c : Call) → (panel.call p c).state ≡ p)

  -- it executes the whole to-do list at the first carry-out: the registers that it shows then are one replay of that list
  abbrev pub ExecutesAll : Type 0
  ExecutesAll = Everywhere (λ p. (k : ℕ) → k ≤ last_register → executions_shown (model p) ≡ 0 → Accepts p execute
      → (panel.register (panel.call p execute).state k).value ≡ get_or (replay (operations (model p).book.execution.todo)) k 0)

  -- how many calls of a kind are accepted among those that the calls stand for
  abbrev pub accepted_of : ℕ → ℕ → List PanelCall → (Call → Bool) → ℕ
  accepted_of panels own calls kind = accepted_calls panels own (stand_for (panel.fresh panels own).state calls) kind

  -- it invents counters: after those calls, all due steps at once among them, the two that it shows are not both the counts of accepted
  -- undos and carry-outs among the calls that they stand for
  abbrev pub InventsCounters : ℕ → ℕ → List PanelCall → Type 0
  InventsCounters panels own calls =
      (panel.undos (reached panels own calls) ≡ accepted_of panels own calls is_undo)
      × (panel.executions (reached panels own calls) ≡ accepted_of panels own calls is_execute)
      → ⊥

  -- ---- three more, of all due steps at once

  -- all due steps at once do nothing: they leave the state alone
  abbrev pub LeavesDue : Type 0
  LeavesDue = Everywhere (λ p. (panel.run_due_is p).state ≡ p)

  -- all due steps at once give a fixed reply: each reply among theirs has this response
  abbrev pub RepliesDueAlways : ℕ → Type 0
  RepliesDueAlways response = Everywhere (λ p. (place : ℕ) → place < (panel.run_due_is p).count
      → (get_or (panel.run_due_is p).replies place no_reply).response ≡ response)

  -- all due steps at once invent their counts: after those calls they return two that are not both what the counters shown grow by
  abbrev pub InventsDueCounts : ℕ → ℕ → List PanelCall → Type 0
  InventsDueCounts panels own calls =
      let p = reached panels own calls in
      let q = reached panels own (calls ++ run_due ∷ []) in
      (panel.undos q ≡ panel.undos p + (panel.run_due_is p).undos)
      × (panel.executions q ≡ panel.executions p + (panel.run_due_is p).executions)
      → ⊥

  -- ---- one more, of messages received

  -- what it receives does nothing: whatever its receipt says, the state is left alone
  abbrev pub ReceivesNothing : Type 0
  ReceivesNothing = (panels own : ℕ) (calls : List Call) (s : List ℕ) (at : ℕ)
      → let p = reached panels own (singly calls) in (panel.receive p s at).state ≡ p

-- ---- each breaks a contract

abbrev pub first_value : ℕ
first_value = 7

abbrev pub second_value : ℕ
second_value = 8

-- a set of register 0 is made
abbrev pub setting : ℕ → Call
setting value = make 1 (set_to 0 value)

-- two are made, and then those calls
abbrev pub two_sets : List Call → List Call
two_sets more = setting first_value ∷ setting second_value ∷ more

-- two are made, and then all due steps are called at once
abbrev pub two_sets_due : List PanelCall
two_sets_due = singly (two_sets []) ++ run_due ∷ []

-- document 01's second message: the weak request 1/1 with clock 5, add 3 to register 4
abbrev pub heard_message : List ℕ
heard_message = 18 ∷ 0 ∷ 1 ∷ 0 ∷ 1 ∷ 1 ∷ 5 ∷ 0 ∷ 0 ∷ 0 ∷ 3 ∷ 4 ∷ 0 ∷ 0 ∷ 3 ∷ 0 ∷ 0 ∷ 0 ∷ []

-- a panel that is worthless in one of these ways breaks a contract: one that invents counters wherever it shows or returns an invented
-- one, one that receives nothing where panel 0 of 2 receives that message, each of the others within the calls named here, in a shop of
-- one panel
pub record NotWorthless (panel : Panel) : Type 0 where
  pub refuses_each : RefusesEach panel → Keeps panel 1 0 (singly (two_sets [])) → ⊥
  pub replies_always : (response : ℕ) → RepliesAlways panel response → Keeps panel 1 0 (singly (two_sets (execute ∷ execute ∷ []))) → ⊥
  pub leaves_alone : LeavesAlone panel → Keeps panel 1 0 (singly (two_sets [])) → ⊥
  pub executes_all : ExecutesAll panel → Keeps panel 1 0 (singly (two_sets (execute ∷ []))) → ⊥
  pub invents_counters : (panels own : ℕ) (calls : List PanelCall) → InventsCounters panel panels own calls
      → Keeps panel panels own calls → ⊥
  pub leaves_due : LeavesDue panel → Keeps panel 1 0 two_sets_due → ⊥
  pub replies_due_always : (response : ℕ) → RepliesDueAlways panel response → Keeps panel 1 0 two_sets_due → ⊥
  pub invents_due_counts : (panels own : ℕ) (calls : List PanelCall) → InventsDueCounts panel panels own calls
      → Keeps panel panels own calls → Keeps panel panels own (calls ++ run_due ∷ []) → ⊥
  pub receives_nothing : ReceivesNothing panel → Keeps panel 2 0 (receive heard_message 0 ∷ []) → ⊥
