-- The state as a replica of `creek`: the map, and the invariant that fresh establishes and every call keeps.
use Rattle.std.specs.Prelude.{ℕ, ◌≤◌, ◌<◌, ◌≡◌, true, List, map, length, take, drop, get_or, eqb}
use Rattle.numbers.specs.declared.Number.{Number}
use Rattle.request.specs.declared.Operation.{Operation}
use Rattle.request.specs.declared.Request.{Request}
use Rattle.numbers.specs.Numbers.{most_panels}
use Rattle.numbers.specs.internal.Slots.{number_of}
use Rattle.request.specs.Operations.{no_operation}
use Rattle.sets.specs.Sets.{member}
use Rattle.registers.specs.declared.Saved.{Saved}
use Rattle.effects.specs.Effect.{response}
use Rattle.registers.specs.Rollback.{saved_of, saved_in}
use Rattle.effects.specs.Replay.{replay}
use Rattle.lists.specs.Lists.{one, count}
use Rattle.lists.specs.Places.{All}
use Rattle.ordering.specs.Slots.{IsSlot}
use Rattle.slots.specs.Marks.{Marks}
use Rattle.store.specs.Requests.{request_at, Long}
use Rattle.creek.specs.Plan.{Plan, last_event, last_clock}
use Rattle.creek.specs.Book.{Book}
use Rattle.creek.specs.Execution.{operations}
use Rattle.creek.specs.internal.Stack.{stacked}
use Rattle.creek.specs.Calls.{Replica, fresh}
use Rattle.creek.specs.internal.Sound.{Sound, most_requests}
use Rattle.replica.specs.State.{State}

-- ---- requests at slots

-- the requests at those slots
abbrev pub requests_at : State → List ℕ → List Request
requests_at q slots = map (request_at q.clocks q.askings q.contexts) slots

-- ---- the map

-- the slots of the standing order
abbrev pub order_slots : State → List ℕ
order_slots q = take q.ordered q.order

-- the slots of the requests on the board
abbrev pub board_slots : State → List ℕ
board_slots q = take q.stacked q.stack

-- the standing order
abbrev pub order_of : State → List Request
order_of q = requests_at q (order_slots q)

-- the requests on the board
abbrev pub board_of : State → List Request
board_of q = requests_at q (board_slots q)

unfoldable pub plan_of : State → Plan
plan_of q = record {
  panels = q.panels;
  own = q.own.0;
  known = q.known;
  committed = take q.committed (order_of q);
  tentative = drop q.committed (order_of q);
}

unfoldable pub book_of : State → Book
book_of q = record { plan = plan_of q; execution = stacked (board_of q) q.executed (order_of q) }

unfoldable pub model : State → Replica
model q = record {
  book = book_of q;
  awaiting = q.awaiting;
  commits = q.commits;
  counters = q.counters;
}

-- ---- the invariant

-- the operation of the request at place k on a board
abbrev pub operation_at : List Request → ℕ → Operation
operation_at board k = get_or (operations board) k no_operation

-- the registers before the request at place k on a board was executed
abbrev pub registers_before : List Request → ℕ → List ℕ
registers_before board k = replay (operations (take k board))

-- what is saved at place k on the board
abbrev pub saved_at : List ℕ → ℕ → Saved
saved_at saved k = saved_in (get_or saved k 0)

-- the counts lie within their arrays
pub record Counts (q : State) : Type 0 where
  pub committed : q.committed ≤ q.ordered
  pub ordered : q.ordered ≤ most_requests
  pub executed : q.executed ≤ q.stacked
  pub stacked : q.stacked ≤ most_requests
  pub done : q.executed ≤ q.ordered

-- each array is as long as its type says
pub record Lengths (q : State) : Type 0 where
  pub requests : Long q.clocks q.askings q.contexts
  pub order : length q.order ≡ most_requests
  pub stack : length q.stack ≡ most_requests
  pub saved : length q.saved ≡ most_requests
  pub responses : length q.responses ≡ most_requests
  pub held : length q.held.words ≡ most_panels
  pub awaiting : length q.awaiting.words ≡ most_panels
  pub settled : length q.settled.words ≡ most_panels

-- the registers, and by place on the board what is kept to roll back and to reply
pub record Log (board : List Request) (registers saved responses : List ℕ) : Type 0 where
  pub replayed : registers ≡ replay (operations board)
  pub restores : (k : ℕ) → k < length board → saved_at saved k ≡ saved_of (operation_at board k) (registers_before board k)
  pub replies : (k : ℕ) → k < length board → get_or responses k 0 ≡ response (operation_at board k) (registers_before board k)

-- what a call may suppose of a state: that it came from fresh and the calls
pub record Inv (q : State) : Type 0 where
  pub counts : Counts q
  pub lengths : Lengths q
  -- the set of numbers held has those of the standing order
  pub held : (slot : ℕ) → IsSlot slot → count (eqb slot) (order_slots q) ≡ one (member q.held (number_of slot))
  -- the set of numbers settled has those of the committed requests
  pub settled : Marks q.order q.committed q.settled.words
  -- in the standing order and on the board stand slots
  pub order_slots_is : All IsSlot (order_slots q)
  pub board_slots_is : All IsSlot (board_slots q)
  pub log : Log (board_of q) q.registers q.saved q.responses
  -- the own requests so far
  pub events : q.events ≡ last_event (plan_of q)
  pub clock : q.clock.0 ≡ last_clock (plan_of q)
  -- only own requests await a reply
  pub awaiting_own : (n : Number) → member q.awaiting n ≡ true → n.panel.0 ≡ q.own.0
  pub sound : Sound (model q)

-- ---- a shift's first moment

pub record GoodShop (panels own : ℕ) : Type 0 where
  pub few : panels ≤ most_panels
  pub below : own < panels

-- q is the state of a shift's first moment in that shop
pub record Empty (panels own : ℕ) (q : State) : Type 0 where
  pub state : model q ≡ fresh panels own
  pub invariant : Inv q
