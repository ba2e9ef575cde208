-- The memory that holds a replica of `creek`: its requests by slot, and its lists as arrays of slots.
use Rattle.std.specs.Prelude.{ℕ, zero, suc, ◌-◌, ◌/◌, ◌%◌, List, [], ◌∷◌, ◌++◌, map, length, get_or, replicate}
use Rattle.std.proofs.Math.Option.{Option, none, some}
use Rattle.lists.specs.Lists.{find}
use Rattle.sets.specs.declared.Context.{Context}
use Rattle.request.specs.declared.Request.{Request}
use Rattle.numbers.specs.Numbers.{panel_no, clock_reading, most_panels}
use Rattle.numbers.specs.internal.Slots.{slot_of, number_of}
use Rattle.sets.specs.Sets.{empty_set, join}
use Rattle.request.specs.Request.{no_request}
use Rattle.effects.specs.Effect.{response}
use Rattle.registers.specs.Rollback.{saved_of, saved_word}
use Rattle.effects.specs.Replay.{replay}
use Rattle.ordering.specs.Slots.{most_slots}
use Rattle.store.specs.Requests.{word_of, most_words}
use Rattle.creek.specs.Plan.{order, has_number, last_event, last_clock}
use Rattle.creek.specs.Execution.{board, operations}
use Rattle.creek.specs.Calls.{Replica}
use Rattle.replica.specs.State.{State}
use Rattle.replica.specs.internal.Model.{operation_at, registers_before}

-- ---- requests as arrays

-- f of each place below n
unfoldable pub table : ℕ → (ℕ → ℕ) → List ℕ
table zero f = []
table (suc n) f = f 0 ∷ table n (λ k. f (suc k))

-- that request, zeros where there is none
abbrev pub or_none : Option Request → Request
or_none none = no_request
or_none (some x) = x

-- the request of a slot among l, zeros where there is none
abbrev pub at_slot : List Request → ℕ → Request
at_slot l slot = or_none (find (has_number (number_of slot)) l)

-- the slot of a request
abbrev pub slot_in : Request → ℕ
slot_in x = slot_of x.number

-- the slots of l and zeros behind them
abbrev pub slots_of : List Request → List ℕ
slots_of l = map slot_in l ++ replicate (most_slots - length l) 0

-- the numbers of l
unfoldable pub number_set : List Request → Context
number_set [] = empty_set
number_set (x ∷ xs) = join (number_set xs) x.number

-- by slot what l has there: the clocks, the words of what is asked for, the words of the contexts
abbrev pub clocks_of : List Request → List ℕ
clocks_of l = table most_slots (λ slot. (at_slot l slot).clock.0)

abbrev pub asked_of : List Request → List ℕ
asked_of l = table most_slots (λ slot. word_of (at_slot l slot).asked)

abbrev pub contexts_of : List Request → List ℕ
contexts_of l = table most_words (λ k. get_or (at_slot l (k / most_panels)).context.words (k % most_panels) 0)

-- by place on a board what is saved before each request and what it responds
abbrev pub saved_on : List Request → List ℕ
saved_on l = table most_slots (λ k. saved_word (saved_of (operation_at l k) (registers_before l k)))

abbrev pub responses_on : List Request → List ℕ
responses_on l = table most_slots (λ k. response (operation_at l k) (registers_before l k))

-- ---- a replica as a memory

-- the requests held, in the standing order
abbrev pub held_by : Replica → List Request
held_by r = order r.book.plan

-- the requests on the board
abbrev pub board_by : Replica → List Request
board_by r = board r.book.execution

-- the memory of a panel whose replica is r
unfoldable pub memory_of : Replica → State
memory_of r = record {
  panels = r.book.plan.panels;
  own = panel_no r.book.plan.own;
  events = last_event r.book.plan;
  clock = clock_reading (last_clock r.book.plan);
  committed = length r.book.plan.committed;
  ordered = length (held_by r);
  executed = length r.book.execution.executed;
  stacked = length (board_by r);
  commits = r.commits;
  counters = r.counters;
  held = number_set (held_by r);
  known = r.book.plan.known;
  awaiting = r.awaiting;
  clocks = clocks_of (held_by r);
  askings = asked_of (held_by r);
  contexts = contexts_of (held_by r);
  order = slots_of (held_by r);
  stack = slots_of (board_by r);
  registers = replay (operations (board_by r));
  saved = saved_on (board_by r);
  responses = responses_on (board_by r);
  settled = number_set r.book.plan.committed;
}
