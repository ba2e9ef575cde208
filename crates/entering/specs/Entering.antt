-- A request enters: what is asked before, what the state is then, and what that asks and promises in a panel.
use Rattle.std.specs.Prelude.{ℕ, ◌+◌, ◌<◌, ◌≡◌, true, false, List, length}
use Rattle.numbers.specs.declared.Clock.{Clock}
use Rattle.numbers.specs.declared.Number.{Number}
use Rattle.numbers.specs.Numbers.{most_panels}
use Rattle.numbers.specs.internal.Slots.{GoodNumber, slot_of}
use Rattle.sets.specs.declared.Context.{Context}
use Rattle.sets.specs.Sets.{set_of, member}
use Rattle.request.specs.declared.Request.{Request}
use Rattle.ordering.specs.Insertion.{place_for}
use Rattle.creek.specs.Plan.{Plan, entered, last_event, last_clock}
use Rattle.creek.specs.Book.{planned}
use Rattle.counters.specs.Counted.{counted}
use Rattle.creek.specs.internal.Sound.{Sound, most_requests}
use Rattle.replica.specs.State.{State}
use Rattle.replica.specs.declared.Panel.{Panel}
use Rattle.replica.specs.Uses.{entering_uses}
use Rattle.replica.specs.Changes.{entering_changes}
use Rattle.replica.specs.Memory.{memory, SameSpare}
use Rattle.replica.specs.internal.Model.{plan_of, book_of, model, Inv}

-- ---- what enters, and what the state is then

-- x may enter: its number is good and not held, and the standing order has room
pub record Enters (p : State) (x : Request) : Type 0 where
  pub number : GoodNumber most_panels x.number
  pub absent : member p.held x.number ≡ false
  pub room : p.ordered < most_requests

-- what a state keeps of its own requests fits the plan a: the last event and clock reading, and only own requests await a reply
pub record OwnSoFar (own : ℕ) (a : Plan) (awaiting : Context) (events : ℕ) (clock : Clock) : Type 0 where
  pub words : length awaiting.words ≡ most_panels
  pub event : events ≡ last_event a
  pub reading : clock.0 ≡ last_clock a
  pub waits : (n : Number) → member awaiting n ≡ true → n.panel.0 ≡ own

-- p became q: x entered the plan, and the execution is adjusted to the new order; of the own requests q keeps what is given
pub record Entered (p : State) (x : Request) (awaiting : Context) (events : ℕ) (clock : Clock) (q : State) : Type 0 where
  pub replica : model q ≡ record {
    book = planned (entered (plan_of p) x) (book_of p).execution;
    awaiting = awaiting;
    commits = p.commits + 0;
    counters = counted (model p).counters 0 0;
  }
  pub invariant : OwnSoFar p.own.0 (entered (plan_of p) x) awaiting events clock → Sound (model q) → Inv q

-- ---- in a panel

-- p with those who await a reply, and that last own event and clock reading
abbrev pub owning : List ℕ → ℕ → Clock → State → State
owning awaiting events clock p = record {
  panels = p.panels;
  own = p.own;
  events = events;
  clock = clock;
  committed = p.committed;
  ordered = p.ordered;
  executed = p.executed;
  stacked = p.stacked;
  commits = p.commits;
  counters = p.counters;
  held = p.held;
  known = p.known;
  awaiting = set_of awaiting;
  clocks = p.clocks;
  askings = p.askings;
  contexts = p.contexts;
  order = p.order;
  stack = p.stack;
  registers = p.registers;
  saved = p.saved;
  responses = p.responses;
  settled = p.settled;
}

-- x, of that slot and place, may enter some panel that came from fresh and the calls and has what is used as p has it
pub record EnterAsks (p : Panel) (slot at : ℕ) (x : Request) : Type 0 where
  pub panel : Panel
  pub invariant : Inv (memory (entering_uses p panel))
  pub enters : Enters (memory (entering_uses p panel)) x
  pub its_slot : slot ≡ slot_of x.number
  pub its_place : at ≡ place_for p.clocks p.order panel.committed p.ordered x.clock.0 slot
  pub words : length x.context.words ≡ most_panels

-- x entered p, which became q
pub record EnterKept (p : Panel) (slot at : ℕ) (x : Request) (q : Panel) : Type 0 where
  -- of every such panel; of the own requests it keeps what it kept, or what is put there afterwards
  pub kept : (r : Panel) → Inv (memory (entering_uses p r)) → Enters (memory (entering_uses p r)) x
      → at ≡ place_for p.clocks p.order r.committed p.ordered x.clock.0 slot
      → (awaiting : List ℕ) (events : ℕ) (clock : Clock)
      → Entered (memory (entering_uses p r)) x (set_of awaiting) events clock
      (owning awaiting events clock (memory (entering_changes (entering_uses p r) q)))
  pub awaiting : q.awaiting ≡ p.awaiting
  pub spare : SameSpare p q
  pub others : q ≡ entering_changes p q
