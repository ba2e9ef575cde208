-- The numbers of a panel as one record, a memory made of them and of arrays, and those that the calls lead to: of these the functions over
-- the parts of a panel and the proofs speak.
use Rattle.std.specs.Prelude.{ℕ, ◌+◌, List}
use Rattle.counters.specs.declared.Counters.{Counters}
use Rattle.numbers.specs.declared.PanelNo.{PanelNo}
use Rattle.numbers.specs.declared.Clock.{Clock}
use Rattle.sets.specs.Sets.{set_of}
use Rattle.replica.specs.State.{State}

-- the numbers of a panel
pub record Core : Type 0 where
  pub panels : ℕ
  pub own : PanelNo
  pub events : ℕ
  pub clock : Clock
  pub committed : ℕ
  pub ordered : ℕ
  pub executed : ℕ
  pub stacked : ℕ
  pub commits : ℕ

-- the memory of a panel with that core, those counters and those arrays
abbrev pub packed : Core → Counters
    → (held known awaiting clocks askings contexts order stack registers saved responses settled : List ℕ) → State
packed core counters held known awaiting clocks askings contexts order stack registers saved responses settled = record {
  panels = core.panels;
  own = core.own;
  events = core.events;
  clock = core.clock;
  committed = core.committed;
  ordered = core.ordered;
  executed = core.executed;
  stacked = core.stacked;
  commits = core.commits;
  counters = counters;
  held = set_of held;
  known = set_of known;
  awaiting = set_of awaiting;
  clocks = clocks;
  askings = askings;
  contexts = contexts;
  order = order;
  stack = stack;
  registers = registers;
  saved = saved;
  responses = responses;
  settled = set_of settled;
}

-- the core of a panel's memory
abbrev pub core_in : State → Core
core_in p = record {
  panels = p.panels;
  own = p.own;
  events = p.events;
  clock = p.clock;
  committed = p.committed;
  ordered = p.ordered;
  executed = p.executed;
  stacked = p.stacked;
  commits = p.commits;
}

-- with so many in the order
abbrev pub with_ordering : Core → ℕ → Core
with_ordering core ordered = record {
  panels = core.panels;
  own = core.own;
  events = core.events;
  clock = core.clock;
  committed = core.committed;
  ordered = ordered;
  executed = core.executed;
  stacked = core.stacked;
  commits = core.commits;
}

-- with those counts of the executed list and of the board
abbrev pub with_board : Core → ℕ → ℕ → Core
with_board core executed stacked = record {
  panels = core.panels;
  own = core.own;
  events = core.events;
  clock = core.clock;
  committed = core.committed;
  ordered = core.ordered;
  executed = executed;
  stacked = stacked;
  commits = core.commits;
}

-- with one request more, so much of the executed list kept, and that last own event and clock reading
abbrev pub with_entered : Core → ℕ → ℕ → Clock → Core
with_entered core executed events clock = record {
  panels = core.panels;
  own = core.own;
  events = events;
  clock = clock;
  committed = core.committed;
  ordered = core.ordered + 1;
  executed = executed;
  stacked = core.stacked;
  commits = core.commits;
}

-- with one settlement more, so many committed and so much of the executed list kept
abbrev pub with_settled : Core → ℕ → ℕ → Core
with_settled core committed executed = record {
  panels = core.panels;
  own = core.own;
  events = core.events;
  clock = core.clock;
  committed = committed;
  ordered = core.ordered;
  executed = executed;
  stacked = core.stacked;
  commits = core.commits + 1;
}
