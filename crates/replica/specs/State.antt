-- A panel's memory as one record, of which the contracts speak; that of a shift's first moment; and what its calls lead to.
use Rattle.std.specs.Prelude.{ℕ, List, replicate}
use Rattle.counters.specs.declared.Counters.{Counters}
use Rattle.numbers.specs.declared.PanelNo.{PanelNo}
use Rattle.numbers.specs.declared.Clock.{Clock}
use Rattle.sets.specs.declared.Context.{Context}
use Rattle.numbers.specs.Numbers.{clock_reading}
use Rattle.sets.specs.Sets.{empty_set}
use Rattle.effects.specs.Replay.{zero_board}
use Rattle.ordering.specs.Slots.{most_slots}
use Rattle.store.specs.Requests.{most_words}
use Rattle.creek.specs.declared.Answer.{Answer}

-- ---- the memory

-- the numbers, the step counters, the sets of numbers and the arrays
pub record State : Type 0 where
  pub panels : ℕ
  pub own : PanelNo
  pub events : ℕ
  pub clock : Clock
  pub committed : ℕ
  pub ordered : ℕ
  pub executed : ℕ
  pub stacked : ℕ
  pub commits : ℕ
  pub counters : Counters
  pub held : Context
  pub known : Context
  pub awaiting : Context
  pub clocks : List ℕ
  pub askings : List ℕ
  pub contexts : List ℕ
  pub order : List ℕ
  pub stack : List ℕ
  pub registers : List ℕ
  pub saved : List ℕ
  pub responses : List ℕ
  pub settled : Context

-- ---- a shift's first moment

-- a shop of that many panels, that own panel, and zeros
abbrev pub first_memory : ℕ → PanelNo → State
first_memory panels own = record {
  panels = panels;
  own = own;
  events = 0;
  clock = clock_reading 0;
  committed = 0;
  ordered = 0;
  executed = 0;
  stacked = 0;
  commits = 0;
  counters = record { undos = 0; executions = 0 };
  held = empty_set;
  known = empty_set;
  awaiting = empty_set;
  clocks = replicate most_slots 0;
  askings = replicate most_slots 0;
  contexts = replicate most_words 0;
  order = replicate most_slots 0;
  stack = replicate most_slots 0;
  registers = zero_board;
  saved = replicate most_slots 0;
  responses = replicate most_slots 0;
  settled = empty_set;
}

-- ---- what the calls lead to

-- fresh: its refusal, and the state of a shift's first moment
pub record Opened : Type 0 where
  pub refusal : ℕ
  pub state : State

-- a call: its answer, and the state after it
pub record Called : Type 0 where
  pub answer : Answer
  pub state : State
