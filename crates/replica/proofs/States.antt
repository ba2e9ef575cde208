-- The states that the calls lead to.
use Prim.Native.Nat.{ℕ, ◌+◌, ◌-◌}
use mathlib.Core.List.{List}
use lib.ListN.{get_or, set}
use Rattle.counters.specs.declared.Counters.{Counters}
use Rattle.numbers.specs.declared.Clock.{Clock}
use Rattle.replica.specs.State.{State}
use Rattle.replica.specs.internal.Cores.{packed, core_in, with_board, with_entered, with_settled}

-- p after an undo that left those registers and counters
abbrev pub undone_state : State → List ℕ → Counters → State
undone_state p registers counters =
    packed (with_board (core_in p) p.executed (p.stacked - 1)) counters p.held.words p.known.words p.awaiting.words p.clocks
    p.askings p.contexts p.order p.stack registers p.saved p.responses p.settled.words

-- p after an execution that left those registers, counters and numbers awaiting, with the word that was saved before it and its response
abbrev pub executed_state : State → List ℕ → ℕ → ℕ → List ℕ → Counters → State
executed_state p registers word v awaiting counters =
    packed (with_board (core_in p) (p.executed + 1) (p.executed + 1)) counters p.held.words p.known.words awaiting p.clocks
    p.askings p.contexts p.order (set p.stack p.executed (get_or p.order p.executed 0)) registers
    (set p.saved p.executed word) (set p.responses p.executed v) p.settled.words

-- p with those sets and tables, what is kept of the own requests, an order of one request more, and so much of the executed list kept
abbrev pub enlarged : State → (held known awaiting clocks askings contexts order : List ℕ) → ℕ → ℕ → Clock → State
enlarged p held known awaiting clocks askings contexts order executed events clock =
    packed (with_entered (core_in p) executed events clock) p.counters held known awaiting clocks askings contexts order p.stack
    p.registers p.saved p.responses p.settled.words

-- p after a settlement: with that order, of which so many are committed, so many executed, those numbers known, awaiting and settled, and
-- one settlement more
abbrev pub settled_state : State → List ℕ → ℕ → ℕ → (known awaiting settled : List ℕ) → State
settled_state p order committed executed known awaiting settled =
    packed (with_settled (core_in p) committed executed) p.counters p.held.words known awaiting p.clocks p.askings p.contexts
    order p.stack p.registers p.saved p.responses settled
