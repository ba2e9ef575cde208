-- Further steps counted, and how far the counting goes.
use Rattle.std.specs.Prelude.{ℕ, ◌+◌, ◌%◌, ◌^◌}
use Rattle.counters.specs.declared.Counters.{Counters}

-- neither step counter is ever above this
abbrev pub most_steps : ℕ
most_steps = 262656

-- the counters after so many further undos
abbrev pub undos_counted : Counters → ℕ → Counters
undos_counted c steps = record { undos = c.undos + steps; executions = c.executions }

-- the counters after so many further executions (carry-outs)
abbrev pub executions_counted : Counters → ℕ → Counters
executions_counted c steps = record { undos = c.undos; executions = c.executions + steps }

-- the counters after so many further steps of each
abbrev pub counted : Counters → (undos executions : ℕ) → Counters
counted c undos executions = executions_counted (undos_counted c undos) executions

-- ---- as 32 bits hold them, which is the same where a counter stays within the most steps

abbrev pub undos_held : Counters → ℕ → Counters
undos_held c steps = record { undos = (c.undos + steps) % 2 ^ 32; executions = c.executions }

abbrev pub executions_held : Counters → ℕ → Counters
executions_held c steps = record { undos = c.undos; executions = (c.executions + steps) % 2 ^ 32 }
