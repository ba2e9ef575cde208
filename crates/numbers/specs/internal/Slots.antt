-- Good numbers as a fact, and the places of numbers in a table of 512.
use Rattle.std.specs.Prelude.{ℕ, ◌+◌, ◌-◌, ◌*◌, ◌/◌, ◌%◌, ◌≤◌, ◌<◌}
use Rattle.numbers.specs.declared.Number.{Number}
use Rattle.numbers.specs.Numbers.{numbered, most_panels, most_events}

-- a good number in a shop of p panels, where `bad_number` is not met
pub record GoodNumber (p : ℕ) (n : Number) : Type 0 where
  pub panel : n.panel.0 < p
  pub least : 1 ≤ n.event.0
  pub most : n.event.0 ≤ most_events

-- the slot of n, its place in a table of 512
unfoldable pub slot_of : Number → ℕ
slot_of n = n.panel.0 * most_events + (n.event.0 - 1)

-- the number whose slot is s; a slot past the table counts round
unfoldable pub number_of : ℕ → Number
number_of s = numbered (s / most_events % most_panels) (s % most_events + 1)
