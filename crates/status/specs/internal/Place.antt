-- The place of a slot in an order, and a refused status.
use Rattle.std.specs.Prelude.{ℕ, ◌≤◌, ◌≡◌, false, not, List, length, eqb}
use Rattle.lists.specs.Places.{leading}
use Rattle.ordering.specs.Slots.{most_slots}
use Rattle.status.specs.declared.RequestStatus.{RequestStatus}

-- how many of those slots stand before that one
abbrev pub stand_before : ℕ → List ℕ → ℕ
stand_before slot l = leading (λ t. not (eqb slot t)) l

-- what looking through the first n of an order asks: they lie in the array
pub record BeforeAsks (order : List ℕ) (n : ℕ) : Type 0 where
  pub inside : n ≤ most_slots
  pub long : length order ≡ most_slots

-- a refusal with zeros
abbrev pub refused_status : ℕ → RequestStatus
refused_status w = record { response = 0; place = 0; settled = false; awaited = false; executed = false; refusal = w }
