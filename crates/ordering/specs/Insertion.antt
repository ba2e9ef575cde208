-- The place of a request in an order, and insertion at a place of a list in an array.
use Rattle.std.specs.Prelude.{ℕ, ◌+◌, ◌<◌, ◌≤◌, ◌≡◌, true, not, List, length, take, drop, get_or}
use Rattle.std.proofs.Math.Seq.{slice}
use Rattle.lists.specs.Places.{insert_at, leading}
use Rattle.ordering.specs.Slots.{most_slots, OrderAsks, comes_before}

-- the place of the request of that clock reading and slot among the places from..to of an order: behind those at the front that it does
-- not come before
abbrev pub place_for : List ℕ → List ℕ → (from to clock slot : ℕ) → ℕ
place_for clocks order from to clock slot = from + leading (λ t. not (comes_before clocks clock slot t)) (slice from to order)

-- what the search for the place of a request asks of the places from..to: they can be compared, and once the request comes before one
-- of them, it comes before all behind it
pub record PlaceAsks (clocks slots : List ℕ) (from to clock slot : ℕ) : Type 0 where
  pub order : OrderAsks clocks slots from to
  pub split :
      (i j : ℕ) → from ≤ i → i ≤ j → j < to
      → comes_before clocks clock slot (get_or slots i 0) ≡ true → comes_before clocks clock slot (get_or slots j 0) ≡ true

-- what an insertion at place `at` of the first n asks: the place is among them or right behind, and the array has room
pub record InsertionAsks (xs : List ℕ) (n at : ℕ) : Type 0 where
  pub place : at ≤ n
  pub room : n < most_slots
  pub long : length xs ≡ most_slots

-- xs became ys: s stands at place `at` of the first n, which are one more now; behind them nothing changed
pub record Inserted (xs : List ℕ) (n at s : ℕ) (ys : List ℕ) : Type 0 where
  pub first : take (n + 1) ys ≡ insert_at at s (take n xs)
  pub rest : drop (n + 1) ys ≡ drop (n + 1) xs
  pub long : length ys ≡ most_slots
