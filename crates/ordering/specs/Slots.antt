-- Slots: their table, what may be asked of an order of slots, clock order by slots, sets of numbers by slots.
use Rattle.std.specs.Prelude.{ℕ, ◌*◌, ◌/◌, ◌%◌, ◌<◌, ◌≤◌, ◌≡◌, Bool, true, List, [], ◌∷◌, length, get_or, ltb}
use Rattle.std.proofs.Math.Seq.{slice}
use Rattle.lists.specs.Places.{All}
use Rattle.sets.specs.declared.Context.{Context}
use Rattle.numbers.specs.Numbers.{most_panels, most_events}
use Rattle.numbers.specs.internal.Slots.{number_of}
use Rattle.numbers.specs.Lexicographic.{lexicographic}
use Rattle.sets.specs.Sets.{bit, leave}

-- the most slots, which is also the length of every array by slot and of every array of slots
abbrev pub most_slots : ℕ
most_slots = most_panels * most_events

-- t is the slot of some number
abbrev pub IsSlot : ℕ → Type 0
IsSlot t = t < most_slots

-- ---- what a function asks of its arrays

-- the places from..to lie in the array, and what stands there are slots
pub record Part (xs : List ℕ) (from to : ℕ) : Type 0 where
  pub rising : from ≤ to
  pub inside : to ≤ most_slots
  pub long : length xs ≡ most_slots
  pub slots : All IsSlot (slice from to xs)

-- of a comparison with slot t
pub record ComparisonAsks (clocks : List ℕ) (t : ℕ) : Type 0 where
  pub clocks_long : length clocks ≡ most_slots
  pub slot : IsSlot t

-- of a comparison with each of the places from..to of an order
pub record OrderAsks (clocks order : List ℕ) (from to : ℕ) : Type 0 where
  pub clocks_long : length clocks ≡ most_slots
  pub part : Part order from to

-- of two lists compared from place `at` on
pub record PartsAsk (xs : List ℕ) (n : ℕ) (ys : List ℕ) (m at : ℕ) : Type 0 where
  pub first : at ≤ n
  pub first_inside : n ≤ most_slots
  pub first_long : length xs ≡ most_slots
  pub second : at ≤ m
  pub second_inside : m ≤ most_slots
  pub second_long : length ys ≡ most_slots

-- ---- clock order

-- the request of clock reading c and slot s comes before the one in slot t in clock order: by clock reading, then slot
unfoldable pub comes_before : List ℕ → ℕ → ℕ → ℕ → Bool
comes_before clocks c s t = lexicographic c (get_or clocks t 0) (ltb s t)

-- the slots at places from..to stand in clock order
pub record InOrder (clocks order : List ℕ) (from to : ℕ) : Type 0 where
  pub rising :
      (i j : ℕ) → from ≤ i → i < j → j < to
      → comes_before clocks (get_or clocks (get_or order i 0) 0) (get_or order i 0) (get_or order j 0) ≡ true

-- ---- sets of numbers

-- the number of slot t is in the set of these words
unfoldable pub in_words : List ℕ → ℕ → Bool
in_words words t = bit (t % most_events) (get_or words (t / most_events) 0)

-- s without the numbers of those slots
unfoldable pub without : Context → List ℕ → Context
without s [] = s
without s (t ∷ ts) = without (leave s (number_of t)) ts
