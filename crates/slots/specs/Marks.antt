-- The set of the numbers that are settled: it has those of the first slots of an order, and after a settlement those settled then.
use Rattle.std.specs.Prelude.{ℕ, ◌≡◌, ◌||◌, List, length, take, eqb}
use Rattle.lists.specs.Lists.{one, count}
use Rattle.numbers.specs.Numbers.{most_panels}
use Rattle.ordering.specs.Slots.{IsSlot, in_words}

-- the words have the numbers of the first n slots of an order, each of which stands there once
pub record Marks (order : List ℕ) (n : ℕ) (words : List ℕ) : Type 0 where
  pub marked : (t : ℕ) → IsSlot t → count (eqb t) (take n order) ≡ one (in_words words t)

-- `after` has the numbers that were settled, those of the context `words` and that of s
pub record Marked (settled_words words : List ℕ) (s : ℕ) (after : List ℕ) : Type 0 where
  pub members : (t : ℕ) → IsSlot t → in_words after t ≡ (in_words settled_words t || (in_words words t || eqb s t))
  pub long : length after ≡ most_panels
