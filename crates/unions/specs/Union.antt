-- One set put into another, both in words.
use Rattle.std.specs.Prelude.{ℕ, ◌≡◌, ◌||◌, List, length}
use Rattle.numbers.specs.Numbers.{most_panels}
use Rattle.ordering.specs.Slots.{IsSlot, in_words}

-- `after` has the numbers of `words` and of `others`
pub record United (words others after : List ℕ) : Type 0 where
  pub members : (t : ℕ) → IsSlot t → in_words after t ≡ (in_words words t || in_words others t)
  pub long : length after ≡ most_panels
