-- How many numbers one set has that another lacks, both in words.
use Rattle.std.specs.Prelude.{ℕ, Bool, not, ◌&&◌, List}
use Rattle.lists.specs.Tally.{tally}
use Rattle.numbers.specs.Numbers.{most_events}
use Rattle.sets.specs.Sets.{bit}
use Rattle.ordering.specs.Slots.{most_slots, in_words}

-- how many bits the word w has that v lacks
unfoldable pub lacked_bits : ℕ → ℕ → ℕ
lacked_bits w v = tally most_events (λ k. bit k w && not (bit k v))

-- the number of slot t is in `words` and not in `others`
abbrev pub named_beside : List ℕ → List ℕ → ℕ → Bool
named_beside words others t = in_words words t && not (in_words others t)

-- how many numbers are in `words` and not in `others`
unfoldable pub lacked_count : List ℕ → List ℕ → ℕ
lacked_count words others = tally most_slots (named_beside words others)
