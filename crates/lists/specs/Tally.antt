-- How many numbers below a bound pass a test.
use Rattle.std.specs.Prelude.{ℕ, zero, suc, ◌+◌, Bool}
use Rattle.lists.specs.Lists.{one}

-- how many numbers below n pass the test
abbrev pub tally : ℕ → (ℕ → Bool) → ℕ
tally zero q = 0
tally (suc n) q = tally n q + one (q n)
