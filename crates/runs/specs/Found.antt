-- What is found in a run of bytes, one message behind the other, up to the first that cannot be read.
use Rattle.std.specs.Prelude.{ℕ, zero, suc, ◌-◌, List, [], ◌∷◌, length}
use Rattle.wire.specs.Reader.{Outcome, message, end, refused, read_at}

-- how many of the bytes left are passed over behind the first byte of what is found: the rest of a message, or all of them, since what
-- cannot be read ends the reading
abbrev pub passed : Outcome → ℕ → ℕ
passed (message m n) left = n - 1
passed end left = left
passed (refused w) left = left

-- what is found in the `left` bytes of s from `at` on, of which the first `skip` are passed over
unfoldable pub found : List ℕ → ℕ → ℕ → ℕ → List Outcome
found s at skip zero = []
found s at zero (suc left) = read_at s at ∷ found s (suc at) (passed (read_at s at) left) left
found s at (suc skip) (suc left) = found s (suc at) skip left

-- what is found from a place on
abbrev pub found_from : List ℕ → ℕ → List Outcome
found_from s at = found s at 0 (length s - at)
