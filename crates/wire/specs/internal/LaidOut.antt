-- A message that is laid out at a place, as facts.
use Rattle.std.specs.Prelude.{ℕ, ◌-◌, ◌≤◌, ◌≡◌, false, List, length}
use Rattle.wire.specs.declared.Kind.{Kind}
use Rattle.wire.specs.Layout.{least_size, most_size}
use Rattle.wire.specs.Reader.{length_at, fields_at, spare_set}

-- a message of this kind is laid out at a place: its length is one of the kind's, it is whole, and no spare byte is set
pub record LaidOut (k : Kind) (s : List ℕ) (at : ℕ) : Type 0 where
  pub least : least_size k ≤ length_at s at
  pub most : length_at s at ≤ most_size k
  pub whole : length_at s at ≤ length s - at
  pub clear : spare_set k (fields_at k s at) ≡ false
