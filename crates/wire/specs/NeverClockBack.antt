-- Refusal 5, clock back, is never met any more (document 02, request (b)): neither the reader nor the writer answers it, whatever the
-- bytes, the place, the message and the room. Proved as `never_clock_back` in `proofs/NeverClockBack`.
use Rattle.std.specs.Prelude.{ℕ, List}
use Rattle.request.specs.Refusal.{NotClockBack}
use Rattle.wire.specs.Message.{BusMessage}
use Rattle.wire.specs.Reader.{refusal_of, read_at}
use Rattle.wire.specs.Writer.{write_refusal}

pub record NeverClockBack : Type 0 where
  pub reads : (s : List ℕ) (at : ℕ) → NotClockBack (refusal_of (read_at s at))
  pub writes : (m : BusMessage) (room : ℕ) → NotClockBack (write_refusal m room)
