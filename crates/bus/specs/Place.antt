-- A reader at the start of its run of bytes, the message at its place, and the reader behind it.
use Rattle.std.specs.Prelude.{ℕ, ◌+◌, List}
use Rattle.std.specs.Borrow.{Bor}
use Rattle.wire.specs.Reader.{Outcome, taken_of, read_at}
use Rattle.bus.specs.declared.Reader.{Reader}

-- a reader of this run of bytes, at its start
abbrev pub opened : Bor (List ℕ) → Reader
opened s = record { bytes = s; at = 0 }

-- the outcome at the reader's place: a message, the end, or a refusal
abbrev pub outcome : Reader → Outcome
outcome r = read_at r.bytes.now r.at

-- the same run of bytes, past the bytes taken
abbrev pub advanced : Reader → Reader
advanced r = record { bytes = r.bytes; at = r.at + taken_of (outcome r) }
