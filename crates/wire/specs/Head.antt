-- The head at a place of a run of bytes: whether a message stands there, of which kind and how long, told before its fields are read.
use Rattle.std.specs.Prelude.{ℕ, ◌≡◌, List, Option, Some, None, Result, Ok, Err}
use Rattle.wire.specs.declared.Head.{Head}
use Rattle.wire.specs.declared.Kind.{Kind}
use Rattle.wire.specs.Message.{BusMessage, kind_of, message_from}
use Rattle.wire.specs.Reader.{Outcome, message, end, refused, fields_at, read_at}

-- the head of each outcome: the kind of the message with the bytes taken, none at the end, or the refusal's number
unfoldable pub head_of : Outcome → Result (Option Head) ℕ
head_of (message m n) = Ok (Some (record { kind = kind_of m; taken = n }))
head_of end = Ok None
head_of (refused w) = Err w

-- the kind of the message, where there is one
unfoldable pub kind_found : Outcome → Option Kind
kind_found (message m n) = Some (kind_of m)
kind_found end = None
kind_found (refused w) = None

-- a message of this kind has its head at a place
abbrev pub GoodHead : Kind → List ℕ → ℕ → Type 0
GoodHead k s at = kind_found (read_at s at) ≡ Some k

-- the message that the fields of a kind make at a place
abbrev pub message_at : Kind → List ℕ → ℕ → BusMessage
message_at k s at = message_from k (fields_at k s at)
