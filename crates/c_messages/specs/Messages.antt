-- Messages, and what the reader and the writer answer, as a caller in another language sees them.
use Rattle.std.specs.Prelude.{ℕ, ◌≡◌, true, false, cond, List, length, Result, Ok, Err}
use Rattle.request.specs.Refusal.{accepted}
use Rattle.request.specs.Request.{bare_request, no_request}
use Rattle.wire.specs.declared.Message.TheVariants.{Request as request, Settlement as settlement}
use Rattle.wire.specs.Message.{BusMessage, Fits}
use Rattle.wire.specs.Reader.{Outcome, message, end, refused, refusal_of, taken_of}
use Rattle.wire.specs.Writer.{write_answer, after_write}
use Rattle.c_messages.specs.declared.Message.{Message}
use Rattle.c_messages.specs.declared.Reading.{Reading}
use Rattle.c_messages.specs.declared.Written.{Written}

-- a message as C holds it
abbrev pub shown_for : BusMessage → Message
shown_for (request r) = record { settles = false; request = r }
shown_for (settlement n) = record { settles = true; request = bare_request n }

-- the message that C holds
abbrev pub message_for : Message → BusMessage
message_for m = cond m.settles (settlement m.request.number) (request m.request)

-- no message, by that refusal: zeros elsewhere
abbrev pub unread : ℕ → Reading
unread w = record { refusal = w; taken = 0; message = shown_for (request no_request) }

-- the message that stands there, zeros where none does
abbrev pub shown_in : Outcome → Message
shown_in (message m n) = shown_for m
shown_in end = shown_for (request no_request)
shown_in (refused w) = shown_for (request no_request)

-- the refusal's number, 0 for a message and for the end; the bytes taken; and the message
abbrev pub read_from : Outcome → Reading
read_from o = record { refusal = refusal_of o; taken = taken_of o; message = shown_in o }

-- the refusal's number, 0 where there is none, and the bytes written, which are none where it is refused
abbrev pub written_for : Result ℕ ℕ → Written
written_for (Ok n) = record { refusal = accepted; bytes = n }
written_for (Err w) = record { refusal = w; bytes = 0 }

-- what the writer does with the message m, where the lent bytes were out and are out'
pub record Wrote (m : BusMessage) (out out' : List ℕ) (r : Written) : Type 0 where
  pub answer : r ≡ written_for (write_answer m (length out))
  pub after : out' ≡ after_write m out
  pub fits : Fits m
