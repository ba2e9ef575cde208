-- Lists of calls as bytes, answers as bytes, and what a run of bytes leads to.
use Rattle.std.specs.Prelude.{ℕ, zero, suc, ◌+◌, ◌-◌, ◌/◌, Bool, cond, List, [], ◌∷◌, ◌++◌, length, get_or, replicate, eqb, ltb}
use Rattle.std.proofs.lemmas.List.Edits.{sets}
use Rattle.request.specs.declared.Request.{Request}
use Rattle.request.specs.Request.{bare_request, no_request}
use Rattle.numbers.specs.Numbers.{no_number}
use Rattle.creek.specs.declared.Invocation.{Invocation}
use Rattle.creek.specs.declared.Answer.{Answer}
use Rattle.creek.specs.Book.{Call, invoke, undo, execute}
use Rattle.creek.specs.Replies.{no_mark, reply}
use Rattle.creek.specs.Calls.{Replica, fresh, step, answer}
use Rattle.creek.specs.History.{idled}
use Rattle.creek.specs.Showing.{owed_shown}
use Rattle.wire.specs.Integers.{integer_bytes}
use Rattle.wire.specs.Layout.{longest_message}
use Rattle.wire.specs.declared.Message.TheVariants.{Request as request, Settlement as settlement}
use Rattle.wire.specs.Message.{BusMessage, bytes_of, weak_with_context}
use Rattle.wire.specs.Reader.{Outcome, message, end, refused, read_at}
use Rattle.intake.specs.Intake.{call_of}

-- ---- the calls

-- where P stands, the own panel, and the first call
abbrev pub panels_at : ℕ
panels_at = 0

abbrev pub own_at : ℕ
own_at = suc panels_at

abbrev pub calls_at : ℕ
calls_at = suc own_at

-- P, and the own panel; a byte that is not there is 0
abbrev pub panels_of : List ℕ → ℕ
panels_of s = get_or s panels_at 0

abbrev pub own_of : List ℕ → ℕ
own_of s = get_or s own_at 0

-- the bytes of a call: a tag and room for the longest bus message
abbrev pub call_size : ℕ
call_size = suc longest_message

-- the tags; every other one is that of a bus message
abbrev pub invoke_tag : ℕ
invoke_tag = 1

abbrev pub undo_tag : ℕ
undo_tag = 2

abbrev pub execute_tag : ℕ
execute_tag = 3

abbrev pub all_due_tag : ℕ
all_due_tag = 4

-- the bus message that was read: the request of zeros where there was none, which is heard as one of a bad number
abbrev pub message_of : Outcome → BusMessage
message_of (message m n) = m
message_of end = request no_request
message_of (refused w) = request no_request

-- that at a place
unfoldable pub message_at : List ℕ → ℕ → BusMessage
message_at s at = message_of (read_at s at)

-- the request of a message, of which a settlement has the number alone
abbrev pub request_in : BusMessage → Request
request_in (request r) = r
request_in (settlement n) = bare_request n

-- the invocation that a request stands for: what it asks for and its clock reading
unfoldable pub invocation_of : Request → Invocation
invocation_of x = record { asked = x.asked; clock = x.clock }

-- the call of a message behind that tag: make, or the bus message's own
abbrev pub message_call : ℕ → BusMessage → Call
message_call tag m = cond {A = Call} (eqb tag invoke_tag) (invoke (invocation_of (request_in m))) (call_of m)

-- the call at a place
unfoldable pub call_at : List ℕ → ℕ → Call
call_at s at =
    cond {A = Call} (eqb (get_or s at 0) undo_tag) undo
    (cond {A = Call} (eqb (get_or s at 0) execute_tag) execute
    (message_call (get_or s at 0) (message_at s (at + 1))))

-- what a place asks for: one call, or all due steps
pub data Entry : Type 0 where
  one : Call → Entry
  all_due : Entry

unfoldable pub entry_at : List ℕ → ℕ → Entry
entry_at s at = cond {A = Entry} (eqb (get_or s at 0) all_due_tag) all_due (one (call_at s at))

-- so many entries from a place on
unfoldable pub entries_from : List ℕ → ℕ → ℕ → List Entry
entries_from s at zero = []
entries_from s at (suc k) = entry_at s at ∷ entries_from s (at + call_size) k

-- how many whole entries there are
unfoldable pub call_count : List ℕ → ℕ
call_count s = (length s - calls_at) / call_size

-- the entries
unfoldable pub entries_of : List ℕ → List Entry
entries_of s = entries_from s calls_at (call_count s)

-- ---- what an entry does

-- the replica after an entry
unfoldable pub after : Replica → Entry → Replica
after r (one c) = step r c
after r all_due = idled r

-- the answer to it; all due steps are answered by their count
unfoldable pub answer_to : Replica → Entry → Answer
answer_to r (one c) = answer r c
answer_to r all_due = reply no_number (owed_shown r) no_mark

-- ---- the answers

-- no message
abbrev pub no_message_bytes : List ℕ
no_message_bytes = replicate longest_message 0

-- the bus message that spreads x, with zeros behind it up to the longest one; no call answers a weak request with a context, which has
-- no bus message
unfoldable pub message_bytes : Request → List ℕ
message_bytes x =
    cond {A = List ℕ} (weak_with_context (request x)) no_message_bytes (sets no_message_bytes 0 (bytes_of (request x)))

-- the width of a response
abbrev pub response_width : ℕ
response_width = 4

-- refusal, mark, panel, event, response
unfoldable pub head_bytes : Answer → List ℕ
head_bytes a =
    a.refusal ∷ a.mark ∷ a.number.panel.0 ∷ a.number.event.0 ∷ integer_bytes response_width a.response

-- the bytes of an answer: those, and the request to be spread as a bus message
unfoldable pub answer_bytes : Answer → List ℕ
answer_bytes a = head_bytes a ++ message_bytes a.request

-- the bytes of every answer: four, those of the response, and room for the longest bus message
abbrev pub answer_size : ℕ
answer_size = 4 + response_width + longest_message

-- the bytes of the answers to those entries, each on what the last one left
unfoldable pub answers_bytes : Replica → List Entry → List ℕ
answers_bytes r [] = []
answers_bytes r (x ∷ xs) = answer_bytes (answer_to r x) ++ answers_bytes (after r x) xs

-- ---- a run

-- the panel that s asks for
abbrev pub fresh_of : List ℕ → Replica
fresh_of s = fresh (panels_of s) (own_of s)

-- out has no room for the answers
abbrev pub tight : List ℕ → List ℕ → Bool
tight s out = ltb (length out / answer_size) (call_count s)

-- the entries that are run: all, or none where there is no room for the answers
unfoldable pub entries_run : List ℕ → List ℕ → List Entry
entries_run s out = cond {A = List Entry} (tight s out) [] (entries_of s)
