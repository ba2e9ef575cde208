-- The whole printout as a function of the input's bytes: what is found in them makes of `creek`'s replica, and the lines of both; and what
-- printing it into lent bytes returns and leaves of them.
use Rattle.std.specs.Prelude.{ℕ, suc, ◌+◌, ◌*◌, ◌/◌, ◌-◌, ◌≡◌, cond, List, [], ◌∷◌, ◌++◌, length, get_or, take, drop, ltb}
use Rattle.request.specs.Refusal as refused_by
use Rattle.creek.specs.Execution.{registers}
use Rattle.creek.specs.Calls.{Replica, bad_shop, fresh, step, answer}
use Rattle.creek.specs.History.{idled}
use Rattle.creek.specs.Showing.{undos_shown, executions_shown}
use Rattle.wire.specs.Layout.{kind_number, least_message}
use Rattle.wire.specs.Message.{BusMessage, kind_of, number_in}
use Rattle.wire.specs.Reader.{Outcome, message, end, refused}
use Rattle.intake.specs.Intake.{call_of}
use Rattle.runs.specs.Found.{found_from}
use Rattle.report.specs.Lines.{board_line, refused_line, message_line, unread_line, totals_line, register_lines}
use Rattle.report.specs.Sizes.{most_board_bytes, most_message_bytes, most_totals_bytes, most_registers_bytes}

-- ---- the input

-- at most so many bytes of the input are read
abbrev pub most_input : ℕ
most_input = 65536

-- P and the own panel, one byte each, stand in front of the messages
abbrev pub shop_bytes : ℕ
shop_bytes = 2

-- ---- the replica

-- the replica after what was found; what cannot be read leaves it alone
unfoldable pub after : Replica → Outcome → Replica
after r (message m n) = idled (step r (call_of m))
after r end = r
after r (refused w) = r

-- the replica after all of it, one after the other
unfoldable pub after_all : Replica → List Outcome → Replica
after_all r [] = r
after_all r (o ∷ os) = after_all (after r o) os

-- ---- the lines

-- a message's line, at its place among the messages, with its refusal and the undos done since the line before
unfoldable pub line_of_message : ℕ → BusMessage → ℕ → ℕ → List ℕ
line_of_message place m refusal undone =
    message_line place (kind_number (kind_of m)) (number_in m).panel.0 (number_in m).event.0 refusal undone

-- the line of what was found, at its place among the messages, with the refusal and the undos done since the line before
unfoldable pub line_for : ℕ → Outcome → ℕ → ℕ → List ℕ
line_for place (message m n) refusal undone = line_of_message place m refusal undone
line_for place end refusal undone = []
line_for place (refused w) refusal undone = unread_line place w

-- the refusal of hear or settle, or 0
unfoldable pub refusal_in : Replica → Outcome → ℕ
refusal_in r (message m n) = (answer r (call_of m)).refusal
refusal_in r end = refused_by.accepted
refusal_in r (refused w) = w

-- the undos done from before what was found until the replica is idle
abbrev pub undone_in : Replica → Outcome → ℕ
undone_in r o = undos_shown (after r o) - undos_shown r

-- the lines of all that was found, the first at that place
unfoldable pub message_lines : ℕ → Replica → List Outcome → List ℕ
message_lines place r [] = []
message_lines place r (o ∷ os) = line_for place o (refusal_in r o) (undone_in r o) ++ message_lines (suc place) (after r o) os

-- the list lengths and the step totals, and the registers that are not 0
unfoldable pub closing : Replica → List ℕ
closing r =
    totals_line (length r.book.plan.committed) (length r.book.plan.tentative) (undos_shown r) (executions_shown r)
    ++ register_lines (registers r.book.execution)

-- ---- the whole

-- the printout of a shop whose messages are these
unfoldable pub printout_of : ℕ → ℕ → List Outcome → List ℕ
printout_of panels own os =
    board_line panels own ++ (message_lines 1 (fresh panels own) os ++ closing (after_all (fresh panels own) os))

-- the printout of the bytes s: under two bytes and a bad shop have a line of their own and no other
unfoldable pub printout : List ℕ → List ℕ
printout s =
    cond (ltb (length s) shop_bytes) (refused_line refused_by.cut_short)
    (cond (bad_shop (get_or s 0 0) (get_or s 1 0)) (refused_line refused_by.bad_shop)
    (printout_of (get_or s 0 0) (get_or s 1 0) (found_from s shop_bytes)))

-- ---- its size

-- at most so many messages are found, the last of which may be cut short
abbrev pub most_messages : ℕ
most_messages = suc (most_input / least_message)

-- the most bytes of a printout
abbrev pub most_printed : ℕ
most_printed = most_board_bytes + most_messages * most_message_bytes + most_totals_bytes + most_registers_bytes

-- ---- printed into lent bytes

-- the text put where so many bytes are lent: none where they might not do, otherwise the printout of as much of the input as is read
unfoldable pub printed_text : List ℕ → ℕ → List ℕ
printed_text input lent = cond (ltb lent most_printed) [] (printout (take most_input input))

-- the lent bytes afterwards: that text at their front, and every byte behind it as it was
unfoldable pub after_print : List ℕ → List ℕ → List ℕ
after_print input out =
    let text = printed_text input (length out) in
    text ++ drop (length text) out

-- what printing does with the input, where the lent bytes were out and are out', and n is returned
pub record Printed (input out out' : List ℕ) (n : ℕ) : Type 0 where
  pub returned : n ≡ length (printed_text input (length out))
  pub after : out' ≡ after_print input out
