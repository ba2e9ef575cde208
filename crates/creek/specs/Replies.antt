-- Replies: what every call answers, field by field, and which own requests await a reply afterwards.
use Rattle.std.specs.Prelude.{ℕ, Bool, ◌&&◌, ◌||◌, cond, List, [], ◌∷◌, eqb}
use Rattle.std.proofs.Math.Option.{Option, none, some}
use Rattle.sets.specs.declared.Context.{Context}
use Rattle.numbers.specs.declared.Number.{Number}
use Rattle.request.specs.declared.Request.{Request}
use Rattle.numbers.specs.Numbers.{no_number}
use Rattle.sets.specs.Sets.{member, join, leave, lowest_lacking}
use Rattle.request.specs.Refusal as refused
use Rattle.request.specs.Request.{no_request}
use Rattle.request.specs.Asked.{operation_of}
use Rattle.effects.specs.Effect.{exec, response}
use Rattle.effects.specs.Replay.{zero_board}
use Rattle.creek.specs.declared.Answer.{Answer}
use Rattle.creek.specs.declared.Reply.{Reply}
use Rattle.creek.specs.declared.mark.Mark.{Mark}
use Rattle.creek.specs.declared.mark.Mark.TheVariants.{Nobody, Weak, Tentative, Stable}
use Rattle.lists.specs.Lists.{one, some_passes}
use Rattle.creek.specs.Plan.{Plan, has_number, held, made, is_committed}
use Rattle.creek.specs.Execution.{registers}
use Rattle.creek.specs.Book.{Call, invoke, deliver, commit, undo, execute, Book, refusal, is_accepted, accepted}

-- ---- the parts of an answer

-- the marks of a reply: nobody waits, or which kind of response it is
abbrev pub no_mark : ℕ
no_mark = 0

abbrev pub weak_mark : ℕ
weak_mark = 1

abbrev pub tentative_mark : ℕ
tentative_mark = 2

abbrev pub stable_mark : ℕ
stable_mark = 3

-- the number of a mark
abbrev pub mark_number : Mark → ℕ
mark_number Nobody = no_mark
mark_number Weak = weak_mark
mark_number Tentative = tentative_mark
mark_number Stable = stable_mark

-- a request to be spread, and zeros elsewhere
abbrev pub spread : Request → Answer
spread x = record { refusal = refused.accepted; request = x; number = no_number; response = 0; mark = no_mark }

-- a number, response and mark, and zeros elsewhere
abbrev pub reply : Number → ℕ → ℕ → Answer
reply n v mark = record { refusal = refused.accepted; request = no_request; number = n; response = v; mark = mark }

-- accepted, and zeros elsewhere
abbrev pub done : Answer
done = reply no_number 0 no_mark

-- a refusal's number with a number of a request, and zeros elsewhere
abbrev pub refused_with : ℕ → Number → Answer
refused_with k n = record { refusal = k; request = no_request; number = n; response = 0; mark = no_mark }

-- a reply as an answer, with no request
abbrev pub reply_answer : Reply → Answer
reply_answer r = record { request = no_request; response = r.response; number = r.number; refusal = r.refusal; mark = r.mark }

-- what an answer says beside its request
abbrev pub reply_in : Answer → Reply
reply_in a = record { response = a.response; number = a.number; mark = a.mark; refusal = a.refusal }

-- how many steps an undo or a carry-out with that reply did: one, or none where it was refused
abbrev pub steps_done : Reply → ℕ
steps_done r = one (eqb r.refusal refused.accepted)

-- ---- responses

-- the response of the request of that number when those requests are executed in turn on registers b, 0 where it is not among them
unfoldable pub response_on : List ℕ → Number → List Request → ℕ
response_on b n [] = 0
response_on b n (x ∷ xs) = cond (has_number n x) (response (operation_of x.asked) b) (response_on (exec (operation_of x.asked) b) n xs)

-- its response in one replay of those requests
unfoldable pub response_in : Number → List Request → ℕ
response_in n l = response_on zero_board n l

-- ---- carry out [64 to 74]

-- the mark for a request that is or is not awaited, strong and committed [65, 66, 69, 72]
abbrev pub mark_of : Bool → Bool → Bool → ℕ
mark_of awaited strong committed = cond awaited (cond strong (cond committed stable_mark tentative_mark) weak_mark) no_mark

-- the mark of a carry-out: nobody waits, weak, stable for a committed request, tentative for one that is not
unfoldable pub execution_mark : Plan → Context → Request → ℕ
execution_mark a awaiting x = mark_of (member awaiting x.number) x.asked.strong (is_committed a x.number)

-- the answer of a carry-out, of the first of that to-do list: its number, its response on the registers as they are, and the mark;
-- an accepted carry-out finds one there
unfoldable pub execution_reply : Book → Context → List Request → Answer
execution_reply b awaiting [] = done
execution_reply b awaiting (x ∷ xs) =
    reply x.number (response (operation_of x.asked) (registers b.execution)) (execution_mark b.plan awaiting x)

-- ---- settle [55 to 57]

-- a settlement is answered with a stable reply: the request awaits one and is in the executed list afterwards
unfoldable pub stable_reply_due : Book → Context → Number → Bool
stable_reply_due after awaiting n = member awaiting n && some_passes (has_number n) after.execution.executed

-- the answer of a settlement that led to that book: the response of the request's last carry-out. Since it was executed right behind
-- those that stand before it in the executed list, that is its response in a replay of this list (`last_carry_out` in `proofs/StableReply`)
unfoldable pub settlement_reply : Book → Context → Number → Answer
settlement_reply after awaiting n =
    cond (stable_reply_due after awaiting n) (reply no_number (response_in n after.execution.executed) stable_mark) done

-- ---- undo

-- the answer of an undo, of the first of that rollback list: its number; an accepted undo finds one there
unfoldable pub undo_reply : List Request → Answer
undo_reply [] = done
undo_reply (x ∷ xs) = reply x.number 0 no_mark

-- ---- every call

-- the answer of an accepted call
unfoldable pub accepted_answer : Book → Context → Call → Answer
accepted_answer b awaiting (invoke i) = spread (made b.plan i)
accepted_answer b awaiting (deliver x) = done
accepted_answer b awaiting (commit n) = settlement_reply (accepted b (commit n)) awaiting n
accepted_answer b awaiting undo = undo_reply b.execution.rollback
accepted_answer b awaiting execute = execution_reply b awaiting b.execution.todo

-- the missing number of refusal 12: the lowest context number that is not in the known set
abbrev pub missing : Plan → Option Request → Number
missing a none = no_number
missing a (some x) = lowest_lacking x.context a.known

-- the number of a request that a refusal names: only 12 does
unfoldable pub named_by_refusal : Book → Call → Number
named_by_refusal b (invoke i) = no_number
named_by_refusal b (deliver x) = no_number
named_by_refusal b (commit n) = cond (eqb (refusal b (commit n)) refused.waits) (missing b.plan (held b.plan n)) no_number
named_by_refusal b undo = no_number
named_by_refusal b execute = no_number

-- the answer of a call, with those numbers awaiting a reply
unfoldable pub answer_of : Book → Context → Call → Answer
answer_of b awaiting c = cond (is_accepted b c) (accepted_answer b awaiting c) (refused_with (refusal b c) (named_by_refusal b c))

-- ---- who awaits a reply [25, 57, 68, 74]

-- weak and stable replies end the waiting
abbrev pub ends_waiting : ℕ → Bool
ends_waiting mark = eqb mark weak_mark || eqb mark stable_mark

-- who awaits after a reply about n with that mark
abbrev pub awaiting_after : Context → Number → ℕ → Context
awaiting_after awaiting n mark = cond (ends_waiting mark) (leave awaiting n) awaiting

-- who awaits after an accepted call: a request that is made does; one that gets its reply does no more
unfoldable pub accepted_awaiting : Book → Context → Call → Context
accepted_awaiting b awaiting (invoke i) = join awaiting (made b.plan i).number
accepted_awaiting b awaiting (deliver x) = awaiting
accepted_awaiting b awaiting (commit n) = awaiting_after awaiting n (accepted_answer b awaiting (commit n)).mark
accepted_awaiting b awaiting undo = awaiting
accepted_awaiting b awaiting execute =
    awaiting_after awaiting (accepted_answer b awaiting execute).number (accepted_answer b awaiting execute).mark
