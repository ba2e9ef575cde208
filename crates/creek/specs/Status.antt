-- What a panel has of a request, by its number: its place in the standing order, whether it is settled, awaited and executed, and with
-- which response. Zeros where it is refused.
use Rattle.std.specs.Prelude.{ℕ, suc, Bool, not, ◌&&◌, cond, eqb}
use Rattle.lists.specs.Lists.{some_passes}
use Rattle.lists.specs.Places.{leading}
use Rattle.numbers.specs.declared.Number.{Number}
use Rattle.numbers.specs.Numbers.{bad_number}
use Rattle.sets.specs.Sets.{member}
use Rattle.request.specs.Refusal as refused
use Rattle.creek.specs.Plan.{order, has_number, is_committed, met}
use Rattle.creek.specs.Replies.{response_in}
use Rattle.creek.specs.Calls.{Replica}

-- bad number, not here
unfoldable pub status_refusal : Replica → Number → ℕ
status_refusal r n =
    met (bad_number r.book.plan.panels n) refused.bad_number
    (met (not (some_passes (has_number n) (order r.book.plan))) refused.not_here
    refused.accepted)

-- the number is good, and a request of it is held
abbrev pub is_here : Replica → Number → Bool
is_here r n = eqb (status_refusal r n) refused.accepted

-- its place in the standing order, counted from 1: behind those before it
unfoldable pub status_place : Replica → Number → ℕ
status_place r n = cond (is_here r n) (suc (leading (λ x. not (has_number n x)) (order r.book.plan))) 0

-- it is in the settled list
unfoldable pub status_settled : Replica → Number → Bool
status_settled r n = is_here r n && is_committed r.book.plan n

-- it awaits a reply
unfoldable pub status_awaited : Replica → Number → Bool
status_awaited r n = is_here r n && member r.awaiting n

-- it is in the carried list
unfoldable pub status_executed : Replica → Number → Bool
status_executed r n = is_here r n && some_passes (has_number n) r.book.execution.executed

-- the response of its last carry-out, which is that in a replay of the carried list, 0 where it is not in it
unfoldable pub status_response : Replica → Number → ℕ
status_response r n = cond (status_executed r n) (response_in n r.book.execution.executed) 0
