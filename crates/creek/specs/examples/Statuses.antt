-- A case for each thing that a panel has of a request: what the definitions compute beside what document 01 says, which are equal by
-- `statuses-told` in `proofs/Cases`.
use Rattle.std.specs.Prelude.{ℕ, List, [], ◌∷◌, ◌++◌}
use Rattle.lists.specs.Lists.{one}
use Rattle.numbers.specs.declared.Number.{Number}
use Rattle.numbers.specs.Numbers.{numbered}
use Rattle.request.specs.Refusal as refused
use Rattle.creek.specs.Book.{Call, deliver, commit, execute}
use Rattle.creek.specs.Calls.{fresh}
use Rattle.creek.specs.History.{run}
use Rattle.creek.specs.Status.{status_refusal, status_place, status_settled, status_awaited, status_executed, status_response}
use Rattle.creek.specs.examples.Notation.{Case, case, add, weak, make}
use Rattle.creek.specs.examples.Answers.{hear, claiming, overtaking_calls, settled_weak}

-- panel 0 of 2 after those calls: refusal, place, settled, awaited, executed and response of the request of that number
unfoldable pub status_after : List Call → Number → List ℕ
status_after calls n =
    let r = run (fresh 2 0) calls in
    status_refusal r n ∷ status_place r n ∷ one (status_settled r n) ∷ one (status_awaited r n) ∷ one (status_executed r n)
    ∷ status_response r n ∷ []

-- register 4 is added to twice, the second time by an own request
abbrev pub both_add : List Call
both_add = deliver (weak 1 1 10 (add 3 4)) ∷ make 20 (add 4 4) ∷ []

-- an own strong request is carried out behind one that was heard
abbrev pub claimed : List Call
claimed = hear ∷ claiming ∷ execute ∷ execute ∷ []

unfoldable pub status_cases : List Case
status_cases =
    -- a weak request heard: not settled, not awaited, not carried out; then carried out, with its response
    case (status_after both_add (numbered 1 1)) (refused.accepted ∷ 1 ∷ 0 ∷ 0 ∷ 0 ∷ 0 ∷ [])
    ∷ case (status_after (both_add ++ execute ∷ []) (numbered 1 1)) (refused.accepted ∷ 1 ∷ 0 ∷ 0 ∷ 1 ∷ 3 ∷ [])
    -- an own one is awaited until its weak reply; its response is that at its place
    ∷ case (status_after (both_add ++ execute ∷ []) (numbered 0 1)) (refused.accepted ∷ 2 ∷ 0 ∷ 1 ∷ 0 ∷ 0 ∷ [])
    ∷ case (status_after (both_add ++ execute ∷ execute ∷ []) (numbered 0 1)) (refused.accepted ∷ 2 ∷ 0 ∷ 0 ∷ 1 ∷ 7 ∷ [])
    -- an own strong one is awaited behind its tentative reply, and no more behind its stable one
    ∷ case (status_after claimed (numbered 0 1)) (refused.accepted ∷ 2 ∷ 0 ∷ 1 ∷ 1 ∷ 5 ∷ [])
    ∷ case (status_after (claimed ++ commit (numbered 0 1) ∷ []) (numbered 0 1)) (refused.accepted ∷ 2 ∷ 1 ∷ 0 ∷ 1 ∷ 5 ∷ [])
    -- settled before it is carried out, it is awaited until then
    ∷ case (status_after (claiming ∷ commit (numbered 0 1) ∷ []) (numbered 0 1)) (refused.accepted ∷ 1 ∷ 1 ∷ 1 ∷ 0 ∷ 0 ∷ [])
    ∷ case (status_after (claiming ∷ commit (numbered 0 1) ∷ execute ∷ []) (numbered 0 1)) (refused.accepted ∷ 1 ∷ 1 ∷ 0 ∷ 1 ∷ 5 ∷ [])
    -- settled with a strong one that names it
    ∷ case (status_after settled_weak (numbered 0 1)) (refused.accepted ∷ 1 ∷ 1 ∷ 1 ∷ 0 ∷ 0 ∷ [])
    -- on the undo list it is not carried out, though it is on the board; nor is the one that overtook it
    ∷ case (status_after overtaking_calls (numbered 0 1)) (refused.accepted ∷ 3 ∷ 0 ∷ 1 ∷ 0 ∷ 0 ∷ [])
    ∷ case (status_after overtaking_calls (numbered 1 2)) (refused.accepted ∷ 1 ∷ 0 ∷ 0 ∷ 0 ∷ 0 ∷ [])
    -- its place is that of the standing order, the settled and then the unsettled
    ∷ case (status_after (overtaking_calls ++ commit (numbered 0 1) ∷ []) (numbered 1 2)) (refused.accepted ∷ 3 ∷ 0 ∷ 0 ∷ 0 ∷ 0 ∷ [])
    -- refused: a bad number, which nobody holds either; one that is not held
    ∷ case (status_after claimed (numbered 2 1)) (refused.bad_number ∷ 0 ∷ 0 ∷ 0 ∷ 0 ∷ 0 ∷ [])
    ∷ case (status_after claimed (numbered 0 0)) (refused.bad_number ∷ 0 ∷ 0 ∷ 0 ∷ 0 ∷ 0 ∷ [])
    ∷ case (status_after claimed (numbered 0 65)) (refused.bad_number ∷ 0 ∷ 0 ∷ 0 ∷ 0 ∷ 0 ∷ [])
    ∷ case (status_after claimed (numbered 0 2)) (refused.not_here ∷ 0 ∷ 0 ∷ 0 ∷ 0 ∷ 0 ∷ [])
    ∷ case (status_after [] (numbered 0 1)) (refused.not_here ∷ 0 ∷ 0 ∷ 0 ∷ 0 ∷ 0 ∷ [])
    ∷ []
