-- A case for each kind of answer, in every field, and for each showing call at its first, last and refused arguments: what the definitions
-- compute beside what document 01 says, which are equal by `answers-told` and `shown-told` in `proofs/Cases`.
use Rattle.std.specs.Prelude.{ℕ, false, List, [], ◌∷◌, ◌++◌, replicate}
use Rattle.lists.specs.Lists.{one}
use Rattle.numbers.specs.Numbers.{most_panels, most_events, numbered}
use Rattle.sets.specs.Sets.{empty_set, join}
use Rattle.request.specs.declared.Request.{Request}
use Rattle.request.specs.Operations.{code_read, code_set, code_add, code_claim}
use Rattle.request.specs.Refusal as refused
use Rattle.creek.specs.declared.Answer.{Answer}
use Rattle.creek.specs.Book.{Call, deliver, commit, undo, execute}
use Rattle.creek.specs.Replies.{no_mark, weak_mark, tentative_mark, stable_mark}
use Rattle.creek.specs.Calls.{Replica, fresh_refusal, fresh, answer}
use Rattle.creek.specs.History.{run}
use Rattle.creek.specs.Showing.{register_refusal, register_shown, requests_shown, commits_shown, undos_shown, executions_shown, owed_shown}
use Rattle.creek.specs.Showing.{panels_shown, own_shown, made_shown, place_refusal, place_shown}
use Rattle.creek.specs.examples.Notation.{Case, case, read, set_to, add, claim, move, request, weak, strong, make, make_strong, answers, driven}

-- ---- every field of a request and of an answer

-- number, clock, operation, strength, context
unfoldable pub request_fields : Request → List ℕ
request_fields x =
    x.number.panel.0 ∷ x.number.event.0 ∷ x.clock.0
    ∷ x.asked.code ∷ x.asked.r ∷ x.asked.q ∷ x.asked.amount
    ∷ one x.asked.strong ∷ x.context.words

-- refusal, number, response, mark, and the request to be spread
unfoldable pub answer_fields : Answer → List ℕ
answer_fields v =
    v.refusal ∷ v.number.panel.0 ∷ v.number.event.0 ∷ v.response ∷ v.mark ∷ request_fields v.request

-- the same, given refusal, number, response and mark, where nothing is to be spread
abbrev pub spreads_nothing : (refusal panel event response mark : ℕ) → List ℕ
spreads_nothing refusal panel event response mark = refusal ∷ panel ∷ event ∷ response ∷ mark ∷ replicate 8 0 ++ replicate most_panels 0

-- a refusal's number, and zeros elsewhere
abbrev pub refusal_alone : ℕ → List ℕ
refusal_alone refusal = spreads_nothing refusal 0 0 0 0

-- ---- the replicas

-- panel 0 of 2 after those calls
abbrev pub after : List Call → Replica
after calls = run (fresh 2 0) calls

-- what that call answers then, in every field
unfoldable pub fields_told : List Call → Call → List ℕ
fields_told calls c = answer_fields (answer (after calls) c)

-- a weak request of panel 1 is heard, one that sets register 63 to 8
abbrev pub hear : Call
hear = deliver (weak 1 1 10 (set_to 63 8))

-- an own strong request claims register 0
abbrev pub claiming : Call
claiming = make_strong 20 (claim 0 5)

-- 64 own requests are made
abbrev pub shift_made : List Call
shift_made = replicate most_events (make 7 (read 0))

-- a strong request of panel 1 is heard whose context names 1/2, 0/9 and 0/8, none of which is known
abbrev pub lacking_context : Call
lacking_context = deliver (strong 1 4 30 (read 0) (join (join (join empty_set (numbered 1 2)) (numbered 0 9)) (numbered 0 8)))

-- a request that comes before both that are carried out is heard, so that both are to be undone
abbrev pub overtaking_calls : List Call
overtaking_calls = hear ∷ claiming ∷ execute ∷ execute ∷ deliver (weak 1 2 1 (add 3 0)) ∷ []

-- an own weak request is settled with a strong one that names it, before it is carried out
abbrev pub settled_weak : List Call
settled_weak = make 7 (add 3 4) ∷ deliver (strong 1 1 20 (read 0) (join empty_set (numbered 0 1))) ∷ commit (numbered 1 1) ∷ []

-- a strong request is heard whose context names itself
abbrev pub names_itself : Call
names_itself = deliver (strong 1 1 5 (read 0) (join empty_set (numbered 1 1)))

-- a weak request is heard that has a context
abbrev pub weak_with_context : Call
weak_with_context = deliver (request 1 1 5 (read 0) false (join empty_set (numbered 0 1)))

-- a strong one whose context names panel 2, of which there is none
abbrev pub names_no_panel : Call
names_no_panel = deliver (strong 1 1 5 (read 0) (join empty_set (numbered 2 1)))

-- an own request comes back, as it was made and with another clock
abbrev pub own_back : ℕ → Call
own_back clock = deliver (weak 0 1 clock (read 0))

-- ---- the answers

unfoldable pub answer_cases : List Case
answer_cases =
    -- make: the request to be spread, and zeros elsewhere
    case (fields_told [] (make 7 (add 3 4)))
    (refused.accepted ∷ 0 ∷ 0 ∷ 0 ∷ no_mark ∷ 0 ∷ 1 ∷ 7 ∷ code_add ∷ 4 ∷ 0 ∷ 3 ∷ 0 ∷ replicate most_panels 0)
    -- the first one has the clock reading that it is made with, 0 too
    ∷ case (fields_told [] (make 0 (read 0)))
    (refused.accepted ∷ 0 ∷ 0 ∷ 0 ∷ no_mark ∷ 0 ∷ 1 ∷ 0 ∷ code_read ∷ 0 ∷ 0 ∷ 0 ∷ 0 ∷ replicate most_panels 0)
    -- a strong one with its context, here {1/1}
    ∷ case (fields_told (hear ∷ []) claiming)
    (refused.accepted ∷ 0 ∷ 0 ∷ 0 ∷ no_mark ∷ 0 ∷ 1 ∷ 20 ∷ code_claim ∷ 0 ∷ 0 ∷ 5 ∷ 1 ∷ 0 ∷ 1 ∷ replicate 6 0)
    -- refused, 3 before 6 where both are met; and 6
    ∷ case (fields_told [] (make 7 (claim 0 0))) (refusal_alone refused.bad_operation)
    ∷ case (fields_told shift_made (make 7 (claim 0 0))) (refusal_alone refused.bad_operation)
    ∷ case (fields_told shift_made (make 7 (read 0))) (refusal_alone refused.shift_full)
    -- hear: zeros; refused
    ∷ case (fields_told [] hear) (refusal_alone refused.accepted)
    ∷ case (fields_told (hear ∷ []) hear) (refusal_alone refused.held_already)
    -- settle: zeros where no reply is due; response and mark 3, and no number, where one is
    ∷ case (fields_told (deliver (strong 1 1 5 (read 0) empty_set) ∷ []) (commit (numbered 1 1))) (refusal_alone refused.accepted)
    ∷ case (fields_told (claiming ∷ execute ∷ []) (commit (numbered 0 1))) (spreads_nothing refused.accepted 0 0 5 stable_mark)
    -- refused; 12 names the missing number, lowest panel and then lowest event
    ∷ case (fields_told [] (commit (numbered 1 1))) (refusal_alone refused.not_here)
    ∷ case (fields_told (lacking_context ∷ []) (commit (numbered 1 4))) (spreads_nothing refused.waits 0 8 0 no_mark)
    -- undo: the number, last first; refused
    ∷ case (fields_told overtaking_calls undo) (spreads_nothing refused.accepted 0 1 0 no_mark)
    ∷ case (fields_told (overtaking_calls ++ undo ∷ []) undo) (spreads_nothing refused.accepted 1 1 0 no_mark)
    ∷ case (fields_told (overtaking_calls ++ undo ∷ undo ∷ []) undo) (refusal_alone refused.nothing_to_undo)
    -- carry out: number, response and mark: nobody waits, weak, tentative, stable
    ∷ case (fields_told (hear ∷ []) execute) (spreads_nothing refused.accepted 1 1 0 no_mark)
    ∷ case (fields_told (make 7 (add 3 4) ∷ []) execute) (spreads_nothing refused.accepted 0 1 3 weak_mark)
    ∷ case (fields_told (claiming ∷ []) execute) (spreads_nothing refused.accepted 0 1 5 tentative_mark)
    ∷ case (fields_told (claiming ∷ commit (numbered 0 1) ∷ []) execute) (spreads_nothing refused.accepted 0 1 5 stable_mark)
    -- a move of 0 responds 0, as document 02's request (i) has it
    ∷ case (fields_told (make 7 (move 0 1 2) ∷ []) execute) (spreads_nothing refused.accepted 0 1 0 weak_mark)
    -- refused while an undo is due
    ∷ case (fields_told overtaking_calls execute) (refusal_alone refused.undo_first)
    -- on an idle panel, one that has stepped too
    ∷ case (fields_told [] execute) (refusal_alone refused.nothing_to_do)
    ∷ case (fields_told [] undo) (refusal_alone refused.nothing_to_undo)
    ∷ case (fields_told (make 7 (read 0) ∷ execute ∷ []) execute) (refusal_alone refused.nothing_to_do)
    ∷ case (fields_told (make 7 (read 0) ∷ execute ∷ []) undo) (refusal_alone refused.nothing_to_undo)
    -- a read responds with what the register holds
    ∷ case (fields_told (hear ∷ make 20 (read 63) ∷ execute ∷ []) execute) (spreads_nothing refused.accepted 0 1 8 weak_mark)
    -- the response also where nobody waits
    ∷ case (fields_told (deliver (weak 1 1 10 (add 3 4)) ∷ []) execute) (spreads_nothing refused.accepted 1 1 3 no_mark)
    -- a weak request that is settled before its first carry-out is replied to as weak
    ∷ case (fields_told settled_weak execute) (spreads_nothing refused.accepted 0 1 3 weak_mark)
    -- settle, where several refusals are met, has the first: 2 before 9, 10 before 11; and 11
    ∷ case (fields_told [] (commit (numbered 2 1))) (refusal_alone refused.bad_number)
    ∷ case (fields_told settled_weak (commit (numbered 0 1))) (refusal_alone refused.weak)
    ∷ case (fields_told (claiming ∷ commit (numbered 0 1) ∷ []) (commit (numbered 0 1))) (refusal_alone refused.settled_already)
    -- hear likewise: 2 before 4, 3 and 21, 4 before 3, 21, 7 and 8, 3 before 21 and 8, 21 before 8; and 21 and 8
    ∷ case (fields_told [] (deliver (weak 0 0 10 (read 0)))) (refusal_alone refused.bad_number)
    ∷ case (fields_told [] (deliver (weak 1 0 10 (claim 0 0)))) (refusal_alone refused.bad_number)
    ∷ case (fields_told [] (deliver (strong 1 65 10 (read 0) (join empty_set (numbered 2 1))))) (refusal_alone refused.bad_number)
    ∷ case (fields_told [] (deliver (weak 0 1 10 (claim 0 0)))) (refusal_alone refused.own_echo)
    ∷ case (fields_told [] (deliver (strong 0 1 10 (read 0) (join empty_set (numbered 0 1))))) (refusal_alone refused.own_echo)
    ∷ case (fields_told (make 7 (read 0) ∷ []) (own_back 7)) (refusal_alone refused.own_echo)
    ∷ case (fields_told (make 7 (read 0) ∷ []) (own_back 8)) (refusal_alone refused.own_echo)
    ∷ case (fields_told [] (deliver (strong 1 1 5 (claim 0 0) (join empty_set (numbered 1 1))))) (refusal_alone refused.bad_operation)
    ∷ case (fields_told (hear ∷ []) (deliver (weak 1 1 10 (claim 0 0)))) (refusal_alone refused.bad_operation)
    ∷ case (fields_told [] names_itself) (refusal_alone refused.bad_context)
    ∷ case (fields_told [] weak_with_context) (refusal_alone refused.bad_context)
    ∷ case (fields_told [] names_no_panel) (refusal_alone refused.bad_context)
    ∷ case (fields_told (deliver (strong 1 1 5 (read 0) empty_set) ∷ []) names_itself) (refusal_alone refused.bad_context)
    ∷ case (fields_told (hear ∷ []) (deliver (weak 1 1 11 (set_to 63 8)))) (refusal_alone refused.number_clash)
    -- a refused fresh returns a one-panel shop, panel 0, which is used like any other: there is no panel 1 in it
    ∷ case (fresh_refusal 9 0 ∷ answers (fresh 9 0) (make 7 (read 0) ∷ execute ∷ hear ∷ commit (numbered 0 1) ∷ []))
    (refused.bad_shop ∷ refused.accepted ∷ refused.accepted ∷ refused.bad_number ∷ refused.weak ∷ [])
    ∷ []

-- ---- the showing calls

-- refusal and value of a register
unfoldable pub register_at : Replica → ℕ → List ℕ
register_at r k = register_refusal k ∷ register_shown r k ∷ []

-- refusal and request of a place
unfoldable pub place_at : Replica → ℕ → List ℕ
place_at r place = place_refusal r place ∷ request_fields (place_shown r place)

-- requests, settlements, undos, carry-outs, owed
unfoldable pub counts : Replica → List ℕ
counts r = requests_shown r ∷ commits_shown r ∷ undos_shown r ∷ executions_shown r ∷ owed_shown r ∷ []

-- panels, own panel, own requests made
unfoldable pub shop_of : Replica → List ℕ
shop_of r = panels_shown r ∷ own_shown r ∷ made_shown r ∷ []

-- registers 0 and 63 are held: a weak request of panel 1 and an own strong one, carried out, and the second settled
unfoldable pub both_held : Replica
both_held = run (driven (fresh 2 0) (hear ∷ claiming ∷ [])) (commit (numbered 0 1) ∷ [])

unfoldable pub shown_cases : List Case
shown_cases =
    -- the first register, the last, and one past it
    case (register_at both_held 0) (refused.accepted ∷ 5 ∷ [])
    ∷ case (register_at both_held 63) (refused.accepted ∷ 8 ∷ [])
    ∷ case (register_at both_held 64) (refused.bad_operation ∷ 0 ∷ [])
    -- places are counted from 1: the first, the last, one before and one behind
    ∷ case (place_at both_held 1) (refused.accepted ∷ 1 ∷ 1 ∷ 10 ∷ code_set ∷ 63 ∷ 0 ∷ 8 ∷ 0 ∷ replicate most_panels 0)
    ∷ case (place_at both_held 2) (refused.accepted ∷ 0 ∷ 1 ∷ 20 ∷ code_claim ∷ 0 ∷ 0 ∷ 5 ∷ 1 ∷ 0 ∷ 1 ∷ replicate 6 0)
    ∷ case (place_at both_held 0) (refused.not_here ∷ replicate 8 0 ++ replicate most_panels 0)
    ∷ case (place_at both_held 3) (refused.not_here ∷ replicate 8 0 ++ replicate most_panels 0)
    -- of the standing order, the settled and then the unsettled, whatever is carried out
    ∷ case (place_at (run (fresh 2 0) (overtaking_calls ++ commit (numbered 0 1) ∷ [])) 3)
    (refused.accepted ∷ 1 ∷ 2 ∷ 1 ∷ code_add ∷ 0 ∷ 0 ∷ 3 ∷ 0 ∷ replicate most_panels 0)
    ∷ case (place_at (fresh 2 0) 1) (refused.not_here ∷ replicate 8 0 ++ replicate most_panels 0)
    -- the counts of a fresh panel, and of one on which all five kinds of calls were accepted
    ∷ case (counts (fresh 2 0)) (0 ∷ 0 ∷ 0 ∷ 0 ∷ 0 ∷ [])
    ∷ case (counts (run (fresh 2 0) (overtaking_calls ++ commit (numbered 0 1) ∷ undo ∷ []))) (3 ∷ 1 ∷ 1 ∷ 2 ∷ 4 ∷ [])
    -- the shop and the own requests: of a fresh panel, of a refused fresh, after a make, after one that is refused, and after one is heard
    ∷ case (shop_of (fresh 3 2)) (3 ∷ 2 ∷ 0 ∷ [])
    ∷ case (shop_of (fresh 3 3)) (1 ∷ 0 ∷ 0 ∷ [])
    ∷ case (shop_of (run (fresh 3 2) (make 7 (read 0) ∷ []))) (3 ∷ 2 ∷ 1 ∷ [])
    ∷ case (shop_of (run (fresh 3 2) (make 7 (read 0) ∷ make 8 (claim 0 0) ∷ []))) (3 ∷ 2 ∷ 1 ∷ [])
    ∷ case (shop_of (run (fresh 3 2) (make 7 (read 0) ∷ hear ∷ make_strong 8 (read 0) ∷ []))) (3 ∷ 2 ∷ 2 ∷ [])
    ∷ []
