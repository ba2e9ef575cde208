-- The cases at the edges that document 01 marks with ●, as document 02 amends and adds to them: one list, each case what the definitions
-- compute beside what the documents say.
-- That the two are equal is `edge-cases` in `proofs/Cases`.
use Rattle.std.specs.Prelude.{ℕ, List, [], ◌∷◌, ◌++◌, set, replicate}
use Rattle.numbers.specs.Numbers.{numbered}
use Rattle.sets.specs.Sets.{empty_set, join}
use Rattle.request.specs.Refusal as refused
use Rattle.effects.specs.Replay.{zero_board}
use Rattle.effects.specs.Claims.{claim_all}
use Rattle.creek.specs.Plan.{order}
use Rattle.creek.specs.Book.{Call, deliver, commit}
use Rattle.creek.specs.Calls.{Replica, fresh_refusal, fresh}
use Rattle.creek.specs.History.{run}
use Rattle.creek.specs.Showing.{register_shown, undos_shown, executions_shown}
use Rattle.creek.specs.examples.Notation.{Case, case, read, set_to, add, claim, move, weak, strong, make, on_registers, on_board}
use Rattle.creek.specs.examples.Notation.{answers, spreads, events_and_clocks, numbers, driven}

-- the printout's input for panel 2 of 3
unfoldable pub worked : List Call
worked =
    deliver (weak 0 1 10 (set_to 4 6))
    ∷ deliver (weak 1 1 5 (add 3 4))
    ∷ deliver (strong 1 2 12 (claim 0 2) (join empty_set (numbered 1 1)))
    ∷ commit (numbered 1 2)
    ∷ []

unfoldable pub after_worked : Replica
after_worked = driven (fresh 3 2) worked

-- the standing order at panel 2 of 3 after those calls
unfoldable pub standing : List Call → List ℕ
standing calls = numbers (order (run (fresh 3 2) calls).book.plan)

-- three requests made with clocks 9, 9 and 8
unfoldable pub nine_nine_eight : List Call
nine_nine_eight = make 9 (read 0) ∷ make 9 (read 0) ∷ make 8 (read 0) ∷ []

-- ---- the cases

unfoldable pub cases : List Case
cases =
    -- fresh 8, 7 good; 9, 0 and 3, 3 refused 1
    case (fresh_refusal 8 7 ∷ fresh_refusal 9 0 ∷ fresh_refusal 3 3 ∷ []) (refused.accepted ∷ refused.bad_shop ∷ refused.bad_shop ∷ [])
    -- and then it returns a one-panel shop, panel 0
    ∷ case ((fresh 9 0).book.plan.panels ∷ (fresh 9 0).book.plan.own ∷ []) (1 ∷ 0 ∷ [])
    -- add 4,294,967,295 to 5: 4
    ∷ case (on_registers 5 0 (add 4294967295 0)) (4 ∷ 4 ∷ 0 ∷ [])
    -- claim for 3 where 2 stands: response 2, unchanged
    ∷ case (on_registers 2 0 (claim 0 3)) (2 ∷ 2 ∷ 0 ∷ [])
    -- as document 02's request (i) amends the moves: with 0 in q, move 5 from 5: 5, leaving 0; move 6 from 5: 5, leaving 0 and 5
    ∷ case (on_registers 5 0 (move 5 0 1)) (5 ∷ 0 ∷ 5 ∷ [])
    ∷ case (on_registers 5 0 (move 6 0 1)) (5 ∷ 0 ∷ 5 ∷ [])
    -- move 1 into 4,294,967,295: 0, both unchanged
    ∷ case (on_registers 5 4294967295 (move 1 0 1)) (0 ∷ 5 ∷ 4294967295 ∷ [])
    -- a move of 0 responds 0
    ∷ case (on_registers 5 7 (move 0 0 1)) (0 ∷ 5 ∷ 7 ∷ [])
    -- move 9 from 9 into 4,294,967,290: 5, leaving 4 and 4,294,967,295
    ∷ case (on_registers 9 4294967290 (move 9 0 1)) (5 ∷ 4 ∷ 4294967295 ∷ [])
    -- move with r = q: 3
    ∷ case (answers (fresh 2 0) (make 0 (move 1 3 3) ∷ deliver (weak 1 1 0 (move 1 3 3)) ∷ []))
    (refused.bad_operation ∷ refused.bad_operation ∷ [])
    -- document 02's request (g): claim 60 to 63 for 7 where all are 0: response 7, each of the four 7
    ∷ case (on_board zero_board (claim_all 60 63 7)) (7 ∷ replicate 60 0 ++ replicate 4 7)
    -- where 62 holds 3: response 3, unchanged
    ∷ case (on_board (set zero_board 62 3) (claim_all 60 63 7)) (3 ∷ replicate 62 0 ++ 3 ∷ 0 ∷ [])
    -- claim 5 to 5 for 7: response 7, register 5 alone is 7
    ∷ case (on_board zero_board (claim_all 5 5 7)) (7 ∷ replicate 5 0 ++ 7 ∷ replicate 58 0)
    -- claim 61 to 64: 3
    ∷ case (answers (fresh 2 0) (make 0 (claim_all 61 64 7) ∷ deliver (weak 1 1 0 (claim_all 61 64 7)) ∷ []))
    (refused.bad_operation ∷ refused.bad_operation ∷ [])
    -- equal clocks: 0/9 stands before 1/1, whichever is heard first
    ∷ case (standing (deliver (weak 1 1 7 (read 0)) ∷ deliver (weak 0 9 7 (read 0)) ∷ [])) (0 ∷ 9 ∷ 1 ∷ 1 ∷ [])
    ∷ case (standing (deliver (weak 0 9 7 (read 0)) ∷ deliver (weak 1 1 7 (read 0)) ∷ [])) (0 ∷ 9 ∷ 1 ∷ 1 ∷ [])
    -- own clock equal to the last good; so is one less, as document 02's request (b) amends it: it is event 3 and takes the 9
    ∷ case (answers (fresh 1 0) nine_nine_eight) (refused.accepted ∷ refused.accepted ∷ refused.accepted ∷ [])
    ∷ case (events_and_clocks (spreads (fresh 1 0) nine_nine_eight)) (1 ∷ 9 ∷ 2 ∷ 9 ∷ 3 ∷ 9 ∷ [])
    ∷ case (events_and_clocks (order (run (fresh 1 0) nine_nine_eight).book.plan)) (1 ∷ 9 ∷ 2 ∷ 9 ∷ 3 ∷ 9 ∷ [])
    -- a 64th request good, a 65th 6
    ∷ case (answers (fresh 1 0) (replicate 65 (make 9 (read 0)))) (replicate 64 refused.accepted ++ refused.shift_full ∷ [])
    -- heard twice 7; with another clock 8
    ∷ case (answers (fresh 3 2) (deliver (weak 1 1 5 (add 3 4)) ∷ deliver (weak 1 1 5 (add 3 4)) ∷ deliver (weak 1 1 6 (add 3 4)) ∷ []))
    (refused.accepted ∷ refused.held_already ∷ refused.number_clash ∷ [])
    -- of code 6 and heard again of code 4, with the same effect: 8
    ∷ case (answers (fresh 3 2) (deliver (weak 1 1 5 (claim_all 5 5 7)) ∷ deliver (weak 1 1 5 (claim 5 7)) ∷ []))
    (refused.accepted ∷ refused.number_clash ∷ [])
    -- the same settlement again: 11
    ∷ case (answers (fresh 3 2) (worked ++ commit (numbered 1 2) ∷ [])) (replicate 4 refused.accepted ++ refused.settled_already ∷ [])
    -- the order after the printout's input: 1/1, 1/2, 0/1
    ∷ case (numbers (order after_worked.book.plan)) (1 ∷ 1 ∷ 1 ∷ 2 ∷ 0 ∷ 1 ∷ [])
    -- and its undone 3, carried 6, register 0 at 2, register 4 at 6
    ∷ case (undos_shown after_worked ∷ executions_shown after_worked ∷ register_shown after_worked 0 ∷ register_shown after_worked 4 ∷ [])
    (3 ∷ 6 ∷ 2 ∷ 6 ∷ [])
    ∷ []
