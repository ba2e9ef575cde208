-- Calls that tell apart how document 02's requests may be read, each what the definitions compute beside what the reading chosen says.
-- That the two are equal is `readings-told` and `move-readings-told` in `proofs/Cases`; why each is chosen is in docs/DECISIONS.md.
use Rattle.std.specs.Prelude.{ℕ, List, [], ◌∷◌, ◌++◌, replicate}
use Rattle.numbers.specs.Numbers.{numbered}
use Rattle.sets.specs.Sets.{empty_set, join}
use Rattle.request.specs.declared.Operation.{Operation}
use Rattle.request.specs.Operations.{last_register}
use Rattle.request.specs.Refusal as refused
use Rattle.effects.specs.Replay.{replay_on}
use Rattle.effects.specs.Moves.{sum}
use Rattle.creek.specs.Book.{Call, deliver, execute}
use Rattle.creek.specs.Calls.{answer, fresh}
use Rattle.creek.specs.History.{run}
use Rattle.creek.specs.examples.Notation.{Case, case, read, set_to, claim, move, weak, make, make_strong, on_registers, answers, spreads}
use Rattle.creek.specs.examples.Notation.{events_and_clocks}

-- panel 2 of 3 makes 2/1 at 20 and hears 0/1 at 15
unfoldable pub made_and_heard : List Call
made_and_heard = make 20 (read 0) ∷ deliver (weak 0 1 15 (read 0)) ∷ []

-- (b): a request made with a lower clock takes the reading of the last own request
unfoldable pub readings : List Case
readings =
    -- the reading that this one has, not the one that it was asked for with
    case (events_and_clocks (spreads (fresh 1 0) (make 20 (read 0) ∷ make 10 (read 0) ∷ make 15 (read 0) ∷ [])))
    (1 ∷ 20 ∷ 2 ∷ 20 ∷ 3 ∷ 20 ∷ [])
    -- it gives the context too: made strong at 10, the request names what comes before 20
    ∷ case (events_and_clocks ((answer (run (fresh 3 2) made_and_heard) (make_strong 10 (claim 0 2))).request ∷ [])) (2 ∷ 20 ∷ [])
    ∷ case (answer (run (fresh 3 2) made_and_heard) (make_strong 10 (claim 0 2))).request.context.words
    (join (join empty_set (numbered 2 1)) (numbered 0 1)).words
    -- before the first own request nothing is raised, whatever was heard
    ∷ case (events_and_clocks (spreads (fresh 3 2) (deliver (weak 0 1 50 (read 0)) ∷ make 10 (read 0) ∷ []))) (0 ∷ 0 ∷ 1 ∷ 10 ∷ [])
    -- a refused make moves nothing
    ∷ case (answers (fresh 1 0) (make 99 (claim 0 0) ∷ make 50 (read 0) ∷ [])) (refused.bad_operation ∷ refused.accepted ∷ [])
    ∷ case (events_and_clocks (spreads (fresh 1 0) (make 99 (claim 0 0) ∷ make 50 (read 0) ∷ []))) (0 ∷ 0 ∷ 1 ∷ 50 ∷ [])
    -- with 64 made a lower clock is answered with 6
    ∷ case (answers (fresh 1 0) (replicate 64 (make 9 (read 0)) ++ make 8 (read 0) ∷ []))
    (replicate 64 refused.accepted ++ refused.shift_full ∷ [])
    ∷ []

-- the sum of the registers after those operations, where register 0 held 5 and every other one 0
unfoldable pub sum_after : List Operation → ℕ
sum_after os = sum (replay_on (5 ∷ replicate last_register 0) os)

-- (i): a move moves what there is
unfoldable pub move_readings : List Case
move_readings =
    -- where there is nothing it moves 0, and is accepted all the same
    case (on_registers 0 0 (move 3 0 1)) (0 ∷ 0 ∷ 0 ∷ [])
    ∷ case (answers (fresh 1 0) (make 9 (move 3 0 1) ∷ execute ∷ [])) (refused.accepted ∷ refused.accepted ∷ [])
    -- from a register to itself it stays refused, of any amount
    ∷ case (answers (fresh 1 0) (make 9 (move 0 3 3) ∷ make 9 (move 4294967295 3 3) ∷ [])) (refused.bad_operation ∷ refused.bad_operation ∷ [])
    -- handed to the registers, such a move writes q last, and so adds the amount moved
    ∷ case (on_registers 4 0 (move 3 0 0)) (3 ∷ 7 ∷ 0 ∷ [])
    ∷ case (on_registers 4 0 (move 9 0 0)) (4 ∷ 8 ∷ 0 ∷ [])
    -- moves alone keep the sum of the registers: a set behind one changes it
    ∷ case (sum_after (move 5 0 1 ∷ []) ∷ sum_after (move 5 0 1 ∷ set_to 2 1 ∷ []) ∷ []) (5 ∷ 6 ∷ [])
    ∷ []
