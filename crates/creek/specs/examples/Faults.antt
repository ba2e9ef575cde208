-- The faults that document 01 says a panel could hide, each with a history in which it would show, and what the definitions compute there;
-- and two histories in which demand 3's bound is reached. That what is computed is what is said is proved in `proofs/Cases`.
use Rattle.std.specs.Prelude.{ℕ, zero, suc, List, [], ◌∷◌}
use Rattle.numbers.specs.Numbers.{numbered}
use Rattle.sets.specs.Sets.{empty_set, join}
use Rattle.creek.specs.Book.{Call, deliver, commit, undo, execute}
use Rattle.creek.specs.Replies.{no_mark, stable_mark}
use Rattle.creek.specs.Calls.{Replica, fresh, step, answer}
use Rattle.creek.specs.History.{run, idled}
use Rattle.creek.specs.Showing.{register_shown, undos_shown}
use Rattle.creek.specs.Demand.{most_undos}
use Rattle.creek.specs.examples.Cases.{standing}
use Rattle.creek.specs.examples.Notation.{Case, case, read, set_to, add, claim, weak, strong, make_strong, numbers, driven, replied}

-- ---- the histories

-- requests 0/1 and 1/1 are heard with one clock reading
abbrev pub low : Call
low = deliver (weak 0 1 7 (read 0))

abbrev pub high : Call
high = deliver (weak 1 1 7 (read 0))

-- a strong request is heard between two weak ones
unfoldable pub strong_heard : Replica
strong_heard =
    run (fresh 3 2) (deliver (weak 0 1 4 (read 0)) ∷ deliver (strong 1 1 5 (read 0) empty_set) ∷ deliver (weak 0 2 30 (read 0)) ∷ [])

-- register 4 is set twice and carried out; then two earlier requests are heard with no step between
unfoldable pub twice_changed : Replica
twice_changed =
    run (driven (fresh 3 2) (deliver (weak 0 1 10 (set_to 4 6)) ∷ deliver (weak 0 2 20 (set_to 4 7)) ∷ []))
    (deliver (weak 1 1 5 (set_to 4 1)) ∷ deliver (weak 1 2 1 (read 4)) ∷ [])

-- an own strong request claims register 0 at clock 20; a weak one that sets it at clock 10 is heard; both are carried out in clock order
unfoldable pub overtaken : Replica
overtaken = driven (fresh 2 0) (make_strong 20 (claim 0 5) ∷ deliver (weak 1 1 10 (set_to 0 9)) ∷ [])

-- n weak requests of panel 0, each before all that were heard earlier
unfoldable pub falling : ℕ → List Call
falling zero = []
falling (suc n) = deliver (weak 0 (suc n) (suc n) (add 1 1)) ∷ falling n

-- a strong request at clock 2, a weak one at clock 1, and the strong one settled: both are undone for it
unfoldable pub overtaking : List Call
overtaking = deliver (strong 0 1 2 (read 0) empty_set) ∷ deliver (weak 0 2 1 (read 0)) ∷ commit (numbered 0 1) ∷ []

-- ---- what shows in them

unfoldable pub faults : List Case
faults =
    -- ordering by clock alone: panels differ at a tie
    case (standing (high ∷ low ∷ [])) (standing (low ∷ high ∷ []))
    -- adding a strong number to the known set when heard: contexts then name unsettled strong requests; nor do they name later ones
    ∷ case (answer strong_heard (make_strong 9 (read 0))).request.context.words (join empty_set (numbered 0 1)).words
    -- replacing the undo list, not extending it, when the order changes again before the undos are done
    ∷ case (numbers twice_changed.book.execution.rollback) (0 ∷ 2 ∷ 0 ∷ 1 ∷ [])
    ∷ case (register_shown (idled twice_changed) 4 ∷ []) (7 ∷ [])
    -- showing the last tentative response, 9, as stable after the request's place changed; the stable one comes with its carry-out
    ∷ case (replied (answer overtaken (commit (numbered 0 1)))) (0 ∷ 0 ∷ 0 ∷ no_mark ∷ [])
    ∷ case (replied (answer (run overtaken (commit (numbered 0 1) ∷ undo ∷ undo ∷ [])) execute)) (0 ∷ 1 ∷ 5 ∷ stable_mark ∷ [])
    -- undoing oldest first: two sets of one register leave the wrong value
    ∷ case (register_shown twice_changed 4 ∷ register_shown (step twice_changed undo) 4 ∷ []) (7 ∷ 6 ∷ [])
    ∷ []

-- the undos done by 8 requests without a settlement, and by 2 requests with one, beside the bound; and the bounds that document 01 gives
unfoldable pub reaching : List Case
reaching =
    case (undos_shown (driven (fresh 2 1) (falling 8)) ∷ []) (most_undos 8 0 ∷ [])
    ∷ case (undos_shown (driven (fresh 2 1) overtaking) ∷ []) (most_undos 2 1 ∷ [])
    ∷ case (most_undos 3 1 ∷ most_undos 512 512 ∷ []) (6 ∷ 262144 ∷ [])
    ∷ []
