-- Worked pairs of histories (document 02, request (j)), each what the definitions compute beside what the reading chosen says
-- (docs/DECISIONS.md); and that the suppositions of the claim about two panels are met, and each is needed. It is computed in
-- `proofs/Pairs`.
use Rattle.std.specs.Prelude.{ℕ, ◌≡◌, List, [], ◌∷◌, ◌++◌, map, length}
use Rattle.numbers.specs.declared.Number.{Number}
use Rattle.request.specs.declared.Request.{Request}
use Rattle.numbers.specs.Numbers.{numbered}
use Rattle.sets.specs.Sets.{empty_set, join}
use Rattle.request.specs.Refusal as refused
use Rattle.creek.specs.Plan.{order}
use Rattle.creek.specs.Execution.{registers}
use Rattle.creek.specs.Book.{Call, deliver, commit, undo, execute}
use Rattle.creek.specs.Replies.{tentative_mark, response_in}
use Rattle.creek.specs.Calls.{fresh, answer}
use Rattle.creek.specs.History.{run}
use Rattle.creek.specs.Showing.{register_shown}
use Rattle.creek.specs.examples.Notation.{Case, case, set_to, add, claim, weak, strong, make, make_strong, answers, numbers, driven}
use Rattle.creek.specs.examples.Notation.{replied}
use Rattle.creek.specs.Agreement.{standing_order, History, requests_in, settlements_in, replica_after, AcceptedSame, Idle}

-- ---- the histories

-- panel 2 and panel 3 of a shop of four, to which those calls were made
abbrev pub at_two : List Call → History
at_two calls = record { panels = 4; own = 2; calls = calls }

abbrev pub at_three : List Call → History
at_three calls = record { panels = 4; own = 3; calls = calls }

-- how many requests are settled, and then panel and event at each place of the standing order
unfoldable pub places_in : History → List ℕ
places_in h = length (replica_after h).book.plan.committed ∷ numbers (order (replica_after h).book.plan)

-- 0/1, strong with clock 50
abbrev pub strong_zero : Request
strong_zero = strong 0 1 50 (set_to 4 6) empty_set

-- 1/1, weak with clock 5
abbrev pub weak_one : Request
weak_one = weak 1 1 5 (add 3 4)

-- 1/2, strong with clock 60
abbrev pub strong_one : Request
strong_one = strong 1 2 60 (claim 0 2) empty_set

-- 1/3, strong with clock 70; it names 1/1
abbrev pub names_weak : Request
names_weak = strong 1 3 70 (claim 0 2) (join empty_set (numbered 1 1))

-- the request that panel 0 spreads when it makes a strong one at clock 50
abbrev pub spread_by_zero : Request
spread_by_zero = (answer (fresh 4 0) (make_strong 50 (set_to 4 6))).request

-- 0/1 is settled before 1/1 is heard, or after
abbrev pub heard_last : History
heard_last = at_two (deliver strong_zero ∷ commit (numbered 0 1) ∷ deliver weak_one ∷ [])

abbrev pub heard_first : History
heard_first = at_three (deliver weak_one ∷ deliver strong_zero ∷ commit (numbered 0 1) ∷ [])

-- panel 0 makes 0/1 and hears 1/1, or panel 2 hears 1/1 and then 0/1 as it was spread
abbrev pub made_by_zero : History
made_by_zero = record { panels = 4; own = 0; calls = make_strong 50 (set_to 4 6) ∷ deliver weak_one ∷ commit (numbered 0 1) ∷ [] }

abbrev pub heard_from_zero : History
heard_from_zero = at_two (deliver weak_one ∷ deliver spread_by_zero ∷ commit (numbered 0 1) ∷ [])

-- both strong requests are heard and settled, the one or the other first
abbrev pub zero_first : History
zero_first = at_two (deliver strong_zero ∷ deliver strong_one ∷ commit (numbered 0 1) ∷ commit (numbered 1 2) ∷ [])

abbrev pub one_first : History
one_first = at_three (deliver strong_zero ∷ deliver strong_one ∷ commit (numbered 1 2) ∷ commit (numbered 0 1) ∷ [])

-- 0/1 and 1/1 are heard, 0/1 with clock 4 or with clock 6
abbrev pub clock_four : History
clock_four = at_two (deliver (weak 0 1 4 (set_to 4 6)) ∷ deliver weak_one ∷ [])

abbrev pub clock_six : History
clock_six = at_three (deliver (weak 0 1 6 (set_to 4 6)) ∷ deliver weak_one ∷ [])

-- 1/1 is heard, and carried out or not
abbrev pub carried_out : History
carried_out = at_two (deliver weak_one ∷ execute ∷ [])

abbrev pub left_undone : History
left_undone = at_three (deliver weak_one ∷ [])

-- panel 0 makes a strong claim at clock 20 and hears a weak set of the same register at clock 10; the set is carried out
abbrev pub overtaken_claim : List Call
overtaken_claim = make_strong 20 (claim 0 5) ∷ deliver (weak 1 1 10 (set_to 0 9)) ∷ execute ∷ []

-- ---- what the readings say of them

unfoldable pub pairs : List Case
pairs =
    -- 0/1 settled twice at one panel, once at the other: the second is refused by 11 and does not count
    case (answers (fresh 4 2) (deliver strong_zero ∷ commit (numbered 0 1) ∷ commit (numbered 0 1) ∷ []))
    (refused.accepted ∷ refused.accepted ∷ refused.settled_already ∷ [])
    ∷ case (places_in (at_two (deliver strong_zero ∷ commit (numbered 0 1) ∷ commit (numbered 0 1) ∷ []))) (1 ∷ 0 ∷ 1 ∷ [])
    ∷ case (places_in (at_three (deliver strong_zero ∷ commit (numbered 0 1) ∷ []))) (1 ∷ 0 ∷ 1 ∷ [])
    -- a settlement that waited (12) counts from when it went through
    ∷ case (answers (fresh 4 2) (deliver names_weak ∷ commit (numbered 1 3) ∷ deliver weak_one ∷ commit (numbered 1 3) ∷ []))
    (refused.accepted ∷ refused.waits ∷ refused.accepted ∷ refused.accepted ∷ [])
    ∷ case (places_in (at_two (deliver names_weak ∷ commit (numbered 1 3) ∷ deliver weak_one ∷ commit (numbered 1 3) ∷ [])))
    (2 ∷ 1 ∷ 1 ∷ 1 ∷ 3 ∷ [])
    ∷ case (places_in (at_three (deliver weak_one ∷ deliver names_weak ∷ commit (numbered 1 3) ∷ []))) (2 ∷ 1 ∷ 1 ∷ 1 ∷ 3 ∷ [])
    -- the order in which requests were accepted plays no part: 0/1 is settled before 1/1 is heard, or after
    ∷ case (places_in heard_last) (1 ∷ 0 ∷ 1 ∷ 1 ∷ 1 ∷ [])
    ∷ case (places_in heard_first) (1 ∷ 0 ∷ 1 ∷ 1 ∷ 1 ∷ [])
    -- nor does it among equal clocks: by panel and then by event
    ∷ case (places_in (at_two (deliver (weak 0 9 7 (add 1 0)) ∷ deliver (weak 1 1 7 (add 1 0)) ∷ []))) (0 ∷ 0 ∷ 9 ∷ 1 ∷ 1 ∷ [])
    ∷ case (places_in (at_three (deliver (weak 1 1 7 (add 1 0)) ∷ deliver (weak 0 9 7 (add 1 0)) ∷ []))) (0 ∷ 0 ∷ 9 ∷ 1 ∷ 1 ∷ [])
    -- the order of the settlements does
    ∷ case (places_in zero_first) (2 ∷ 0 ∷ 1 ∷ 1 ∷ 2 ∷ [])
    ∷ case (places_in one_first) (2 ∷ 1 ∷ 2 ∷ 0 ∷ 1 ∷ [])
    -- whichever made a request: panel 0 makes 0/1, panel 2 hears it as it was spread
    ∷ case (places_in made_by_zero) (1 ∷ 0 ∷ 1 ∷ 1 ∷ 1 ∷ [])
    ∷ case (places_in heard_from_zero) (1 ∷ 0 ∷ 1 ∷ 1 ∷ 1 ∷ [])
    -- what refused calls and steps leave: nothing of the order
    ∷ case (places_in (at_three (undo ∷ execute ∷ deliver weak_one ∷ deliver weak_one ∷ execute ∷ commit (numbered 0 1) ∷ deliver strong_zero
    ∷ commit (numbered 0 1) ∷ undo ∷ []))) (1 ∷ 0 ∷ 1 ∷ 1 ∷ 1 ∷ [])
    -- the panel of a refused fresh is the panel of a one-panel shop
    ∷ case (places_in (record { panels = 9; own = 0; calls = make 5 (add 3 4) ∷ [] })) (0 ∷ 0 ∷ 1 ∷ [])
    ∷ case (places_in (record { panels = 1; own = 0; calls = make 5 (add 3 4) ∷ [] })) (0 ∷ 0 ∷ 1 ∷ [])
    -- when both are idle, register 4 is the same at both
    ∷ case (register_shown (driven (fresh 4 2) (deliver strong_zero ∷ commit (numbered 0 1) ∷ deliver weak_one ∷ [])) 4 ∷ []) (9 ∷ [])
    ∷ case (register_shown (driven (fresh 4 3) (deliver weak_one ∷ deliver strong_zero ∷ commit (numbered 0 1) ∷ [])) 4 ∷ []) (9 ∷ [])
    ∷ []

-- ---- the suppositions

-- they are met: here are histories with the calls in another order, and by another panel, that accepted the same
pub record SuppositionsMet : Type 0 where
  pub interleaved : AcceptedSame heard_last heard_first
  pub made_and_heard_is : AcceptedSame made_by_zero heard_from_zero

abbrev pub DifferentOrders : History → History → Type 0
DifferentOrders h k = order (replica_after h).book.plan ≡ order (replica_after k).book.plan → ⊥

abbrev pub numbers_of : List Request → List Number
numbers_of l = map (λ x. x.number) l

-- each is needed: here are histories that accepted the same but for it, and that differ; and a reply has to be stable to stand
pub record SuppositionsNeeded : Type 0 where
  -- the same settlements, but not in the same order
  pub same_requests : requests_in zero_first ≡ requests_in one_first
  pub zero_first_is : settlements_in zero_first ≡ numbered 0 1 ∷ numbered 1 2 ∷ []
  pub one_first_is : settlements_in one_first ≡ numbered 1 2 ∷ numbered 0 1 ∷ []
  pub settlements_in_order : DifferentOrders zero_first one_first
  -- requests of the same numbers, but with another clock
  pub same_numbers : numbers_of (requests_in clock_four) ≡ numbers_of (requests_in clock_six)
  pub no_settlements : settlements_in clock_four ≡ settlements_in clock_six
  pub field_for_field : DifferentOrders clock_four clock_six
  -- the same requests and settlements, but one panel is not idle
  pub same_again : requests_in carried_out ≡ requests_in left_undone
  pub none_again : settlements_in carried_out ≡ settlements_in left_undone
  pub one_idle : Idle (replica_after carried_out)
  pub both_idle : registers (replica_after carried_out).book.execution ≡ registers (replica_after left_undone).book.execution → ⊥
  -- two requests of one number and clock, in either order
  pub each_once : standing_order (weak 0 1 5 (add 3 4) ∷ weak 0 1 5 (add 2 4) ∷ []) []
      ≡ standing_order (weak 0 1 5 (add 2 4) ∷ weak 0 1 5 (add 3 4) ∷ []) [] → ⊥
  -- a reply that is not stable: the claim is told 9 as tentative, and settled alone it responds 5
  pub told_tentative : replied (answer (run (fresh 2 0) overtaken_claim) execute) ≡ 0 ∷ 1 ∷ 9 ∷ tentative_mark ∷ []
  pub settled_otherwise : response_in (numbered 0 1)
      (run (fresh 2 0) (overtaken_claim ++ execute ∷ commit (numbered 0 1) ∷ [])).book.plan.committed ≡ 5
