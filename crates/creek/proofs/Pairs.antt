-- The worked pairs of histories, that the suppositions are met, and that each is needed: by computation.
use Prim.Native.Nat.{ℕ}
use native.Mathlib.Omega.{arith}
use mathlib.Core.Path.{◌≡◌, refl, ap}
use mathlib.Core.List.{List, [], ◌∷◌, map}
use lib.ListN.{get_or}
use Rattle.request.specs.declared.Request.{Request}
use Rattle.numbers.specs.Numbers.{same_number, bad_number}
use Rattle.request.specs.Operations.{same_operation, bad_operation}
use Rattle.request.specs.Asked.{same_asked, bad_asked}
use Rattle.sets.specs.Sets.{same_words, same_context, all_zero, is_empty, names_from, bit, member, join, leave}
use Rattle.sets.specs.Sets.{lacked_words, difference, subset}
use Rattle.request.specs.Order.{before}
use Rattle.request.specs.Request.{same_request, bad_context}
use Rattle.effects.specs.Effect.{off_board, added, claimed, exec, response}
use Rattle.effects.specs.Replay.{replay_on, replay}
use Rattle.creek.specs.Plan.{order, last_event, last_clock, entered, without, at_least, made, committing, committing_found}
use Rattle.creek.specs.Plan.{Parts, invoke_refusal, deliver_refusal, commit_refusal}
use Rattle.creek.specs.Execution.{registers, adjusted, undone, undo_refusal, executed_next, execute_refusal}
use Rattle.creek.specs.Book.{refusal, accepted, noted}
use Rattle.creek.specs.Replies.{settlement_reply, stable_reply_due, undo_reply, execution_mark, execution_reply, accepted_answer}
use Rattle.creek.specs.Replies.{named_by_refusal, answer_of, accepted_awaiting, response_on, response_in}
use Rattle.creek.specs.Calls.{bad_shop, fresh, accept, step}
use Rattle.creek.specs.History.{run, after_due_steps}
use Rattle.creek.specs.Showing.{register_shown}
use Rattle.creek.specs.examples.Notation.{Case, answers, numbers, driven}
use Rattle.creek.specs.Agreement.{in_clock_order, committing_in_turn, standing_order, SameRequests, gathered}
use Rattle.creek.specs.Agreement.{History, replica_after}
use Rattle.creek.specs.examples.Pairs.{places_in, strong_zero, weak_one, spread_by_zero, zero_first, one_first, clock_four, clock_six, pairs}
use Rattle.creek.specs.examples.Pairs.{SuppositionsMet, DifferentOrders, SuppositionsNeeded}

pub pairs-told : map (λ (c : Case). c.computed) pairs ≡ map (λ (c : Case). c.said) pairs
unfolding pairs places_in answers numbers driven same_number bad_number same_operation bad_operation same_asked bad_asked same_words same_context
    all_zero is_empty names_from bit member join leave lacked_words difference subset before same_request bad_context off_board added claimed
    exec response replay_on replay last_event last_clock entered without at_least made committing committing_found invoke_refusal
    deliver_refusal commit_refusal registers adjusted undone undo_refusal executed_next execute_refusal refusal accepted settlement_reply
    stable_reply_due undo_reply execution_mark execution_reply accepted_answer named_by_refusal answer_of accepted_awaiting bad_shop fresh accept
    step run after_due_steps register_shown
pairs-told = refl

-- ---- the suppositions

swapped : (x y : Request) → SameRequests (x ∷ y ∷ []) (y ∷ x ∷ [])
swapped x y z = omega arith

pub suppositions-met : SuppositionsMet
unfolding same_number bad_number bad_operation bad_asked all_zero is_empty names_from bit member join leave lacked_words difference subset
    before bad_context last_event last_clock entered without at_least made committing committing_found invoke_refusal deliver_refusal
    commit_refusal refusal accepted noted accepted_answer answer_of bad_shop fresh gathered
suppositions-met = record {
  interleaved = record { requests = swapped strong_zero weak_one; settlements = refl };
  made_and_heard_is = record { requests = swapped spread_by_zero weak_one; settlements = refl };
}

-- two histories whose orders have different numbers have different orders
different : (h k : History) → (numbers (order (replica_after h).book.plan) ≡ numbers (order (replica_after k).book.plan) → ⊥)
    → DifferentOrders h k
different h k differ e = differ (ap numbers e)

pub suppositions_needed : SuppositionsNeeded
unfolding numbers same_number bad_number same_operation bad_operation same_asked bad_asked same_words same_context all_zero is_empty names_from bit
    member join leave lacked_words difference subset before same_request bad_context off_board added exec replay_on replay entered committing
    committing_found deliver_refusal commit_refusal registers adjusted executed_next execute_refusal refusal accepted noted bad_shop fresh
    accept step run in_clock_order committing_in_turn standing_order gathered claimed response last_event last_clock without at_least made
    invoke_refusal response_on response_in execution_mark execution_reply accepted_answer answer_of accepted_awaiting settlement_reply
    stable_reply_due
suppositions_needed = record {
  same_requests = refl;
  zero_first_is = refl;
  one_first_is = refl;
  settlements_in_order = different zero_first one_first (λ e. absurd (omega (arith, ap (λ (l : List ℕ). get_or l 0 0) e)));
  same_numbers = refl;
  no_settlements = refl;
  field_for_field = different clock_four clock_six (λ e. absurd (omega (arith, ap (λ (l : List ℕ). get_or l 0 0) e)));
  same_again = refl;
  none_again = refl;
  one_idle = refl;
  both_idle = λ e. absurd (omega (arith, ap (λ (l : List ℕ). get_or l 4 0) e));
  each_once = λ e. absurd (omega (arith, ap (λ (p : Parts). amounts p.tentative) e));
  told_tentative = refl;
  settled_otherwise = refl;
}
  where
    amounts : List Request → ℕ
    amounts [] = 0
    amounts (x ∷ xs) = x.asked.amount
