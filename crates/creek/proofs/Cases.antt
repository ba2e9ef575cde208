-- The ● cases, the readings of document 02, the faults that a panel could hide, and that the bound is reached: by computation.
use mathlib.Core.Path.{◌≡◌, refl}
use mathlib.Core.List.{map}
use lib.Count.{count_trailing_zeros}
use Rattle.numbers.specs.Numbers.{same_number, bad_number}
use Rattle.request.specs.Operations.{same_operation, bad_operation}
use Rattle.request.specs.Asked.{same_asked, bad_asked}
use Rattle.sets.specs.Sets.{same_words, same_context, all_zero, is_empty, names_from, bit, member, join, leave}
use Rattle.sets.specs.Sets.{lacked_words, difference, subset, lowest_from, lowest, lowest_lacking}
use Rattle.request.specs.Order.{before}
use Rattle.request.specs.Request.{same_request, bad_context}
use Rattle.effects.specs.Effect.{off_board, added, claimed, amount_moved, moved, first_held, lowest_held, all_set, all_claimed}
use Rattle.effects.specs.Effect.{all_claimed_response, exec, response}
use Rattle.effects.specs.Replay.{replay_on, replay}
use Rattle.creek.specs.Plan.{last_event, last_clock, entered, without, at_least, made, committing, committing_found}
use Rattle.creek.specs.Plan.{invoke_refusal, deliver_refusal, commit_refusal}
use Rattle.creek.specs.Execution.{registers, adjusted, undone, undo_refusal, executed_next, execute_refusal}
use Rattle.creek.specs.Book.{refusal, accepted}
use Rattle.creek.specs.Replies.{response_on, response_in, execution_mark, execution_reply, undo_reply, accepted_answer}
use Rattle.creek.specs.Replies.{settlement_reply, stable_reply_due, named_by_refusal, answer_of, accepted_awaiting}
use Rattle.creek.specs.Calls.{bad_shop, fresh_refusal, fresh, accept, step}
use Rattle.creek.specs.History.{run, after_due_steps}
use Rattle.creek.specs.Showing.{register_refusal, register_shown, place_refusal, place_shown}
use Rattle.creek.specs.Status.{status_refusal, status_place, status_settled, status_awaited, status_executed, status_response}
use Rattle.creek.specs.Demand.{most_undos}
use Rattle.creek.specs.examples.Notation.{Case, on_registers, on_board, answers, spreads, events_and_clocks, numbers, driven}
use Rattle.creek.specs.examples.Cases.{standing, worked, after_worked, nine_nine_eight, cases}
use Rattle.creek.specs.examples.Faults.{strong_heard, twice_changed, overtaken, falling, overtaking, faults, reaching}
use Rattle.creek.specs.examples.Answers.{request_fields, answer_fields, fields_told, answer_cases}
use Rattle.creek.specs.examples.Answers.{register_at, place_at, counts, shop_of, both_held, shown_cases}
use Rattle.creek.specs.examples.Statuses.{status_after, status_cases}
use Rattle.creek.specs.examples.Readings.{made_and_heard, readings, sum_after, move_readings}

pub edge-cases : map (λ (c : Case). c.computed) cases ≡ map (λ (c : Case). c.said) cases
unfolding cases standing worked after_worked nine_nine_eight on_registers on_board answers spreads events_and_clocks numbers driven
    fresh_refusal same_number bad_number same_operation bad_operation same_asked bad_asked same_words same_context all_zero is_empty names_from bit
    member join leave lacked_words difference subset before same_request bad_context off_board added claimed amount_moved moved first_held
    lowest_held all_set all_claimed all_claimed_response exec response replay_on replay last_event last_clock entered at_least made committing
    committing_found invoke_refusal deliver_refusal commit_refusal registers adjusted undone undo_refusal executed_next execute_refusal refusal
    accepted accepted_answer settlement_reply stable_reply_due named_by_refusal answer_of accepted_awaiting bad_shop fresh accept step run
    after_due_steps register_shown
edge-cases = refl

-- each kind of answer, in every field
pub answers-told : map (λ (c : Case). c.computed) answer_cases ≡ map (λ (c : Case). c.said) answer_cases
unfolding answer_cases fields_told answer_fields request_fields answers fresh_refusal same_number bad_number same_operation bad_operation
    same_asked bad_asked same_words same_context all_zero is_empty names_from bit member join leave lacked_words difference subset lowest_from
    lowest lowest_lacking count_trailing_zeros before same_request bad_context off_board added claimed amount_moved moved exec response replay_on
    replay last_event last_clock entered without at_least made committing committing_found invoke_refusal deliver_refusal commit_refusal
    registers adjusted undone undo_refusal executed_next execute_refusal refusal accepted response_on response_in execution_mark
    execution_reply undo_reply accepted_answer settlement_reply stable_reply_due named_by_refusal answer_of accepted_awaiting bad_shop fresh accept
    step run
answers-told = refl

-- what each showing call shows
pub shown-told : map (λ (c : Case). c.computed) shown_cases ≡ map (λ (c : Case). c.said) shown_cases
unfolding shown_cases both_held register_at place_at counts shop_of request_fields driven same_number bad_number same_operation bad_operation
    same_asked bad_asked same_words same_context all_zero is_empty names_from bit member join leave lacked_words difference subset lowest_from lowest
    lowest_lacking before same_request bad_context off_board added claimed amount_moved moved exec response replay_on replay last_event
    last_clock entered without at_least made committing committing_found invoke_refusal deliver_refusal commit_refusal registers adjusted
    undone undo_refusal executed_next execute_refusal refusal accepted response_on response_in execution_mark execution_reply undo_reply
    accepted_answer settlement_reply stable_reply_due named_by_refusal answer_of accepted_awaiting bad_shop fresh accept step run after_due_steps
    register_refusal register_shown place_refusal place_shown
shown-told = refl

-- what a panel has of a request
pub statuses-told : map (λ (c : Case). c.computed) status_cases ≡ map (λ (c : Case). c.said) status_cases
unfolding status_cases status_after status_refusal status_place status_settled status_awaited status_executed status_response same_number
    bad_number bad_operation bad_asked same_words same_context all_zero is_empty names_from bit member join leave lacked_words difference subset
    before same_operation same_asked same_request bad_context off_board added claimed exec response replay_on replay last_event last_clock
    entered without at_least made committing committing_found invoke_refusal deliver_refusal commit_refusal registers adjusted undone
    undo_refusal executed_next execute_refusal refusal accepted response_on response_in execution_mark execution_reply undo_reply
    accepted_answer settlement_reply stable_reply_due named_by_refusal answer_of accepted_awaiting bad_shop fresh accept step run
statuses-told = refl

-- each reading chosen is what is computed
pub readings-told : map (λ (c : Case). c.computed) readings ≡ map (λ (c : Case). c.said) readings
unfolding readings made_and_heard answers spreads events_and_clocks same_number bad_number bad_operation bad_asked all_zero is_empty names_from bit
    member join leave before bad_context last_event last_clock entered without at_least made invoke_refusal deliver_refusal adjusted refusal
    accepted accepted_answer named_by_refusal answer_of accepted_awaiting bad_shop fresh accept step run
readings-told = refl

pub move-readings-told : map (λ (c : Case). c.computed) move_readings ≡ map (λ (c : Case). c.said) move_readings
unfolding move_readings sum_after on_registers answers bad_operation bad_asked off_board amount_moved moved exec response replay_on last_event
    entered invoke_refusal adjusted execute_refusal refusal accepted execution_reply accepted_answer answer_of bad_shop fresh accept step
move-readings-told = refl

-- each fault would show
pub faults-shown : map (λ (c : Case). c.computed) faults ≡ map (λ (c : Case). c.said) faults
unfolding faults standing strong_heard twice_changed overtaken numbers driven same_number bad_number same_operation bad_operation same_asked
    bad_asked same_words same_context all_zero is_empty names_from bit member join leave lacked_words difference subset before same_request
    bad_context off_board added claimed amount_moved moved exec response replay_on replay last_event last_clock entered without at_least made
    committing committing_found invoke_refusal deliver_refusal commit_refusal registers adjusted undone undo_refusal executed_next
    execute_refusal refusal accepted response_on response_in execution_mark execution_reply undo_reply accepted_answer settlement_reply
    stable_reply_due named_by_refusal answer_of accepted_awaiting bad_shop fresh accept step run after_due_steps register_shown
faults-shown = refl

-- demand 3's bound is reached, so no smaller one holds
pub bound-reached : map (λ (c : Case). c.computed) reaching ≡ map (λ (c : Case). c.said) reaching
unfolding reaching falling overtaking most_undos driven same_number bad_number same_operation bad_operation same_asked bad_asked same_words
    same_context all_zero is_empty names_from bit member join lacked_words difference subset before same_request bad_context entered committing
    committing_found deliver_refusal commit_refusal adjusted undone undo_refusal executed_next execute_refusal refusal accepted bad_shop fresh
    accept step after_due_steps
bound-reached = refl
