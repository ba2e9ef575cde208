-- Document 01's worked example, by computation: the whole printout of its 126 bytes, and what a receipt tells of each message in them.
use Prim.Native.Nat.{ℕ}
use mathlib.Core.Path.{◌≡◌, refl}
use mathlib.Core.List.{List, [], ◌∷◌, ◌++◌}
use Rattle.text.specs.Text.{ascii, significant, decimal, rest_of_line, line}
use Rattle.numbers.specs.Numbers.{same_number, bad_number}
use Rattle.request.specs.Operations.{same_operation, bad_operation}
use Rattle.request.specs.Asked.{same_asked, bad_asked}
use Rattle.request.specs.Order.{before}
use Rattle.request.specs.Request.{same_request, bad_context}
use Rattle.sets.specs.Sets.{same_words, same_context, all_zero, is_empty, names_from, bit, member, join}
use Rattle.sets.specs.Sets.{lacked_words, difference, subset}
use Rattle.effects.specs.Effect.{off_board, added, claimed, exec}
use Rattle.effects.specs.Replay.{replay_on, replay}
use Rattle.creek.specs.Plan.{entered, committing, committing_found, deliver_refusal, commit_refusal}
use Rattle.creek.specs.Execution.{registers, adjusted, undone, undo_refusal, executed_next, execute_refusal}
use Rattle.creek.specs.Book.{refusal, accepted}
use Rattle.creek.specs.Replies.{execution_mark, execution_reply, settlement_reply}
use Rattle.creek.specs.Replies.{stable_reply_due, accepted_answer, answer_of, accepted_awaiting}
use Rattle.creek.specs.Calls.{bad_shop, fresh, accept, step}
use Rattle.creek.specs.History.{after_due_steps}
use Rattle.wire.specs.Integers.{integer_at}
use Rattle.wire.specs.Layout.{kind_with, layout, widths_with, least_size, most_size}
use Rattle.fields.specs.Widths.{decode}
use Rattle.wire.specs.Message.{kind_of, message_from, number_in}
use Rattle.wire.specs.Reader.{length_at, kind_at, run_at, fields_at, spare_set, refusal_as, read_as, read_at}
use Rattle.report.specs.Lines.{board_line, message_line, totals_line, register_line, line_unless_zero, register_lines_from, register_lines}
use Rattle.intake.specs.Intake.{call_of, number_told, kind_told}
use Rattle.runs.specs.Found.{found}
use Rattle.printed.specs.Printout.{after, after_all, line_of_message, line_for, refusal_in}
use Rattle.printed.specs.Printout.{message_lines, closing, printout_of, printout}

-- three panels, of which this is the last
abbrev pub shop : List ℕ
shop = 3 ∷ 2 ∷ []

-- weak 0/1 at clock 10: set 4 to 6
abbrev pub setting : List ℕ
setting = 18 ∷ 0 ∷ 1 ∷ 0 ∷ 0 ∷ 1 ∷ 10 ∷ 0 ∷ 0 ∷ 0 ∷ 2 ∷ 4 ∷ 0 ∷ 0 ∷ 6 ∷ 0 ∷ 0 ∷ 0 ∷ []

-- weak 1/1 at clock 5: add 3 to 4
abbrev pub adding : List ℕ
adding = 18 ∷ 0 ∷ 1 ∷ 0 ∷ 1 ∷ 1 ∷ 5 ∷ 0 ∷ 0 ∷ 0 ∷ 3 ∷ 4 ∷ 0 ∷ 0 ∷ 3 ∷ 0 ∷ 0 ∷ 0 ∷ []

abbrev pub zero_word : List ℕ
zero_word = 0 ∷ 0 ∷ 0 ∷ 0 ∷ 0 ∷ 0 ∷ 0 ∷ 0 ∷ []

-- strong 1/2 at clock 12: claim 0 for 2
abbrev pub claiming : List ℕ
claiming = 82 ∷ 0 ∷ 2 ∷ 0 ∷ 1 ∷ 2 ∷ 12 ∷ 0 ∷ 0 ∷ 0 ∷ 4 ∷ 0 ∷ 0 ∷ 0 ∷ 2 ∷ 0 ∷ 0 ∷ 0 ∷ []

-- its context {1/1}: of the second of eight words the lowest bit
abbrev pub context : List ℕ
context =
    zero_word ++ (1 ∷ 0 ∷ 0 ∷ 0 ∷ 0 ∷ 0 ∷ 0 ∷ 0 ∷ [])
    ++ zero_word ++ zero_word ++ zero_word ++ zero_word ++ zero_word ++ zero_word

-- the settlement of 1/2
abbrev pub settling : List ℕ
settling = 6 ∷ 0 ∷ 3 ∷ 0 ∷ 1 ∷ 2 ∷ []

abbrev pub worked_input : List ℕ
worked_input = shop ++ setting ++ adding ++ claiming ++ context ++ settling

abbrev pub worked_output : List ℕ
worked_output =
    ascii "board 3 2\n"
    ++ ascii "1 1 0 1 0 0\n"
    ++ ascii "2 1 1 1 0 1\n"
    ++ ascii "3 2 1 2 0 0\n"
    ++ ascii "4 3 1 2 0 2\n"
    ++ ascii "settled 2 unsettled 1 undone 3 carried 6\n"
    ++ ascii "register 0 2\n"
    ++ ascii "register 4 6\n"

pub printout-worked : printout worked_input ≡ worked_output
unfolding significant decimal rest_of_line line same_number bad_number same_operation bad_operation same_asked bad_asked before same_request bad_context
    same_words same_context all_zero is_empty names_from bit member join lacked_words difference subset off_board added claimed exec replay_on
    replay entered committing committing_found deliver_refusal commit_refusal registers adjusted undone undo_refusal executed_next
    execute_refusal refusal accepted execution_mark execution_reply settlement_reply stable_reply_due accepted_answer answer_of
    accepted_awaiting bad_shop fresh accept step after_due_steps integer_at kind_with layout widths_with least_size most_size decode kind_of message_from
    length_at kind_at run_at fields_at spare_set refusal_as read_as read_at board_line message_line totals_line register_line line_unless_zero
    register_lines_from register_lines found call_of after after_all number_in line_of_message line_for refusal_in message_lines closing printout_of
    printout ascii
printout-worked = refl

-- what a receipt tells of what stands at a place of it: kind, panel, event
abbrev told : ℕ → List ℕ
told at =
    let o = read_at worked_input at in
    kind_told o ∷ (number_told o).panel.0 ∷ (number_told o).event.0 ∷ []

-- of the four messages, of the last byte alone, and of the end
pub receipts-worked : told 2 ++ told 20 ++ told 38 ++ told 120 ++ told 125 ++ told 126
    ≡ 1 ∷ 0 ∷ 1 ∷ 1 ∷ 1 ∷ 1 ∷ 2 ∷ 1 ∷ 2 ∷ 3 ∷ 1 ∷ 2 ∷ 0 ∷ 0 ∷ 0 ∷ 0 ∷ 0 ∷ 0 ∷ []
unfolding integer_at kind_with layout widths_with least_size most_size decode kind_of message_from length_at kind_at run_at fields_at spare_set refusal_as
    read_as read_at number_in number_told kind_told
receipts-worked = refl
