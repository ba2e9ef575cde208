-- A short list of calls, byte by byte: in a shop of two panels panel 0 makes a weak request, which is carried out.
use Prim.Native.Nat.{ℕ}
use mathlib.Core.Path.{◌≡◌, refl}
use mathlib.Core.List.{List, [], ◌∷◌, ◌++◌}
use lib.ListN.{replicate}
use Rattle.numbers.specs.Numbers.{same_number, bad_number}
use Rattle.request.specs.Operations.{bad_operation}
use Rattle.request.specs.Asked.{bad_asked}
use Rattle.request.specs.Order.{before}
use Rattle.sets.specs.Sets.{all_zero, is_empty, bit, member, join, leave}
use Rattle.effects.specs.Effect.{off_board, added, claimed, amount_moved, moved, exec, response}
use Rattle.effects.specs.Replay.{replay_on, replay}
use Rattle.creek.specs.Book.{refusal, accepted, undo, execute}
use Rattle.creek.specs.Calls.{bad_shop, fresh, accept, step}
use Rattle.creek.specs.Execution.{registers, adjusted, executed_next, execute_refusal}
use Rattle.creek.specs.Plan.{last_event, last_clock, entered, at_least, made, invoke_refusal}
use Rattle.creek.specs.Replies.{execution_mark, execution_reply, accepted_answer, answer_of, accepted_awaiting}
use Rattle.wire.specs.Integers.{integer_at, integer_bytes}
use Rattle.wire.specs.Layout.{kind_with, layout, widths_with, least_size, most_size}
use Rattle.fields.specs.Widths.{decode, encode}
use Rattle.wire.specs.Message.{kind_of, front_of, run_of, behind_of, contents, widths_of, size_of, fields_of, bytes_of, message_from}
use Rattle.wire.specs.Message.{weak_with_context}
use Rattle.wire.specs.Reader.{length_at, kind_at, run_at, fields_at, spare_set, refusal_as, read_as, read_at}
use Rattle.intake.specs.Intake.{call_of}
use Rattle.encoding.specs.Encoding.{message_at, invocation_of, call_at, entry_at, entries_from, call_count, entries_of}
use Rattle.encoding.specs.Encoding.{one, all_due, after, answer_to}
use Rattle.encoding.specs.Encoding.{message_bytes, head_bytes, answer_bytes, answers_bytes, fresh_of}

-- clock 9, add 7 to register 5
abbrev pub wanted : List ℕ
wanted = 18 ∷ 0 ∷ 1 ∷ 0 ∷ 0 ∷ 0 ∷ 9 ∷ 0 ∷ 0 ∷ 0 ∷ 3 ∷ 5 ∷ 0 ∷ 0 ∷ 7 ∷ 0 ∷ 0 ∷ 0 ∷ []

abbrev pub asked : List ℕ
asked = 2 ∷ 0 ∷ 1 ∷ wanted ++ replicate 64 0 ++ 3 ∷ replicate 82 0

-- the request as it is spread: its number is event 1 of panel 0
abbrev pub spread : List ℕ
spread = 18 ∷ 0 ∷ 1 ∷ 0 ∷ 0 ∷ 1 ∷ 9 ∷ 0 ∷ 0 ∷ 0 ∷ 3 ∷ 5 ∷ 0 ∷ 0 ∷ 7 ∷ 0 ∷ 0 ∷ 0 ∷ []

-- the request of zeros, where nothing is to be spread
abbrev pub zeros : List ℕ
zeros = 18 ∷ 0 ∷ 1 ∷ 0 ∷ replicate 78 0

pub made_and_carried_out : answers_bytes (fresh_of asked) (entries_of asked)
    ≡ (0 ∷ 0 ∷ 0 ∷ 0 ∷ 0 ∷ 0 ∷ 0 ∷ 0 ∷ spread ++ replicate 64 0) ++ 0 ∷ 1 ∷ 0 ∷ 1 ∷ 7 ∷ 0 ∷ 0 ∷ 0 ∷ zeros
unfolding same_number bad_number bad_operation bad_asked before all_zero is_empty bit member join leave off_board added claimed amount_moved
    moved exec response replay_on replay refusal accepted bad_shop fresh accept step registers adjusted executed_next
    execute_refusal last_event last_clock entered at_least made invoke_refusal execution_mark execution_reply accepted_answer answer_of
    accepted_awaiting integer_at integer_bytes kind_with layout widths_with least_size most_size decode encode kind_of front_of run_of behind_of
    contents widths_of size_of fields_of bytes_of message_from weak_with_context length_at kind_at run_at fields_at
    spare_set refusal_as read_as read_at message_at invocation_of call_of call_at entry_at entries_from call_count entries_of after answer_to
    message_bytes head_bytes answer_bytes answers_bytes
made_and_carried_out = refl

-- the tags of the steps, whatever stands behind them: 2 undo, 3 carry out, 4 all due steps
pub tags_of_steps : (behind : List ℕ) → (entry_at (2 ∷ behind) 0 ≡ one undo) × ((entry_at (3 ∷ behind) 0 ≡ one execute) × (entry_at (4 ∷ behind) 0 ≡ all_due))
unfolding call_at entry_at
tags_of_steps behind = (refl, (refl, refl))
