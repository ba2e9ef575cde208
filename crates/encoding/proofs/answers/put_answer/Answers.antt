-- `answers::put_answer` meets its contract: the head, and the message behind it.
use Prim.Native.Nat.{ℕ, ◌+◌, ◌/◌, ◌%◌, ◌≤◌}
use mathlib.Core.List.{List, [], ◌∷◌}
use mathlib.Core.Path.{◌≡◌}
use lib.ListN.{length}
use native.Mathlib.Omega.{arith}
use Rattle.creek.specs.declared.Answer.{Answer}
use Rattle.text.specs.Written.{Room}
use Rattle.text.proofs.WrittenLaws.{then, room_first, room_next}
use Rattle.wire.specs.Integers.{integer_bytes}
use Rattle.encoding.specs.Encoding.{answer_size, answer_bytes, head_bytes, message_bytes}
use Rattle.encoding.proofs.SizeLaws.{length-answer}
use Rattle.encoding.proofs.answers.put_answer.Goals as goal

-- its head, the bytes of the response as the library has them
head : (a : Answer)
    → a.refusal ∷ a.mark ∷ a.number.panel.0 ∷ a.number.event.0 ∷ (a.response % 256) ∷ (a.response / 256 % 256)
    ∷ (a.response / 65536 % 256) ∷ (a.response / 16777216 % 256) ∷ []
    ≡ head_bytes a
unfolding head_bytes integer_bytes
head a =
    let third : a.response / 65536 ≡ a.response / 256 / 256 = omega arith in
    let fourth : a.response / 16777216 ≡ a.response / 256 / 256 / 256 = omega arith in
    rw (third, fourth)

-- there is room for the answer
room : (out : List ℕ) (a : Answer) → answer_size ≤ length out → Room out (answer_bytes a)
room out a fits = record { fits = omega (arith, length-answer a) }

pub put_bytes-at-requires : goal.put_bytes-at-requires
unfolding answer_bytes
put_bytes-at-requires c =
    rw (c.to_le_bytes.ensures, head c.args.a) (room_first (head_bytes c.args.a) (message_bytes c.args.a.request) (room _ c.args.a c.requires))

pub put_message-requires : goal.put_message-requires
unfolding answer_bytes
put_message-requires c =
    let put = rw (c.to_le_bytes.ensures, head c.args.a) at c.put_bytes-at.ensures in
    room_next {s = head_bytes c.args.a} (message_bytes c.args.a.request) put (room _ c.args.a c.requires)

pub returns : goal.returns
unfolding answer_bytes
returns c =
    let a = c.args.a in
    let put = rw (c.to_le_bytes.ensures, head c.args.a) at c.put_bytes-at.ensures in
    then {s = head_bytes a} {t = message_bytes a.request} put c.put_message.ensures
