-- What the writer answers, and the lent bytes afterwards.
use Rattle.std.specs.Prelude.{ℕ, ◌≡◌, cond, List, ◌++◌, length, drop, ltb, eqb, Result, Ok, Err}
use Rattle.request.specs.declared.refusal.Refusal.{Refusal}
use Rattle.request.specs.Refusal as refusal
use Rattle.wire.specs.Message.{BusMessage, size_of, bytes_of, weak_with_context, Fits}
use Rattle.wire.specs.Reader.{by_number}

-- the refusal of a message where there is room for so many bytes, in document 01's order: bad context, no room
unfoldable pub write_refusal : BusMessage → ℕ → ℕ
write_refusal m room =
    cond (weak_with_context m) refusal.bad_context
    (cond (ltb room (size_of m)) refusal.no_room
    refusal.accepted)

-- the answer: the bytes written, or the refusal
unfoldable pub write_answer : BusMessage → ℕ → Result ℕ ℕ
write_answer m room = cond {A = Result ℕ ℕ} (eqb (write_refusal m room) refusal.accepted) (Ok (size_of m)) (Err (write_refusal m room))

-- the lent bytes afterwards: the message at their front, or no change where it is refused
unfoldable pub after_write : BusMessage → List ℕ → List ℕ
after_write m out = cond (eqb (write_refusal m (length out)) refusal.accepted) (bytes_of m ++ drop (size_of m) out) out

-- what the writer does with the message m, where the lent bytes were out and are out'
pub record Wrote (m : BusMessage) (out out' : List ℕ) (r : Result ℕ Refusal) : Type 0 where
  pub answer : by_number r ≡ write_answer m (length out)
  pub after : out' ≡ after_write m out
  pub fits : Fits m
