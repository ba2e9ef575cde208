-- How many bytes the answers have.
use Prim.Native.Nat.{ℕ, zero, suc, ◌+◌, ◌*◌, ◌/◌, ◌≤◌}
use mathlib.Core.Path.{◌≡◌, refl, ◌∙◌}
use mathlib.Core.Bool.{Bool, true, false, cond}
use mathlib.Core.List.{List, [], ◌∷◌}
use native.Mathlib.Omega.{arith}
use lib.ListN.{length, length-append, length-replicate}
use lib.Seq.{sets, length-sets}
use borrow.Author.Tests.{ltb-false}
use Rattle.text.specs.Written.{Room}
use Rattle.request.specs.declared.Request.{Request}
use Rattle.creek.specs.declared.Answer.{Answer}
use Rattle.creek.specs.Calls.{Replica}
use Rattle.wire.specs.Integers.{integer_bytes}
use Rattle.wire.specs.Layout.{longest_message}
use Rattle.wire.specs.declared.Message.TheVariants.{Request as request}
use Rattle.wire.specs.Message.{bytes_of, weak_with_context}
use Rattle.encoding.specs.Encoding.{no_message_bytes, message_bytes, head_bytes, answer_bytes, answer_size, answers_bytes}
use Rattle.encoding.specs.Encoding.{calls_at, call_size, Entry, entries_from, call_count, entries_of, after, answer_to}
use Rattle.encoding.specs.Encoding.{tight, entries_run}

length-message : (x : Request) → length (message_bytes x) ≡ longest_message
unfolding message_bytes
length-message x = go (weak_with_context (request x))
  where
    go : (b : Bool) → length (cond {A = List ℕ} b no_message_bytes (sets no_message_bytes 0 (bytes_of (request x)))) ≡ longest_message
    go true = length-replicate {A = ℕ} longest_message 0
    go false = length-sets no_message_bytes 0 (bytes_of (request x)) ∙ length-replicate {A = ℕ} longest_message 0

-- every answer has as many bytes
pub length-answer : (a : Answer) → length (answer_bytes a) ≡ answer_size
unfolding answer_bytes head_bytes integer_bytes
length-answer a = length-append (head_bytes a) (message_bytes a.request) ∙ rw (length-message a.request) refl

pub length_calls : (s : List ℕ) (at k : ℕ) → length (entries_from s at k) ≡ k
unfolding entries_from
length_calls s at zero = refl
length_calls s at (suc k) = rw (length_calls s (at + call_size) k) refl

pub length-answers : (r : Replica) (cs : List Entry) → length (answers_bytes r cs) ≡ answer_size * length cs
unfolding answers_bytes
length-answers r [] = refl
length-answers r (c ∷ cs) =
    omega (
      arith,
      length-append (answer_bytes (answer_to r c)) (answers_bytes (after r c) cs),
      length-answer (answer_to r c),
      length-answers (after r c) cs,
    )

-- out has room for the answers
pub answers_room : (r : Replica) (s out : List ℕ) → call_count s ≤ length out / answer_size → Room out (answers_bytes r (entries_of s))
unfolding entries_of
answers_room r s out h = record { fits = omega (arith, length-answers r (entries_of s), length_calls s calls_at (call_count s)) }

-- the answers of the entries that are run lie in the lent bytes
pub run_inside : (s out : List ℕ) → answer_size * length (entries_run s out) ≤ length out
unfolding entries_run entries_of
run_inside s out = go (tight s out) refl
  where
    go : (t : Bool) → tight s out ≡ t → answer_size * length (cond {A = List Entry} t [] (entries_of s)) ≤ length out
    go true e = omega arith
    go false e = omega (arith, length_calls s calls_at (call_count s), ltb-false (length out / answer_size) (call_count s) e)
