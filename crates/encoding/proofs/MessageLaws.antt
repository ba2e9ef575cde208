-- The message of an answer: what the writer leaves in a run of zeros.
use Prim.Native.Nat.{ℕ, ◌≤◌}
use mathlib.Core.Path.{◌≡◌, refl, sym, ◌∙◌}
use mathlib.Core.Bool.{Bool, true, false}
use mathlib.Core.List.{List}
use native.Mathlib.Omega.{arith}
use lib.ListN.{length, length-replicate}
use Rattle.request.specs.declared.Request.{Request}
use Rattle.request.specs.declared.refusal.Refusal.{Refusal}
use Rattle.std.specs.Prelude.{Result}
use Rattle.wire.specs.Layout.{longest_message}
use Rattle.wire.specs.declared.Message.TheVariants.{Request as request}
use Rattle.wire.specs.Message.{size_of, weak_with_context, Fits}
use Rattle.wire.specs.Writer.{after_write, Wrote}
use Rattle.wire.proofs.WriterLaws.{size_most, context-refused, written, bytes_put}
use Rattle.encoding.specs.Encoding.{no_message_bytes, message_bytes}

after_zeros : (x : Request) → Fits (request x) → after_write (request x) no_message_bytes ≡ message_bytes x
unfolding message_bytes
after_zeros x fits = go (weak_with_context (request x)) refl
  where
    room : size_of (request x) ≤ length no_message_bytes
    room = omega (arith, size_most (request x) fits, length-replicate {A = ℕ} longest_message 0)

    go : (b : Bool) → weak_with_context (request x) ≡ b → after_write (request x) no_message_bytes ≡ message_bytes x
    go true e = (context-refused (request x) no_message_bytes e).1 ∙ rw e refl
    go false e = (written (request x) no_message_bytes e room).1 ∙ rw e (sym (bytes_put (request x) no_message_bytes fits room))

-- the writer, given the message of x and a run of zeros, leaves the message's bytes
pub message-written : (x : Request) (out : List ℕ) (r : Result ℕ Refusal) → Wrote (request x) no_message_bytes out r → out ≡ message_bytes x
message-written x out r w = w.after ∙ after_zeros x w.fits
