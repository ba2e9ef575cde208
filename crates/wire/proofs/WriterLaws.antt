-- What the writer's definitions give, case by case, and the bytes of a message from its parts.
use Prim.Native.Nat.{ℕ, ◌≤◌, ◌<◌}
use mathlib.Core.Path.{◌≡◌, refl, ◌∙◌}
use mathlib.Core.Bool.{Bool, true, false, cond}
use mathlib.Core.List.{List, [], ◌∷◌, ◌++◌}
use native.Mathlib.Nat.{zero-add}
use native.Mathlib.Omega.{arith}
use lib.ListN.{length, drop}
use lib.Seq.{sets, sets-eq}
use borrow.Author.Tests.{lt-ltb, le-ltb}
use Rattle.request.specs.Refusal as refusal
use Rattle.numbers.specs.declared.Number.{Number}
use Rattle.request.specs.declared.Request.{Request}
use Rattle.std.specs.Prelude.{Ok, Err}
use Rattle.fields.specs.Widths.{head_widths, number_widths, body_widths, context_widths, head_fields, head_size, size, encode}
use Rattle.wire.specs.Layout.{kind_number, layout, widths_with, most_size, least_message, longest_message}
use Rattle.wire.specs.declared.Message.TheVariants.{Request as request, Settlement as settlement}
use Rattle.wire.specs.Message.{BusMessage, kind_of, front_of, run_of, behind_of, contents}
use Rattle.wire.specs.Message.{widths_of, size_of, fields_of, bytes_of}
use Rattle.fields.specs.Contents.{number_fields, body_fields}
use Rattle.wire.specs.Message.{weak_with_context, Fits}
use Rattle.wire.specs.Writer.{write_refusal, write_answer, after_write}
use Rattle.fields.specs.Widths.{settlement_widths, weak_widths, strong_widths}
use Rattle.fields.proofs.WidthLaws.{length-encode, length_within, fields_then}
use Rattle.wire.proofs.LayoutLaws.{size_with}
use Rattle.wire.proofs.KindLaws.{kind_laws}
use Rattle.wire.proofs.MessageLaws.{runless-size}
use Rattle.wire.specs.declared.Kind.TheVariants.{Weak, Strong}

-- a message has as many bytes as its size says
pub length_bytes : (m : BusMessage) → Fits m → length (bytes_of m) ≡ size_of m
unfolding bytes_of size_of
length_bytes m h = length-encode (widths_of m) (fields_of m) (length_within (widths_of m) (fields_of m) h.fields)

-- and no more than the longest
pub size_most : (m : BusMessage) → Fits m → size_of m ≤ longest_message
unfolding size_of widths_of most_size
size_most m h = omega (arith, size_with (kind_of m) (length (run_of m)), h.run, (kind_laws (kind_of m)).longest)

-- and no fewer than the shortest
pub size_least : (m : BusMessage) → least_message ≤ size_of m
size_least m = omega (arith, runless-size m, (kind_laws (kind_of m)).least)

-- a request has at least those of a weak one, and a strong one those of a strong one
pub request_size : (r : Request) → size weak_widths ≤ size_of (request r)
unfolding size_of widths_of widths_with layout kind_of run_of
request_size r = by r.asked.strong
  where
    by : (b : Bool) → size weak_widths ≤ size (widths_with (cond b Strong Weak) 0)
    by true = omega arith
    by false = omega arith

pub strong-size : (r : Request) → r.asked.strong ≡ true → size strong_widths ≤ size_of (request r)
unfolding size_of widths_of widths_with layout kind_of run_of
strong-size r e = rw e (omega arith)

-- ---- the writer, case by case

module _ (m : BusMessage) (out : List ℕ) where
  pub context-refused : weak_with_context m ≡ true
      → (write_answer m (length out) ≡ Err refusal.bad_context) × (after_write m out ≡ out)
  unfolding write_answer after_write write_refusal
  context-refused e = (rw e, rw e)

  module _ (e : weak_with_context m ≡ false) where
    pub room-refused : length out < size_of m
        → (write_answer m (length out) ≡ Err refusal.no_room) × (after_write m out ≡ out)
    unfolding write_answer after_write write_refusal
    room-refused h = (simp (e, lt-ltb _ _ h), simp (e, lt-ltb _ _ h))

    pub written : size_of m ≤ length out
        → (write_answer m (length out) ≡ Ok (size_of m))
        × (after_write m out ≡ bytes_of m ++ drop (size_of m) out)
    unfolding write_answer after_write write_refusal
    written h = (simp (e, le-ltb _ _ h), simp (e, le-ltb _ _ h))

-- what can be sent is accepted where there is room for it
pub sendable-accepted : (m : BusMessage) (room : ℕ) → weak_with_context m ≡ false → size_of m ≤ room → write_refusal m room ≡ refusal.accepted
unfolding write_refusal
sendable-accepted m room e h = simp (e, le-ltb _ _ h)

-- what is accepted is no weak request with a context
pub accepted_sendable : (m : BusMessage) (room : ℕ) → write_refusal m room ≡ refusal.accepted → weak_with_context m ≡ false
unfolding write_refusal
accepted_sendable m room ok = go (weak_with_context m) _ ok
  where
    go : (t : Bool) (rest : ℕ) → cond t refusal.bad_context rest ≡ refusal.accepted → t ≡ false
    go true rest e = absurd (omega arith)
    go false rest e = refl

-- the bytes put at the front
pub bytes_put : (m : BusMessage) (out : List ℕ) → Fits m → size_of m ≤ length out
    → sets out 0 (bytes_of m) ≡ bytes_of m ++ drop (size_of m) out
bytes_put m out fits h =
    let l = length_bytes m fits in
    sets-eq (bytes_of m) out 0 (omega arith) ∙ rw (l, zero-add)

-- ---- the bytes of a message from its parts

-- its length and kind are written, and then what stands behind them
module _ (m : BusMessage) (out out₁ out₂ : List ℕ)
    (head : out₁ ≡ sets out 0 (encode head_widths (size_of m ∷ kind_number (kind_of m) ∷ [])))
    (rest : out₂ ≡ sets out₁ head_size (encode (drop head_fields (widths_of m)) (contents m)))
  where
    pub message_put : out₂ ≡ sets out 0 (bytes_of m)
    unfolding bytes_of fields_of widths_of widths_with
    message_put = fields_then out out₁ out₂ 0 head_widths _ (drop head_fields (widths_of m)) (contents m) refl head rest

-- of a request these are number, body and, where it is strong, context
module _ (r : Request) (out out₁ out₂ : List ℕ)
    (number : out₁ ≡ sets out head_size (encode number_widths (number_fields r.number)))
    (body : out₂ ≡ sets out₁ (size settlement_widths) (encode body_widths (body_fields r)))
  where
    pub weak_put : r.asked.strong ≡ false → out₂ ≡ sets out head_size (encode (drop head_fields (widths_of (request r))) (contents (request r)))
    unfolding widths_of widths_with layout contents front_of run_of behind_of kind_of
    weak_put e = rw e (fields_then out out₁ out₂ head_size number_widths _ body_widths _ refl number body)

    pub strong_put : (out₃ : List ℕ) → r.asked.strong ≡ true → out₃ ≡ sets out₂ (size weak_widths) (encode context_widths r.context.words)
        → out₃ ≡ sets out head_size (encode (drop head_fields (widths_of (request r))) (contents (request r)))
    unfolding widths_of widths_with layout contents front_of run_of behind_of kind_of
    strong_put out₃ e context =
        rw e (fields_then out out₁ out₃ head_size number_widths _ (body_widths ++ context_widths) _ refl number
        (fields_then out₁ out₂ out₃ (size settlement_widths) body_widths _ context_widths _ refl body context))

-- and of a settlement the number alone
pub settlement_put : (n : Number) (out out₁ : List ℕ) → out₁ ≡ sets out head_size (encode number_widths (number_fields n))
    → out₁ ≡ sets out head_size (encode (drop head_fields (widths_of (settlement n))) (contents (settlement n)))
unfolding widths_of widths_with layout contents front_of run_of behind_of kind_of
settlement_put n out out₁ number = number
