-- Bus messages and the fields they have. The fields of a number and of a body are those of `fields`.
use Rattle.std.specs.Prelude.{ℕ, ◌≤◌, Bool, true, false, not, ◌&&◌, cond, List, [], ◌∷◌, ◌++◌, length, drop}
use Rattle.numbers.specs.declared.Number.{Number}
use Rattle.sets.specs.Sets.{empty_set, set_of, is_empty, Words}
use Rattle.wire.specs.declared.Message.{Message}
use Rattle.wire.specs.declared.Message.TheVariants.{Request as request, Settlement as settlement}
use Rattle.wire.specs.declared.Kind.{Kind}
use Rattle.wire.specs.declared.Kind.TheVariants.{Weak, Strong, Settlement}
use Rattle.wire.specs.Layout.{kind_number, layout, widths_with}
use Rattle.fields.specs.Widths.{size, encode, Within, context_field}
use Rattle.fields.specs.Contents.{number_fields, body_fields, number_from, request_from}

-- a bus message: a request, weak or strong, or the settlement of a number, as the code holds it
abbrev pub BusMessage : Type 0
BusMessage = Message

-- the kind of a message
unfoldable pub kind_of : BusMessage → Kind
kind_of (request r) = cond r.asked.strong Strong Weak
kind_of (settlement n) = Settlement

-- the number that a message names
unfoldable pub number_in : BusMessage → Number
number_in (request r) = r.number
number_in (settlement n) = n

-- ---- the fields of a message, in the order of its layout

-- those in front of the run, behind length and kind
unfoldable pub front_of : BusMessage → List ℕ
front_of (request r) = number_fields r.number ++ body_fields r
front_of (settlement n) = number_fields n

-- the bytes of its run
unfoldable pub run_of : BusMessage → List ℕ
run_of (request r) = []
run_of (settlement n) = []

-- those behind the run: the words of a strong request's context
unfoldable pub behind_of : BusMessage → List ℕ
behind_of (request r) = cond r.asked.strong r.context.words []
behind_of (settlement n) = []

-- what stands after the first four bytes
unfoldable pub contents : BusMessage → List ℕ
contents m = front_of m ++ (run_of m ++ behind_of m)

-- the widths of all fields
unfoldable pub widths_of : BusMessage → List ℕ
widths_of m = widths_with (kind_of m) (length (run_of m))

-- the bytes that a message has
unfoldable pub size_of : BusMessage → ℕ
size_of m = size (widths_of m)

-- all fields, length and kind first
unfoldable pub fields_of : BusMessage → List ℕ
fields_of m = size_of m ∷ kind_number (kind_of m) ∷ contents m

-- the bytes of a message
unfoldable pub bytes_of : BusMessage → List ℕ
bytes_of m = encode (widths_of m) (fields_of m)

-- ---- the message with given fields

-- the message of a kind with these fields; a weak request's context is empty, and a settlement has a number and nothing else
unfoldable pub message_from : Kind → List ℕ → BusMessage
message_from Weak f = request (request_from f false empty_set)
message_from Strong f = request (request_from f true (set_of (drop context_field f)))
message_from Settlement f = settlement (number_from f)

-- ---- messages that can be sent

-- weak with a context (refusal 21)
unfoldable pub weak_with_context : BusMessage → Bool
weak_with_context (request r) = not r.asked.strong && not (is_empty r.context)
weak_with_context (settlement n) = false

-- a request's context has a word for each panel
abbrev pub ContextWords : BusMessage → Type 0
ContextWords (request r) = Words r.context
ContextWords (settlement n) = Unit {0}

-- no field that the code has is wider than in its message, and the run is not longer than its kind has it
pub record Fits (m : BusMessage) : Type 0 where
  pub fields : Within (widths_of m) (fields_of m)
  pub run : length (run_of m) ≤ (layout (kind_of m)).most_run
  pub words : ContextWords m
