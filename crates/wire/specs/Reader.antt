-- What the reader answers at a place of a run of bytes: a message, the end, or a refusal.
use Rattle.std.specs.Prelude.{ℕ, ◌-◌, Bool, not, cond, List, get_or, length, ltb, leb, eqb, Option, Some, None, Result, Ok, Err}
use Rattle.lists.specs.Lists.{some_passes}
use Rattle.request.specs.declared.refusal.Refusal.{Refusal}
use Rattle.request.specs.Refusal as refusal
use Rattle.request.specs.Refusal.{number_of}
use Rattle.wire.specs.declared.Reading.{Reading}
use Rattle.wire.specs.declared.Kind.{Kind}
use Rattle.wire.specs.Layout.{layout, kind_with, widths_with, least_size, most_size}
use Rattle.fields.specs.Widths.{head_widths, head_size, decode, length_field, kind_field}
use Rattle.wire.specs.Message.{BusMessage, message_from}
use Rattle.fields.specs.Contents.{spare_byte}

-- a message and the bytes taken; the end; or a refusal by its number
pub data Outcome : Type 0 where
  message : BusMessage → ℕ → Outcome
  end : Outcome
  refused : ℕ → Outcome

-- document 01's number for each outcome: a refusal's own, and 0 for the others
abbrev pub refusal_of : Outcome → ℕ
refusal_of (message m n) = refusal.accepted
refusal_of end = refusal.accepted
refusal_of (refused w) = w

-- the bytes taken, none where there is no message
abbrev pub taken_of : Outcome → ℕ
taken_of (message m n) = n
taken_of end = 0
taken_of (refused w) = 0

-- the outcome that the code's answer says
abbrev pub outcome_of : Result (Option Reading) Refusal → Outcome
outcome_of (Ok (Some r)) = message r.message r.taken
outcome_of (Ok None) = end
outcome_of (Err w) = refused (number_of w)

-- what the code answers, with document 01's number of its refusal
abbrev pub by_number : {A : Type 0} → Result A Refusal → Result A ℕ
by_number (Ok x) = Ok x
by_number (Err w) = Err (number_of w)

-- the length that stands at a place
unfoldable pub length_at : List ℕ → ℕ → ℕ
length_at s at = get_or (decode head_widths s at) length_field 0

-- the kind's number that stands there
unfoldable pub kind_at : List ℕ → ℕ → ℕ
kind_at s at = get_or (decode head_widths s at) kind_field 0

-- the bytes of the run of a message of this kind at a place, which the length tells
unfoldable pub run_at : Kind → List ℕ → ℕ → ℕ
run_at k s at = length_at s at - least_size k

-- the values of the fields of a message of this kind at a place
unfoldable pub fields_at : Kind → List ℕ → ℕ → List ℕ
fields_at k s at = decode (widths_with k (run_at k s at)) s at

-- a spare byte of this kind is not 0 among those fields
unfoldable pub spare_set : Kind → List ℕ → Bool
spare_set k f = some_passes (λ p. not (eqb (get_or f p spare_byte) spare_byte)) (layout k).spares

-- the refusal of a message of this kind at a place, in document 01's order: bad length, cut short, spare set
unfoldable pub refusal_as : Kind → List ℕ → ℕ → ℕ
refusal_as k s at =
    cond (ltb (length_at s at) (least_size k)) refusal.bad_length
    (cond (ltb (most_size k) (length_at s at)) refusal.bad_length
    (cond (ltb (length s - at) (length_at s at)) refusal.cut_short
    (cond (spare_set k (fields_at k s at)) refusal.spare_set
    refusal.accepted)))

-- the message of this kind at a place, or its refusal
unfoldable pub read_as : Kind → List ℕ → ℕ → Outcome
read_as k s at =
    cond (eqb (refusal_as k s at) refusal.accepted) (message (message_from k (fields_at k s at)) (length_at s at)) (refused (refusal_as k s at))

-- the same where a kind is known, and otherwise its refusal
abbrev pub read_with : Option Kind → List ℕ → ℕ → Outcome
read_with None s at = refused refusal.unknown_kind
read_with (Some k) s at = read_as k s at

-- the outcome at a place: the end where no byte is left; one to three bytes are cut short; an unknown kind is refused before
-- its length is judged
unfoldable pub read_at : List ℕ → ℕ → Outcome
read_at s at =
    cond (leb (length s) at) end
    (cond (ltb (length s - at) head_size) (refused refusal.cut_short)
    (read_with (kind_with (kind_at s at)) s at))
