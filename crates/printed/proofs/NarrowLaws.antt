-- What is found in bytes has numbers that fit the columns of its line, in this order: refusal numbers, the reader's and the panel's; the
-- fields of a message; all that is found.
use Prim.{tt}
use Prim.Native.Nat.{ℕ, zero, suc, ◌-◌, ◌^◌, ◌<◌}
use mathlib.Core.Path.{◌≡◌, refl}
use mathlib.Core.Bool.{not}
use mathlib.Core.List.{List}
use mathlib.Core.Option.{Option, none, some}
use Rattle.std.specs.Prelude.{Some, None}
use Rattle.std.specs.declared.option.Option.{Option as Found}
use lib.ListN.{length, drop}
use lib.Dec.{ltb, leb, eqb, lit<}
use Rattle.lists.specs.Places.{All}
use Rattle.lists.proofs.BoolLaws.{either}
use Rattle.numbers.specs.declared.Number.{Number}
use Rattle.request.specs.declared.Request.{Request}
use Rattle.numbers.specs.Numbers.{bad_number}
use Rattle.request.specs.Asked.{bad_asked}
use Rattle.request.specs.Request.{same_request, bad_context}
use Rattle.request.specs.Refusal as refused_by
use Rattle.effects.specs.Effect.{range}
use Rattle.creek.specs.Plan.{Plan, held, is_of, held_refusal, deliver_refusal, is_committed, waits, found_refusal, commit_refusal}
use Rattle.creek.specs.Book.{Book, refusal}
use Rattle.creek.specs.Calls.{Replica, answer}
use Rattle.creek.proofs.CallLaws.{answer-refusal}
use Rattle.fields.specs.Widths.{panel_field, event_field, amount_field}
use Rattle.fields.proofs.IntegerLaws.{Bytes}
use Rattle.fields.proofs.WidthLaws.{decode_within, within-drop}
use Rattle.wire.specs.declared.Kind.{Kind}
use Rattle.wire.specs.declared.Kind.TheVariants.{Weak, Strong, Settlement}
use Rattle.wire.specs.Layout.{kind_with, least_size, most_size, layout, widths_with}
use Rattle.fields.specs.Widths.{head_size, decode, Within}
use Rattle.wire.specs.declared.Message.TheVariants.{Request as request, Settlement as settlement}
use Rattle.wire.specs.Message.{BusMessage, message_from, number_in}
use Rattle.wire.specs.Reader.{Outcome, message, end, refused, refusal_of, length_at, kind_at, run_at, fields_at, spare_set}
use Rattle.wire.specs.Reader.{refusal_as, read_as, read_with, read_at}
use Rattle.wire.proofs.RoundTrip.{taken}
use Rattle.intake.specs.Intake.{call_of}
use Rattle.runs.specs.Found.{passed, found}

-- ---- refusal numbers

abbrev pub OneByte : ℕ → Type 0
OneByte n = n < 2 ^ 8

-- the reader's

reader-byte : (k : Kind) (s : List ℕ) (at : ℕ) → OneByte (refusal_as k s at)
unfolding refusal_as
reader-byte k s at =
    either OneByte (ltb (length_at s at) (least_size k)) (λ t. lit< tt)
    (λ t. either OneByte (ltb (most_size k) (length_at s at)) (λ t. lit< tt)
    (λ t. either OneByte (ltb (length s - at) (length_at s at)) (λ t. lit< tt)
    (λ t. either OneByte (spare_set k (fields_at k s at)) (λ t. lit< tt) (λ t. lit< tt))))

-- the outcome's refusal number has one byte
abbrev AnsweredByte : Outcome → Type 0
AnsweredByte o = OneByte (refusal_of o)

as_option : (o : Found Kind) (s : List ℕ) (at : ℕ) → AnsweredByte (read_with o s at)
unfolding read_as
as_option None s at = lit< tt
as_option (Some k) s at = either AnsweredByte (eqb (refusal_as k s at) refused_by.accepted) (λ t. lit< tt) (λ t. reader-byte k s at)

read_byte : (s : List ℕ) (at : ℕ) → AnsweredByte (read_at s at)
unfolding read_at
read_byte s at =
    either AnsweredByte (leb (length s) at) (λ t. lit< tt)
    (λ t. either AnsweredByte (ltb (length s - at) head_size) (λ t. lit< tt) (λ t. as_option (kind_with (kind_at s at)) s at))

-- the panel's

held-byte : (f : Option Request) (x : Request) → OneByte (held_refusal f x)
held-byte none x = lit< tt
held-byte (some y) x = either OneByte (same_request y x) (λ t. lit< tt) (λ t. lit< tt)

lookup-byte : (a : Plan) (n : Number) (f : Option Request) → OneByte (found_refusal a n f)
lookup-byte a n none = lit< tt
lookup-byte a n (some x) =
    either OneByte (not x.asked.strong) (λ t. lit< tt)
    (λ t. either OneByte (is_committed a n) (λ t. lit< tt) (λ t. either OneByte (waits a x) (λ t. lit< tt) (λ t. lit< tt)))

call-byte : (b : Book) (m : BusMessage) → OneByte (refusal b (call_of m))
unfolding call_of refusal deliver_refusal commit_refusal
call-byte b (request x) =
    either OneByte (bad_number b.plan.panels x.number) (λ t. lit< tt)
    (λ t. either OneByte (is_of b.plan.own x) (λ t. lit< tt)
    (λ t. either OneByte (bad_asked x.asked) (λ t. lit< tt)
    (λ t. either OneByte (bad_context b.plan.panels x) (λ t. lit< tt) (λ t. held-byte (held b.plan x.number) x))))
call-byte b (settlement n) =
    either OneByte (bad_number b.plan.panels n) (λ t. lit< tt) (λ t. lookup-byte b.plan n (held b.plan n))

pub answer-byte : (r : Replica) (m : BusMessage) → OneByte (answer r (call_of m)).refusal
answer-byte r m = rw answer-refusal (call-byte r.book m)

-- ---- the fields of a message

-- what a request adds or sets is a register's value
abbrev pub NarrowAmount : BusMessage → Type 0
NarrowAmount (request x) = x.asked.amount < range
NarrowAmount (settlement n) = Unit {0}

pub record NarrowMessage (m : BusMessage) : Type 0 where
  pub panel : OneByte (number_in m).panel.0
  pub event : OneByte (number_in m).event.0
  pub amount : NarrowAmount m

-- from a field on, what was read is within its widths
from_field : (ws s : List ℕ) (at : ℕ) → Bytes s → (field : ℕ) → Within (drop field ws) (drop field (decode ws s at))
from_field ws s at bytes field = within-drop field ws (decode ws s at) (decode_within ws s at bytes)

fields_narrow : (k : Kind) (s : List ℕ) (at : ℕ) → Bytes s → NarrowMessage (message_from k (fields_at k s at))
unfolding number_in message_from fields_at widths_with layout decode
fields_narrow Weak s at bytes =
    let within = from_field (widths_with Weak (run_at Weak s at)) s at bytes in
    record { panel = (within panel_field).0; event = (within event_field).0; amount = (within amount_field).0 }
fields_narrow Strong s at bytes =
    let within = from_field (widths_with Strong (run_at Strong s at)) s at bytes in
    record { panel = (within panel_field).0; event = (within event_field).0; amount = (within amount_field).0 }
fields_narrow Settlement s at bytes =
    let within = from_field (widths_with Settlement (run_at Settlement s at)) s at bytes in
    record { panel = (within panel_field).0; event = (within event_field).0; amount = tt }

-- ---- all that is found

abbrev pub Narrow : Outcome → Type 0
Narrow (message m n) = NarrowMessage m
Narrow end = Unit {0}
Narrow (refused w) = OneByte w

read_narrow : (s : List ℕ) (at : ℕ) → Bytes s → Narrow (read_at s at)
read_narrow s at bytes = go (read_at s at) refl
  where
    go : (o : Outcome) → read_at s at ≡ o → Narrow o
    go (message m n) e = let t = taken s at m n e in rw t.message_is (fields_narrow t.kind s at bytes)
    go end e = tt
    go (refused w) e = rw e at (read_byte s at)

pub found_narrow : (s : List ℕ) (at skip left : ℕ) → Bytes s → All Narrow (found s at skip left)
unfolding found
found_narrow s at skip zero bytes = tt
found_narrow s at zero (suc left) bytes = (read_narrow s at bytes, found_narrow s (suc at) (passed (read_at s at) left) left bytes)
found_narrow s at (suc skip) (suc left) bytes = found_narrow s (suc at) skip left bytes
