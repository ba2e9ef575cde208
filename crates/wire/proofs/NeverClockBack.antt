-- Neither the reader nor the writer answers 5 (`specs/NeverClockBack`).
use Prim.Native.Nat.{ℕ, ◌-◌}
use native.Mathlib.Omega.{arith}
use mathlib.Core.List.{List}
use Rattle.std.specs.Prelude.{Option, Some, None}
use lib.ListN.{length}
use lib.Dec.{ltb, leb, eqb}
use Rattle.lists.proofs.BoolLaws.{either}
use Rattle.request.specs.Refusal as refusal
use Rattle.request.specs.Refusal.{NotClockBack}
use Rattle.wire.specs.declared.Kind.{Kind}
use Rattle.wire.specs.Layout.{kind_with, least_size, most_size}
use Rattle.fields.specs.Widths.{head_size}
use Rattle.wire.specs.Message.{size_of, weak_with_context}
use Rattle.wire.specs.Reader.{Outcome, refusal_of, length_at, kind_at, fields_at, spare_set, refusal_as, read_as, read_with, read_at}
use Rattle.wire.specs.Writer.{write_refusal}
use Rattle.wire.specs.NeverClockBack.{NeverClockBack}

-- the outcome is one that is not answered with 5
abbrev NotAnswered : Outcome → Type 0
NotAnswered o = NotClockBack (refusal_of o)

refusal_not : (k : Kind) (s : List ℕ) (at : ℕ) → NotClockBack (refusal_as k s at)
unfolding refusal_as
refusal_not k s at =
    either NotClockBack (ltb (length_at s at) (least_size k)) (λ t e. omega arith)
    (λ t. either NotClockBack (ltb (most_size k) (length_at s at)) (λ t e. omega arith)
    (λ t. either NotClockBack (ltb (length s - at) (length_at s at)) (λ t e. omega arith)
    (λ t. either NotClockBack (spare_set k (fields_at k s at)) (λ t e. omega arith) (λ t e. omega arith))))

as_kind : (k : Kind) (s : List ℕ) (at : ℕ) → NotAnswered (read_as k s at)
unfolding read_as
as_kind k s at = either NotAnswered (eqb (refusal_as k s at) refusal.accepted) (λ t e. omega arith) (λ t. refusal_not k s at)

as_option : (o : Option Kind) (s : List ℕ) (at : ℕ) → NotAnswered (read_with o s at)
as_option None s at e = omega arith
as_option (Some k) s at e = as_kind k s at e

pub never_clock_back : NeverClockBack
unfolding read_at write_refusal
never_clock_back = record {
  reads = λ s at.
      either NotAnswered (leb (length s) at) (λ t e. omega arith)
      (λ t. either NotAnswered (ltb (length s - at) head_size) (λ t e. omega arith) (λ t. as_option (kind_with (kind_at s at)) s at));
  writes = λ m room.
      either NotClockBack (weak_with_context m) (λ t e. omega arith)
      (λ t. either NotClockBack (ltb room (size_of m)) (λ t e. omega arith) (λ t e. omega arith));
}
