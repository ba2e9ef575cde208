-- `receive` meets its contract, by what the head answers.
use native.Mathlib.Omega.{arith}
use mathlib.Core.Path.{◌≡◌, sym, ap, ◌∙◌}
use Rattle.wire.specs.Layout.{kind_number}
use Rattle.wire.specs.Reader.{message, read_at}
use Rattle.wire.specs.Head.{message_at}
use Rattle.wire.proofs.KindLaws.{kind_laws}
use Rattle.wire.proofs.HeadLaws.{good_head, good_reads, end_reads, refused_reads}
use Rattle.wire.proofs.RoundTrip.{taken_least, taken_longest, taken_inside, number-told}
use Rattle.intake.proofs.IntakeLaws.{kept-message, kept-end, kept-refused}
use Rattle.intake.proofs.receive.Goals as goal
use Rattle.intake.proofs.receive.Goals.{In-Ok-Some}

-- the message that the head tells
reads : (c : In-Ok-Some) → read_at c.args.bytes.now c.args.at
    ≡ message (message_at c.in-Ok-Some.head.kind c.args.bytes.now c.args.at) c.in-Ok-Some.head.taken
reads c = good_reads _ _ _ (rw c.in-Ok-Some.field-0-is at c.in-Ok-Some.ensures)

pub number_at-number-requires : goal.number_at-number-requires
number_at-number-requires c = omega (arith, taken_least _ _ _ _ (reads c), taken_inside _ _ _ _ (reads c))

pub take_at-reply-requires-clause-good_head : goal.take_at-reply-requires-clause-good_head
take_at-reply-requires-clause-good_head c = good_head _ _ _ (rw c.in-Ok-Some.field-0-is at c.in-Ok-Some.ensures)

pub overflow_cast-result : goal.overflow_cast-result
overflow_cast-result c = omega (arith, taken_longest _ _ _ _ (reads (goal.at.overflow_cast-result c).In-Ok-Some))

pub returns-in-Ok-Some : goal.returns-in-Ok-Some
returns-in-Ok-Some c =
    let told = reads (goal.at.returns-in-Ok-Some c).In-Ok-Some in
    kept-message told (c.number_at-number.ensures ∙ sym (number-told _ _ _ _ told))
    (c.from.ensures ∙ ap kind_number (sym ((kind_laws _).kind_kept _))) c.take_at-reply.ensures

pub returns-in-Ok-None : goal.returns-in-Ok-None
returns-in-Ok-None c = rw c.untaken.ensures (kept-end (end_reads _ _ (rw c.in-Ok-None.field-0-is at c.in-Ok-None.ensures)))

pub returns-in-Err : goal.returns-in-Err
returns-in-Err c = rw c.untaken-in-Err.ensures (kept-refused _ (refused_reads _ _ _ c.in-Err.ensures))
