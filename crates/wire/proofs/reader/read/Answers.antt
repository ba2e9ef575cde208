-- `reader::read` meets its contract, by what the head answers.
use mathlib.Core.Path.{sym}
use Rattle.std.proofs.lemmas.Result.{err_from_is_err_and}
use Rattle.wire.proofs.HeadLaws.{good_head, good_reads, end_reads, refused_reads}
use Rattle.wire.proofs.reader.read.Goals as goal

pub returns-in_err-head : goal.returns-in_err-head
returns-in_err-head c =
    let p = err_from_is_err_and c.from_residual.result c.from_residual.ensures.1 in
    rw (p.1, p.2) (sym (refused_reads _ _ _ c.in_err-head.ensures))

pub returns-in_default : goal.returns-in_default
returns-in_default c = sym (end_reads _ _ (rw c.in_default.is at c.in_ok-head.ensures))

pub message_at-message-requires : goal.message_at-message-requires
message_at-message-requires c = good_head _ _ _ (rw c.in-Some.is at c.in_ok-head.ensures)

pub returns : goal.returns
returns c = rw c.message_at-message.ensures (sym (good_reads _ _ _ (rw c.in-Some.is at c.in_ok-head.ensures)))
