-- `bring` meets its contract: a request is made, or what the message is about is taken in.
use Prim.Native.Nat.{◌+◌}
use mathlib.Core.Path.{ap}
use Rattle.intake.proofs.IntakeLaws.{received_here}
use Rattle.encoding.specs.Encoding.{one, message_at}
use Rattle.encoding.proofs.CallLaws.{call-made, call_taken, put-kept, put_as, changed_as}
use Rattle.encoding.proofs.Unread.{received-kept, received_changes}
use Rattle.entries.proofs.bring.Goals as goal

pub returns-then-s-at-eq-INVOKE : goal.returns-then-s-at-eq-INVOKE
returns-then-s-at-eq-INVOKE c =
    let is = ap one (call-made _ (message_at c.args.s.now (c.args.at + 1)) c.if-s-at-eq-INVOKE.true) in
    (put_as is c.make.ensures.0, changed_as is _ _ c.make.ensures.1)

pub receive-receipt-requires : goal.receive-receipt-requires
receive-receipt-requires c = record { panel = c.args.p.now; invariant = c.requires.inv }

pub returns : goal.returns
returns c =
    let is = ap one (call_taken _ _ c.if-s-at-eq-INVOKE.false) in
    let got = c.receive-receipt.ensures in (
      put_as is (put-kept (received-kept _ _ (received_here _ got c.requires.inv)) c.put_receipt.ensures),
      changed_as is _ _ (received_changes _ _ _ c.args.s.now (c.args.at + 1) got.others),
    )
