-- `Panel::register` meets its contract.
use Rattle.replica.proofs.ShowingLaws.{register-refused, register_shown_is}
use Rattle.replica.proofs.Panel.register.Goals as goal

pub returns-then-k-gt-LAST_REGISTER : goal.returns-then-k-gt-LAST_REGISTER
returns-then-k-gt-LAST_REGISTER c =
    record { shown = λ p inv. rw c.from.ensures (register-refused _ inv _ c.if-k-gt-LAST_REGISTER.true) }

pub returns : goal.returns
returns c = record { shown = λ p inv. register_shown_is _ inv _ c.if-k-gt-LAST_REGISTER.false }
