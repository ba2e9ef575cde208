-- `carry_out` meets its contract: a step, or what a message brings.
use mathlib.Core.Path.{sym}
use Rattle.encoding.proofs.CallLaws.{entry-step, entry-message, put_as, changed_as}
use Rattle.entries.proofs.carry_out.Goals as goal

pub returns-in-Some : goal.returns-in-Some
returns-in-Some c =
    let is = entry-step _ _ _ (sym c.in-Some.ensures) in
    (put_as is c.take_step.ensures.0, changed_as is _ _ c.take_step.ensures.1)

pub returns-in-None : goal.returns-in-None
returns-in-None c =
    let is = entry-message _ _ (sym c.in-None.ensures) in
    (put_as is c.bring.ensures.0, changed_as is _ _ c.bring.ensures.1)
