-- `execute_claim_all` meets its contract: each of its two returns is an outcome of such a claim.
use Rattle.std.proofs.Common.{sym, ◌∙◌}
use Rattle.effects.proofs.RegisterLaws.{executed_claim_all, executed_no_claim_all}
use Rattle.executing.proofs.execute_claim_all.Goals as goal

pub returns-then-held-ne0 : goal.returns-then-held-ne0
returns-then-held-ne0 c =
    let claim = c.requires in
    let found = c.lowest_held-held.ensures in
    rw found (executed_no_claim_all _ _ claim.on claim.code (λ e. c.if-held-ne0.true (found ∙ e)))

pub returns : goal.returns
returns c =
    let claim = c.requires in
    let found = c.lowest_held-held.ensures in
    rw c.set_all.ensures (executed_claim_all _ _ claim.on claim.code (sym found ∙ c.if-held-ne0.false))
