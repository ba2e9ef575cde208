-- `delivering::held_refusal` meets its contract.
use mathlib.Core.Path.{sym, ◌∙◌}
use Rattle.delivering.proofs.held_refusal.Goals as goal

pub returns-then-same_at : goal.returns-then-same_at
returns-then-same_at c = rw (sym c.same_at.ensures ∙ c.if-same_at.true)

pub returns : goal.returns
returns c = rw (sym c.same_at.ensures ∙ c.if-same_at.false)
