-- `invoking::invoke_refusal` meets its contract.
use mathlib.Core.Path.{sym, ◌∙◌}
use Rattle.invoking.proofs.InvokingLaws.{refused_bad, refused_full, refused_none}
use Rattle.invoking.proofs.invoke_refusal.Goals as goal

pub returns-then-bad : goal.returns-then-bad
returns-then-bad c = refused_bad _ _ (sym c.bad.ensures ∙ c.if-bad.true)

pub returns-then-events-ge-MOST_EVENTS : goal.returns-then-events-ge-MOST_EVENTS
returns-then-events-ge-MOST_EVENTS c = refused_full _ _ (sym c.bad.ensures ∙ c.if-bad.false) c.if-events-ge-MOST_EVENTS.true

pub returns : goal.returns
returns c = refused_none _ _ (sym c.bad.ensures ∙ c.if-bad.false) c.if-events-ge-MOST_EVENTS.false
