-- `delivering::judged` meets its contract.
use mathlib.Core.Path.{sym, ◌∙◌}
use borrow.Author.Tests.{eq-eqb, ne_eqb}
use Rattle.creek.specs.Plan.{deliver_refusal}
use Rattle.delivering.specs.Delivering.{judged}
use Rattle.delivering.proofs.judged.Goals as goal

pub returns-then-bad : goal.returns-then-bad
unfolding judged deliver_refusal
returns-then-bad c = rw (sym c.bad.ensures ∙ c.if-bad.true)

pub returns-then-x-own : goal.returns-then-x-own
unfolding judged deliver_refusal
returns-then-x-own c = rw (sym c.bad.ensures ∙ c.if-bad.false, eq-eqb _ _ c.if-x-own.true)

pub returns-then-bad-2 : goal.returns-then-bad-2
unfolding judged deliver_refusal
returns-then-bad-2 c =
    rw (
      sym c.bad.ensures ∙ c.if-bad.false,
      ne_eqb _ _ c.if-x-own.false,
      sym c.bad-2.ensures ∙ c.if-bad-2.true,
    )

pub returns-then-bad_context : goal.returns-then-bad_context
unfolding judged deliver_refusal
returns-then-bad_context c =
    rw (
      sym c.bad.ensures ∙ c.if-bad.false,
      ne_eqb _ _ c.if-x-own.false,
      sym c.bad-2.ensures ∙ c.if-bad-2.false,
      sym c.bad_context.ensures ∙ c.if-bad_context.true,
    )

pub returns : goal.returns
unfolding judged deliver_refusal
returns c =
    rw (
      sym c.bad.ensures ∙ c.if-bad.false,
      ne_eqb _ _ c.if-x-own.false,
      sym c.bad-2.ensures ∙ c.if-bad-2.false,
      sym c.bad_context.ensures ∙ c.if-bad_context.false,
    )
