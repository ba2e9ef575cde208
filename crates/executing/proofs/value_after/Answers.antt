-- `value_after` meets its contract, by the branches of its choices.
use Rattle.std.proofs.Common.{◌∙◌}
use borrow.Author.Tests.{ne_eqb}
use Rattle.executing.specs.internal.OneRegister.{value_after}
use Rattle.executing.proofs.value_after.Goals as goal
use Rattle.executing.proofs.value_after.Goals.{then-claims, else-claims, then-code-eq-ADD, else-code-eq-ADD}

pub returns-then-code-eq-SET : goal.returns-then-code-eq-SET
unfolding value_after
returns-then-code-eq-SET c = simp c.if-code-eq-SET.true

pub returns-else-code-eq-SET : goal.returns-else-code-eq-SET
unfolding value_after
returns-else-code-eq-SET c =
    elim c.if-code-eq-ADD.branch [
      | then-code-eq-ADD w ↦ w.added-is ∙ simp w.if-code-eq-ADD.true
      | else-code-eq-ADD w ↦ elim c.if-claims.branch [
        | then-claims v ↦
            simp (ne_eqb _ _ c.if-code-eq-SET.false, ne_eqb _ _ w.if-code-eq-ADD.false, v.if-claims.true) (w.added-is ∙ v.claimed-is)
        | else-claims v ↦
            simp (ne_eqb _ _ c.if-code-eq-SET.false, ne_eqb _ _ w.if-code-eq-ADD.false, v.if-claims.false) (w.added-is ∙ v.claimed-is)
      ]
    ]
