-- `sets::lowest` meets its contract. The invariant: the lowest number is that of the words from the panel on.
use native.Mathlib.Omega.{arith}
use mathlib.Core.Path.{sym, ◌∙◌}
use Rattle.sets.specs.Sets.{lowest}
use Rattle.sets.proofs.WordLaws.{lowest-passed, lowest_stopped, lowest-end}
use Rattle.sets.proofs.lowest.Goals as goal

pub returns-then-word-ne0 : goal.returns-then-word-ne0
unfolding lowest
returns-then-word-ne0 c =
    let v = c.loop-panel in
    sym (v.invariant.1 ∙ lowest_stopped _ _ v.panel (omega arith) c.if-word-ne0.true)

pub loop-panel-preserved : goal.loop-panel-preserved
loop-panel-preserved c =
    let v = c.loop-panel in
    (v.invariant.0, v.invariant.1 ∙ lowest-passed _ _ v.panel (omega arith) c.if-word-ne0.false)

pub returns : goal.returns
unfolding lowest
returns c =
    let v = c.loop-panel in
    c.none.ensures ∙ sym (v.invariant.1 ∙ lowest-end _ _ v.panel (omega arith))
