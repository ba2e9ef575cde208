-- `set_all` meets its contract. The invariant: setting what is left from `at` on gives all of them set.
use Rattle.std.proofs.Common.{sym, refl, ◌∙◌, arith}
use Rattle.effects.specs.Effect.{all_set}
use Rattle.effects.proofs.RegisterLaws.{on_board_is}
use Rattle.effects.proofs.SpanLaws.{set_on, set-end}
use Rattle.executing.proofs.set_all.Goals as goal

pub loop-at-init : goal.loop-at-init
loop-at-init c = (omega (arith, on_board_is _ c.requires), refl)

pub loop-at-preserved : goal.loop-at-preserved
loop-at-preserved c =
    let v = c.loop-at in
    (v.invariant.0, sym (set_on _ v.at v.registers _ (omega arith)) ∙ v.invariant.1)

pub returns : goal.returns
unfolding all_set
returns c =
    let v = c.loop-at in
    sym (set-end _ v.at v.registers _ (omega arith)) ∙ v.invariant.1
