-- `lowest_held` meets its contract. The invariant: the first one held from k on is the first one held.
use Rattle.std.proofs.Common.{sym, refl, ◌∙◌, arith}
use borrow.Author.Tests.{ne_eqb, le-ltb}
use Rattle.effects.specs.Effect.{lowest_held}
use Rattle.effects.proofs.RegisterLaws.{on_board_is}
use Rattle.effects.proofs.SpanLaws.{held_on, held-end}
use Rattle.executing.proofs.lowest_held.Goals as goal

pub loop-k-init : goal.loop-k-init
loop-k-init c = (omega (arith, on_board_is _ c.requires), refl)

pub returns-then-registers-k-ne0 : goal.returns-then-registers-k-ne0
unfolding lowest_held
returns-then-registers-k-ne0 c =
    let v = c.loop-k in
    sym (sym v.invariant.1 ∙ held_on _ v.k _ 0 refl (omega arith) ∙ rw (ne_eqb _ _ c.if-registers-k-ne0.true))

pub loop-k-preserved : goal.loop-k-preserved
loop-k-preserved c =
    let v = c.loop-k in
    let on = held_on _ v.k _ 0 refl (omega arith) in
    (v.invariant.0, sym (on ∙ rw c.if-registers-k-ne0.false refl) ∙ v.invariant.1)

pub returns : goal.returns
unfolding lowest_held
returns c =
    let v = c.loop-k in
    sym (held-end _ v.k _ 0 (le-ltb _ _ (omega arith))) ∙ v.invariant.1
