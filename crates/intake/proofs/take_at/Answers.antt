-- `take_at` meets its contract, kind by kind.
use native.Mathlib.Omega.{arith}
use mathlib.Core.Path.{◌≡◌, ap, ◌∙◌}
use Rattle.std.specs.Prelude.{Some}
use Rattle.wire.specs.declared.Kind.{Kind}
use Rattle.wire.specs.declared.Kind.TheVariants.{Weak, Strong, Settlement}
use Rattle.wire.specs.Head.{GoodHead}
use Rattle.wire.proofs.HeadLaws.{weak_inside, strong_inside, settlement_inside, weak-message, strong-message, settlement-message}
use Rattle.replica.specs.Uses.{hearing_uses}
use Rattle.replica.specs.Memory.{Asks}
use Rattle.intake.specs.Intake.{call_of, receiving_uses}
use Rattle.intake.proofs.take_at.Goals as goal
use Rattle.intake.proofs.take_at.Goals.{Start}

-- the head is that of the kind told
good : (a : Start) (k : Kind) → a.args.kind ≡ k → GoodHead k a.args.bytes.now a.args.at
good a k e = a.requires.good_head ∙ ap (λ (k : Kind). Some k) e

pub hear_at-requires-clause-strong_in_bounds : goal.hear_at-requires-clause-strong_in_bounds
hear_at-requires-clause-strong_in_bounds c =
    omega (arith, weak_inside _ _ (good (goal.at.hear_at-requires-clause-strong_in_bounds c).Start Weak c.in-Weak.is))

pub hear_at-requires-in-Strong-clause-strong_in_bounds : goal.hear_at-requires-in-Strong-clause-strong_in_bounds
hear_at-requires-in-Strong-clause-strong_in_bounds c =
    omega (arith, strong_inside _ _ (good (goal.at.hear_at-requires-in-Strong-clause-strong_in_bounds c).Start Strong c.in-Strong.is))

-- a call asks for no more than receiving does
asked : (a : Start) → Asks (hearing_uses a.args.p.now)
asked a = record { panel = receiving_uses a.args.p.now a.requires.inv.panel; invariant = a.requires.inv.invariant }

pub hear_at-requires-clause-inv : goal.hear_at-requires-clause-inv
hear_at-requires-clause-inv c = asked (goal.at.hear_at-requires-clause-inv c).Start

pub hear_at-requires-in-Strong-clause-inv : goal.hear_at-requires-in-Strong-clause-inv
hear_at-requires-in-Strong-clause-inv c = asked (goal.at.hear_at-requires-in-Strong-clause-inv c).Start

pub commit-requires : goal.commit-requires
commit-requires c =
    let inv = c.requires.inv in
    record { panel = receiving_uses c.args.p.now inv.panel; invariant = inv.invariant }

pub number_at-requires : goal.number_at-requires
number_at-requires c = settlement_inside _ _ (good (goal.at.number_at-requires c).Start Settlement c.in-Settlement.is)

pub returns-in-Weak : goal.returns-in-Weak
unfolding call_of
returns-in-Weak c =
    let a = (goal.at.returns-in-Weak c).Start in
    rw (c.in-Weak.is, weak-message _ _ (good a Weak c.in-Weak.is), c.told.ensures) c.hear_at.ensures

pub returns-in-Strong : goal.returns-in-Strong
unfolding call_of
returns-in-Strong c =
    let a = (goal.at.returns-in-Strong c).Start in
    rw (c.in-Strong.is, strong-message _ _ (good a Strong c.in-Strong.is), c.told-in-Strong.ensures) c.hear_at-in-Strong.ensures

pub returns-in-Settlement : goal.returns-in-Settlement
unfolding call_of
returns-in-Settlement c =
    let a = (goal.at.returns-in-Settlement c).Start in
    rw (c.in-Settlement.is, settlement-message _ _ (good a Settlement c.in-Settlement.is), ← c.number_at.ensures) c.commit.ensures
