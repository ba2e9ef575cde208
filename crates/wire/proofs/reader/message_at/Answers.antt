-- `reader::message_at` meets its contract, kind by kind.
use Prim.Native.Nat.{ℕ}
use mathlib.Core.List.{List}
use mathlib.Core.Path.{◌≡◌, ap, ◌∙◌}
use native.Mathlib.Omega.{arith}
use Rattle.wire.specs.declared.Kind.{Kind}
use Rattle.wire.specs.declared.Kind.TheVariants.{Weak, Strong, Settlement}
use Rattle.std.specs.Prelude.{Some}
use Rattle.wire.specs.Head.{GoodHead}
use Rattle.wire.proofs.HeadLaws.{weak_inside, strong_inside, settlement_inside, weak-message, strong-message, settlement-message}
use Rattle.wire.proofs.reader.message_at.Goals as goal

-- the head is that of the kind told
good : (s : List ℕ) (at : ℕ) (j k : Kind) → GoodHead j s at → j ≡ k → GoodHead k s at
good s at j k h e = h ∙ ap Some e

pub request_at-request-requires : goal.request_at-request-requires
request_at-request-requires c = weak_inside _ _ (good _ _ _ Weak c.requires c.in-Weak.is)

pub context_at-context-requires : goal.context_at-context-requires
context_at-context-requires c = strong_inside _ _ (good _ _ _ Strong c.requires c.in-Strong.is)

pub request_at-request-requires-in-Strong : goal.request_at-request-requires-in-Strong
request_at-request-requires-in-Strong c = omega (arith, strong_inside _ _ (good _ _ _ Strong c.requires c.in-Strong.is))

pub number_at-number-requires : goal.number_at-number-requires
number_at-number-requires c = settlement_inside _ _ (good _ _ _ Settlement c.requires c.in-Settlement.is)

pub returns-in-Weak : goal.returns-in-Weak
returns-in-Weak c =
    let makes = weak-message _ _ (good _ _ _ Weak c.requires c.in-Weak.is) in
    rw (c.in-Weak.is, makes, c.request_at-request.ensures, c.empty-context.ensures)

pub returns-in-Strong : goal.returns-in-Strong
returns-in-Strong c =
    let makes = strong-message _ _ (good _ _ _ Strong c.requires c.in-Strong.is) in
    rw (c.in-Strong.is, makes, c.request_at-request-in-Strong.ensures, c.context_at-context.ensures)

pub returns-in-Settlement : goal.returns-in-Settlement
returns-in-Settlement c =
    let makes = settlement-message _ _ (good _ _ _ Settlement c.requires c.in-Settlement.is) in
    rw (c.in-Settlement.is, makes, c.number_at-number.ensures)
