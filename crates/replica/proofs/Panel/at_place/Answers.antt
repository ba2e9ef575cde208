-- `Panel::at_place` meets its contract.
use native.Mathlib.Omega.{arith}
use Prim.Native.Nat.{◌-◌}
use Rattle.replica.specs.declared.Panel.{Panel}
use Rattle.replica.specs.Memory.{memory}
use Rattle.replica.specs.Shown.{place_uses}
use Rattle.replica.proofs.ModelLaws.{order_slot}
use Rattle.replica.proofs.ShowingLaws.{place-refused, Within, within, place_shown_is}
use Rattle.replica.proofs.Panel.at_place.Goals as goal
use Rattle.replica.proofs.Panel.at_place.Goals.{Else-place-self}

-- some panel with what is read here
abbrev some : Else-place-self → Panel
some c = place_uses c.args.self.now c.requires.panel

inside : (c : Else-place-self) → Within (memory (some c)) c.requires.invariant c.args.place
inside c = within _ c.requires.invariant c.args.place c.if-place-self.false

pub returns-then-place-self : goal.returns-then-place-self
returns-then-place-self c =
    record { shown = λ p inv. rw c.from.ensures (place-refused _ inv _ _ c.if-place-self.true c.none.ensures) }

pub overflow_sub-slot : goal.overflow_sub-slot
overflow_sub-slot c = omega (arith, inside c)

pub offset_bounds-self-place : goal.offset_bounds-self-place
offset_bounds-self-place c = omega (arith, inside c, c.requires.invariant.counts)

pub bounds-self-place : goal.bounds-self-place
bounds-self-place c = omega (arith, inside (goal.at.bounds-self-place c).Else-place-self, c.requires.invariant.counts)

pub request_at-requires : goal.request_at-requires
request_at-requires c =
    let else = (goal.at.request_at-requires c).Else-place-self in
    let inv = else.requires.invariant in
    (order_slot _ inv (else.args.place - 1) (omega (arith, inside else)), inv.lengths.requests)

pub returns : goal.returns
returns c = record { shown = λ p inv. place_shown_is _ inv _ _ c.if-place-self.false c.request_at.ensures }
