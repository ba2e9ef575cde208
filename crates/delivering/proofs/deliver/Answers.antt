-- `delivering::deliver` meets its contract; its laws are in `DeliveringLaws`.
use Rattle.std.proofs.lemmas.Result.{err_from_is_err_and}
use mathlib.Core.Path.{◌≡◌, refl, sym, ap, ◌∙◌}
use mathlib.Core.Bool.{Bool, false}
use Rattle.numbers.specs.Numbers.{most_panels, clock_reading}
use Rattle.numbers.specs.internal.Slots.{GoodNumber, number_of}
use Rattle.numbers.proofs.NumberLaws.{slot_fits, number_of_slot}
use Rattle.sets.specs.Sets.{set_of, member}
use Rattle.request.specs.Refusal.{accepted}
use Rattle.request.proofs.RefusalLaws.{refuses}
use Rattle.ordering.specs.Slots.{IsSlot}
use Rattle.store.specs.Requests.{request_at}
use Rattle.replica.specs.State.{State}
use Rattle.replica.specs.declared.Panel.{Panel}
use Rattle.replica.specs.Uses.{hearing_uses}
use Rattle.replica.specs.Memory.{memory}
use Rattle.replica.specs.internal.Model.{Inv}
use Rattle.delivering.specs.Delivering.{judged}
use Rattle.entering.specs.Entering.{Enters}
use Rattle.entering.proofs.EnteringLaws.{place_asks}
use Rattle.delivering.proofs.DeliveringLaws.{judged_good, kept-judged, kept-held, heard_enters, kept_heard}
use Rattle.delivering.proofs.deliver.Goals as goal
use Rattle.delivering.proofs.deliver.Goals.{After-slot_of-slot}

-- ---- what is known once the slot is, of a panel with what is used

abbrev before : After-slot_of-slot → Panel → State
before c r = memory (hearing_uses c.args.p.now r)

judged_new : (c : After-slot_of-slot) → judged c.args.p.now.panels c.args.p.now.own.0 c.args.x.now ≡ accepted
judged_new c = sym c.in_ok-judged.ensures

module _ (c : After-slot_of-slot) (r : Panel) (inv : Inv (before c r)) where
  good : GoodNumber most_panels c.args.x.now.number
  good = judged_good (before c r) _ inv (judged_new c)

  slot_is : IsSlot c.slot_of-slot.result
  slot_is = rw c.slot_of-slot.ensures (slot_fits _ good)

  -- the number is that of the slot
  number_is : number_of c.slot_of-slot.result ≡ c.args.x.now.number
  number_is = ap number_of c.slot_of-slot.ensures ∙ number_of_slot _ good

  -- a number is held where that of its slot is
  held_is : (b : Bool) → b ≡ member (set_of c.args.p.now.held) (number_of c.slot_of-slot.result)
      → member (set_of c.args.p.now.held) c.args.x.now.number ≡ b
  held_is b is = sym (is ∙ ap (member (set_of c.args.p.now.held)) number_is)

  enters : member (set_of c.args.p.now.held) c.args.x.now.number ≡ false → Enters (before c r) c.args.x.now
  enters absent = heard_enters (before c r) _ inv (judged_new c) absent

-- ---- refused

pub returns-in_err-judged : goal.returns-in_err-judged
returns-in_err-judged c =
    let p = err_from_is_err_and c.from_residual.result c.from_residual.ensures.1 in
    rw (p.1, p.2) (record {
      kept = λ r inv. kept-judged _ c.args.x.now inv _ _ c.in_err-judged.ensures (refuses _) refl;
      spare = refl;
      others = refl;
    })

pub held_refusal-requires : goal.held_refusal-requires
held_refusal-requires c =
    let asks = c.requires.inv in
    (slot_is (goal.at.held_refusal-requires c).After-slot_of-slot asks.panel asks.invariant, asks.invariant.lengths.requests)

pub returns-then-member_at : goal.returns-then-member_at
returns-then-member_at c =
    let slot = (goal.at.returns-then-member_at c).After-slot_of-slot in
    let x = c.args.x.now in
    let y = request_at c.args.p.now.clocks c.args.p.now.askings c.args.p.now.contexts c.slot_of-slot.result in
    record {
      kept = λ r inv.
          kept-held (before slot r) x inv (judged_new slot) (held_is slot r inv _ c.member_at.ensures ∙ c.if-member_at.true) _
          c.slot_of-slot.ensures y refl _ _
          c.held_refusal.ensures refl;
      spare = refl;
      others = refl;
    }

-- ---- heard

pub place-at-requires : goal.place-at-requires
place-at-requires c =
    let slot = (goal.at.place-at-requires c).After-slot_of-slot in
    let r = c.requires.inv.panel in
    let inv = c.requires.inv.invariant in
    place_asks (before slot r) _ inv (enters slot r inv (held_is slot r inv _ c.member_at.ensures ∙ c.if-member_at.false)) _
    c.slot_of-slot.ensures

pub enter-requires : goal.enter-requires
enter-requires c =
    let slot = (goal.at.enter-requires c).After-slot_of-slot in
    let r = c.requires.inv.panel in
    let inv = c.requires.inv.invariant in
    record {
      panel = hearing_uses c.args.p.now r;
      invariant = inv;
      enters = enters slot r inv (held_is slot r inv _ c.member_at.ensures ∙ c.if-member_at.false);
      its_slot = c.slot_of-slot.ensures;
      its_place = c.place-at.ensures;
      words = c.requires.words;
    }

pub returns : goal.returns
returns c =
    let slot = (goal.at.returns c).After-slot_of-slot in
    record {
      kept = λ r inv.
          let absent = held_is slot r inv _ c.member_at.ensures ∙ c.if-member_at.false in
          let entered =
          c.enter.ensures.kept (hearing_uses c.args.p.now r) inv (enters slot r inv absent) c.place-at.ensures r.awaiting r.events
          (clock_reading r.clock) in
          kept_heard (before slot r) _ inv (judged_new slot) absent _ entered _ refl;
      spare = c.enter.ensures.spare;
      others = c.enter.ensures.others;
    }
