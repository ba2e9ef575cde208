-- `settling::settle` meets its contract; the outcome is in `SettlingLaws`, the refusals in `SettlingRefusalLaws`.
use native.Mathlib.Omega.{arith}
use mathlib.Core.Path.{◌≡◌, refl, sym, ap, subst, ◌∙◌}
use mathlib.Core.Bool.{Bool, ◌&&◌}
use lib.Dec.{leb}
use Rattle.slots.specs.Settlement.{Settled}
use Rattle.slots.specs.Marks.{Marked}
use Rattle.numbers.specs.internal.Slots.{slot_of}
use Rattle.store.specs.Requests.{context_at}
use Rattle.sets.specs.declared.Context.{Context}
use Rattle.sets.specs.Sets.{set_of}
use Rattle.replica.specs.declared.Panel.{Panel}
use Rattle.replica.specs.State.{State}
use Rattle.replica.specs.Uses.{settling_uses}
use Rattle.replica.specs.Memory.{memory}
use Rattle.replica.specs.internal.Model.{Inv}
use Rattle.settling.specs.Settling.{missing_number}
use Rattle.settling.proofs.SettlingHeldLaws.{HeldAt, held_slot, good_widened}
use Rattle.settling.proofs.SettlingRefusalLaws.{Judged, early-passed, kept_waiting, settles}
use Rattle.settling.proofs.SettlingLaws.{commits_fit, moves_asks, settled-kept}
use Rattle.settling.proofs.settle.Goals as goal
use Rattle.settling.proofs.settle.Goals.{After-missing, After-settle_moving-moved, After-slot_of-slot}

-- ---- what is known where the slot is, of each panel r with what a settlement uses

abbrev before : After-slot_of-slot → Panel → State
before c r = memory (settling_uses c.args.p.now r)

-- the number is held at the slot, strong and not known
judged_at : (c : After-slot_of-slot) (r : Panel) → Inv (before c r) → Judged (before c r) c.args.n c.slot_of-slot.result
judged_at c r inv = early-passed {p = before c r} inv (sym c.requires.not_refused) refl c.slot_of-slot.ensures

held_at : (c : After-slot_of-slot) (r : Panel) → Inv (before c r) → HeldAt (before c r) c.args.n c.slot_of-slot.result
held_at c r inv = (judged_at c r inv).held_at

-- the number that is waited for, by the context that is kept at the slot
missing_is : (c : After-missing)
    → missing_number (context_at c.args.p.now.contexts c.slot_of-slot.result) (set_of c.args.p.now.known) ≡ c.missing.result
missing_is c =
    ap (λ (x : Context). missing_number x (set_of c.args.p.now.known)) (sym c.context_at-context.ensures) ∙ sym c.missing.ensures

-- ---- the goals

-- what the body asks for is shown of the panel that the contract asks for
pub context_at-context-requires : goal.context_at-context-requires
context_at-context-requires c =
    let at = goal.at.context_at-context-requires c in
    let inv = c.requires.inv.invariant in (
      held_slot {p = before at.After-slot_of-slot c.requires.inv.panel} inv
          (held_at at.After-slot_of-slot c.requires.inv.panel inv),
      inv.lengths.requests.contexts,
    )

pub returns-in-Some : goal.returns-in-Some
returns-in-Some c =
    let at = goal.at.returns-in-Some c in
    record {
      kept = λ r inv.
          let judged = judged_at at.After-slot_of-slot r inv in
          rw c.waiting.ensures
          (kept_waiting {p = before at.After-slot_of-slot r} inv judged.held_at judged.strong judged.new
          (missing_is at.After-missing ∙ c.in-Some.is));
      spare = refl;
      others = refl;
    }

pub settle_moving-moved-requires : goal.settle_moving-moved-requires
settle_moving-moved-requires c =
    let at = goal.at.settle_moving-moved-requires c in
    let inv = c.requires.inv.invariant in
    let judged = judged_at at.After-slot_of-slot c.requires.inv.panel inv in
    let p = before at.After-slot_of-slot c.requires.inv.panel in
    rw c.context_at-context.ensures
    (moves_asks {p = p} inv judged.held_at
    (settles {p = p} inv judged.held_at judged.strong judged.new (missing_is at.After-missing ∙ c.in_default.is)))

-- the set of the settled has eight words, and the number is good
pub mark-requires : goal.mark-requires
mark-requires c =
    let at = goal.at.mark-requires c in
    let inv = c.requires.inv.invariant in
    record {
      long = inv.lengths.settled;
      number =
          good_widened {p = before at.After-slot_of-slot c.requires.inv.panel} inv
          (held_at at.After-slot_of-slot c.requires.inv.panel inv).good;
    }

pub overflow_add-p : goal.overflow_add-p
overflow_add-p c =
    omega (arith, commits_fit (memory (settling_uses c.args.p.now c.requires.inv.panel)) c.requires.inv.invariant)

pub returns : goal.returns
returns c =
    let at = goal.at.returns c in
    let settled : Settled c.args.p.now.order c.args.p.now.committed c.args.p.now.ordered
    (context_at c.args.p.now.contexts c.slot_of-slot.result).words c.slot_of-slot.result
    c.settle_moving-moved.new.order c.settle_moving-moved.result.committed c.settle_moving-moved.result.end =
    rw c.context_at-context.ensures at c.settle_moving-moved.ensures in
    record {
      kept = λ r inv.
          let judged = judged_at at.After-slot_of-slot r inv in
          let p = before at.After-slot_of-slot r in
          settled-kept {p = p} inv judged.held_at
          (settles {p = p} inv judged.held_at judged.strong judged.new (missing_is at.After-missing ∙ c.in_default.is))
          settled
          c.min-same.ensures
          c.min-last.ensures
          c.common_start-start.ensures
          c.agreed-stays.ensures
          refl
          (ap (λ (b : Bool). b && leb c.settle_moving-moved.result.committed c.agreed-stays.result) c.member.ensures)
          c.join.ensures
          c.settled_reply-reply.ensures
          c.end_waiting.ensures
          (subst (λ (x : Context). Marked p.settled.words x.words (slot_of c.args.n) c.mark.new.settled)
          c.context_at-context.ensures c.mark.ensures);
      spare = refl;
      others = refl;
    }
