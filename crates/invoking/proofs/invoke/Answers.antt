-- `invoking::invoke` meets its contract; its laws are in `InvokingLaws`.
use Rattle.std.proofs.lemmas.Result.{err_from_is_err_and}
use Prim.Native.Nat.{ℕ}
use mathlib.Core.List.{List}
use native.Mathlib.Omega.{arith}
use mathlib.Core.Path.{◌≡◌, refl, ap, ◌∙◌}
use lib.ListN.{length}
use borrow.Author.Rules.{rules}
use Rattle.numbers.specs.Numbers.{most_panels}
use Rattle.numbers.specs.internal.Slots.{number_of}
use Rattle.numbers.proofs.NumberLaws.{number_of_slot}
use Rattle.sets.specs.Sets.{set_of, join}
use Rattle.request.specs.declared.Request.{Request}
use Rattle.request.proofs.RefusalLaws.{refuses}
use Rattle.replica.specs.State.{State}
use Rattle.replica.specs.declared.Panel.{Panel}
use Rattle.replica.specs.Uses.{making_uses}
use Rattle.replica.specs.Memory.{memory}
use Rattle.replica.specs.internal.Model.{Inv}
use Rattle.entering.specs.Entering.{Enters}
use Rattle.invoking.proofs.InvokingLaws.{as_request, kept_asked, events_left, next_place_asks, behind-next, asked_enters, kept-made, making}
use Rattle.invoking.proofs.invoke.Goals as goal
use Rattle.invoking.proofs.invoke.Goals.{After-context_for-context}

-- ---- what is known once the context is, of a panel with what is used

abbrev before : After-context_for-context → Panel → State
before c r = memory (making_uses c.args.p.now r)

module _ (c : After-context_for-context) (r : Panel) where
  abbrev made : Request
  made = as_request (before c r) c.at_least-raised.result c.context_for-context.result

  module _ (inv : Inv (before c r)) where
    enters : Enters (before c r) made
    enters =
        asked_enters (before c r) c.args.i inv _ c.in_ok-invoke_refusal.ensures refl _ c.at_least-raised.ensures _
        c.slot_of-slot.ensures _ c.place-at.ensures _ c.context_for-context.ensures

    -- the number is that of the slot
    number_is : number_of c.slot_of-slot.result ≡ made.number
    number_is = ap number_of c.slot_of-slot.ensures ∙ number_of_slot _ enters.number

-- the type of the context's array says how many words there are
count : (c : After-context_for-context) → length c.context_for-context.result.words ≡ most_panels
count c = search rules

-- ---- refused

pub returns-in_err-invoke_refusal : goal.returns-in_err-invoke_refusal
returns-in_err-invoke_refusal c =
    let p = err_from_is_err_and c.from_residual.result c.from_residual.ensures.1 in
    rw (p.1, p.2) (record {
      kept = λ r inv. kept_asked _ c.args.i inv _ c.in_err-invoke_refusal.ensures _ (refuses _) refl;
      spare = refl;
      others = refl;
    })

-- ---- made

pub overflow_add-event : goal.overflow_add-event
overflow_add-event c = omega (arith, events_left _ c.args.i c.requires.invariant _ c.in_ok-invoke_refusal.ensures refl)

pub place-at-requires : goal.place-at-requires
place-at-requires c =
    next_place_asks _ c.args.i c.requires.invariant _ c.in_ok-invoke_refusal.ensures refl c.at_least-raised.result _ c.slot_of-slot.ensures

pub context_for-context-requires : goal.context_for-context-requires
context_for-context-requires c =
    behind-next _ c.args.i c.requires.invariant _ c.in_ok-invoke_refusal.ensures refl c.at_least-raised.result _ c.slot_of-slot.ensures _
    c.place-at.ensures

pub enter-requires : goal.enter-requires
enter-requires c =
    let context = (goal.at.enter-requires c).After-context_for-context in
    rw c.request_for-x.ensures (record {
      panel = making_uses c.args.p.now c.requires.panel;
      invariant = c.requires.invariant;
      enters = enters context c.requires.panel c.requires.invariant;
      its_slot = c.slot_of-slot.ensures;
      its_place = c.place-at.ensures;
      words = count context;
    })

pub returns : goal.returns
returns c =
    let context = (goal.at.returns c).After-context_for-context in
    record {
      kept = λ r inv.
          kept-made (before context r) c.args.i inv _ c.in_ok-invoke_refusal.ensures refl _ c.at_least-raised.ensures _
          c.slot_of-slot.ensures _ c.place-at.ensures _ c.context_for-context.ensures c.request_for-x.result c.request_for-x.ensures _ _
          (c.join_at.ensures
          ∙ ap (λ (words : List ℕ). join (set_of words) (number_of c.slot_of-slot.result)) c.enter.ensures.awaiting
          ∙ ap (join (set_of c.args.p.now.awaiting)) (number_is context r inv))
          (c.enter.ensures.kept (making_uses c.args.p.now r) inv (rw c.request_for-x.ensures (enters context r inv))
          (rw c.request_for-x.ensures c.place-at.ensures) _ _ _) _ refl;
      spare = c.enter.ensures.spare;
      others = making c.args.p.now c.enter.ensures.others _ _ _;
    }
