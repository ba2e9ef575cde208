-- `committing::early_refusal` meets its contract: each answer is what is left of the definition by the tests passed.
use mathlib.Core.Path.{◌≡◌, ◌∙◌, sym, ap}
use mathlib.Core.Bool.{not}
use lib.ListN.{get_or}
use Rattle.numbers.specs.internal.Slots.{slot_of}
use Rattle.numbers.proofs.NumberLaws.{good-number, slot_fits}
use Rattle.request.specs.declared.Asked.{Asked}
use Rattle.store.specs.Requests.{asked_in}
use Rattle.creek.proofs.HeldLaws.{widened}
use Rattle.settling.specs.Settling.{early_refusal}
use Rattle.committing.proofs.early_refusal.Goals as goal
use Rattle.committing.proofs.early_refusal.Goals.{After-asked_at-asked}

-- the strength that is read is that of what is asked for at the number's slot
strength : (c : After-asked_at-asked)
    → c.asked_at-asked.result.strong ≡ (asked_in (get_or c.args.p.now.askings (slot_of c.args.n) 0)).strong
strength c = ap (λ (x : Asked). x.strong) c.asked_at-asked.ensures ∙ rw c.slot_of-slot.ensures

pub returns-then-bad : goal.returns-then-bad
unfolding early_refusal
returns-then-bad c = rw (sym c.bad.ensures ∙ c.if-bad.true)

pub returns-then-not-member : goal.returns-then-not-member
unfolding early_refusal
returns-then-not-member c = rw (sym c.bad.ensures ∙ c.if-bad.false, sym c.member.ensures ∙ c.if-not-member.true)

pub asked_at-asked-requires : goal.asked_at-asked-requires
asked_at-asked-requires c =
    let good = good-number c.args.p.now.panels c.args.n (sym c.bad.ensures ∙ c.if-bad.false) in
    rw c.slot_of-slot.ensures (slot_fits c.args.n (widened c.requires good))

pub returns-then-not-asked : goal.returns-then-not-asked
unfolding early_refusal
returns-then-not-asked c =
    rw (
      sym c.bad.ensures ∙ c.if-bad.false,
      sym c.member.ensures ∙ c.if-not-member.false,
      ap not (sym (strength (goal.at.returns-then-not-asked c).After-asked_at-asked)) ∙ c.if-not-asked.true,
    )

pub returns-then-member : goal.returns-then-member
unfolding early_refusal
returns-then-member c =
    rw (
      sym c.bad.ensures ∙ c.if-bad.false,
      sym c.member.ensures ∙ c.if-not-member.false,
      ap not (sym (strength (goal.at.returns-then-member c).After-asked_at-asked)) ∙ c.if-not-asked.false,
      sym c.member-2.ensures ∙ c.if-member.true,
    )

pub returns : goal.returns
unfolding early_refusal
returns c =
    rw (
      sym c.bad.ensures ∙ c.if-bad.false,
      sym c.member.ensures ∙ c.if-not-member.false,
      ap not (sym (strength (goal.at.returns c).After-asked_at-asked)) ∙ c.if-not-asked.false,
      sym c.member-2.ensures ∙ c.if-member.false,
    )
