-- A request is heard: its refusals, first those that do not ask what is held; and what an accepted one leads to.
use Prim.Native.Nat.{ℕ}
use native.Mathlib.Omega.{arith}
use mathlib.Core.Path.{◌≡◌, refl, sym, ap, ◌∙◌}
use mathlib.Core.Bool.{Bool, true, false, cond}
use mathlib.Core.Option.{Option, none, some}
use Rattle.request.specs.declared.Request.{Request}
use Rattle.numbers.specs.Numbers.{most_panels, bad_number, no_number}
use Rattle.numbers.specs.internal.Slots.{GoodNumber, slot_of}
use Rattle.request.specs.Asked.{bad_asked}
use Rattle.sets.specs.Sets.{member}
use Rattle.request.specs.Request.{same_request, bad_context}
use Rattle.request.specs.Refusal as refused
use Rattle.numbers.proofs.NumberLaws.{good-number}
use Rattle.creek.specs.declared.Answer.{Answer}
use Rattle.creek.specs.Plan.{held, is_of, entered, met, held_refusal, deliver_refusal}
use Rattle.creek.specs.Book.{deliver, refusal, accepted}
use Rattle.creek.specs.Replies.{done, refused_with, named_by_refusal, accepted_answer, accepted_awaiting}
use Rattle.creek.specs.Calls.{accept}
use Rattle.creek.proofs.AcceptanceLaws.{passed, heard_new}
use Rattle.creek.proofs.LookupLaws.{last_event_heard, last_clock_heard}
use Rattle.replica.specs.State.{State}
use Rattle.store.specs.Requests.{request_at}
use Rattle.replica.specs.Promises.{Kept}
use Rattle.replica.specs.internal.Model.{plan_of, book_of, model, Inv}
use Rattle.delivering.specs.Delivering.{judged}
use Rattle.entering.specs.Entering.{Enters, OwnSoFar, Entered}
use Rattle.replica.proofs.ModelLaws.{plan_sound}
use Rattle.replica.proofs.RequestLaws.{held_some, held_none}
use Rattle.entering.proofs.EnteringStates.{good_widely, new_enters}
use Rattle.replica.proofs.KeptLaws.{kept-refused, kept-accepted}

-- ---- the refusal in two parts

-- a chain of tests that comes to a refusal comes to it whatever follows its last test
met_first : (t : Bool) (number rest other : ℕ) → (met t number rest ≡ refused.accepted → ⊥) → ((rest ≡ refused.accepted → ⊥) → other ≡ rest)
    → met t number other ≡ met t number rest
met_first true number rest other h go = refl
met_first false number rest other h go = go h

module _ (p : State) (x : Request) (inv : Inv p) where
  abbrev word : ℕ
  word = judged p.panels p.own.0 x

  refused_unheld : (word ≡ refused.accepted → ⊥) → deliver_refusal (plan_of p) x ≡ word
  unfolding judged deliver_refusal plan_of
  refused_unheld h =
      met_first (bad_number p.panels x.number) _ _ _ h (λ h.
      met_first (is_of p.own.0 x) _ _ _ h (λ h.
      met_first (bad_asked x.asked) _ _ _ h (λ h.
      met_first (bad_context p.panels x) _ _ _ h (λ h.
      absurd (h refl)))))

  by-held : word ≡ refused.accepted → deliver_refusal (plan_of p) x ≡ held_refusal (held (plan_of p) x.number) x
  unfolding judged deliver_refusal plan_of
  by-held h =
      let number = passed (bad_number p.panels x.number) refused.bad_number _ tt h in
      let own = passed (is_of p.own.0 x) refused.own_echo _ tt number.1 in
      let asked = passed (bad_asked x.asked) refused.bad_operation _ tt own.1 in
      let context = passed (bad_context p.panels x) refused.bad_context refused.accepted tt asked.1 in
      rw (number.0, own.0, asked.0, context.0)

  pub judged_good : judged p.panels p.own.0 x ≡ refused.accepted → GoodNumber most_panels x.number
  unfolding judged deliver_refusal
  judged_good h =
      good_widely p inv x.number
      (good-number p.panels x.number (passed (bad_number p.panels x.number) refused.bad_number _ tt h).0)

  -- ---- refused

  pub kept-judged : (w : ℕ) (a : Answer) → w ≡ judged p.panels p.own.0 x → (w ≡ refused.accepted → ⊥)
      → a ≡ refused_with w no_number → Kept p (deliver x) (record { answer = a; state = p })
  unfolding refusal named_by_refusal book_of
  kept-judged w a is refuses answers =
      kept-refused p (deliver x) w a inv (refused_unheld (λ e. refuses (is ∙ e)) ∙ sym is) refuses answers

  module _ (judged_new : judged p.panels p.own.0 x ≡ refused.accepted) where
    abbrev good : GoodNumber most_panels x.number
    good = judged_good judged_new

    refusal_is : (o : Option Request) → held (plan_of p) x.number ≡ o → deliver_refusal (plan_of p) x ≡ held_refusal o x
    refusal_is o e = by-held judged_new ∙ ap (λ (o : Option Request). held_refusal o x) e

    pub kept-held : member p.held x.number ≡ true → (s : ℕ) → s ≡ slot_of x.number → (y : Request) → y ≡ request_at p.clocks p.askings p.contexts s
        → (w : ℕ) (a : Answer) → w ≡ held_refusal (some y) x → a ≡ refused_with w no_number
        → Kept p (deliver x) (record { answer = a; state = p })
    unfolding refusal named_by_refusal book_of
    kept-held there s slot_is y y-is w a is answers =
        kept-refused p (deliver x) w a inv refuses (λ e. never (same_request y x) (sym is ∙ e)) answers
      where
        refuses : deliver_refusal (plan_of p) x ≡ w
        refuses = refusal_is (some y) (held_some p inv x.number good there ∙ ap some (ap (request_at p.clocks p.askings p.contexts) (sym slot_is) ∙ sym y-is)) ∙ sym is

        never : (b : Bool) → cond b refused.held_already refused.number_clash ≡ refused.accepted → ⊥
        never true e = omega arith
        never false e = omega arith

    -- ---- accepted

    module _ (absent : member p.held x.number ≡ false) where
      taken : deliver_refusal (plan_of p) x ≡ refused.accepted
      taken = refusal_is none (held_none p inv x.number good absent)

      pub heard_enters : Enters p x
      heard_enters = new_enters p x inv (heard_new (plan_of p) x taken)

      own_heard : OwnSoFar p.own.0 (entered (plan_of p) x) p.awaiting p.events p.clock
      own_heard = record {
        words = inv.lengths.awaiting;
        event = inv.events ∙ sym (last_event_heard (plan_of p) (plan_sound p inv) x taken);
        reading = inv.clock ∙ sym (last_clock_heard (plan_of p) (plan_sound p inv) x taken);
        waits = inv.awaiting_own;
      }

      heard-model : (q : State) → Entered p x p.awaiting p.events p.clock q → model q ≡ accept (model p) (deliver x)
      unfolding model accept accepted accepted_awaiting book_of
      heard-model q e = e.replica

      pub kept_heard : (q : State) → Entered p x p.awaiting p.events p.clock q
          → (a : Answer) → a ≡ done → Kept p (deliver x) (record { answer = a; state = q })
      unfolding refusal accepted_answer book_of
      kept_heard q e a answers = kept-accepted p q (deliver x) taken a inv answers (heard-model q e) (e.invariant own_heard)
