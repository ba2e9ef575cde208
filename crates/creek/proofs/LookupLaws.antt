-- What is held under a number, the last own event and the last own clock reading, after each call that changes the plan.
use Prim.Native.Nat.{ℕ, suc, ◌+◌}
use native.Mathlib.Omega.{arith}
use mathlib.Core.Path.{◌≡◌, refl, sym, ap, ◌∙◌}
use mathlib.Core.Bool.{Bool, true, false}
use mathlib.Core.List.{◌∷◌}
use mathlib.Core.Option.{some}
use borrow.Author.Tests.{eq-eqb}
use Rattle.numbers.specs.declared.Number.{Number}
use Rattle.request.specs.declared.Request.{Request}
use Rattle.numbers.specs.Numbers.{numbered, bad_number}
use Rattle.request.specs.Request.{same_request}
use Rattle.request.specs.Refusal as refused
use Rattle.lists.proofs.BoolLaws.{true_not_false}
use Rattle.numbers.proofs.NumberLaws.{same_number_sound, same_number_self}
use Rattle.request.proofs.EqualityLaws.{same_request_sound, same_request_self}
use Rattle.creek.specs.declared.Invocation.{Invocation}
use Rattle.lists.specs.Lists.{one, some_if, find}
use Rattle.creek.specs.Plan.{Plan, order, has_number, held, is_of, last_event, clock_of, last_clock, entered, next_number, at_least, made}
use Rattle.creek.specs.Plan.{committing, invoke_refusal, deliver_refusal}
use Rattle.creek.specs.internal.Sound.{SoundPlan}
use Rattle.lists.proofs.ListLaws.{one_true, one_false, find-moved}
use Rattle.creek.proofs.AcceptanceLaws.{passed, New, made_new, heard_new}
use Rattle.creek.proofs.EnteredLaws.{entered-count, entered_sound}
use Rattle.creek.proofs.CommittedLaws.{committing-count}

-- the last own clock reading, where own panel and last event are known
last_clock_lem : (b : Plan) (own e : ℕ) → b.own ≡ own → last_event b ≡ e → last_clock b ≡ clock_of (held b (numbered own e))
unfolding last_clock
last_clock_lem b own e p q = λ j. clock_of (held b (numbered (p j) (q j)))

-- ---- a request enters

module _ (a : Plan) (x : Request) (new : New a x) (sound : SoundPlan a) where
  -- under its own number it is held, and under any other what was
  pub held-entered : (n : Number) → held (entered a x) n ≡ some_if (has_number n x) x (held a n)
  held-entered n =
      find-moved same_request same_request_sound same_request_self (has_number n) (order (entered a x)) (x ∷ order a) (entered-count a x)
      (omega (arith, entered-count a x (has_number n), (entered_sound a x new sound).held.distinct n))

  pub last_event-entered : last_event (entered a x) ≡ one (is_of a.own x) + last_event a
  unfolding last_event entered
  last_event-entered = entered-count a x (is_of a.own)

module _ (a : Plan) (sound : SoundPlan a) (i : Invocation) (taken : invoke_refusal a i ≡ refused.accepted) where
  pub last_event-made : last_event (entered a (made a i)) ≡ suc (last_event a)
  unfolding made
  last_event-made = omega (arith, last_event-entered a (made a i) (made_new a sound i taken) sound, one_true (eq-eqb a.own a.own refl))

  pub last_clock-made : last_clock (entered a (made a i)) ≡ (at_least (last_clock a) i).clock.0
  unfolding made entered
  last_clock-made =
      last_clock_lem (entered a (made a i)) a.own (suc (last_event a)) refl last_event-made
      ∙ ap clock_of (held-entered a (made a i) (made_new a sound i taken) sound (next_number a)
      ∙ ap (λ (b : Bool). some_if b (made a i) (held a (next_number a))) (same_number_self (next_number a)))

module _ (a : Plan) (sound : SoundPlan a) (x : Request) (taken : deliver_refusal a x ≡ refused.accepted) where
  -- it is of another panel
  pub not_own : is_of a.own x ≡ false
  unfolding deliver_refusal
  not_own = (passed (is_of a.own x) refused.own_echo _ tt (passed (bad_number a.panels x.number) refused.bad_number _ tt taken).1).0

  not_last : has_number (numbered a.own (last_event a)) x ≡ false
  not_last = go (has_number (numbered a.own (last_event a)) x) refl
    where
      go : (b : Bool) → has_number (numbered a.own (last_event a)) x ≡ b → b ≡ false
      go true e =
          let same = same_number_sound (numbered a.own (last_event a)) x.number e in
          true_not_false (eq-eqb x.number.panel.0 a.own (ap (λ (n : Number). n.panel.0) (sym same))) not_own
      go false e = refl

  pub last_event_heard : last_event (entered a x) ≡ last_event a
  last_event_heard = omega (arith, last_event-entered a x (heard_new a x taken) sound, one_false not_own)

  pub last_clock_heard : last_clock (entered a x) ≡ last_clock a
  unfolding entered last_clock
  last_clock_heard =
      last_clock_lem (entered a x) a.own (last_event a) refl last_event_heard
      ∙ ap clock_of (held-entered a x (heard_new a x taken) sound (numbered a.own (last_event a))
      ∙ ap (λ (b : Bool). some_if b x (held a (numbered a.own (last_event a)))) not_last)

-- ---- a request is committed

module _ (a : Plan) (x : Request) (found : find (has_number x.number) a.tentative ≡ some x) (sound : SoundPlan a) where
  pub held-committing : (n : Number) → held (committing a x) n ≡ held a n
  held-committing n =
      find-moved same_request same_request_sound same_request_self (has_number n) (order (committing a x)) (order a)
      (committing-count a x found sound) (sound.held.distinct n)

  pub last_event-committing : last_event (committing a x) ≡ last_event a
  unfolding last_event committing
  last_event-committing = committing-count a x found sound (is_of a.own)

  pub last_clock-committing : last_clock (committing a x) ≡ last_clock a
  unfolding committing last_clock
  last_clock-committing =
      last_clock_lem (committing a x) a.own (last_event a) refl last_event-committing
      ∙ ap clock_of (held-committing (numbered a.own (last_event a)))
