-- Clocks that are put back (`specs/Clocks`): the reading that a made request takes, that it goes through, that own requests stay in event
-- order after every list of calls, and that refusal 5 is never met.
use Prim.Native.Nat.{ℕ, suc, ◌≤◌, ◌<◌}
use native.Mathlib.Omega.{arith}
use mathlib.Core.Path.{◌≡◌, refl, sym, ap, ◌∙◌}
use mathlib.Core.Bool.{Bool, true, false, not}
use mathlib.Core.List.{List, [], ◌∷◌}
use mathlib.Core.Logic.{◌⊎◌, inl, inr}
use mathlib.Core.Option.{Option, none, some}
use lib.Dec.{ltb, leb}
use borrow.Author.Tests.{ltb-false, eqb-true, lt-leb}
use Rattle.numbers.specs.declared.Number.{Number}
use Rattle.request.specs.declared.Request.{Request}
use Rattle.numbers.specs.Numbers.{clock_reading, bad_number, most_events}
use Rattle.request.specs.Operations.{last_register}
use Rattle.request.specs.Asked.{bad_asked}
use Rattle.request.specs.Order.{before}
use Rattle.request.specs.Request.{same_request, bad_context}
use Rattle.request.specs.Refusal as refused
use Rattle.request.specs.Refusal.{NotClockBack}
use Rattle.request.proofs.OrderLaws.{before_by_event}
use Rattle.lists.specs.Lists.{some_if, is_nil, find}
use Rattle.lists.proofs.BoolLaws.{true_not_false, both, either}
use Rattle.lists.proofs.ListLaws.{found_not}
use Rattle.creek.specs.declared.Invocation.{Invocation}
use Rattle.creek.specs.Plan.{Plan, empty_plan, order, has_number, held, is_of, last_event, last_clock, entered, at_least, made}
use Rattle.creek.specs.Plan.{committing, met, invoke_refusal, held_refusal, deliver_refusal, is_committed, waits, found_refusal}
use Rattle.creek.specs.Plan.{commit_refusal}
use Rattle.creek.specs.Execution.{undo_refusal, execute_refusal}
use Rattle.creek.specs.Book.{Call, invoke, deliver, commit, undo, execute, Book, refusal, accepted}
use Rattle.creek.specs.Calls.{Replica, bad_shop, fresh_refusal, fresh, accept, step}
use Rattle.creek.specs.History.{run}
use Rattle.creek.specs.Showing.{no_place, register_refusal, place_refusal}
use Rattle.creek.specs.internal.Sound.{own_beyond, SoundPlan, Sound}
use Rattle.creek.specs.Clocks.{ClockTaken, GoesThrough, OwnHeld, InEventOrder, SoundClocks, NeverClockBack}
use Rattle.creek.proofs.AcceptanceLaws.{New, made_new, heard_new, commits}
use Rattle.creek.proofs.LookupLaws.{held-entered, last_clock-made, not_own, last_clock_heard, held-committing}
use Rattle.creek.proofs.LookupLaws.{last_clock-committing}
use Rattle.creek.proofs.CallLaws.{by-outcome, answer-refusal}
use Rattle.creek.proofs.SoundLaws.{step_sound, fresh_sound}

-- ---- the request that is made

pub clock_taken : (a : Plan) (i : Invocation) → ClockTaken a i
unfolding made at_least
clock_taken a i = record {
  as_asked = λ h. ap clock_reading (omega arith);
  raised = λ h. omega arith;
}

pub goes_through : (b : Book) (i : Invocation) → GoesThrough b i
unfolding refusal invoke_refusal
goes_through b i = record { accepted = λ good left. rw (good, lt-leb most_events (last_event b.plan) left) }

-- ---- the own requests that are held

-- an own request held has at most the last own event
event_most : (a : Plan) → SoundPlan a → (x : Request) → OwnHeld a x → x.number.event.0 ≤ last_event a
unfolding own_beyond last_event
event_most a sound x h =
    go (ltb (last_event a) x.number.event.0) refl
    (found_not (has_number x.number) (own_beyond a.own (last_event a)) x (order a) h.here sound.held.own_events)
  where
    go : (b : Bool) → ltb (last_event a) x.number.event.0 ≡ b → own_beyond a.own (last_event a) x ≡ false
        → x.number.event.0 ≤ last_event a
    go true e f = true_not_false (both h.own e) f
    go false e f = ltb-false (last_event a) x.number.event.0 e

-- after x has entered, an own request that is held is x or was held
own-entered : (a : Plan) (x : Request) → New a x → SoundPlan a → (y : Request) → OwnHeld (entered a x) y → (x ≡ y) ⊎ OwnHeld a y
unfolding entered
own-entered a x new sound y h = go (has_number y.number x) (sym (held-entered a x new sound y.number) ∙ h.here)
  where
    go : (b : Bool) → some_if b x (held a y.number) ≡ some y → (x ≡ y) ⊎ OwnHeld a y
    go true e = inl cc
    go false e = inr (record { here = e; own = h.own })

-- where every own request held was held, and the last own reading is what it was
clocks-kept : (a b : Plan) → ((y : Request) → OwnHeld b y → OwnHeld a y) → last_clock b ≡ last_clock a → SoundClocks a → SoundClocks b
clocks-kept a b was same clocks = record {
  none_above = λ y h. omega (arith, clocks.none_above y (was y h));
  in_order = record { ordered = λ y z hy hz. clocks.in_order.ordered y z (was y hy) (was z hz) };
}

module _ (a : Plan) (sound : SoundPlan a) (i : Invocation) (taken : invoke_refusal a i ≡ refused.accepted) (clocks : SoundClocks a) where
  -- an own request held is the made one, or was held
  made_or_held : (y : Request) → OwnHeld (entered a (made a i)) y → (made a i ≡ y) ⊎ OwnHeld a y
  made_or_held = own-entered a (made a i) (made_new a sound i taken) sound

  -- the made request has the last own reading, which is not below what it was
  made_last_clock : (made a i).clock.0 ≡ last_clock (entered a (made a i))
  unfolding made
  made_last_clock = sym (last_clock-made a sound i taken)

  made_no_lower : last_clock a ≤ (made a i).clock.0
  unfolding made at_least
  made_no_lower = omega arith

  -- and an event above that of each request that was held
  made_event : (made a i).number.event.0 ≡ suc (last_event a)
  unfolding made
  made_event = refl

  made_panel : (made a i).number.panel.0 ≡ a.own
  unfolding made
  made_panel = refl

  made_none_above : (y : Request) → (made a i ≡ y) ⊎ OwnHeld a y → y.clock.0 ≤ last_clock (entered a (made a i))
  made_none_above y (inl e) = omega (arith, made_last_clock, ap (λ (x : Request). x.clock.0) e)
  made_none_above y (inr h) = omega (arith, made_last_clock, made_no_lower, clocks.none_above y h)

  made_in_order : (y z : Request) → (made a i ≡ y) ⊎ OwnHeld a y → (made a i ≡ z) ⊎ OwnHeld a z
      → y.number.event.0 < z.number.event.0 → before y z ≡ true
  made_in_order y z (inl e) (inl f) less =
      absurd (omega (arith, ap (λ (x : Request). x.number.event.0) e, ap (λ (x : Request). x.number.event.0) f))
  made_in_order y z (inl e) (inr h) less =
      absurd (omega (arith, made_event, ap (λ (x : Request). x.number.event.0) e, event_most a sound z h))
  made_in_order y z (inr h) (inl f) less =
      before_by_event y z (eqb-true _ _ h.own ∙ sym made_panel ∙ ap (λ (x : Request). x.number.panel.0) f)
      (omega (arith, made_no_lower, clocks.none_above y h, ap (λ (x : Request). x.clock.0) f)) less
  made_in_order y z (inr h) (inr k) less = clocks.in_order.ordered y z h k less

  made_clocks : SoundClocks (entered a (made a i))
  made_clocks = record {
    none_above = λ y h. made_none_above y (made_or_held y h);
    in_order = record { ordered = λ y z h k. made_in_order y z (made_or_held y h) (made_or_held z k) };
  }

module _ (a : Plan) (sound : SoundPlan a) (x : Request) (taken : deliver_refusal a x ≡ refused.accepted) where
  heard_was : (y : Request) → OwnHeld (entered a x) y → OwnHeld a y
  unfolding entered
  heard_was y h = go (own-entered a x (heard_new a x taken) sound y h)
    where
      go : (x ≡ y) ⊎ OwnHeld a y → OwnHeld a y
      go (inl e) = true_not_false (ap (is_of a.own) e ∙ h.own) (not_own a sound x taken)
      go (inr k) = k

  heard_clocks : SoundClocks a → SoundClocks (entered a x)
  heard_clocks = clocks-kept a (entered a x) heard_was (last_clock_heard a sound x taken)

module _ (a : Plan) (x : Request) (found : find (has_number x.number) a.tentative ≡ some x) (sound : SoundPlan a) where
  committed_was : (y : Request) → OwnHeld (committing a x) y → OwnHeld a y
  unfolding committing
  committed_was y h = record { here = sym (held-committing a x found sound y.number) ∙ h.here; own = h.own }

  committed_clocks : SoundClocks a → SoundClocks (committing a x)
  committed_clocks = clocks-kept a (committing a x) committed_was (last_clock-committing a x found sound)

-- ---- every list of calls

accept_clocks : (r : Replica) (c : Call) → refusal r.book c ≡ refused.accepted → Sound r → SoundClocks r.book.plan
    → SoundClocks (accept r c).book.plan
unfolding accept accepted refusal
accept_clocks r (invoke i) taken sound = made_clocks r.book.plan sound.plan i taken
accept_clocks r (deliver x) taken sound = heard_clocks r.book.plan sound.plan x taken
accept_clocks r (commit n) taken sound =
    let c = commits r.book.plan n taken in
    rw c.leads (committed_clocks r.book.plan c.request c.found sound.plan)
accept_clocks r undo taken sound = λ clocks. clocks
accept_clocks r execute taken sound = λ clocks. clocks

run_clocks : (r : Replica) (cs : List Call) → Sound r → SoundClocks r.book.plan → SoundClocks (run r cs).book.plan
unfolding run
run_clocks r [] sound clocks = clocks
run_clocks r (c ∷ cs) sound clocks =
    run_clocks (step r c) cs (step_sound r c sound)
    (by-outcome (λ v w q. SoundClocks q.book.plan) r c (λ taken. accept_clocks r c taken sound clocks) clocks)

-- nothing is held in an empty book
fresh_clocks : (panels own : ℕ) → SoundClocks (fresh panels own).book.plan
unfolding fresh
fresh_clocks panels own =
    either (λ (r : Replica). SoundClocks r.book.plan) (bad_shop panels own) (λ e. empty_clocks 1 0) (λ e. empty_clocks panels own)
  where
    empty_clocks : (panels own : ℕ) → SoundClocks (empty_plan panels own)
    empty_clocks panels own = record {
      none_above = λ x h. nothing h.here;
      in_order = record { ordered = λ x y h k less. nothing h.here };
    }
      where
        nothing : {x : Request} {X : Type 0} → ◌≡◌ {A = Option Request} none (some x) → X
        nothing e = let w : ◌≡◌ {A = ℕ} 0 1 = cc in absurd (omega arith)

pub in_event_order : (panels own : ℕ) (calls : List Call) → InEventOrder (run (fresh panels own) calls).book.plan
in_event_order panels own calls =
    (run_clocks (fresh panels own) calls (fresh_sound panels own) (fresh_clocks panels own)).in_order

-- ---- refusal 5

-- a chain of tests does not come to 5: neither its first number nor what the later tests come to is 5
met_not : (t : Bool) {n rest : ℕ} → NotClockBack n → NotClockBack rest → NotClockBack (met t n rest)
met_not t first later = either NotClockBack t (λ e. first) (λ e. later)

held_not : (f : Option Request) (x : Request) → NotClockBack (held_refusal f x)
held_not none x = λ e. omega arith
held_not (some y) x = met_not (same_request y x) (λ e. omega arith) (λ e. omega arith)

lookup_not : (a : Plan) (n : Number) (f : Option Request) → NotClockBack (found_refusal a n f)
lookup_not a n none = λ e. omega arith
lookup_not a n (some x) =
    met_not (not x.asked.strong) (λ e. omega arith)
    (met_not (is_committed a n) (λ e. omega arith) (met_not (waits a x) (λ e. omega arith) (λ e. omega arith)))

calls_not : (b : Book) (c : Call) → NotClockBack (refusal b c)
unfolding refusal invoke_refusal deliver_refusal commit_refusal undo_refusal execute_refusal
calls_not b (invoke i) =
    met_not (bad_asked i.asked) (λ e. omega arith)
    (met_not (leb most_events (last_event b.plan)) (λ e. omega arith) (λ e. omega arith))
calls_not b (deliver x) =
    met_not (bad_number b.plan.panels x.number) (λ e. omega arith)
    (met_not (is_of b.plan.own x) (λ e. omega arith)
    (met_not (bad_asked x.asked) (λ e. omega arith)
    (met_not (bad_context b.plan.panels x) (λ e. omega arith) (held_not (held b.plan x.number) x))))
calls_not b (commit n) =
    met_not (bad_number b.plan.panels n) (λ e. omega arith) (lookup_not b.plan n (held b.plan n))
calls_not b undo = met_not (is_nil b.execution.rollback) (λ e. omega arith) (λ e. omega arith)
calls_not b execute =
    met_not (not (is_nil b.execution.rollback)) (λ e. omega arith)
    (met_not (is_nil b.execution.todo) (λ e. omega arith) (λ e. omega arith))

pub never_clock_back : NeverClockBack
unfolding fresh_refusal register_refusal place_refusal
never_clock_back = record {
  calls = calls_not;
  answers = λ r c e. calls_not r.book c (sym (answer-refusal r c) ∙ e);
  fresh = λ panels own. met_not (bad_shop panels own) (λ e. omega arith) (λ e. omega arith);
  register = λ k. met_not (ltb last_register k) (λ e. omega arith) (λ e. omega arith);
  place = λ r place. met_not (no_place r place) (λ e. omega arith) (λ e. omega arith);
}
