-- A request is made: its context by slots, the reading that it takes, its refusals, and what an accepted invocation leads to.
use Prim.Native.Nat.{ℕ, suc, ◌+◌, ◌≤◌, ◌<◌}
use native.Mathlib.Omega.{arith}
use native.Mathlib.Numerals.{add-one}
use mathlib.Core.Path.{◌≡◌, refl, sym, ap, ◌∙◌}
use mathlib.Core.Bool.{Bool, true, false, ◌||◌, cond}
use mathlib.Core.List.{List, [], ◌∷◌, map}
use lib.Seq.{slice}
use lib.Dec.{leb}
use borrow.Author.Tests.{leb-false, le-leb, lt-leb}
use Rattle.lists.specs.Lists.{keep}
use Rattle.lists.proofs.AllLaws.{all_weaken, all_drop}
use Rattle.lists.proofs.MapLaws.{map-drop, keep-map, keep_agree}
use Rattle.sets.specs.declared.Context.{Context}
use Rattle.numbers.specs.declared.Clock.{Clock}
use Rattle.numbers.specs.declared.Number.{Number}
use Rattle.request.specs.declared.Request.{Request}
use Rattle.numbers.specs.Numbers.{event_no, clock_reading, same_number, most_panels, most_events, no_number}
use Rattle.numbers.specs.internal.Slots.{GoodNumber, slot_of, number_of}
use Rattle.request.specs.Asked.{bad_asked}
use Rattle.sets.specs.Sets.{empty_set, member, join, leave}
use Rattle.request.specs.Order.{before}
use Rattle.request.specs.Refusal as refused
use Rattle.numbers.proofs.NumberLaws.{same_number_sound}
use Rattle.sets.proofs.SetLaws.{member-join, join-length}
use Rattle.ordering.specs.Slots.{IsSlot, Part, comes_before, without as without_slots}
use Rattle.ordering.specs.Insertion.{PlaceAsks, place_for}
use Rattle.ordering.proofs.SlotLaws.{part_of, comes-before-order}
use Rattle.ordering.proofs.InsertionLaws.{later_from_place}
use Rattle.creek.specs.declared.Invocation.{Invocation}
use Rattle.creek.specs.declared.Answer.{Answer}
use Rattle.creek.specs.Plan.{last_event, last_clock, entered, without, next_number, request_with, later, context_of, at_least, made}
use Rattle.creek.specs.Plan.{invoke_refusal}
use Rattle.creek.specs.Book.{invoke, refusal, accepted}
use Rattle.creek.specs.Replies.{spread, refused_with, named_by_refusal, accepted_answer, accepted_awaiting}
use Rattle.creek.specs.Calls.{accept}
use Rattle.creek.proofs.AcceptanceLaws.{passed, made_new}
use Rattle.creek.proofs.LookupLaws.{last_event-made, last_clock-made}
use Rattle.replica.specs.State.{State}
use Rattle.replica.specs.declared.Panel.{Panel}
use Rattle.replica.specs.Changes.{entering_changes, making_changes}
use Rattle.store.specs.Requests.{request_at}
use Rattle.replica.specs.Promises.{Kept}
use Rattle.replica.specs.internal.Model.{order_slots, plan_of, book_of, model, Inv}
use Rattle.invoking.specs.Invoking.{InvokeRefused, context_without, request_for}
use Rattle.entering.specs.Entering.{Enters, OwnSoFar, Entered}
use Rattle.replica.proofs.ModelLaws.{plan_sound}
use Rattle.replica.proofs.RequestLaws.{tentative_slots}
use Rattle.entering.proofs.EnteringLaws.{place_asks, insertion_asks}
use Rattle.entering.proofs.EnteringStates.{new_enters}
use Rattle.replica.proofs.KeptLaws.{kept-refused, kept-accepted}

-- ---- the context

-- a set without the numbers of requests at slots is the set without those slots
without_at : (clocks askings contexts : List ℕ) (s : Context) (l : List ℕ)
    → without s (map (request_at clocks askings contexts) l) ≡ without_slots s l
unfolding without without_slots request_at
without_at clocks askings contexts s [] = refl
without_at clocks askings contexts s (t ∷ ts) = without_at clocks askings contexts (leave s (number_of t)) ts

-- the slots of the tentative requests that one of that clock reading and slot comes before
abbrev later_slots : State → ℕ → ℕ → List ℕ
later_slots p clock s = keep (comes_before p.clocks clock s) (tentative_slots p)

-- the number of the next own request
abbrev pub next_own : State → Number
next_own p = record { panel = p.own; event = event_no (p.events + 1) }

-- the request asked for, with that context
abbrev pub as_request : State → Invocation → Context → Request
as_request p i context = request_for (next_own p) i context

module _ (p : State) (inv : Inv p) (i : Invocation) (good : GoodNumber most_panels (next_number (plan_of p))) where
  later_at : later (plan_of p) i ≡ map (request_at p.clocks p.askings p.contexts) (later_slots p i.clock.0 (slot_of (next_number (plan_of p))))
  unfolding plan_of request_at
  later_at =
      let x = request_with (plan_of p) i empty_set in
      let at = request_at p.clocks p.askings p.contexts in
      let tentative = tentative_slots p in
      let slots = all_drop IsSlot p.committed (order_slots p) inv.order_slots_is in
      ap (keep (before x)) (sym (map-drop at p.committed (order_slots p)))
      ∙ keep-map at (before x) tentative
      ∙ ap (map at) (keep_agree _ _ tentative
      (all_weaken (λ t h. comes-before-order x (at t) p.clocks t good h refl refl) tentative slots))

  context_at_lem : without p.known (later (plan_of p) i)
      ≡ without_slots p.known (later_slots p i.clock.0 (slot_of (next_number (plan_of p))))
  context_at_lem = ap (without p.known) later_at ∙ without_at p.clocks p.askings p.contexts p.known _

-- ---- the reading that is taken

-- the invocation with that reading
abbrev pub with_clock : Invocation → Clock → Invocation
with_clock i clock = record { asked = i.asked; clock = clock }

module _ (last : Clock) (i : Invocation) where
  pub as_asked : last.0 ≤ i.clock.0 → i ≡ at_least last.0 i
  unfolding at_least
  as_asked h = ap (λ (c : ℕ). with_clock i (clock_reading c)) (omega arith)

  pub raised_to_last : i.clock.0 < last.0 → with_clock i last ≡ at_least last.0 i
  unfolding at_least
  raised_to_last h = ap (λ (c : ℕ). with_clock i (clock_reading c)) (omega arith)

-- ---- the refusals, test by test

module _ (events : ℕ) (i : Invocation) where
  pub refused_bad : bad_asked i.asked ≡ true → InvokeRefused events i refused.bad_operation
  unfolding invoke_refusal
  refused_bad bad = record { word = λ a e. rw bad }

  module _ (good : bad_asked i.asked ≡ false) where
    pub refused_full : most_events ≤ events → InvokeRefused events i refused.shift_full
    unfolding invoke_refusal
    refused_full full = record { word = λ a e. rw (good, e, le-leb most_events events full) }

    pub refused_none : events < most_events → InvokeRefused events i refused.accepted
    unfolding invoke_refusal
    refused_none left = record { word = λ a e. rw (good, e, lt-leb most_events events left) }

-- ---- refused

module _ (p : State) (i : Invocation) (inv : Inv p) (w : ℕ) (told : InvokeRefused p.events i w) where
  word_is : w ≡ invoke_refusal (plan_of p) i
  word_is = told.word (plan_of p) (sym inv.events)

  pub kept_asked : (a : Answer) → (w ≡ refused.accepted → ⊥) → a ≡ refused_with w no_number
      → Kept p (invoke i) (record { answer = a; state = p })
  unfolding refusal named_by_refusal book_of
  kept_asked a refuses answers = kept-refused p (invoke i) w a inv (sym word_is) refuses answers

  -- ---- accepted

  module _ (passes : w ≡ refused.accepted) where
    taken : invoke_refusal (plan_of p) i ≡ refused.accepted
    taken = sym word_is ∙ passes

    -- there is an own event left
    pub events_left : p.events < most_events
    unfolding invoke_refusal
    events_left =
        let asked = passed (bad_asked i.asked) refused.bad_operation _ tt taken in
        let events = passed (leb most_events (last_event (plan_of p))) refused.shift_full refused.accepted tt asked.1 in
        omega (arith, inv.events, leb-false most_events (last_event (plan_of p)) events.0)

    made_enters : Enters p (made (plan_of p) i)
    made_enters = new_enters p (made (plan_of p) i) inv (made_new (plan_of p) (plan_sound p inv) i taken)

    next_good : GoodNumber most_panels (next_number (plan_of p))
    unfolding made
    next_good = made_enters.number

    next_is : next_own p ≡ next_number (plan_of p)
    unfolding plan_of
    next_is =
        let event : p.events + 1 ≡ suc (last_event (plan_of p)) = add-one p.events ∙ ap suc inv.events in
        λ j. record { panel = p.own; event = event_no (event j) }

    -- a request of its number may enter
    next_enters : (j : Invocation) → Enters p (as_request p j empty_set)
    unfolding made
    next_enters j = record {
      number = rw next_is made_enters.number;
      absent = rw next_is made_enters.absent;
      room = made_enters.room;
    }

    -- j is the invocation with the reading that it takes, s its slot: its place may be searched for
    pub next_place_asks : (j : Invocation) (s : ℕ) → s ≡ slot_of (next_own p)
        → PlaceAsks p.clocks p.order p.committed p.ordered j.clock.0 s
    next_place_asks j s is = place_asks p (as_request p j empty_set) inv (next_enters j) s is

    -- what stands from there on is a part of the order
    pub behind-next : (j : Invocation) (s : ℕ) → s ≡ slot_of (next_own p)
        → (at : ℕ) → at ≡ place_for p.clocks p.order p.committed p.ordered j.clock.0 s → Part p.order at p.ordered
    behind-next j s is at place =
        part_of p.order at p.ordered (insertion_asks p (as_request p j empty_set) inv (next_enters j) s at is place).place
        inv.counts.ordered inv.lengths.order inv.order_slots_is

    module _ (j : Invocation) (raised : j ≡ at_least p.clock.0 i) (s : ℕ) (slot_is : s ≡ slot_of (next_own p))
        (at : ℕ) (place : at ≡ place_for p.clocks p.order p.committed p.ordered j.clock.0 s) (context : Context)
        (context-is : context ≡ context_without j.asked.strong p.known (slice at p.ordered p.order)) where
      -- the later ones of the tentative requests stand there
      later_behind : slice at p.ordered p.order ≡ later_slots p j.clock.0 s
      later_behind =
          ap (λ (k : ℕ). slice k p.ordered p.order) place
          ∙ sym (later_from_place p.clocks p.order p.committed p.ordered j.clock.0 s (next_place_asks j s slot_is))

      context-made : context ≡ context_of (plan_of p) j
      unfolding plan_of
      context-made =
          context-is
          ∙ ap (context_without j.asked.strong p.known)
          (later_behind ∙ ap (later_slots p j.clock.0) (slot_is ∙ ap slot_of next_is))
          ∙ ap (λ (c : Context). cond j.asked.strong c empty_set) (sym (context_at_lem p inv j next_good))

      with_context : as_request p j context ≡ request_with (plan_of p) j (context_of (plan_of p) j)
      unfolding plan_of
      with_context = λ k. record {
        number = next_is k;
        clock = j.clock;
        asked = j.asked;
        context = context-made k;
      }

      taken_reading : j ≡ at_least (last_clock (plan_of p)) i
      taken_reading = raised ∙ ap (λ (clock : ℕ). at_least clock i) inv.clock

      request-made : as_request p j context ≡ made (plan_of p) i
      unfolding made
      request-made = with_context ∙ ap (λ (v : Invocation). request_with (plan_of p) v (context_of (plan_of p) v)) taken_reading

      pub asked_enters : Enters p (as_request p j context)
      asked_enters = rw request-made made_enters

      waits_own : (n : Number) → member (join p.awaiting (next_own p)) n ≡ true → n.panel.0 ≡ p.own.0
      waits_own n h =
          go (same_number (next_own p) n) refl
          (sym (member-join p.awaiting (next_own p) n inv.lengths.awaiting (rw next_is next_good)) ∙ h)
        where
          go : (b : Bool) → same_number (next_own p) n ≡ b → b || member p.awaiting n ≡ true → n.panel.0 ≡ p.own.0
          go true f g = ap (λ (m : Number). m.panel.0) (sym (same_number_sound (next_own p) n f))
          go false f g = inv.awaiting_own n g

      own-made : OwnSoFar p.own.0 (entered (plan_of p) (made (plan_of p) i)) (join p.awaiting (next_own p)) (p.events + 1) j.clock
      own-made = record {
        words = join-length p.awaiting (next_own p) ∙ inv.lengths.awaiting;
        event = add-one p.events ∙ ap suc inv.events ∙ sym (last_event-made (plan_of p) (plan_sound p inv) i taken);
        reading = ap (λ (v : Invocation). v.clock.0) taken_reading ∙ sym (last_clock-made (plan_of p) (plan_sound p inv) i taken);
        waits = waits_own;
      }

      made-model : (q : State) → Entered p (made (plan_of p) i) (join p.awaiting (next_own p)) (p.events + 1) j.clock q
          → model q ≡ accept (model p) (invoke i)
      unfolding model accept accepted accepted_awaiting book_of made
      made-model q e = rw next_is at e.replica

      pub kept-made : (x : Request) → x ≡ as_request p j context → (q : State) (awaiting : Context) → awaiting ≡ join p.awaiting (next_own p)
          → Entered p x awaiting (p.events + 1) j.clock q → (a : Answer) → a ≡ spread x
          → Kept p (invoke i) (record { answer = a; state = q })
      unfolding refusal accepted_answer book_of
      kept-made x is q awaiting waits e a answers =
          let made-entered = rw (waits, is ∙ request-made) at e in
          kept-accepted p q (invoke i) taken a inv (answers ∙ ap (λ (y : Request). spread y) (is ∙ request-made)) (made-model q made-entered)
          (made-entered.invariant own-made)

-- a request that entered is made where awaiting, event and clock follow: nothing else is changed
pub making : (p : Panel) {q : Panel} → q ≡ entering_changes p q → (awaiting : List ℕ) (events clock : ℕ)
    → record q { awaiting = awaiting; events = events; clock = clock }
    ≡ making_changes p (record q { awaiting = awaiting; events = events; clock = clock })
making p is awaiting events clock = ap (λ (r : Panel). record r { awaiting = awaiting; events = events; clock = clock }) is
