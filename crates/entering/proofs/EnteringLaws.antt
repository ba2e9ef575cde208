-- A request enters: the state that the code builds is the plan with the request and the execution adjusted to it.
use Prim.Native.Nat.{ℕ, ◌+◌, ◌≤◌, ◌<◌, min}
use native.Mathlib.Omega.{arith}
use native.Mathlib.Nat.{zero-add}
use mathlib.Core.Path.{◌≡◌, refl, sym, ap, subst, ◌∙◌}
use mathlib.Core.Bool.{Bool, true, false, not, ◌||◌}
use mathlib.Core.List.{List, map}
use lib.ListN.{length, take, drop, get_or, length-take}
use lib.Seq.{take-take, length-slice}
use lib.Dec.{eqb, ltb}
use borrow.Author.Tests.{eq-eqb, ne_eqb, eqb-true, eqb-false, ltb-true, ltb-false}
use Rattle.lists.specs.Lists.{one, count, insert, common_start}
use Rattle.lists.specs.Places.{All, insert_at, leading}
use Rattle.lists.proofs.BoolLaws.{true_not_false}
use Rattle.lists.proofs.ListLaws.{one_false, common_start_most}
use Rattle.lists.proofs.AllLaws.{all_weaken, all_take, all_drop, all-insert_at, none_all}
use Rattle.lists.proofs.MapLaws.{map-take, map-drop, map-insert_at, count_map, leading-map, leading_agree, common_start-map, map_agree}
use Rattle.lists.proofs.StartLaws.{common_start_inserted}
use Rattle.lists.proofs.PlaceLaws.{leading_most, insert_place, take-insert_at, drop-insert_at, count-insert_at}
use Rattle.numbers.specs.declared.Clock.{Clock}
use Rattle.numbers.specs.declared.Number.{Number}
use Rattle.sets.specs.declared.Context.{Context}
use Rattle.request.specs.declared.Request.{Request}
use Rattle.numbers.specs.Numbers.{most_panels, same_number}
use Rattle.numbers.specs.internal.Slots.{slot_of, number_of}
use Rattle.sets.specs.Sets.{set_of, member, join}
use Rattle.request.specs.Order.{before}
use Rattle.request.specs.Request.{same_request}
use Rattle.request.proofs.OrderLaws.{before_transitive}
use Rattle.numbers.proofs.NumberLaws.{same_number_self, same_number_sym, slot_fits, number_of_slot}
use Rattle.sets.proofs.SetLaws.{member-join, join-length}
use Rattle.ordering.specs.Slots.{IsSlot, OrderAsks, comes_before}
use Rattle.slots.specs.Marks.{Marks}
use Rattle.ordering.specs.Insertion.{PlaceAsks, place_for, InsertionAsks, Inserted}
use Rattle.ordering.proofs.SlotLaws.{part_of, same_slot, comes-before-order}
use Rattle.creek.specs.Plan.{Plan, order, has_number, known_with, entered}
use Rattle.creek.specs.Execution.{adjusted}
use Rattle.creek.specs.internal.Stack.{stacked}
use Rattle.creek.specs.Book.{planned}
use Rattle.creek.specs.internal.Sound.{Sound}
use Rattle.creek.proofs.StackLaws.{stacked-board, stacked-adjusted}
use Rattle.replica.specs.State.{State}
use Rattle.store.specs.Requests.{request_of, request_at, Stored}
use Rattle.store.proofs.RequestLaws.{stored_other, stored_long}
use Rattle.replica.specs.internal.Model.{order_slots, board_slots, order_of, board_of, plan_of, book_of, model}
use Rattle.replica.specs.internal.Model.{Counts, Lengths, Log, Inv}
use Rattle.entering.specs.Entering.{Enters, OwnSoFar, Entered}
use Rattle.replica.proofs.ModelLaws.{order-planned, length_order_slots, length-order, order_slot, tentative_ordered, executed_follows}
use Rattle.replica.proofs.RequestLaws.{tentative_slots, same-request, count_held}
use Rattle.replica.proofs.States.{enlarged}

-- ---- what the code builds

abbrev pub slot : Request → ℕ
slot x = slot_of x.number

-- how many of the tentative slots stand before it
unfoldable pub behind : State → Request → ℕ
behind p x = leading (λ t. not (comes_before p.clocks x.clock.0 (slot x) t)) (tentative_slots p)

-- its place in the order
abbrev pub place_of : State → Request → ℕ
place_of p x = p.committed + behind p x

-- how much of the executed list is a common start with that order
abbrev pub kept_start : State → List ℕ → ℕ
kept_start p order = common_start eqb (take p.executed p.stack) (take (p.ordered + 1) order)

-- the tentative requests may be compared with another
pub tentative_asks : (p : State) → Inv p → OrderAsks p.clocks p.order p.committed p.ordered
tentative_asks p inv = record {
  clocks_long = inv.lengths.requests.clocks;
  part =
      part_of p.order p.committed p.ordered inv.counts.committed inv.counts.ordered inv.lengths.order
      inv.order_slots_is;
}

module _ (p : State) (x : Request) (inv : Inv p) (new : Enters p x) where
  -- ---- the tables

  pub slot_is : IsSlot (slot x)
  slot_is = slot_fits x.number new.number

  abbrev at_before : ℕ → Request
  at_before = request_at p.clocks p.askings p.contexts

  -- t is another slot
  abbrev Other : ℕ → Type 0
  Other t = t ≡ slot x → ⊥

  -- a list of slots with no request of its number
  others : (l : List ℕ) → count (has_number x.number) (map at_before l) ≡ 0 → All Other l
  unfolding request_at
  others l h =
      all_weaken other l
      (none_all (λ t. has_number x.number (at_before t)) l (sym (count_map at_before (has_number x.number) l) ∙ h))
    where
      other : (t : ℕ) → has_number x.number (at_before t) ≡ false → Other t
      other t e is =
          let number : number_of t ≡ x.number = ap number_of is ∙ number_of_slot x.number new.number in
          true_not_false (ap (same_number x.number) number ∙ same_number_self x.number) e

  none_held : count (has_number x.number) (order (plan_of p)) ≡ 0
  none_held = count_held p inv x.number new.number ∙ one_false new.absent

  order_others : All Other (order_slots p)
  order_others = others (order_slots p) (ap (count (has_number x.number)) (sym (order-planned p)) ∙ none_held)

  board_others : All Other (board_slots p)
  unfolding model book_of
  board_others =
      let most = inv.sound.board_held (has_number x.number) in
      let on = ap (count (has_number x.number)) (stacked-board (board_of p) p.executed (order_of p)) in
      others (board_slots p) (omega (arith, most, on, none_held))

  -- ---- the place

  abbrev tentative-before : List Request
  tentative-before = drop p.committed (order_of p)

  -- by its slot and in clock order it comes before the same requests
  comes-before : (t : ℕ) → IsSlot t → before x (at_before t) ≡ comes_before p.clocks x.clock.0 (slot x) t
  unfolding request_at
  comes-before t h = comes-before-order x (at_before t) p.clocks t new.number h refl refl

  module _ (i j : ℕ) (low : p.committed ≤ i) (high : j < p.ordered) where
    below : i ≤ j → (i ≡ j → ⊥) → i < j
    below up apart = go (ltb i j) refl
      where
        go : (b : Bool) → ltb i j ≡ b → i < j
        go true h = ltb-true i j h
        go false h = absurd (apart (omega (arith, ltb-false i j h)))

    -- once it comes before one of the tentative requests, it comes before all behind that
    split_at : i ≤ j → comes_before p.clocks x.clock.0 (slot x) (get_or p.order i 0) ≡ true
        → comes_before p.clocks x.clock.0 (slot x) (get_or p.order j 0) ≡ true
    split_at up e = go (eqb i j) refl
      where
        go : (b : Bool) → eqb i j ≡ b → comes_before p.clocks x.clock.0 (slot x) (get_or p.order j 0) ≡ true
        go true s = ap (λ (k : ℕ). comes_before p.clocks x.clock.0 (slot x) (get_or p.order k 0)) (sym (eqb-true i j s)) ∙ e
        go false s =
            sym (comes-before _ (order_slot p inv j high))
            ∙ before_transitive x _ _ (comes-before _ (order_slot p inv i (omega arith)) ∙ e)
            (tentative_ordered p inv i j low (below up (eqb-false i j s)) high)

  -- the place by clock readings and slots is the place in clock order
  behind-order : behind p x ≡ leading (λ y. not (before x y)) tentative-before
  unfolding behind request_at
  behind-order =
      let tentative = tentative_slots p in
      let slots = all_drop IsSlot p.committed (order_slots p) inv.order_slots_is in
      sym
      (ap (leading (λ y. not (before x y))) (sym (map-drop at_before p.committed (order_slots p)))
      ∙ leading-map at_before (λ y. not (before x y)) tentative
      ∙ leading_agree _ _ tentative (all_weaken (λ t h. ap not (comes-before t h)) tentative slots))

  long_enough : p.committed ≤ length (order_of p)
  long_enough = omega (arith, inv.counts, length-order p inv)

  pub place_most : place_of p x ≤ p.ordered
  unfolding behind
  place_most =
      omega (
        arith,
        inv.counts,
        inv.lengths.order,
        leading_most (λ t. not (comes_before p.clocks x.clock.0 (slot x) t)) (tentative_slots p),
        length-slice p.committed p.ordered p.order (omega (arith, inv.counts, inv.lengths.order)),
      )

  -- ---- the order with x in it

  module _ (clocks askings contexts : List ℕ) (stored : Stored p.clocks p.askings p.contexts (slot x) x clocks askings contexts)
      (new-order : List ℕ) (ins : Inserted p.order p.ordered (place_of p x) (slot x) new-order)
      (held known awaiting : List ℕ) (joined : set_of held ≡ join p.held x.number)
      (knows : set_of known ≡ known_with p.known x.asked.strong x.number) (events : ℕ) (clock : Clock) where
    abbrev at_after : ℕ → Request
    at_after = request_at clocks askings contexts

    -- at its slot stands x
    itself_at : at_after (slot x) ≡ x
    itself_at = stored.there (sym (number_of_slot x.number new.number))

    -- at other slots nothing changed
    others_at : (l : List ℕ) → All Other l → map at_after l ≡ map at_before l
    others_at l h =
        map_agree at_after at_before l (all_weaken (stored_other stored) l h)

    order-after : map at_after (take (p.ordered + 1) new-order) ≡ insert_at (place_of p x) x (order_of p)
    order-after =
        ap (map at_after) ins.first
        ∙ map-insert_at at_after (place_of p x) (slot x) (order_slots p)
        ∙ rw (itself_at, others_at (order_slots p) order_others)

    abbrev kept : ℕ
    kept = kept_start p new-order

    abbrev after : State
    after = enlarged p held known awaiting clocks askings contexts new-order kept events clock

    plan_after : plan_of after ≡ entered (plan_of p) x
    unfolding plan_of entered
    plan_after =
        let committed : take p.committed (order_of after) ≡ take p.committed (order_of p) =
        ap (take p.committed) order-after ∙ take-insert_at p.committed (behind p x) x (order_of p) long_enough in
        let tentative : drop p.committed (order_of after) ≡ insert before x tentative-before =
        ap (drop p.committed) order-after
        ∙ drop-insert_at p.committed (behind p x) x (order_of p) long_enough
        ∙ ap (λ (k : ℕ). insert_at k x tentative-before) behind-order
        ∙ sym (insert_place before x tentative-before) in
        λ i. record {
          panels = p.panels;
          own = p.own.0;
          known = knows i;
          committed = committed i;
          tentative = tentative i;
        }

    board-after : board_of after ≡ board_of p
    board-after = others_at (board_slots p) board_others

    order_slots_after : All IsSlot (order_slots after)
    order_slots_after = rw ins.first (all-insert_at IsSlot (place_of p x) (slot x) (order_slots p) slot_is inv.order_slots_is)

    executed_slots : take p.executed (board_slots p) ≡ take p.executed p.stack
    executed_slots = take-take p.executed p.stacked p.stack inv.counts.executed

    -- the common start of the lists of requests is that of the lists of slots
    kept_start_lem : common_start same_request (take p.executed (board_of p)) (order_of after) ≡ kept
    kept_start_lem =
        let executed = rw executed_slots at (all_take IsSlot p.executed (board_slots p) inv.board_slots_is) in
        ap (λ (l : List Request). common_start same_request l (order_of after))
        (ap (take p.executed) (sym board-after) ∙ sym (map-take at_after p.executed (board_slots p)) ∙ ap (map at_after) executed_slots)
        ∙ common_start-map at_after IsSlot eqb same_request (same-request clocks askings contexts)
        (take p.executed p.stack) (order_slots after) executed order_slots_after

    book-after : book_of after ≡ planned (entered (plan_of p) x) (book_of p).execution
    unfolding book_of
    book-after =
        let new-order : order_of after ≡ order (entered (plan_of p) x) = sym (order-planned after) ∙ ap (λ (a : Plan). order a) plan_after in
        let execution : stacked (board_of after) kept (order_of after)
        ≡ adjusted (order (entered (plan_of p) x)) (stacked (board_of p) p.executed (order_of p)) =
        ap (λ (l : List Request). stacked l kept (order_of after)) board-after
        ∙ ap (λ (k : ℕ). stacked (board_of p) k (order_of after)) (sym kept_start_lem)
        ∙ sym (stacked-adjusted (board_of p) p.executed (order_of p) (order_of after))
        ∙ ap (λ (l : List Request). adjusted l (stacked (board_of p) p.executed (order_of p))) new-order in
        λ i. record { plan = plan_after i; execution = execution i }

    -- ---- the rest of the invariant

    held_after : (t : ℕ) → IsSlot t → count (eqb t) (order_slots after) ≡ one (member after.held (number_of t))
    held_after t h =
        ap (count (eqb t)) ins.first
        ∙ count-insert_at (eqb t) (place_of p x) (slot x) (order_slots p)
        ∙ ap (λ (n : ℕ). one (eqb t (slot x)) + n) (inv.held t h)
        ∙ go (eqb t (slot x)) refl
        ∙ sym (ap one here)
      where
        here : member after.held (number_of t) ≡ (eqb t (slot x) || member p.held (number_of t))
        here =
            ap (λ (s : Context). member s (number_of t)) joined
            ∙ member-join p.held x.number (number_of t) inv.lengths.held new.number
            ∙ ap (λ (b : Bool). b || member p.held (number_of t))
            (same_number_sym x.number (number_of t)
            ∙ ap (same_number (number_of t)) (sym (number_of_slot x.number new.number))
            ∙ same_slot t (slot x) h slot_is)

        go : (b : Bool) → eqb t (slot x) ≡ b → one b + one (member p.held (number_of t)) ≡ one (b || member p.held (number_of t))
        go true e =
            let number : number_of t ≡ x.number = ap number_of (eqb-true t (slot x) e) ∙ number_of_slot x.number new.number in
            omega (arith, one_false (ap (member p.held) number ∙ new.absent))
        go false e = zero-add (one (member p.held (number_of t)))

    -- the committed requests are those that were
    settled-after : Marks new-order p.committed p.settled.words
    settled-after =
        let same : take p.committed new-order ≡ take p.committed p.order =
        sym (take-take p.committed (p.ordered + 1) new-order (omega (arith, inv.counts)))
        ∙ ap (take p.committed) ins.first
        ∙ take-insert_at p.committed (behind p x) (slot x) (order_slots p) (omega (arith, inv.counts, length_order_slots p inv))
        ∙ take-take p.committed p.ordered p.order inv.counts.committed in
        record { marked = λ t h. ap (count (eqb t)) same ∙ inv.settled.marked t h }

    counts-after : Counts after
    counts-after =
        let few = common_start_most eqb (take p.executed p.stack) (take (p.ordered + 1) new-order) in
        let most = length-take p.executed p.stack in
        record {
          committed = omega (arith, inv.counts);
          ordered = omega (arith, new.room);
          executed = omega (arith, inv.counts);
          stacked = inv.counts.stacked;
          done = omega (arith, inv.counts);
        }

    lengths-after : length awaiting ≡ most_panels → Lengths after
    lengths-after long = record {
      requests = stored_long stored inv.lengths.requests;
      order = ins.long;
      stack = inv.lengths.stack;
      saved = inv.lengths.saved;
      responses = inv.lengths.responses;
      held = ap (λ (s : Context). length s.words) joined ∙ join-length p.held x.number ∙ inv.lengths.held;
      awaiting = long;
      settled = inv.lengths.settled;
    }

    invariant-after : OwnSoFar p.own.0 (entered (plan_of p) x) (set_of awaiting) events clock → Sound (model after) → Inv after
    invariant-after so_far sound = record {
      counts = counts-after;
      lengths = lengths-after so_far.words;
      held = held_after;
      settled = settled-after;
      order_slots_is = order_slots_after;
      board_slots_is = inv.board_slots_is;
      log = subst (λ (l : List Request). Log l p.registers p.saved p.responses) (sym board-after) inv.log;
      events = rw plan_after so_far.event;
      clock = rw plan_after so_far.reading;
      awaiting_own = so_far.waits;
      sound = sound;
    }

    entered-after : Entered p x (set_of awaiting) events clock after
    unfolding model
    entered-after =
        let same : (n : ℕ) → n ≡ n + 0 = λ n. omega arith in
        record {
          replica = λ i. record {
            book = book-after i;
            awaiting = set_of awaiting;
            commits = same p.commits i;
            counters = record { undos = same p.counters.undos i; executions = same p.counters.executions i };
          };
          invariant = invariant-after;
        }

  -- ---- the same of the values that the code computes

  -- its place may be searched for
  pub place_asks : (s : ℕ) → s ≡ slot x → PlaceAsks p.clocks p.order p.committed p.ordered x.clock.0 s
  place_asks s is = rw is record { order = tentative_asks p inv; split = λ i j low up high. split_at i j low high up }

  module _ (s at : ℕ) (slot_of : s ≡ slot x)
      (place : at ≡ place_for p.clocks p.order p.committed p.ordered x.clock.0 s) where
    place_is : at ≡ place_of p x
    unfolding behind
    place_is = place ∙ ap (place_for p.clocks p.order p.committed p.ordered x.clock.0) slot_of

    pub insertion_asks : InsertionAsks p.order p.ordered at
    insertion_asks = record { place = omega (arith, place_is, place_most); room = new.room; long = inv.lengths.order }

    module _ (order : List ℕ) (inserted : Inserted p.order p.ordered at s order) where
      -- of the executed list stays what stands before it, since it is not executed
      kept_is : min p.executed at ≡ kept_start p order
      kept_is =
          let started : take p.executed p.stack ≡ take p.executed (order_slots p) =
          executed_follows p inv ∙ sym (take-take p.executed p.ordered p.order inv.counts.done) in
          let others = all_weaken (λ t other. ne_eqb t s (λ is. other (is ∙ slot_of))) (order_slots p) order_others in
          sym
          (ap (λ (l : List ℕ). common_start eqb l (take (p.ordered + 1) order)) started
          ∙ ap (common_start eqb (take p.executed (order_slots p))) inserted.first
          ∙ common_start_inserted eqb (λ t. eq-eqb t t refl) s p.executed at (order_slots p)
          (omega (arith, inv.counts, length_order_slots p inv)) (all_take _ p.executed (order_slots p) others))

      pub entered_by : {clocks askings contexts held known : List ℕ} {k : ℕ}
          → Stored p.clocks p.askings p.contexts s (request_of (number_of s) x.clock x.asked x.context.words)
          clocks askings contexts
          → set_of held ≡ join p.held (number_of s)
          → set_of known ≡ known_with p.known x.asked.strong (number_of s)
          → k ≡ min p.executed at
          → (awaiting : List ℕ) (events : ℕ) (clock : Clock)
          → Entered p x (set_of awaiting) events clock (enlarged p held known awaiting clocks askings contexts order k events clock)
      entered_by {clocks} {askings} {contexts} stored joined knows k-is awaiting events clock =
          let its-number : number_of s ≡ x.number = ap number_of slot_of ∙ number_of_slot x.number new.number in
          rw (k-is, kept_is)
          (entered-after clocks askings contexts
          (subst (λ (t : ℕ). Stored p.clocks p.askings p.contexts t x clocks askings contexts) slot_of
          (subst (λ (n : Number). Stored p.clocks p.askings p.contexts s (request_of n x.clock x.asked x.context.words)
          clocks askings contexts) its-number stored)) order
          (subst (λ (t : ℕ). Inserted p.order p.ordered (place_of p x) t order) slot_of
          (subst (λ (k : ℕ). Inserted p.order p.ordered k s order) place_is inserted)) _ _ awaiting (joined ∙ ap (join p.held) its-number)
          (knows ∙ ap (known_with p.known x.asked.strong) its-number) events clock)
