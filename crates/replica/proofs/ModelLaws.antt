-- How the map looks at a state: the lengths of the standing order and of the board; the clock order of the tentative requests; the last
-- request on the board and the next one to execute; what is to be rolled back and to be executed.
use Prim.Native.Nat.{ℕ, suc, ◌+◌, ◌-◌, ◌≤◌, ◌<◌}
use native.Mathlib.Omega.{arith}
use mathlib.Core.Path.{◌≡◌, refl, sym, ap, ◌∙◌}
use mathlib.Core.Bool.{true}
use mathlib.Core.List.{List, [], ◌∷◌, ◌++◌, map, map-append, reverse, reverse-append}
use lib.ListN.{length, take, drop, get_or, length-map, length-drop, length-reverse, take-append-drop, get_or-map}
use lib.Seq.{take-suc, drop-cons, drop-append-le, drop-length, length-take-le, take-take, take_at, get_or-take, get_or-drop}
use Rattle.lists.proofs.AllLaws.{all_at, all_take}
use Rattle.lists.proofs.MapLaws.{map-take, map-drop}
use Rattle.lists.proofs.OrderedLaws.{ordered_at}
use Rattle.lists.specs.Lists.{count}
use Rattle.lists.specs.Places.{All}
use Rattle.numbers.specs.declared.Number.{Number}
use Rattle.request.specs.declared.Request.{Request}
use Rattle.request.specs.Order.{before}
use Rattle.numbers.specs.internal.Slots.{slot_of}
use Rattle.numbers.proofs.NumberLaws.{slot_of_number}
use Rattle.ordering.specs.Slots.{IsSlot}
use Rattle.creek.specs.Plan.{order, has_number}
use Rattle.effects.specs.Replay.{replay}
use Rattle.creek.specs.Execution.{operations, registers}
use Rattle.creek.specs.internal.Sound.{SoundPlan}
use Rattle.creek.proofs.StackLaws.{stacked-board}
use Rattle.replica.specs.State.{State}
use Rattle.store.specs.Requests.{request_at}
use Rattle.replica.specs.internal.Model.{requests_at, order_slots, board_slots, order_of, board_of, plan_of, book_of, model, Inv}

-- ---- of every state

-- the request at a slot of that state
abbrev pub request_of : State → ℕ → Request
request_of q slot = request_at q.clocks q.askings q.contexts slot

-- the slot on top of the board
abbrev pub top_slot : State → ℕ
top_slot q = get_or q.stack (q.stacked - 1) 0

-- the slot of the next request to execute
abbrev pub next_slot : State → ℕ
next_slot q = get_or q.order q.executed 0

-- the requests at the first n of those slots, and one more
pub requests_more : (q : State) (slots : List ℕ) (n : ℕ) → n < length slots
    → requests_at q (take (suc n) slots) ≡ requests_at q (take n slots) ++ request_of q (get_or slots n 0) ∷ []
requests_more q slots n h =
    ap (requests_at q) (take-suc slots n 0 h)
    ∙ map-append (request_of q) (take n slots) (get_or slots n 0 ∷ [])

-- the slot of a request
abbrev slot_in : Request → ℕ
slot_in x = slot_of x.number

-- slots are read back from the requests there
slots_back : (q : State) (slots : List ℕ) → All IsSlot slots → map slot_in (requests_at q slots) ≡ slots
unfolding request_at
slots_back q [] h = refl
slots_back q (t ∷ ts) h = λ i. slot_of_number t h.0 i ∷ slots_back q ts h.1 i

-- the standing order of the plan is that of the state
pub order-planned : (q : State) → order (plan_of q) ≡ order_of q
unfolding plan_of
order-planned q = take-append-drop q.committed (order_of q)

-- ---- of one that keeps the invariant

module _ (q : State) (inv : Inv q) where
  pub plan_sound : SoundPlan (plan_of q)
  unfolding model book_of
  plan_sound = inv.sound.plan

  pub length_order_slots : length (order_slots q) ≡ q.ordered
  length_order_slots = length-take-le q.ordered q.order (omega (arith, inv.counts, inv.lengths))

  length_board_slots : length (board_slots q) ≡ q.stacked
  length_board_slots = length-take-le q.stacked q.stack (omega (arith, inv.counts, inv.lengths))

  pub length-order : length (order_of q) ≡ q.ordered
  length-order = length-map (order_slots q) (request_of q) ∙ length_order_slots

  pub length-board : length (board_of q) ≡ q.stacked
  length-board = length-map (board_slots q) (request_of q) ∙ length_board_slots

  -- the request at a tentative place
  tentative_at : (k : ℕ) → q.committed ≤ k → k < q.ordered
      → get_or (drop q.committed (order_of q)) (k - q.committed) (request_of q 0) ≡ request_of q (get_or q.order k 0)
  tentative_at k low high =
      let place : q.committed + (k - q.committed) ≡ k = omega arith in
      get_or-drop q.committed (order_of q) (k - q.committed) (request_of q 0)
      ∙ ap (λ (n : ℕ). get_or (order_of q) n (request_of q 0)) place
      ∙ get_or-map (request_of q) (order_slots q) k 0
      ∙ ap (request_of q) (get_or-take q.ordered q.order k 0 high)

  -- the tentative requests stand in clock order
  pub tentative_ordered : (i j : ℕ) → q.committed ≤ i → i < j → j < q.ordered
      → before (request_of q (get_or q.order i 0)) (request_of q (get_or q.order j 0)) ≡ true
  unfolding plan_of
  tentative_ordered i j low up high =
      rw (tentative_at i low (omega arith), tentative_at j (omega arith) high) at
      (ordered_at before (drop q.committed (order_of q)) plan_sound.clock_order (i - q.committed) (j - q.committed) (request_of q 0)
      (omega arith) (omega (arith, length-order, length-drop q.committed (order_of q))))

  -- the executed list is a start of the standing order
  pub executed_start : take q.executed (board_of q) ≡ take q.executed (order_of q)
  unfolding model book_of
  executed_start =
      let e = q.executed in
      sym (take_at (take e (board_of q)) (drop e (order_of q)) e (length-take-le e (board_of q) (omega (arith, inv.counts, length-board))))
      ∙ ap (take e) (inv.sound.follows ∙ order-planned q)

  -- and so are its slots
  pub executed_follows : take q.executed q.stack ≡ take q.executed q.order
  executed_follows =
      let e = q.executed in
      let board : take e (board_of q) ≡ requests_at q (take e q.stack) =
      sym (map-take (request_of q) e (board_slots q)) ∙ ap (requests_at q) (take-take e q.stacked q.stack inv.counts.executed) in
      let order : take e (order_of q) ≡ requests_at q (take e q.order) =
      sym (map-take (request_of q) e (order_slots q)) ∙ ap (requests_at q) (take-take e q.ordered q.order inv.counts.done) in
      let stack-slots = rw (take-take e q.stacked q.stack inv.counts.executed) at (all_take IsSlot e (board_slots q) inv.board_slots_is) in
      let order_slots_is = rw (take-take e q.ordered q.order inv.counts.done) at (all_take IsSlot e (order_slots q) inv.order_slots_is) in
      sym (slots_back q (take e q.stack) stack-slots)
      ∙ ap (map slot_in) (sym board ∙ executed_start ∙ order)
      ∙ slots_back q (take e q.order) order_slots_is

  pub order_is : order (book_of q).plan ≡ order_of q
  unfolding book_of
  order_is = order-planned q

  -- the numbers in the standing order are distinct
  pub order_distinct : (n : Number) → count (has_number n) (order_of q) ≤ 1
  order_distinct n = rw (ap (count (has_number n)) (order-planned q)) at (plan_sound.held.distinct n)

  -- the registers are those of the execution
  pub registers_are : registers (book_of q).execution ≡ q.registers
  unfolding registers book_of
  registers_are = ap (λ (l : List Request). replay (operations l)) (stacked-board (board_of q) q.executed (order_of q)) ∙ sym inv.log.replayed

  -- ---- steps due

  pub rollback-length : length (book_of q).execution.rollback ≡ q.stacked - q.executed
  unfolding book_of
  rollback-length = length-reverse (drop q.executed (board_of q)) ∙ simp length-drop (omega (arith, length-board))

  pub todo-length : length (book_of q).execution.todo ≡ q.ordered - q.executed
  unfolding book_of
  todo-length = simp length-drop (omega (arith, length-order))

  -- ---- the last request on the board

  module _ (due : q.executed < q.stacked) where
    pub top_slot_lem : IsSlot (top_slot q)
    top_slot_lem =
        rw (get_or-take q.stacked q.stack (q.stacked - 1) 0 (omega arith)) at
        (all_at IsSlot (board_slots q) (q.stacked - 1) 0 inv.board_slots_is (omega (arith, length_board_slots)))

    -- what is on the board beneath the last
    abbrev pub beneath : List Request
    beneath = requests_at q (take (q.stacked - 1) q.stack)

    pub board_last : board_of q ≡ beneath ++ request_of q (top_slot q) ∷ []
    board_last =
        let n : q.stacked ≡ suc (q.stacked - 1) = omega arith in
        ap (λ (k : ℕ). requests_at q (take k q.stack)) n
        ∙ requests_more q q.stack (q.stacked - 1) (omega (arith, inv.counts, inv.lengths))

    pub beneath-length : length beneath ≡ q.stacked - 1
    beneath-length =
        length-map (take (q.stacked - 1) q.stack) (request_of q)
        ∙ length-take-le (q.stacked - 1) q.stack (omega (arith, inv.counts, inv.lengths))

    pub rollback_first : (book_of q).execution.rollback ≡ request_of q (top_slot q) ∷ reverse (drop q.executed beneath)
    unfolding book_of
    rollback_first =
        ap (λ (l : List Request). reverse (drop q.executed l)) board_last
        ∙ ap reverse (drop-append-le q.executed beneath (request_of q (top_slot q) ∷ []) (omega (arith, beneath-length)))
        ∙ reverse-append (drop q.executed beneath) (request_of q (top_slot q) ∷ [])

  pub rollback_none : q.stacked ≡ q.executed → (book_of q).execution.rollback ≡ []
  unfolding book_of
  rollback_none e =
      ap (λ (k : ℕ). reverse (drop k (board_of q))) (sym (length-board ∙ e)) ∙ ap reverse (drop-length (board_of q))

  -- ---- the next request to execute

  pub order_slot : (k : ℕ) → k < q.ordered → IsSlot (get_or q.order k 0)
  order_slot k h =
      rw (get_or-take q.ordered q.order k 0 h) at
      (all_at IsSlot (order_slots q) k 0 inv.order_slots_is (omega (arith, length_order_slots)))

  module _ (more : q.executed < q.ordered) where
    pub next_slot_lem : IsSlot (next_slot q)
    next_slot_lem = order_slot q.executed more

    pub todo_first : (book_of q).execution.todo ≡ request_of q (next_slot q) ∷ drop (suc q.executed) (order_of q)
    unfolding book_of
    todo_first =
        sym (map-drop (request_of q) q.executed (order_slots q))
        ∙ ap (requests_at q) (drop-cons (order_slots q) q.executed 0 (omega (arith, length_order_slots)))
        ∙ rw (get_or-take q.ordered q.order q.executed 0 more, map-drop (request_of q) (suc q.executed) (order_slots q))

    -- it stands at its place of the standing order
    pub order-next : get_or (order_of q) q.executed (request_of q 0) ≡ request_of q (next_slot q)
    order-next =
        get_or-map (request_of q) (order_slots q) q.executed 0
        ∙ ap (request_of q) (get_or-take q.ordered q.order q.executed 0 more)

  pub todo_none : q.executed ≡ q.ordered → (book_of q).execution.todo ≡ []
  unfolding book_of
  todo_none e = ap (λ (k : ℕ). drop k (order_of q)) (e ∙ sym length-order) ∙ drop-length (order_of q)
