-- The memory that holds a replica: the map takes it back to that replica, and the invariant holds of it.
use Prim.Native.Nat.{ℕ, ◌-◌, ◌≤◌}
use native.Mathlib.Omega.{arith}
use mathlib.Core.Path.{◌≡◌, sym, ap, ◌∙◌}
use mathlib.Core.Bool.{true}
use mathlib.Core.List.{List, map, reverse, reverse-reverse}
use lib.ListN.{length, take, drop, replicate, length-append, length-map, length-replicate}
use lib.Dec.{eqb}
use lib.Seq.{take_at, take-take, take-append_seam, drop-append_seam}
use Rattle.lists.specs.Lists.{one, count}
use Rattle.lists.specs.Places.{All}
use Rattle.lists.proofs.ListLaws.{count_all, count-append}
use Rattle.lists.proofs.MapLaws.{map-take}
use Rattle.lists.proofs.AllLaws.{all_weaken, none_all}
use Rattle.numbers.specs.declared.Number.{Number}
use Rattle.request.specs.declared.Request.{Request}
use Rattle.sets.specs.Sets.{member}
use Rattle.ordering.specs.Slots.{most_slots}
use Rattle.slots.specs.Marks.{Marks}
use Rattle.ordering.proofs.SlotLaws.{in_words_member}
use Rattle.store.specs.Requests.{most_words}
use Rattle.creek.specs.Plan.{order, last_event, last_clock}
use Rattle.creek.specs.Execution.{Execution, operations}
use Rattle.creek.specs.internal.Stack.{stacked}
use Rattle.creek.specs.Calls.{Replica}
use Rattle.creek.specs.internal.Sound.{Sound}
use Rattle.creek.specs.internal.SoundAwaiting.{SoundAwaiting}
use Rattle.replica.specs.internal.Model.{order_slots, board_slots, order_of, board_of, plan_of, book_of, model, Inv}
use Rattle.existence.specs.Memory.{slot_in, slots_of, number_set, held_by, board_by, memory_of}
use Rattle.existence.specs.Existence.{RequestFits}
use Rattle.existence.proofs.SavedLaws.{board_log}
use Rattle.existence.proofs.TableLaws.{table-length}
use Rattle.existence.proofs.WidthLaws.{is_wide, fits}
use Rattle.existence.proofs.ReadBackLaws.{Among, all_read_back, all_slots, numbers-length, slots-counted}

-- what a memory can hold: a sound replica whose requests fit, where only own requests await a reply
pub record Storable (r : Replica) : Type 0 where
  pub sound : Sound r
  pub fit : count is_wide (held_by r) ≡ 0
  pub awaiting : SoundAwaiting r
  pub awaiting_own : (n : Number) → member r.awaiting n ≡ true → n.panel.0 ≡ r.book.plan.own

-- the slots of at most so many requests fill the table
slots_length : (l : List Request) → length l ≤ most_slots → length (slots_of l) ≡ most_slots
slots_length l few =
    length-append (map slot_in l) (replicate (most_slots - length l) 0)
    ∙ omega (arith, length-map l slot_in, length-replicate {A = ℕ} (most_slots - length l) 0)

slots_first : (l : List Request) → take (length l) (slots_of l) ≡ map slot_in l
slots_first l = take_at (map slot_in l) (replicate (most_slots - length l) 0) (length l) (length-map l slot_in)

module _ (r : Replica) (s : Storable r) where
  abbrev e : Execution
  e = r.book.execution

  on_board_is : Among s.sound.plan.held s.fit (board_by r)
  on_board_is = s.sound.board_held

  board-few : length (board_by r) ≤ length (held_by r)
  board-few = omega (arith, on_board_is (λ x. true), count_all (board_by r), count_all (held_by r))

  -- ---- the map

  order_slots_are : order_slots (memory_of r) ≡ map slot_in (held_by r)
  unfolding memory_of
  order_slots_are = slots_first (held_by r)

  board_slots_are : board_slots (memory_of r) ≡ map slot_in (board_by r)
  unfolding memory_of
  board_slots_are = slots_first (board_by r)

  order_is : order_of (memory_of r) ≡ held_by r
  unfolding memory_of
  order_is = ap (map _) order_slots_are ∙ all_read_back s.sound.plan.held s.fit (held_by r) (λ test. omega arith)

  board_is : board_of (memory_of r) ≡ board_by r
  unfolding memory_of
  board_is = ap (map _) board_slots_are ∙ all_read_back s.sound.plan.held s.fit (board_by r) on_board_is

  plan_is : plan_of (memory_of r) ≡ r.book.plan
  unfolding plan_of memory_of
  plan_is =
      let committed = ap (take (length r.book.plan.committed)) order_is
      ∙ take-append_seam r.book.plan.committed r.book.plan.tentative in
      let tentative = ap (drop (length r.book.plan.committed)) order_is
      ∙ drop-append_seam r.book.plan.committed r.book.plan.tentative in
      λ i. record {
        panels = r.book.plan.panels;
        own = r.book.plan.own;
        known = r.book.plan.known;
        committed = committed i;
        tentative = tentative i;
      }

  execution_is : stacked (board_by r) (length r.book.execution.executed) (held_by r) ≡ r.book.execution
  execution_is =
      let executed = take-append_seam e.executed (reverse e.rollback) in
      let rollback = ap reverse (drop-append_seam e.executed (reverse e.rollback)) ∙ reverse-reverse e.rollback in
      let todo = ap (drop (length e.executed)) (sym s.sound.follows) ∙ drop-append_seam e.executed e.todo in
      λ i. record { executed = executed i; rollback = rollback i; todo = todo i }

  book_is : book_of (memory_of r) ≡ r.book
  unfolding book_of memory_of
  book_is =
      let execution = (λ i. stacked (board_is i) (length e.executed) (order_is i)) ∙ execution_is in
      λ i. record { plan = plan_is i; execution = execution i }

  pub memory-model : model (memory_of r) ≡ r
  unfolding model memory_of
  memory-model = λ i. record { book = book_is i; awaiting = r.awaiting; commits = r.commits; counters = r.counters }

  -- ---- the invariant

  committed-held : Among s.sound.plan.held s.fit r.book.plan.committed
  committed-held test = omega (arith, count-append test r.book.plan.committed r.book.plan.tentative)

  committed_slots_are : take (length r.book.plan.committed) (slots_of (held_by r)) ≡ map slot_in r.book.plan.committed
  committed_slots_are =
      let committed = r.book.plan.committed in
      let tentative = r.book.plan.tentative in
      sym (take-take (length committed) (length (held_by r)) (slots_of (held_by r)) (omega (arith, length-append committed tentative)))
      ∙ ap (take (length committed)) (slots_first (held_by r))
      ∙ sym (map-take slot_in (length committed) (held_by r))
      ∙ ap (map slot_in) (take-append_seam committed tentative)

  settled_marks : Marks (slots_of (held_by r)) (length r.book.plan.committed) (number_set r.book.plan.committed).words
  settled_marks = record {
    marked = λ slot is.
        ap (count (eqb slot)) committed_slots_are
        ∙ slots-counted s.sound.plan.held s.fit r.book.plan.committed committed-held slot is
        ∙ ap one (sym (in_words_member (number_set r.book.plan.committed) slot is));
  }

  board_fits : All RequestFits (board_by r)
  board_fits = all_weaken fits (board_by r) (none_all is_wide (board_by r) (omega (arith, on_board_is is_wide, s.fit)))

  pub memory_inv : Inv (memory_of r)
  unfolding memory_of
  memory_inv = record {
    counts = record {
      committed = omega (arith, length-append r.book.plan.committed r.book.plan.tentative);
      ordered = s.sound.few;
      executed = omega (arith, length-append e.executed (reverse e.rollback));
      stacked = omega (arith, board-few, s.sound.few);
      done = omega (arith, board-few, length-append e.executed (reverse e.rollback));
    };
    lengths = record {
      requests = record {
        clocks = table-length most_slots _;
        askings = table-length most_slots _;
        contexts = table-length most_words _;
      };
      order = slots_length (held_by r) s.sound.few;
      stack = slots_length (board_by r) (omega (arith, board-few, s.sound.few));
      saved = table-length most_slots _;
      responses = table-length most_slots _;
      held = numbers-length s.sound.plan.held s.fit (held_by r);
      awaiting = s.awaiting.words;
      settled = numbers-length s.sound.plan.held s.fit r.book.plan.committed;
    };
    held = λ slot is. ap (count _) order_slots_are ∙ slots-counted s.sound.plan.held s.fit (held_by r) (λ test. omega arith) slot is;
    settled = settled_marks;
    order_slots_is = rw order_slots_are (all_slots s.sound.plan.held s.fit (held_by r) (λ test. omega arith));
    board_slots_is = rw board_slots_are (all_slots s.sound.plan.held s.fit (board_by r) on_board_is);
    log = rw board_is (board_log (board_by r) (omega (arith, board-few, s.sound.few)) board_fits);
    events = ap last_event (sym plan_is);
    clock = ap last_clock (sym plan_is);
    awaiting_own = s.awaiting_own;
    sound = rw memory-model s.sound;
  }
