-- The memory that holds the replica of a shift's first moment is the one that fresh leaves: the shop's numbers, and zeros.
use Prim.Native.Nat.{ℕ, zero, suc, ◌%◌}
use mathlib.Core.Path.{◌≡◌, refl, ap}
use mathlib.Core.Bool.{Bool, true, false, cond}
use mathlib.Core.List.{List, []}
use lib.ListN.{get_or, replicate, take}
use Rattle.numbers.specs.Numbers.{panel_no, clock_reading, most_panels}
use Rattle.request.specs.declared.Request.{Request}
use Rattle.request.specs.Operations.{no_operation}
use Rattle.request.specs.Request.{no_request}
use Rattle.sets.specs.Sets.{empty_set}
use Rattle.effects.specs.Effect.{off_board, exec, response}
use Rattle.effects.specs.Replay.{zero_board, replay_on, replay}
use Rattle.registers.specs.Rollback.{saved_of, saved_word}
use Rattle.ordering.specs.Slots.{most_slots}
use Rattle.store.specs.Requests.{word_of, most_words}
use Rattle.creek.specs.Plan.{last_event, last_clock}
use Rattle.creek.specs.Execution.{operations}
use Rattle.creek.specs.Book.{empty_book}
use Rattle.creek.specs.Calls.{bad_shop, replica_of, fresh}
use Rattle.replica.specs.State.{first_memory}
use Rattle.replica.specs.Promises.{fresh_memory}
use Rattle.replica.specs.internal.Model.{operation_at, registers_before}
use Rattle.existence.specs.Memory.{at_slot, number_set, memory_of}
use Rattle.existence.proofs.TableLaws.{table_zeros}

-- ---- zeros of an empty list of requests

zeros_at : (n k : ℕ) → ◌≡◌ {A = ℕ} (get_or (replicate n 0) k 0) 0
zeros_at zero k = refl
zeros_at (suc n) zero = refl
zeros_at (suc n) (suc k) = zeros_at n k

word_of_none : word_of no_request.asked ≡ 0
unfolding word_of
word_of_none = refl

none_taken : (k : ℕ) → ◌≡◌ {A = List Request} (take k []) []
none_taken zero = refl
none_taken (suc k) = refl

none_before : (k : ℕ) → registers_before [] k ≡ zero_board
unfolding replay_on replay
none_before k = ap (λ (l : List Request). replay (operations l)) (none_taken k)

none_saved : (k : ℕ) → saved_word (saved_of (operation_at [] k) (registers_before [] k)) ≡ 0
unfolding saved_of saved_word off_board
none_saved k = ap (λ (b : List ℕ). saved_word (saved_of no_operation b)) (none_before k)

none_responded : (k : ℕ) → response (operation_at [] k) (registers_before [] k) ≡ 0
unfolding response off_board
none_responded k = ap (response no_operation) (none_before k)

-- ---- the memory

-- the memory that holds the replica of a shift's first moment is zeros
first-memory : (panels own : ℕ) → memory_of (replica_of (empty_book panels own)) ≡ first_memory panels (panel_no own)
unfolding memory_of number_set last_event last_clock replay_on replay
first-memory panels own =
    let clocks = table_zeros most_slots (λ slot. (at_slot [] slot).clock.0) (λ k. refl) in
    let asked = table_zeros most_slots (λ slot. word_of (at_slot [] slot).asked) (λ k. word_of_none) in
    let contexts = table_zeros most_words (λ k. get_or no_request.context.words (k % most_panels) 0) (λ k. zeros_at most_panels (k % most_panels)) in
    let saved = table_zeros most_slots (λ k. saved_word (saved_of (operation_at [] k) (registers_before [] k))) none_saved in
    let responses = table_zeros most_slots (λ k. response (operation_at [] k) (registers_before [] k)) none_responded in
    λ i. record {
      panels = panels;
      own = panel_no own;
      events = 0;
      clock = clock_reading 0;
      committed = 0;
      ordered = 0;
      executed = 0;
      stacked = 0;
      commits = 0;
      counters = record { undos = 0; executions = 0 };
      held = empty_set;
      known = empty_set;
      awaiting = empty_set;
      clocks = clocks i;
      askings = asked i;
      contexts = contexts i;
      order = replicate most_slots 0;
      stack = replicate most_slots 0;
      registers = zero_board;
      saved = saved i;
      responses = responses i;
      settled = empty_set;
    }

pub fresh-memory : (panels own : ℕ) → memory_of (fresh panels own) ≡ fresh_memory panels own
unfolding fresh
fresh-memory panels own = go (bad_shop panels own)
  where
    go : (bad : Bool) → memory_of (cond bad (replica_of (empty_book 1 0)) (replica_of (empty_book panels own)))
        ≡ cond bad (first_memory 1 (panel_no 0)) (first_memory panels (panel_no own))
    go true = first-memory 1 0
    go false = first-memory panels own
