-- Requests that fit keep the registers in range, so that what is saved before each of them is read back from its word.
use Prim.Native.Nat.{ℕ, zero, suc, ◌/◌, ◌%◌, ◌≤◌, ◌<◌}
use native.Mathlib.Omega.{arith}
use mathlib.Core.Path.{◌≡◌, refl, ap, ◌∙◌}
use mathlib.Core.List.{List, [], ◌∷◌}
use lib.ListN.{length, take, replicate}
use Rattle.lists.specs.Places.{All}
use Rattle.lists.proofs.BoolLaws.{either}
use Rattle.lists.proofs.AllLaws.{all_take}
use Rattle.request.specs.declared.Operation.{Operation}
use Rattle.request.specs.declared.Request.{Request}
use Rattle.request.specs.Operations.{last_register}
use Rattle.request.specs.Asked.{operation_of}
use Rattle.effects.proofs.RegisterLaws.{exec_in_range}
use Rattle.registers.specs.declared.Saved.{Saved}
use Rattle.effects.specs.Effect.{range, off_board, exec}
use Rattle.registers.specs.Rollback.{saved_of, saved_word, saved_in}
use Rattle.effects.specs.Replay.{zero_board, replay_on, replay}
use Rattle.effects.proofs.FrameLaws.{InRange}
use Rattle.ordering.specs.Slots.{most_slots}
use Rattle.creek.specs.Execution.{operations}
use Rattle.replica.specs.internal.Model.{operation_at, registers_before, Log}
use Rattle.existence.specs.Memory.{saved_on, responses_on}
use Rattle.existence.specs.Existence.{RequestFits}
use Rattle.existence.proofs.TableLaws.{table_at}

-- ---- registers in range

zeros_in_range : (n : ℕ) → InRange (replicate n 0)
zeros_in_range zero k = omega arith
zeros_in_range (suc n) zero = omega arith
zeros_in_range (suc n) (suc k) = zeros_in_range n k

replayed_in_range : (b : List ℕ) (l : List Request) → InRange b → All RequestFits l → InRange (replay_on b (operations l))
unfolding replay_on
replayed_in_range b [] small fit = small
replayed_in_range b (x ∷ xs) small fit =
    replayed_in_range (exec (operation_of x.asked) b) xs (exec_in_range (operation_of x.asked) b fit.0.amount small) fit.1

replay_in_range : (l : List Request) → All RequestFits l → InRange (replay (operations l))
unfolding replay
replay_in_range l fit = replayed_in_range zero_board l (zeros_in_range (suc last_register)) fit

-- ---- what is saved

saved_read : (s : Saved) → s.r < range → saved_in (saved_word s) ≡ s
unfolding saved_in saved_word
saved_read s small =
    let low : saved_word s % range ≡ s.r = omega arith in
    let high : saved_word s / range ≡ s.q = omega arith in
    λ i. record { r = low i; q = high i }

saved_small : (o : Operation) (b : List ℕ) → InRange b → (saved_of o b).r < range
unfolding saved_of
saved_small o b small = either (λ (s : Saved). s.r < range) (off_board o) (λ off. omega arith) (λ on. small o.r)

-- the words and responses written by place on a board are its log
pub board_log : (l : List Request) → length l ≤ most_slots → All RequestFits l
    → Log l (replay (operations l)) (saved_on l) (responses_on l)
board_log l few fit = record {
  replayed = refl;
  restores = λ k h.
      ap saved_in (table_at most_slots _ k (omega arith))
      ∙ saved_read (saved_of (operation_at l k) (registers_before l k))
      (saved_small (operation_at l k) (registers_before l k) (replay_in_range (take k l) (all_take RequestFits k l fit)));
  replies = λ k h. table_at most_slots _ k (omega arith);
}
