-- Neither step counter of a panel passes the most steps, so that 32 bits hold it.
use Prim.Native.Nat.{ℕ, ◌+◌, ◌≤◌, ◌%◌, ◌^◌}
use native.Mathlib.Omega.{arith}
use mathlib.Core.Path.{◌≡◌, ap, ◌∙◌}
use lib.ListN.{length}
use Rattle.counters.specs.declared.Counters.{Counters}
use Rattle.counters.specs.Counted.{most_steps, undos_counted, undos_held, executions_counted, executions_held}
use Rattle.creek.proofs.BoundLaws.{few_undos}
use Rattle.creek.proofs.StackLaws.{stacked-board}
use Rattle.replica.specs.State.{State}
use Rattle.replica.specs.internal.Model.{order_of, board_of, book_of, model, Inv}
use Rattle.replica.proofs.ModelLaws.{length-board}

module _ (q : State) (inv : Inv q) where
  pub undos_fit : q.counters.undos ≤ most_steps
  unfolding model
  undos_fit = omega (arith, few_undos (model q) inv.sound)

  pub executions_fit : q.counters.executions ≤ most_steps
  unfolding model book_of
  executions_fit =
      omega (
        arith,
        few_undos (model q) inv.sound,
        inv.sound.on_board_is,
        ap length (stacked-board (board_of q) q.executed (order_of q)) ∙ length-board q inv,
        inv.counts,
      )

-- ---- steps counted in 32 bits, where the count stays within the most steps

module _ (c : Counters) (n : ℕ) where
  pub undos_held_are : (undos_counted c n).undos ≤ most_steps → undos_counted c n ≡ undos_held c n
  undos_held_are few =
      let same : c.undos + n ≡ (c.undos + n) % 2 ^ 32 = omega (arith, few) in
      λ i. record { undos = same i; executions = c.executions }

  pub executions_held_are : (executions_counted c n).executions ≤ most_steps → executions_counted c n ≡ executions_held c n
  executions_held_are few =
      let same : c.executions + n ≡ (c.executions + n) % 2 ^ 32 = omega (arith, few) in
      λ i. record { undos = c.undos; executions = same i }
