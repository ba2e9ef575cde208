-- The sum of the registers (`specs/Moves`): what writing a register does to it, that a good move leaves it as it is, and the theorem
-- `sum_never_changes` over lists of good moves.
use Prim.Native.Nat.{ℕ, zero, suc, ◌+◌, ◌-◌, ◌<◌}
use native.Mathlib.Omega.{arith}
use mathlib.Core.Path.{◌≡◌, refl, sym, ap, ◌∙◌}
use mathlib.Core.Bool.{true, ◌||◌, or-false}
use mathlib.Core.Logic.{◌≢◌}
use mathlib.Core.List.{List, [], ◌∷◌}
use lib.ListN.{length, get_or, set, length-set, take}
use lib.Seq.{get_or-set_other}
use lib.Dec.{eqb}
use borrow.Author.Tests.{eqb-true, eqb-false, not-true}
use Rattle.lists.proofs.BoolLaws.{both_true, neither_true}
use Rattle.lists.proofs.AllLaws.{all_take}
use Rattle.request.specs.declared.Operation.{Operation}
use Rattle.request.specs.Operations.{code_move, last_register, bad_operation}
use Rattle.effects.specs.Effect.{off_board, amount_moved, moved, exec}
use Rattle.effects.specs.internal.OnBoard.{MoveOnBoard}
use Rattle.effects.specs.Replay.{replay_on}
use Rattle.effects.specs.Moves.{good_move, GoodMoves, sum, SumNeverChanges}
use Rattle.effects.proofs.AmountLaws.{least_of_three}
use Rattle.effects.proofs.RegisterLaws.{on_board_is, executed-move, exec-length}

-- ---- one register written

-- the new value comes into the sum, and the old one goes
sum-set : (b : List ℕ) (i v : ℕ) → i < length b → sum (set b i v) + get_or b i 0 ≡ sum b + v
sum-set [] i v h = absurd (omega arith)
sum-set (x ∷ xs) zero v h = omega arith
sum-set (x ∷ xs) (suc i) v h = omega (arith, sum-set xs i v (omega arith))

-- ---- one move

-- what leaves r comes to q, where these are two registers
sum_moved : (o : Operation) (b : List ℕ) → o.r < length b → o.q < length b → o.r ≢ o.q → sum (moved o b) ≡ sum b
unfolding moved
sum_moved o b r-in q-in apart =
    let left = get_or b o.r 0 - amount_moved o b in
    let less = set b o.r left in
    omega (
      arith,
      sum-set b o.r left r-in,
      sum-set less o.q (get_or b o.q 0 + amount_moved o b) (simp length-set q-in),
      get_or-set_other b o.r o.q left 0 (λ e. apart (sym e)),
      (least_of_three o b).at_most_held,
    )

-- what makes a move bad
bad-move : (o : Operation) → o.code ≡ code_move → bad_operation o ≡ off_board o || eqb o.r o.q
unfolding bad_operation off_board
bad-move o e = rw e (simp or-false)

-- what is known of a good move
record GoodMove (o : Operation) : Type 0 where
  move : MoveOnBoard o
  apart : o.r ≢ o.q

good-move : (o : Operation) → good_move o ≡ true → GoodMove o
unfolding good_move
good-move o e =
    let parts = both_true (eqb o.code code_move) _ e in
    let code = eqb-true _ _ parts.0 in
    let good = neither_true (off_board o) _ (sym (bad-move o code) ∙ not-true _ parts.1) in
    record { move = record { on = good.0; code = code }; apart = eqb-false _ _ good.1 }

pub sum-exec : (o : Operation) (b : List ℕ) → good_move o ≡ true → length b ≡ suc last_register → sum (exec o b) ≡ sum b
sum-exec o b e long =
    let good = good-move o e in
    let inside = on_board_is o good.move.on in
    sym (ap sum (executed-move o b good.move.on good.move.code).effect)
    ∙ sum_moved o b (omega (arith, inside.r)) (omega (arith, inside.q)) good.apart

-- ---- a list of moves

sum-replay : (b : List ℕ) (moves : List Operation) → length b ≡ suc last_register → GoodMoves moves → sum (replay_on b moves) ≡ sum b
unfolding replay_on
sum-replay b [] long good-moves = refl
sum-replay b (o ∷ os) long good-moves =
    sum-replay (exec o b) os (exec-length o b ∙ long) good-moves.1 ∙ sum-exec o b good-moves.0 long

pub sum_never_changes : (b : List ℕ) (moves : List Operation) → SumNeverChanges b moves
sum_never_changes b moves = record {
  after_all_is = sum-replay b moves;
  after_each = λ long good-moves k. sum-replay b (take k moves) long (all_take (λ o. good_move o ≡ true) k moves good-moves);
}
