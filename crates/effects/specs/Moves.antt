-- Moves (document 02, request (i)): what is claimed of the amount moved; what a good move is, the sum of the registers, and what is claimed
-- of it. The claims are proved in `proofs/AmountLaws` and `proofs/SumLaws`; what a move does is in `Effect`.
use Rattle.std.specs.Prelude.{ℕ, suc, ◌+◌, ◌-◌, ◌≤◌, ◌<◌, ◌≡◌, Bool, true, not, ◌&&◌, List, [], ◌∷◌, ◌⊎◌, length, get_or, take, eqb}
use Rattle.lists.specs.Places.{All}
use Rattle.request.specs.declared.Operation.{Operation}
use Rattle.request.specs.Operations.{code_move, last_register, bad_operation}
use Rattle.effects.specs.Effect.{range, amount_moved}
use Rattle.effects.specs.Replay.{replay_on}

-- ---- the amount moved

-- of the amount that o moves on the registers b
pub record LeastOfThree (o : Operation) (b : List ℕ) : Type 0 where
  pub at_most_asked : amount_moved o b ≤ o.amount
  pub at_most_held : amount_moved o b ≤ get_or b o.r 0
  -- q stays in range
  pub fits : get_or b o.q 0 < range → get_or b o.q 0 + amount_moved o b < range
  -- it is the amount asked for, what r holds, or the room left in q
  pub one_of_three : (amount_moved o b ≡ o.amount) ⊎ ((amount_moved o b ≡ get_or b o.r 0)
      ⊎ (amount_moved o b ≡ range - 1 - get_or b o.q 0))

-- ---- the sum

-- a good move: code 5 and not a bad operation
unfoldable pub good_move : Operation → Bool
good_move o = eqb o.code code_move && not (bad_operation o)

-- good moves alone
abbrev pub GoodMoves : List Operation → Type 0
GoodMoves os = All (λ o. good_move o ≡ true) os

-- the sum of the registers, modulo nothing
abbrev pub sum : List ℕ → ℕ
sum [] = 0
sum (v ∷ b) = v + sum b

-- over good moves alone, in turn on any 64 registers b, the sum of all registers never changes
pub record SumNeverChanges (b : List ℕ) (moves : List Operation) : Type 0 where
  pub after_all_is : length b ≡ suc last_register → GoodMoves moves → sum (replay_on b moves) ≡ sum b
  -- after the first k of them, for every k
  pub after_each : length b ≡ suc last_register → GoodMoves moves → (k : ℕ) → sum (replay_on b (take k moves)) ≡ sum b
