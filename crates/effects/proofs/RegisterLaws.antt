-- Laws of one operation on the registers, in this order: the registers that one on the board names; that adding rolls over; the outcomes of
-- an operation, one law each; and what every operation keeps. That rolling back restores the registers from before is in `registers`.
-- How an operation keeps what it keeps is in `FrameLaws`, laws of many operations in turn are in `ReplayLaws`, of moves alone in
-- `AmountLaws` and `SumLaws`, of claims of registers together in `SpanLaws` and `ClaimLaws`.
use Prim.Native.Nat.{ℕ, ◌+◌, ◌≤◌, ◌<◌}
use native.Mathlib.Omega.{arith}
use mathlib.Core.Path.{◌≡◌}
use mathlib.Core.Logic.{◌≢◌}
use mathlib.Core.Bool.{true, false}
use mathlib.Core.List.{List}
use lib.ListN.{length, get_or, set}
use lib.Seq.{set-get_or}
use borrow.Author.Tests.{ltb-false, ne_eqb}
use Rattle.request.specs.declared.Operation.{Operation}
use Rattle.request.specs.Operations.{code_read, code_set, code_add, code_claim, code_move, code_claim_all, last_register}
use Rattle.lists.proofs.BoolLaws.{neither_true}
use Rattle.effects.specs.Effect.{range, off_board, added, claimed, amount_moved, moved, lowest_held, all_set, all_claimed}
use Rattle.effects.specs.Effect.{all_claimed_response, exec, response, Executed}
use Rattle.effects.specs.Touched.{Untouched}
use Rattle.effects.proofs.FrameLaws.{InRange, exec_keeps}

-- ---- on the board

pub record OnBoard (o : Operation) : Type 0 where
  pub r : o.r ≤ last_register
  pub q : o.q ≤ last_register

pub on_board_is : (o : Operation) → off_board o ≡ false → OnBoard o
unfolding off_board
on_board_is o e =
    let apart = neither_true _ _ e in
    record { r = ltb-false _ _ apart.0; q = ltb-false _ _ apart.1 }

-- ---- adding

-- a sum that is k past the greatest value and one rolls over to k
pub added_rolls_over : (o : Operation) (b : List ℕ) (k : ℕ) → k < range → get_or b o.r 0 + o.amount ≡ range + k → added o b ≡ k
unfolding added
added_rolls_over o b k small e = omega (arith, small, e)

-- ---- outcomes

module _ (o : Operation) (b : List ℕ) where
  pub executed_off : off_board o ≡ true → Executed o b b 0
  unfolding exec response
  executed_off off = record { effect = simp off; response = simp off }

  module _ (on : off_board o ≡ false) where
    pub executed-read : o.code ≡ code_read → Executed o b b (get_or b o.r 0)
    unfolding exec response
    executed-read e = record { effect = simp (on, e); response = simp (on, e) }

    pub executed-set : o.code ≡ code_set → Executed o b (set b o.r o.amount) (get_or b o.r 0)
    unfolding exec response
    executed-set e = record { effect = simp (on, e); response = simp (on, e) }

    pub executed-add : o.code ≡ code_add → Executed o b (set b o.r (added o b)) (added o b)
    unfolding exec response
    executed-add e = record { effect = simp (on, e); response = simp (on, e) }

    pub executed-claim : o.code ≡ code_claim → get_or b o.r 0 ≡ 0 → Executed o b (set b o.r o.amount) o.amount
    unfolding exec response claimed
    executed-claim e z = record { effect = simp (on, e, z); response = simp (on, e, z) }

    pub executed_no_claim : o.code ≡ code_claim → get_or b o.r 0 ≢ 0 → Executed o b b (get_or b o.r 0)
    unfolding exec response claimed
    executed_no_claim e n =
        let taken = ne_eqb _ _ n in
        record { effect = simp (on, e, taken, set-get_or); response = simp (on, e, taken) }

    pub executed-move : o.code ≡ code_move → Executed o b (moved o b) (amount_moved o b)
    unfolding exec response
    executed-move e = record { effect = simp (on, e); response = simp (on, e) }

    pub executed_claim_all : o.code ≡ code_claim_all → lowest_held o b ≡ 0 → Executed o b (all_set o o.amount b) o.amount
    unfolding exec response all_claimed all_claimed_response
    executed_claim_all e z = record { effect = simp (on, e, z); response = simp (on, e, z) }

    pub executed_no_claim_all : o.code ≡ code_claim_all → lowest_held o b ≢ 0 → Executed o b b (lowest_held o b)
    unfolding exec response all_claimed all_claimed_response
    executed_no_claim_all e n =
        let held = ne_eqb _ _ n in
        record { effect = simp (on, e, held); response = simp (on, e, held) }

    pub executed-unknown : o.code ≢ code_read → o.code ≢ code_set → o.code ≢ code_add → o.code ≢ code_claim → o.code ≢ code_move
        → o.code ≢ code_claim_all → Executed o b b 0
    unfolding exec response
    executed-unknown r s a c m t =
        let no-set = ne_eqb _ _ s in
        let no_add = ne_eqb _ _ a in
        let no-claim = ne_eqb _ _ c in
        let no_move = ne_eqb _ _ m in
        let no-claim-all = ne_eqb _ _ t in
        record {
          effect = simp (on, no-set, no_add, no-claim, no_move, no-claim-all);
          response = simp (on, ne_eqb _ _ r, no-set, no_add, no-claim, no_move, no-claim-all);
        }

-- ---- what every operation keeps

module _ (o : Operation) (b : List ℕ) where
  pub exec-length : length (exec o b) ≡ length b
  exec-length = (exec_keeps o b).count

  -- an operation changes no register that it does not touch
  pub exec_frame : (k : ℕ) → Untouched o k → get_or (exec o b) k 0 ≡ get_or b k 0
  exec_frame = (exec_keeps o b).others

  pub exec_in_range : o.amount < range → InRange b → InRange (exec o b)
  exec_in_range = (exec_keeps o b).in_range
