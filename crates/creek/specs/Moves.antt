-- The sum of the registers (document 02, request (i)) where it is used: on a replica. Carrying out a good move leaves it as it is, and so
-- does undoing one. It is proved in `proofs/Moves` of every replica, those that calls lead to among them, whose registers the panel has
-- (`panel_demand_3` in `history`); over lists of moves on any registers it is in `registers`.
use Rattle.std.specs.Prelude.{ℕ, ◌≡◌, true, List, ◌∷◌}
use Rattle.request.specs.declared.Request.{Request}
use Rattle.request.specs.Asked.{operation_of}
use Rattle.effects.specs.Moves.{good_move, sum}
use Rattle.creek.specs.Execution.{registers}
use Rattle.creek.specs.Book.{undo, execute}
use Rattle.creek.specs.Calls.{Replica, step}

-- the sum of a replica's registers
abbrev pub sum_of : Replica → ℕ
sum_of r = sum (registers r.book.execution)

-- where the first of the to-do list or of the undo list is a good move, its step leaves the sum as it was; a refused one changes nothing
pub record MovesKeepSum (r : Replica) : Type 0 where
  pub carried_out_is : (x : Request) (rest : List Request) → r.book.execution.todo ≡ x ∷ rest → good_move (operation_of x.asked) ≡ true
      → sum_of (step r execute) ≡ sum_of r
  pub undone : (x : Request) (rest : List Request) → r.book.execution.rollback ≡ x ∷ rest → good_move (operation_of x.asked) ≡ true
      → sum_of (step r undo) ≡ sum_of r
