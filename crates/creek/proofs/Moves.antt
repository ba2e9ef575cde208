-- The sum of a replica's registers over good moves (`specs/Moves`): the theorem `moves-keep-sum`.
use mathlib.Core.Path.{◌≡◌, refl, sym, ap, ◌∙◌}
use mathlib.Core.Bool.{true}
use mathlib.Core.List.{List, [], ◌∷◌, ◌++◌, map-append}
use Rattle.request.specs.declared.Operation.{Operation}
use Rattle.request.specs.declared.Request.{Request}
use Rattle.request.specs.Refusal as refused
use Rattle.request.specs.Asked.{operation_of}
use Rattle.effects.specs.Replay.{replay}
use Rattle.effects.specs.Moves.{good_move, sum}
use Rattle.effects.proofs.ReplayLaws.{replay_more, replay-length}
use Rattle.effects.proofs.SumLaws.{sum-exec}
use Rattle.creek.specs.Execution.{board, operations, registers, undone}
use Rattle.creek.specs.Book.{undo, execute, refusal, accepted}
use Rattle.creek.specs.Calls.{Replica, accept}
use Rattle.creek.specs.Moves.{sum_of, MovesKeepSum}
use Rattle.creek.proofs.ExecutionLaws.{executes}
use Rattle.creek.proofs.CallLaws.{by-outcome}
use Rattle.creek.proofs.StackLaws.{board-undone, board_execution}

-- one good move more at the end of a replay
sum_more : (l : List Request) (x : Request) → good_move (operation_of x.asked) ≡ true
    → sum (replay (operations (l ++ x ∷ []))) ≡ sum (replay (operations l))
sum_more l x good =
    ap (λ (os : List Operation). sum (replay os)) (map-append _ l (x ∷ []))
    ∙ ap sum (replay_more (operations l) (operation_of x.asked))
    ∙ sum-exec (operation_of x.asked) (replay (operations l)) good (replay-length (operations l))

module _ (r : Replica) (x : Request) (rest : List Request) (good : good_move (operation_of x.asked) ≡ true) where
  sum_carried_out : r.book.execution.todo ≡ x ∷ rest → refusal r.book execute ≡ refused.accepted → sum_of (accept r execute) ≡ sum_of r
  unfolding accept accepted refusal registers
  sum_carried_out first taken =
      ap (λ (l : List Request). sum (replay (operations l)))
      (board_execution r.book.execution x rest (executes r.book.execution taken).nothing_back first)
      ∙ sum_more (board r.book.execution) x good

  sum-undone : r.book.execution.rollback ≡ x ∷ rest → sum_of (accept r undo) ≡ sum_of r
  unfolding accept accepted registers
  sum-undone first =
      sym (sum_more (board (undone r.book.execution)) x good)
      ∙ ap (λ (l : List Request). sum (replay (operations l))) (sym (board-undone r.book.execution x rest first))

pub moves-keep-sum : (r : Replica) → MovesKeepSum r
moves-keep-sum r = record {
  carried_out_is =
      λ x rest first good. by-outcome (λ v a q. sum_of q ≡ sum_of r) r execute (sum_carried_out r x rest good first) refl;
  undone = λ x rest first good. by-outcome (λ v a q. sum_of q ≡ sum_of r) r undo (λ taken. sum-undone r x rest good first) refl;
}
