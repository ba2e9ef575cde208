-- The registers and what is kept by place on the board, when the board gets one shorter or one longer.
use Prim.Native.Nat.{ℕ, suc, ◌+◌, ◌≤◌, ◌<◌}
use native.Mathlib.Omega.{arith}
use mathlib.Core.Path.{◌≡◌, sym, ap, ◌∙◌}
use mathlib.Core.List.{List, [], ◌∷◌, ◌++◌, map-append}
use lib.ListN.{length, get_or, set, length-append, length-map, get_or-append}
use lib.Seq.{take-append-le, take-append_seam, get_or-append_seam, get_or-set_same, get_or-set_other}
use borrow.Author.Count.{below_more}
use Rattle.request.specs.declared.Operation.{Operation}
use Rattle.request.specs.declared.Request.{Request}
use Rattle.request.specs.Operations.{no_operation}
use Rattle.request.specs.Asked.{operation_of}
use Rattle.registers.specs.declared.Saved.{Saved}
use Rattle.effects.specs.Effect.{exec, response, Executed}
use Rattle.registers.specs.Rollback.{saved_of, saved_in, restored}
use Rattle.effects.specs.Replay.{replay}
use Rattle.effects.proofs.ReplayLaws.{replay_more}
use Rattle.registers.proofs.ReplayLaws.{replay_rolled_back}
use Rattle.creek.specs.Execution.{operations}
use Rattle.replica.specs.internal.Model.{operation_at, registers_before, saved_at, Log}

module _ (board : List Request) (x : Request) where
  operations_more : operations (board ++ x ∷ []) ≡ operations board ++ operation_of x.asked ∷ []
  operations_more = map-append (λ y. operation_of y.asked) board (x ∷ [])

  operations-length : length (operations board) ≡ length board
  operations-length = length-map board (λ y. operation_of y.asked)

  -- below the last request the operation and the registers before it are those of the shorter board
  operation_below : (k : ℕ) → k < length board → operation_at (board ++ x ∷ []) k ≡ operation_at board k
  operation_below k h =
      ap (λ (l : List Operation). get_or l k no_operation) operations_more
      ∙ get_or-append (operations board) (operation_of x.asked ∷ []) no_operation k (omega (arith, operations-length))

  registers_below : (k : ℕ) → k ≤ length board → registers_before (board ++ x ∷ []) k ≡ registers_before board k
  registers_below k h = ap (λ (l : List Request). replay (operations l)) (take-append-le k board (x ∷ []) h)

  -- of the last request they are its own operation and the replay of the shorter board
  operation_last : operation_at (board ++ x ∷ []) (length board) ≡ operation_of x.asked
  operation_last =
      ap (λ (l : List Operation). get_or l (length board) no_operation) operations_more
      ∙ ap (λ (k : ℕ). get_or (operations board ++ operation_of x.asked ∷ []) k no_operation) (sym operations-length)
      ∙ get_or-append_seam (operations board) (operation_of x.asked) [] no_operation

  registers_last : registers_before (board ++ x ∷ []) (length board) ≡ replay (operations board)
  registers_last = ap (λ (l : List Request). replay (operations l)) (take-append_seam board (x ∷ []))

  replay_last : replay (operations (board ++ x ∷ [])) ≡ exec (operation_of x.asked) (replay (operations board))
  replay_last = ap replay operations_more ∙ replay_more (operations board) (operation_of x.asked)

-- the last request rolled back, from what was saved at its place
pub log_shorter : (board : List Request) (x : Request) (registers after saved responses : List ℕ)
    → Log (board ++ x ∷ []) registers saved responses
    → after ≡ restored (operation_of x.asked) (saved_at saved (length board)) registers → Log board after saved responses
log_shorter board x registers after saved responses log e =
    let long : length (board ++ x ∷ []) ≡ suc (length board) = simp length-append (omega arith) in
    let kept : saved_at saved (length board) ≡ saved_of (operation_of x.asked) (replay (operations board)) =
    log.restores (length board) (omega arith)
    ∙ ap (λ (o : Operation). saved_of o (registers_before (board ++ x ∷ []) (length board))) (operation_last board x)
    ∙ ap (saved_of (operation_of x.asked)) (registers_last board x) in
    record {
      replayed =
          e
          ∙ ap (λ (s : Saved). restored (operation_of x.asked) s registers) kept
          ∙ ap (restored (operation_of x.asked) (saved_of (operation_of x.asked) (replay (operations board))))
          (log.replayed ∙ ap replay (operations_more board x))
          ∙ replay_rolled_back (operations board) (operation_of x.asked);
      restores = λ k h.
          log.restores k (omega arith)
          ∙ ap (λ (o : Operation). saved_of o (registers_before (board ++ x ∷ []) k)) (operation_below board x k h)
          ∙ ap (saved_of (operation_at board k)) (registers_below board x k (omega arith));
      replies = λ k h.
          log.replies k (omega arith)
          ∙ ap (λ (o : Operation). response o (registers_before (board ++ x ∷ []) k)) (operation_below board x k h)
          ∙ ap (response (operation_at board k)) (registers_below board x k (omega arith));
    }

-- one more request executed, with what was saved before it and its response put at its place
module _ (board : List Request) (x : Request) (registers after saved responses : List ℕ) (word v : ℕ)
    (log : Log board registers saved responses) (room-saved : length board < length saved) (room : length board < length responses)
    (e : saved_in word ≡ saved_of (operation_of x.asked) registers) (done : Executed (operation_of x.asked) registers after v) where
  saved_at_lem : (k : ℕ) → k < length board + 1
      → saved_at (set saved (length board) word) k ≡ saved_of (operation_at (board ++ x ∷ []) k) (registers_before (board ++ x ∷ []) k)
  saved_at_lem =
      below_more _ (length board)
      (λ k h. ap saved_in (get_or-set_other saved (length board) k word 0 (λ z. omega arith)) ∙ log.restores k h
      ∙ rw (operation_below board x k h, registers_below board x k (omega arith)))
      (ap saved_in (get_or-set_same saved (length board) word 0 room-saved) ∙ e ∙ ap (saved_of (operation_of x.asked)) log.replayed
      ∙ rw (operation_last board x, registers_last board x))

  response_at : (k : ℕ) → k < length board + 1
      → get_or (set responses (length board) v) k 0 ≡ response (operation_at (board ++ x ∷ []) k) (registers_before (board ++ x ∷ []) k)
  response_at =
      below_more _ (length board)
      (λ k h. get_or-set_other responses (length board) k v 0 (λ z. omega arith) ∙ log.replies k h
      ∙ rw (operation_below board x k h, registers_below board x k (omega arith)))
      (get_or-set_same responses (length board) v 0 room ∙ done.response ∙ ap (response (operation_of x.asked)) log.replayed
      ∙ rw (operation_last board x, registers_last board x))

  log_more : Log (board ++ x ∷ []) after (set saved (length board) word) (set responses (length board) v)
  log_more =
      let long : length (board ++ x ∷ []) ≡ length board + 1 = simp length-append (omega arith) in
      record {
        replayed = done.effect ∙ ap (exec (operation_of x.asked)) log.replayed ∙ sym (replay_last board x);
        restores = λ k h. saved_at_lem k (omega arith);
        replies = λ k h. response_at k (omega arith);
      }

  pub log_longer : (n : ℕ) → length board ≡ n → Log (board ++ x ∷ []) after (set saved n word) (set responses n v)
  log_longer n e = rw (← e) log_more
