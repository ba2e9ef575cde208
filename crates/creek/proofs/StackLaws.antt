-- The execution as a stack: adjusting only lowers the mark, an undo takes the last request off the stack, a carry-out puts one on it.
-- And the board before and after each step.
use Prim.Native.Nat.{ℕ, zero, suc, ◌+◌, ◌≤◌}
use native.Mathlib.Omega.{arith}
use mathlib.Core.Path.{◌≡◌, refl, sym, ap, ◌∙◌}
use mathlib.Core.List.{List, [], ◌∷◌, ◌++◌, reverse, reverse-cons, append_assoc, reverse-append, reverse-reverse}
use lib.ListN.{length, take, drop, length-append, length-take, take-append-drop}
use lib.Seq.{take-take, drop-drop, take-length, drop-length, take-append-le, drop-append-le}
use Rattle.request.specs.declared.Request.{Request}
use Rattle.request.specs.Request.{same_request}
use Rattle.lists.specs.Lists.{common_start}
use Rattle.creek.specs.Execution.{Execution, board, adjusted, undone, executed_next}
use Rattle.creek.specs.internal.Stack.{stacked}
use Rattle.lists.proofs.ListLaws.{common_start_most}
use Rattle.creek.proofs.ExecutionLaws.{board_executed}

-- ---- the stack

-- the board is the stack
pub stacked-board : (s : List Request) (m : ℕ) (order : List Request) → board (stacked s m order) ≡ s
stacked-board s m order = rw reverse-reverse (take-append-drop m s)

drop_between : (k m : ℕ) (l : List Request) → k ≤ m → drop k l ≡ drop k (take m l) ++ drop m l
drop_between zero m l h = sym (take-append-drop m l)
drop_between (suc k) zero l h = absurd (omega arith)
drop_between (suc k) (suc m) [] h = refl
drop_between (suc k) (suc m) (x ∷ xs) h = drop_between k m xs (omega arith)

-- adjusting to a new order only lowers the mark
pub stacked-adjusted : (s : List Request) (m : ℕ) (old new : List Request)
    → adjusted new (stacked s m old) ≡ stacked s (common_start same_request (take m s) new) new
unfolding adjusted
stacked-adjusted s m old new =
    let k = common_start same_request (take m s) new in
    let h : k ≤ m = omega (arith, common_start_most same_request (take m s) new, length-take m s) in
    let executed : take k (take m s) ≡ take k s = take-take k m s h in
    let rollback : reverse (drop m s) ++ reverse (drop k (take m s)) ≡ reverse (drop k s) =
    sym (reverse-append (drop k (take m s)) (drop m s)) ∙ ap reverse (sym (drop_between k m s h)) in
    λ i. record { executed = executed i; rollback = rollback i; todo = drop k new }

-- an undo takes the last off the stack
pub stacked-undone : (s : List Request) (x : Request) (m : ℕ) (order : List Request) → m ≤ length s
    → undone (stacked (s ++ x ∷ []) m order) ≡ stacked s m order
unfolding undone
stacked-undone s x m order h =
    let executed : take m (s ++ x ∷ []) ≡ take m s = take-append-le m s (x ∷ []) h in
    let rollback : drop 1 (reverse (drop m (s ++ x ∷ []))) ≡ reverse (drop m s) =
    ap (λ (l : List Request). drop 1 (reverse l)) (drop-append-le m s (x ∷ []) h) ∙ ap (drop 1) (reverse-append (drop m s) (x ∷ [])) in
    λ i. record { executed = executed i; rollback = rollback i; todo = drop m order }

-- a carry-out, with the mark at the top, puts the first that is to do on the stack
pub stacked_executed : (s : List Request) (x : Request) (order rest : List Request) → drop (length s) order ≡ x ∷ rest
    → executed_next (stacked s (length s) order) ≡ stacked (s ++ x ∷ []) (suc (length s)) order
unfolding executed_next
stacked_executed s x order rest e =
    let n : length (s ++ x ∷ []) ≡ suc (length s) = simp length-append (omega arith) in
    let whole : take (suc (length s)) (s ++ x ∷ []) ≡ s ++ x ∷ [] =
    ap (λ (k : ℕ). take k (s ++ x ∷ [])) (sym n) ∙ take-length (s ++ x ∷ []) in
    let none : drop (suc (length s)) (s ++ x ∷ []) ≡ [] = ap (λ (k : ℕ). drop k (s ++ x ∷ [])) (sym n) ∙ drop-length (s ++ x ∷ []) in
    let executed : take (length s) s ++ take 1 (drop (length s) order) ≡ take (suc (length s)) (s ++ x ∷ []) =
    rw (take-length, e) (sym whole) in
    let rollback : reverse (drop (length s) s) ≡ reverse (drop (suc (length s)) (s ++ x ∷ [])) = ap reverse (drop-length s ∙ sym none) in
    let more : length s + 1 ≡ suc (length s) = omega arith in
    let todo : drop 1 (drop (length s) order) ≡ drop (suc (length s)) order =
    drop-drop 1 (length s) order ∙ ap (λ (k : ℕ). drop k order) more in
    λ i. record { executed = executed i; rollback = rollback i; todo = todo i }

-- ---- the board

-- an undo takes the last request off the board
pub board-undone : (e : Execution) (x : Request) (xs : List Request) → e.rollback ≡ x ∷ xs → board e ≡ board (undone e) ++ x ∷ []
unfolding undone
board-undone e x xs h =
    ap (λ (l : List Request). e.executed ++ reverse l) h
    ∙ ap (λ (l : List Request). e.executed ++ l) (reverse-cons x xs)
    ∙ sym (append_assoc e.executed (reverse xs) (x ∷ []))
    ∙ ap (λ (l : List Request). e.executed ++ reverse (drop 1 l) ++ x ∷ []) (sym h)

-- a carry-out with nothing to be undone puts a request on the board
pub board_execution : (e : Execution) (x : Request) (xs : List Request) → e.rollback ≡ [] → e.todo ≡ x ∷ xs
    → board (executed_next e) ≡ board e ++ x ∷ []
unfolding executed_next
board_execution e x xs none h =
    board_executed (executed_next e) none ∙ ap (λ (l : List Request). e.executed ++ take 1 l) h
    ∙ ap (λ (l : List Request). l ++ x ∷ []) (sym (board_executed e none))
