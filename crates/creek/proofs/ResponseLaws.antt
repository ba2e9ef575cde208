-- Laws of a request's response in a replay: only the requests before it matter.
use Prim.Native.Nat.{ℕ, ◌+◌, ◌≤◌}
use native.Mathlib.Omega.{arith}
use mathlib.Core.Path.{◌≡◌, refl, sym, ap, ◌∙◌}
use mathlib.Core.Bool.{Bool, true, false, cond}
use mathlib.Core.List.{List, [], ◌∷◌, ◌++◌}
use Rattle.numbers.specs.declared.Number.{Number}
use Rattle.request.specs.declared.Request.{Request}
use Rattle.request.specs.Asked.{operation_of}
use Rattle.numbers.proofs.NumberLaws.{same_number_self}
use Rattle.effects.specs.Effect.{exec, response}
use Rattle.effects.specs.Replay.{zero_board, replay_on, replay}
use Rattle.lists.specs.Lists.{one, count}
use Rattle.creek.specs.Plan.{has_number}
use Rattle.creek.specs.Execution.{operations}
use Rattle.creek.specs.Replies.{response_on, response_in}

on_start : (b : List ℕ) (n : Number) (l m : List Request) → 1 ≤ count (has_number n) l → response_on b n (l ++ m) ≡ response_on b n l
unfolding response_on
on_start b n [] m h = absurd (omega arith)
on_start b n (x ∷ xs) m h = step (has_number n x) (omega arith) (on_start (exec (operation_of x.asked) b) n xs m)
  where
    step : (v : Bool) {k p q : ℕ} → 1 ≤ one v + k → (1 ≤ k → p ≡ q)
        → cond v (response (operation_of x.asked) b) p ≡ cond v (response (operation_of x.asked) b) q
    step true h ih = refl
    step false h ih = ih (omega arith)

on-end : (b : List ℕ) (x : Request) (l m : List Request) → count (has_number x.number) l ≡ 0
    → response_on b x.number (l ++ x ∷ m) ≡ response (operation_of x.asked) (replay_on b (operations l))
unfolding response_on replay_on
on-end b x [] m h = rw (same_number_self x.number)
on-end b x (y ∷ ys) m h = step (has_number x.number y) (omega arith) (on-end (exec (operation_of y.asked) b) x ys m)
  where
    step : (v : Bool) {k p q : ℕ} → one v + k ≡ 0 → (k ≡ 0 → p ≡ q) → cond v (response (operation_of y.asked) b) p ≡ q
    step true h ih = absurd (omega arith)
    step false h ih = ih (omega arith)

-- in a list that goes on, a request has the response that it has in its start
pub response_start : (n : Number) (l m : List Request) → 1 ≤ count (has_number n) l → response_in n (l ++ m) ≡ response_in n l
unfolding response_in
response_start n l m h = on_start zero_board n l m h

-- it is its response on the registers that the requests before it lead to
pub response_behind : (x : Request) (l m : List Request) → count (has_number x.number) l ≡ 0
    → response_in x.number (l ++ x ∷ m) ≡ response (operation_of x.asked) (replay (operations l))
unfolding response_in replay
response_behind x l m h = on-end zero_board x l m h

-- a request in two starts of one list has one response
pub response_both : (n : Number) (l m c t : List Request) → l ++ m ≡ c ++ t → 1 ≤ count (has_number n) l → 1 ≤ count (has_number n) c
    → response_in n l ≡ response_in n c
response_both n l m c t e h k = sym (response_start n l m h) ∙ ap (response_in n) e ∙ response_start n c t k
