-- Laws of the first element of a list that passes a test, which stands behind those that fail it, of its place, and of the response of the
-- first request of a number.
use Prim.Native.Nat.{ℕ, zero, suc, ◌+◌, ◌≤◌, ◌<◌}
use native.Mathlib.Omega.{arith}
use mathlib.Core.Path.{◌≡◌, refl, ap}
use mathlib.Core.Bool.{Bool, true, false, not, cond}
use mathlib.Core.List.{List, [], ◌∷◌}
use lib.ListN.{length, take, get_or}
use lib.Dec.{ltb}
use borrow.Author.Tests.{ltb-false}
use Rattle.std.specs.Prelude.{position, Some, None}
use Rattle.std.specs.List.{position_or_len, prefix_len}
use Rattle.std.specs.Option.{unwrap_or}
use Rattle.lists.specs.Lists.{one, count}
use Rattle.lists.specs.Places.{leading}
use Rattle.lists.proofs.PlaceLaws.{leading_most}
use Rattle.numbers.specs.declared.Number.{Number}
use Rattle.request.specs.declared.Request.{Request}
use Rattle.request.specs.Asked.{operation_of}
use Rattle.effects.specs.Effect.{exec, response}
use Rattle.effects.specs.Replay.{replay_on}
use Rattle.creek.specs.Plan.{has_number}
use Rattle.creek.specs.Execution.{operations}
use Rattle.creek.specs.Replies.{response_on}
use Rattle.replica.specs.internal.Model.{operation_at}

module _ {A : Type 0} (p : A → Bool) where
  abbrev pub first : List A → ℕ
  first l = leading (λ x. not (p x)) l

  -- where some element passes, the first that does stands behind those that fail
  pub first_inside : (l : List A) → 1 ≤ count p l → first l < length l
  first_inside [] h = absurd (omega arith)
  first_inside (x ∷ xs) h = go (p x) h (first_inside xs)
    where
      go : (b : Bool) → 1 ≤ one b + count p xs → (1 ≤ count p xs → first xs < length xs) → cond (not b) (suc (first xs)) 0 < suc (length xs)
      go true h further = omega arith
      go false h further = omega (arith, further (omega arith))

  pub first_passes : (l : List A) (d : A) → 1 ≤ count p l → p (get_or l (first l) d) ≡ true
  first_passes [] d h = absurd (omega arith)
  first_passes (x ∷ xs) d h = go (p x) refl h (first_passes xs d)
    where
      go : (b : Bool) → p x ≡ b → 1 ≤ one b + count p xs → (1 ≤ count p xs → p (get_or xs (first xs) d) ≡ true)
          → p (get_or (x ∷ xs) (cond (not b) (suc (first xs)) 0) d) ≡ true
      go true e h further = e
      go false e h further = further (omega arith)

  -- in a start of the list that reaches it, it stands at the same place
  pub first_start : (n : ℕ) (l : List A) → first l < n → first (take n l) ≡ first l
  first_start zero l h = absurd (omega arith)
  first_start (suc n) [] h = refl
  first_start (suc n) (x ∷ xs) h = go (p x) h (first_start n xs)
    where
      go : (b : Bool) → cond (not b) (suc (first xs)) 0 < suc n → (first xs < n → first (take n xs) ≡ first xs)
          → cond (not b) (suc (first (take n xs))) 0 ≡ cond (not b) (suc (first xs)) 0
      go true h further = refl
      go false h further = ap suc (further (omega arith))

-- the response of the request of that number is that of the first of them on the registers that those before it lead to
pub response_first : (b : List ℕ) (n : Number) (l : List Request) → 1 ≤ count (has_number n) l
    → response_on b n l ≡ response (operation_at l (first (has_number n) l)) (replay_on b (operations (take (first (has_number n) l) l)))
unfolding response_on replay_on
response_first b n [] h = absurd (omega arith)
response_first b n (x ∷ xs) h = go (has_number n x) h (response_first (exec (operation_of x.asked) b) n xs)
  where
    go : (v : Bool) → 1 ≤ one v + count (has_number n) xs
        → (1 ≤ count (has_number n) xs → response_on (exec (operation_of x.asked) b) n xs
        ≡ response (operation_at xs (first (has_number n) xs))
        (replay_on (exec (operation_of x.asked) b) (operations (take (first (has_number n) xs) xs))))
        → cond v (response (operation_of x.asked) b) (response_on (exec (operation_of x.asked) b) n xs)
        ≡ response (operation_at (x ∷ xs) (cond (not v) (suc (first (has_number n) xs)) 0))
        (replay_on b (operations (take (cond (not v) (suc (first (has_number n) xs)) 0) (x ∷ xs))))
    go true h further = refl
    go false h further = further (omega arith)

-- ---- the first place at which a test passes, or the length

module _ {A : Type 0} where
  prefix_is : (p : A → Bool) (l : List A) → prefix_len p l ≡ leading p l
  prefix_is p [] = refl
  prefix_is p (x ∷ xs) = ap (λ (n : ℕ). cond (p x) n 0) (omega (arith, prefix_is p xs))

  pub place_or_length : (p : A → Bool) (l : List A) → unwrap_or (position p l) (length l) ≡ leading (λ t. not (p t)) l
  place_or_length p l = go (ltb (position_or_len p l) (length l)) refl
    where
      go : (b : Bool) → ltb (position_or_len p l) (length l) ≡ b
          → unwrap_or (cond b (Some (position_or_len p l)) None) (length l) ≡ leading (λ t. not (p t)) l
      go true e = prefix_is (λ t. not (p t)) l
      go false e = omega (arith, ltb-false _ _ e, prefix_is (λ t. not (p t)) l, leading_most (λ t. not (p t)) l)
