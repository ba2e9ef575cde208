-- Laws of what holds of every element: of one element, of parts, of a list put together, of what a test keeps.
use Prim.{tt}
use Prim.Native.Nat.{ℕ, suc, zero, ◌+◌, ◌-◌, ◌≤◌, ◌<◌}
use native.Mathlib.Decide.{ℕ_discrete}
use native.Mathlib.Omega.{arith}
use mathlib.Core.Path.{◌≡◌, sym, subst}
use mathlib.Core.Logic.{◌≢◌}
use mathlib.Core.Bool.{Bool, true, false}
use mathlib.Core.List.{List, [], ◌∷◌, ◌++◌}
use lib.ListN.{length, take, drop, get_or}
use lib.Seq.{slice, get_or-take, get_or-drop, length-slice}
use Rattle.lists.specs.Lists.{count, cons_if, keep}
use Rattle.lists.specs.Places.{All, insert_at}
use Rattle.lists.proofs.ListLaws.{one_zero}

-- what holds of everything, or follows from what holds of every element, holds of every element
pub all_of : {A : Type 0} {P : A → Type 0} → ((x : A) → P x) → (l : List A) → All P l
all_of h [] = tt
all_of h (x ∷ xs) = (h x, all_of h xs)

pub all_weaken : {A : Type 0} {P Q : A → Type 0} → ((x : A) → P x → Q x) → (l : List A) → All P l → All Q l
all_weaken h [] a = tt
all_weaken h (x ∷ xs) a = (h x a.0, all_weaken h xs a.1)

module _ {A : Type 0} (P : A → Type 0) where
  pub all_at : (l : List A) (i : ℕ) (d : A) → All P l → i < length l → P (get_or l i d)
  all_at [] i d a h = absurd (omega arith)
  all_at (x ∷ xs) zero d a h = a.0
  all_at (x ∷ xs) (suc i) d a h = all_at xs i d a.1 (omega arith)

  -- wherever one looks, past the end too
  pub all_anywhere : (l : List A) (i : ℕ) (d : A) → P d → All P l → P (get_or l i d)
  all_anywhere [] i d h a = h
  all_anywhere (x ∷ xs) zero d h a = a.0
  all_anywhere (x ∷ xs) (suc i) d h a = all_anywhere xs i d h a.1

  -- ---- parts

  pub all_take : (n : ℕ) (l : List A) → All P l → All P (take n l)
  all_take zero l a = tt
  all_take (suc n) [] a = tt
  all_take (suc n) (x ∷ xs) a = (a.0, all_take n xs a.1)

  pub all_drop : (n : ℕ) (l : List A) → All P l → All P (drop n l)
  all_drop zero l a = a
  all_drop (suc n) [] a = tt
  all_drop (suc n) (x ∷ xs) a = all_drop n xs a.1

  pub all_slice_at : (from to i : ℕ) (l : List A) (d : A) → All P (slice from to l) → from ≤ i → i < to → to ≤ length l → P (get_or l i d)
  all_slice_at from to i l d a low high inside =
      let e : from + (i - from) ≡ i = omega arith in
      rw (get_or-drop from (take to l) (i - from) d, e, get_or-take to l i d high) at
      (all_at (slice from to l) (i - from) d a (omega (arith, length-slice from to l inside)))

  -- ---- a list put together

  pub all_append : (s t : List A) → All P s → All P t → All P (s ++ t)
  all_append [] t a b = b
  all_append (x ∷ xs) t a b = (a.0, all_append xs t a.1 b)

  pub all-insert_at : (k : ℕ) (x : A) (l : List A) → P x → All P l → All P (insert_at k x l)
  unfolding insert_at
  all-insert_at k x l h a = all_append (take k l) (x ∷ drop k l) (all_take k l a) (h, all_drop k l a)

  pub all-cons_if : (b : Bool) (x : A) (l : List A) → P x → All P l → All P (cons_if b x l)
  all-cons_if true x l h a = (h, a)
  all-cons_if false x l h a = a

  pub all_keep : (p : A → Bool) (l : List A) → All P l → All P (keep p l)
  all_keep p [] a = tt
  all_keep p (x ∷ xs) a = all-cons_if (p x) x (keep p xs) a.0 (all_keep p xs a.1)

-- what holds of every number of a list, and of k where it is none of them, holds of k
pub all_or_other : (P : ℕ → Type 0) (l : List ℕ) (k : ℕ) → All P l → (All (λ i. k ≢ i) l → P k) → P k
all_or_other P [] k a other = other tt
all_or_other P (i ∷ is) k a other = go (λ apart. all_or_other P is k a.1 (λ rest. other (apart, rest))) (ℕ_discrete k i)
  where
    go : (k ≢ i → P k) → Dec (k ≡ i) → P k
    go later (yes e) = subst P (sym e) a.0
    go later (no apart) = later apart

-- where none passes the test, every element fails it
pub none_all : {A : Type 0} (p : A → Bool) (l : List A) → count p l ≡ 0 → All (λ x. p x ≡ false) l
none_all p [] h = tt
none_all p (x ∷ xs) h = (one_zero (p x) (omega arith), none_all p xs (omega arith))
