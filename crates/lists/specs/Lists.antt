-- Lists with tests: what is counted, kept and found, insertion in an order, the common start of two lists. Nothing here knows of requests.
use Rattle.std.specs.Prelude.{ℕ, suc, ◌+◌, ◌≡◌, Bool, true, false, not, cond, List, [], ◌∷◌, leb}
use Rattle.std.proofs.Math.Option.{Option, none, some}

-- 1 where the test is met
abbrev pub one : Bool → ℕ
one true = 1
one false = 0

module _ {A : Type 0} where
  -- how many elements pass the test
  abbrev pub count : (A → Bool) → List A → ℕ
  count p [] = 0
  count p (x ∷ xs) = one (p x) + count p xs

  -- some element passes the test
  abbrev pub some_passes : (A → Bool) → List A → Bool
  some_passes p l = leb 1 (count p l)

  -- x in front of xs where the test is met
  abbrev pub cons_if : Bool → A → List A → List A
  cons_if true x xs = x ∷ xs
  cons_if false x xs = xs

  -- the elements that pass the test, in their order
  abbrev pub keep : (A → Bool) → List A → List A
  keep p [] = []
  keep p (x ∷ xs) = cons_if (p x) x (keep p xs)

  -- x where the test is met
  abbrev pub some_if : Bool → A → Option A → Option A
  some_if true x o = some x
  some_if false x o = o

  -- the first element that passes the test
  abbrev pub find : (A → Bool) → List A → Option A
  find p [] = none
  find p (x ∷ xs) = some_if (p x) x (find p xs)

  -- the list has no element
  abbrev pub is_nil : List A → Bool
  is_nil [] = true
  is_nil (x ∷ xs) = false

  -- x in front of the first element that it is before
  abbrev pub insert : (A → A → Bool) → A → List A → List A
  insert before x [] = x ∷ []
  insert before x (y ∷ ys) = cond (before x y) (x ∷ y ∷ ys) (y ∷ insert before x ys)

  -- the length of the common start of two lists: compare the first elements, then ask the same of the rest
  abbrev pub common_start : (A → A → Bool) → List A → List A → ℕ
  common_start same [] ys = 0
  common_start same (x ∷ xs) [] = 0
  common_start same (x ∷ xs) (y ∷ ys) = cond (same x y) (suc (common_start same xs ys)) 0

  -- each element is before all that follow it: none of those is one that it is not before
  pub data Ordered (before : A → A → Bool) : List A → Type 0 where
    nil : Ordered before []
    cons : {x : A} {xs : List A} → count (λ y. not (before x y)) xs ≡ 0 → Ordered before xs → Ordered before (x ∷ xs)
