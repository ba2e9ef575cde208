-- Places in a list: insertion at a place, how many elements at the front pass a test; and what holds of every element.
use Prim.{Unit}
use Rattle.std.specs.Prelude.{ℕ, suc, Bool, cond, List, [], ◌∷◌, ◌++◌, take, drop}

module _ {A : Type 0} where
  -- l with x at place k, counted from 0; what stood there and behind it is one place further
  unfoldable pub insert_at : ℕ → A → List A → List A
  insert_at k x l = take k l ++ x ∷ drop k l

  -- how many elements at the front pass the test, up to the first that does not
  abbrev pub leading : (A → Bool) → List A → ℕ
  leading p [] = 0
  leading p (x ∷ xs) = cond (p x) (suc (leading p xs)) 0

  -- every element has the property
  abbrev pub All : (A → Type 0) → List A → Type 0
  All P [] = Unit {0}
  All P (x ∷ xs) = P x × All P xs
