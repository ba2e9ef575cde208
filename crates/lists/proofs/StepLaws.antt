-- How a loop over the places of a list goes on: what is counted, kept or common from place i on, by the element at i; and nothing is
-- left at the end. Step by step with `slice` of `lib.Seq`.
use Prim.Native.Nat.{ℕ, suc, ◌+◌, ◌≤◌, ◌<◌}
use native.Mathlib.Numerals.{add-one}
use mathlib.Core.Path.{◌≡◌, refl}
use mathlib.Core.Bool.{Bool, true, false}
use mathlib.Core.List.{List, [], ◌∷◌}
use lib.ListN.{length, get_or}
use lib.Seq.{slice, slice-cons, slice_empty}
use Rattle.lists.specs.Lists.{keep, common_start}
use Rattle.lists.specs.Places.{leading}

module _ {A : Type 0} (p : A → Bool) (l : List A) (d : A) (i n : ℕ) (below : i < n) (inside : n ≤ length l) where
  pub leading_on : p (get_or l i d) ≡ true → leading p (slice i n l) ≡ suc (leading p (slice (i + 1) n l))
  leading_on e = rw (slice-cons i n l d below inside, e, add-one)

  pub leading_stops : p (get_or l i d) ≡ false → leading p (slice i n l) ≡ 0
  leading_stops e = rw (slice-cons i n l d below inside, e)

  pub keep_taken : p (get_or l i d) ≡ true → keep p (slice i n l) ≡ get_or l i d ∷ keep p (slice (i + 1) n l)
  keep_taken e = rw (slice-cons i n l d below inside, e, add-one)

  pub keep-passed : p (get_or l i d) ≡ false → keep p (slice i n l) ≡ keep p (slice (i + 1) n l)
  keep-passed e = rw (slice-cons i n l d below inside, e, add-one)

module _ {A : Type 0} (p : A → Bool) (l : List A) (n : ℕ) where
  pub leading_end : leading p (slice n n l) ≡ 0
  leading_end = rw (slice_empty n l)

  pub keep-end : keep p (slice n n l) ≡ []
  keep-end = rw (slice_empty n l)

module _ {A : Type 0} (same : A → A → Bool) (xs ys : List A) (d : A) (i n m : ℕ)
    (first : i < n) (first_inside : n ≤ length xs) (second : i < m) (second_inside : m ≤ length ys) where
  pub common_on : same (get_or xs i d) (get_or ys i d) ≡ true
      → common_start same (slice i n xs) (slice i m ys) ≡ suc (common_start same (slice (i + 1) n xs) (slice (i + 1) m ys))
  common_on e = rw (slice-cons i n xs d first first_inside, slice-cons i m ys d second second_inside, e, add-one)

  pub common_stops : same (get_or xs i d) (get_or ys i d) ≡ false → common_start same (slice i n xs) (slice i m ys) ≡ 0
  common_stops e = rw (slice-cons i n xs d first first_inside, slice-cons i m ys d second second_inside, e)

module _ {A : Type 0} (same : A → A → Bool) where
  nothing_common : (l : List A) → common_start same l [] ≡ 0
  nothing_common [] = refl
  nothing_common (x ∷ xs) = refl

  pub common_end_first : (xs l : List A) (n : ℕ) → common_start same (slice n n xs) l ≡ 0
  common_end_first xs l n = rw (slice_empty n xs)

  pub common_end_second : (l ys : List A) (n : ℕ) → common_start same l (slice n n ys) ≡ 0
  common_end_second l ys n = rw (slice_empty n ys) (nothing_common l)
