-- Laws of a part of a list after a run of stores, and of two loops: one that stores a list from a place on, one that reads a part.
use Prim.Native.Nat.{ℕ, suc, ◌+◌, ◌≤◌, ◌<◌}
use native.Mathlib.Omega.{arith}
use native.Mathlib.Numerals.{add-one}
use mathlib.Core.Path.{◌≡◌, refl, ap, ◌∙◌}
use mathlib.Core.List.{List, [], ◌∷◌, ◌++◌}
use lib.ListN.{length, take, drop, get_or, set, length-append}
use lib.Seq.{drop-cons, drop_at, take_at, length-take-le, take-set-le, take-set-lt, drop-set-lt, sets, sets-eq, slice, slice-cons}

-- ---- a part of a list after vs were stored from place i on

module _ {A : Type 0} where
  -- the part that they fill
  pub slice_stored : (l vs : List A) (i : ℕ) → i + length vs ≤ length l → slice i (i + length vs) (sets l i vs) ≡ vs
  slice_stored l vs i inside =
      let before : length (take i l) ≡ i = length-take-le i l (omega arith) in
      let front : length (take i l ++ vs) ≡ i + length vs = length-append (take i l) vs ∙ rw before in
      ap (slice i (i + length vs)) (sets-eq vs l i inside)
      ∙ ap (drop i) (take_at (take i l ++ vs) (drop (i + length vs) l) (i + length vs) front)
      ∙ drop_at (take i l) vs i before

  -- a part that ends before them
  pub slice-before : (l vs : List A) (from to i : ℕ) → to ≤ i → slice from to (sets l i vs) ≡ slice from to l
  slice-before l [] from to i below = refl
  slice-before l (v ∷ vs) from to i below =
      slice-before (set l i v) vs from to (suc i) (omega arith) ∙ ap (drop from) (take-set-le to l i v below)

  -- a part that starts behind them
  pub slice_behind : (l vs : List A) (from to i : ℕ) → i + length vs ≤ from → from ≤ to → slice from to (sets l i vs) ≡ slice from to l
  slice_behind l [] from to i above rising = refl
  slice_behind l (v ∷ vs) from to i above rising =
      slice_behind (set l i v) vs from to (suc i) (omega arith) rising
      ∙ ap (drop from) (take-set-lt to l i v (omega arith))
      ∙ drop-set-lt from (take to l) i v (omega arith)

-- ---- loops: what is left to store from place i on gives the whole

module _ (at i : ℕ) where
  one_further : at + (i + 1) ≡ suc (at + i)
  one_further = omega arith

  -- vs are stored from `at` on, and i of them have been
  pub store_on : (l vs : List ℕ) → i < length vs
      → sets (set l (at + i) (get_or vs i 0)) (at + (i + 1)) (drop (i + 1) vs) ≡ sets l (at + i) (drop i vs)
  store_on l vs more = rw (drop-cons vs i 0 more, one_further, add-one i)

  -- n are read from `at` on into vs, and i of them have been
  pub read_on : (l vs : List ℕ) (n : ℕ) → i < n → at + n ≤ length l
      → sets (set vs i (get_or l (at + i) 0)) (i + 1) (slice (at + (i + 1)) (at + n) l) ≡ sets vs i (slice (at + i) (at + n) l)
  read_on l vs n more inside = rw (slice-cons (at + i) (at + n) l 0 (omega arith) inside, one_further, add-one i)
