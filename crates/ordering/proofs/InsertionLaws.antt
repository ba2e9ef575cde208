-- Laws of the place of a request, and of insertion there by a copy of what stands from the place on.
use Prim.Native.Nat.{ℕ, ◌+◌, ◌-◌, ◌≤◌, ◌<◌}
use native.Mathlib.Omega.{arith}
use mathlib.Core.Path.{◌≡◌, sym, ap, ◌∙◌}
use mathlib.Core.Bool.{true, not}
use mathlib.Core.List.{List, ◌∷◌, ◌++◌}
use lib.ListN.{length, take, drop, get_or, set, length-set, length-drop, length-append, take-append-drop}
use lib.Seq.{slice, take-set-lt, length-take-le, take-append-le, take-take, drop_at, drop-set-lt}
use Rattle.std.specs.List.{copy_within}
use Rattle.std.proofs.lemmas.List.{drop-take, take-set, drop-set}
use Rattle.std.proofs.lemmas.List.Edits.{take-paste, drop-paste, length-paste}
use borrow.Author.Tests.{not-true}
use Rattle.lists.specs.Lists.{keep}
use Rattle.lists.specs.Places.{insert_at}
use Rattle.lists.proofs.HalvesLaws.{halving_starts, halving_failed, halving_ends, passing_behind}
use Rattle.ordering.specs.Slots.{comes_before}
use Rattle.ordering.specs.Insertion.{PlaceAsks, place_for}

-- ---- the place of a request

-- the place of a request that does not come before the last of from..to is behind it
module _ (clocks order : List ℕ) (from to clock slot : ℕ) (h : PlaceAsks clocks order from to clock slot) (some : from < to)
    (behind : not (comes_before clocks clock slot (get_or order (to - 1) 0)) ≡ true) where
  pub place_behind_last : to ≡ place_for clocks order from to clock slot
  place_behind_last =
      let last : to ≡ to - 1 + 1 = omega arith in
      let starts = halving_starts (comes_before clocks clock slot) order 0 from to (omega arith) in
      let ends = halving_failed _ _ _ _ _ h.split _ _ starts (to - 1) (omega arith) (omega arith) (not-true _ behind) in
      last ∙ halving_ends _ _ _ _ _ _ _ ends (omega arith) (omega (arith, h.order.part))

-- the requests of from..to that another comes before are those from its place on
pub later_from_place : (clocks order : List ℕ) (from to clock slot : ℕ) → PlaceAsks clocks order from to clock slot
    → keep (comes_before clocks clock slot) (slice from to order) ≡ slice (place_for clocks order from to clock slot) to order
later_from_place clocks order from to clock slot h =
    let part = h.order.part in
    passing_behind (comes_before clocks clock slot) order 0 to (omega (arith, part)) (to - from) from (omega (arith, part)) h.split

-- ---- an insertion: what stands from the place on is copied one place up, and the place is written

module _ (n : ℕ) (xs : List ℕ) (at s : ℕ) (place : at ≤ n) (room : n < length xs) where
  abbrev moved : List ℕ
  moved = copy_within xs at n (at + 1)

  -- those behind the place, which are copied
  abbrev behind : List ℕ
  behind = take (n - at) (drop at xs)

  copied-end : at + 1 + (n - at) ≡ n + 1
  copied-end = omega arith

  enough : n - at ≤ length (drop at xs)
  enough = simp length-drop (omega arith)

  pub inserted-first : take (n + 1) (set moved at s) ≡ insert_at at s (take n xs)
  unfolding insert_at
  inserted-first =
      let w = take (at + 1) xs ++ behind in
      let front : length (take (at + 1) xs) ≡ at + 1 = length-take-le (at + 1) xs (omega arith) in
      let long : length w ≡ n + 1 = length-append (take (at + 1) xs) behind ∙ omega (arith, front, length-take-le (n - at) (drop at xs) enough) in
      let copied : take (n + 1) moved ≡ w =
      ap (λ (k : ℕ). take k moved) (sym copied-end) ∙ take-paste xs (at + 1) (drop at xs) (n - at) (omega arith) enough in
      let lower : take at w ≡ take at xs =
      take-append-le at (take (at + 1) xs) behind (omega (arith, front)) ∙ take-take at (at + 1) xs (omega arith) in
      let upper : drop (at + 1) w ≡ behind = drop_at (take (at + 1) xs) behind (at + 1) front in
      let sum : at + (n - at) ≡ n = omega arith in
      let rest : drop at (take n xs) ≡ behind = rw sum at (drop-take at (n - at) xs) in
      let first : take at (take n xs) ≡ take at xs = take-take at n xs place in
      let before : take at (set w at s) ≡ take at w = take-set w at s in
      let from : drop at (set w at s) ≡ s ∷ drop (at + 1) w = drop-set w at s (omega (arith, long)) in
      let both = take-append-drop at (set w at s) in
      take-set-lt (n + 1) moved at s (omega arith) ∙ ap (λ (l : List ℕ). set l at s) copied ∙ cc

  pub inserted-rest : drop (n + 1) (set moved at s) ≡ drop (n + 1) xs
  inserted-rest =
      drop-set-lt (n + 1) moved at s (omega arith)
      ∙ ap (λ (k : ℕ). drop k moved) (sym copied-end)
      ∙ drop-paste xs (at + 1) (drop at xs) (n - at) (omega arith) enough
      ∙ ap (λ (k : ℕ). drop k xs) copied-end

  pub inserted-long : length (set moved at s) ≡ length xs
  inserted-long = length-set moved at s ∙ length-paste xs (at + 1) (drop at xs) (n - at) (omega arith) enough
