-- Laws of the place of a request that stands in the order itself: it is the one behind it.
use Prim.Native.Nat.{ℕ, ◌+◌, ◌≤◌, ◌<◌}
use native.Mathlib.Omega.{arith}
use native.Mathlib.Nat.{le_refl}
use mathlib.Core.Path.{◌≡◌, refl, sym, ap, ◌∙◌}
use mathlib.Core.Bool.{Bool, true, false}
use mathlib.Core.List.{List}
use lib.ListN.{get_or}
use lib.Dec.{eqb, ltb}
use borrow.Author.Tests.{eqb-true, eqb-false, ltb-true, ltb-false, le-ltb}
use Rattle.lists.proofs.BoolLaws.{true_not_false}
use Rattle.lists.proofs.HalvesLaws.{halving_ends}
use Rattle.numbers.proofs.LexicographicLaws.{lexicographic_equal, lexicographic_transitive}
use Rattle.ordering.specs.Slots.{OrderAsks, comes_before, InOrder}
use Rattle.ordering.specs.Insertion.{PlaceAsks, place_for}

module _ (clocks : List ℕ) where
  -- a request is not before itself
  not_itself : (s : ℕ) → comes_before clocks (get_or clocks s 0) s s ≡ false
  unfolding comes_before
  not_itself s = lexicographic_equal (get_or clocks s 0) (get_or clocks s 0) (ltb s s) refl ∙ le-ltb s s (le_refl s)

  -- were each of two requests before the other, one would be before itself
  before_itself : (s t : ℕ) → comes_before clocks (get_or clocks t 0) t s ≡ true → comes_before clocks (get_or clocks s 0) s t ≡ true
      → comes_before clocks (get_or clocks s 0) s s ≡ true
  unfolding comes_before
  before_itself s t h e =
      lexicographic_transitive (get_or clocks s 0) (get_or clocks t 0) (get_or clocks s 0) (ltb s t) (ltb t s) (ltb s s)
      (λ f g. absurd (omega (arith, ltb-true s t f, ltb-true t s g))) e h

  -- so at most one of them is
  not_both : (s t : ℕ) → comes_before clocks (get_or clocks t 0) t s ≡ true → comes_before clocks (get_or clocks s 0) s t ≡ false
  not_both s t h = go (comes_before clocks (get_or clocks s 0) s t) refl
    where
      go : (b : Bool) → comes_before clocks (get_or clocks s 0) s t ≡ b → b ≡ false
      go true e = true_not_false (before_itself s t h e) (not_itself s)
      go false e = refl

-- ---- the place of what stands at place k

module _ (clocks order : List ℕ) (from to : ℕ) (asks : OrderAsks clocks order from to) (rising : InOrder clocks order from to)
    (k s : ℕ) (low : from ≤ k) (high : k < to) (there : get_or order k 0 ≡ s) where
  abbrev before : ℕ → Bool
  before t = comes_before clocks (get_or clocks s 0) s t

  -- it comes before those behind it
  before-later : (j : ℕ) → k < j → j < to → before (get_or order j 0) ≡ true
  before-later j up end =
      ap (λ (t : ℕ). comes_before clocks (get_or clocks t 0) t (get_or order j 0)) (sym there) ∙ rising.rising k j low up end

  -- and not before itself and those before it
  not-before : (i : ℕ) → from ≤ i → i < k + 1 → before (get_or order i 0) ≡ false
  not-before i start up = go (eqb i k) refl
    where
      go : (b : Bool) → eqb i k ≡ b → before (get_or order i 0) ≡ false
      go true e = ap before (ap (λ (n : ℕ). get_or order n 0) (eqb-true i k e) ∙ there) ∙ not_itself clocks s
      go false e =
          not_both clocks s (get_or order i 0)
          (ap (comes_before clocks (get_or clocks (get_or order i 0) 0) (get_or order i 0)) (sym there)
          ∙ rising.rising i k start (omega (arith, eqb-false i k e)) high)

  -- so it may be searched for
  pub own_place_asks : PlaceAsks clocks order from to (get_or clocks s 0) s
  own_place_asks = record { order = asks; split = λ i j start up end e. go i j start up end e (ltb k i) refl }
    where
      go : (i j : ℕ) → from ≤ i → i ≤ j → j < to → before (get_or order i 0) ≡ true → (b : Bool) → ltb k i ≡ b
          → before (get_or order j 0) ≡ true
      go i j start up end e true f = before-later j (omega (arith, ltb-true k i f)) end
      go i j start up end e false f = true_not_false e (not-before i start (omega (arith, ltb-false k i f)))

  -- so its place is the one behind it
  pub own_place : place_for clocks order from to (get_or clocks s 0) s ≡ k + 1
  own_place =
      sym (halving_ends before order 0 from to (k + 1) (k + 1)
      (record {
        first = omega arith;
        rising = le_refl (k + 1);
        last = omega arith;
        below = not-before;
        above = λ j up end. before-later j (omega arith) end;
      })
      (le_refl (k + 1)) (omega (arith, asks.part)))
