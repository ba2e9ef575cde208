-- Laws of lists where all behind one that passes a test pass too: the search by halves for the first that passes, and those that pass.
use Prim.Native.Nat.{ℕ, suc, zero, ◌+◌, ◌-◌, ◌≤◌, ◌<◌}
use native.Mathlib.Omega.{arith}
use native.Mathlib.Nat.{add-zero}
use native.Mathlib.Numerals.{add-one}
use mathlib.Core.Path.{◌≡◌, refl, sym, ap, ◌∙◌}
use mathlib.Core.Bool.{Bool, true, false, not}
use mathlib.Core.List.{List, ◌∷◌}
use lib.ListN.{length, get_or}
use lib.Seq.{slice, slice-cons, slice_empty}
use lib.Dec.{ltb}
use borrow.Author.Tests.{ltb-true, ltb-false}
use Rattle.lists.specs.Lists.{keep}
use Rattle.lists.specs.Places.{leading}
use Rattle.lists.proofs.BoolLaws.{true_not_false}
use Rattle.lists.proofs.StepLaws.{leading_on, leading_stops, leading_end, keep_taken, keep-passed, keep-end}

-- the first place of from..to whose element passes lies in low..high: below low none passes, from high on all do
pub record Halving {A : Type 0} (p : A → Bool) (l : List A) (d : A) (from to low high : ℕ) : Type 0 where
  pub first : from ≤ low
  pub rising : low ≤ high
  pub last : high ≤ to
  pub below : (i : ℕ) → from ≤ i → i < low → p (get_or l i d) ≡ false
  pub above : (j : ℕ) → high ≤ j → j < to → p (get_or l j d) ≡ true

module _ {A : Type 0} (p : A → Bool) (l : List A) (d : A) (from to : ℕ) where
  pub halving_starts : from ≤ to → Halving p l d from to from to
  halving_starts h = record {
    first = omega arith;
    rising = h;
    last = omega arith;
    below = λ i low high. absurd (omega arith);
    above = λ j low high. absurd (omega arith);
  }

  module _ (split : (i j : ℕ) → from ≤ i → i ≤ j → j < to → p (get_or l i d) ≡ true → p (get_or l j d) ≡ true)
      (low high : ℕ) (h : Halving p l d from to low high) (middle : ℕ) (lower : low ≤ middle) (higher : middle < high) where
    pub halving-passed : p (get_or l middle d) ≡ true → Halving p l d from to low middle
    halving-passed e = record {
      first = h.first;
      rising = lower;
      last = omega (arith, h.last);
      below = h.below;
      above = λ j a b. split middle j (omega (arith, h.first)) a b e;
    }

    pub halving_failed : p (get_or l middle d) ≡ false → Halving p l d from to (middle + 1) high
    halving_failed e = record {
      first = omega (arith, h.first);
      rising = omega arith;
      last = h.last;
      below = λ i a b. fails i a b (p (get_or l i d)) refl;
      above = h.above;
    }
      where
        fails : (i : ℕ) → from ≤ i → i < middle + 1 → (b : Bool) → p (get_or l i d) ≡ b → b ≡ false
        fails i a b true f = true_not_false (split i middle a (omega arith) (omega (arith, h.last)) f) e
        fails i a b false f = refl

-- where the places from..k pass a test and k, if it is one of from..to, fails it, those at the front that pass end at k
module _ {A : Type 0} (p : A → Bool) (l : List A) (d : A) (k to : ℕ) (inside : to ≤ length l) (last : k ≤ to)
    (stops : k < to → p (get_or l k d) ≡ false) where
  leading_there : (b : Bool) → ltb k to ≡ b → leading p (slice k to l) ≡ 0
  leading_there true e = let more = ltb-true k to e in leading_stops p l d k to more inside (stops more)
  leading_there false e =
      let end : k ≡ to = omega (arith, ltb-false k to e) in
      rw end (leading_end p l to)

  leading_upto : (n from : ℕ) → from + n ≡ k → ((i : ℕ) → from ≤ i → i < k → p (get_or l i d) ≡ true)
      → from + leading p (slice from to l) ≡ k
  leading_upto zero from e passes =
      let here : from ≡ k = omega arith in
      omega (arith, ap (λ (i : ℕ). leading p (slice i to l)) here, leading_there (ltb k to) refl)
  leading_upto (suc n) from e passes =
      omega (
        arith,
        leading_on p l d from to (omega arith) inside (passes from (omega arith) (omega arith)),
        leading_upto n (from + 1) (omega arith) (λ i a b. passes i (omega arith) b),
      )

-- where low and high meet is the place behind those at the front that fail
pub halving_ends : {A : Type 0} (p : A → Bool) (l : List A) (d : A) (from to low high : ℕ) → Halving p l d from to low high
    → high ≤ low → to ≤ length l → low ≡ from + leading (λ x. not (p x)) (slice from to l)
halving_ends p l d from to low high h met inside =
    sym (leading_upto (λ x. not (p x)) l d low to inside (omega (arith, h))
    (λ more. ap not (h.above low met more))
    (low - from) from (omega (arith, h.first)) (λ i a b. ap not (h.below i a b)))

-- ---- those that pass

module _ {A : Type 0} (p : A → Bool) (l : List A) (d : A) (to : ℕ) (inside : to ≤ length l) where
  -- where all of from..to pass, they are kept
  all_pass : (n from : ℕ) → from + n ≡ to → ((i : ℕ) → from ≤ i → i < to → p (get_or l i d) ≡ true)
      → keep p (slice from to l) ≡ slice from to l
  all_pass zero from e passes =
      let end : from ≡ to = omega arith in
      rw end (keep-end p l to ∙ sym (slice_empty to l))
  all_pass (suc n) from e passes =
      keep_taken p l d from to (omega arith) inside (passes from (omega arith) (omega arith))
      ∙ ap (λ (r : List A). get_or l from d ∷ r) (all_pass n (from + 1) (omega arith) (λ i low high. passes i (omega arith) high))
      ∙ rw (add-one from) (sym (slice-cons from to l d (omega arith) inside))

  -- those of from..to that pass are those behind the ones at the front that fail
  pub passing_behind : (n from : ℕ) → from + n ≡ to
      → ((i j : ℕ) → from ≤ i → i ≤ j → j < to → p (get_or l i d) ≡ true → p (get_or l j d) ≡ true)
      → keep p (slice from to l) ≡ slice (from + leading (λ x. not (p x)) (slice from to l)) to l
  passing_behind zero from e split =
      let end : from ≡ to = omega arith in
      rw (end, leading_end (λ x. not (p x)) l to, add-zero to) (keep-end p l to ∙ sym (slice_empty to l))
  passing_behind (suc n) from e split =
      go (p (get_or l from d)) refl (passing_behind n (from + 1) (omega arith) (λ i j low. split i j (omega arith)))
    where
      go : (b : Bool) → p (get_or l from d) ≡ b
          → keep p (slice (from + 1) to l) ≡ slice (from + 1 + leading (λ x. not (p x)) (slice (from + 1) to l)) to l
          → keep p (slice from to l) ≡ slice (from + leading (λ x. not (p x)) (slice from to l)) to l
      go true f further =
          let none : from + leading (λ x. not (p x)) (slice from to l) ≡ from =
          omega (arith, leading_stops (λ x. not (p x)) l d from to (omega arith) inside (ap not f)) in
          rw none (all_pass (suc n) from e (λ i low high. split from i (omega arith) low high f))
      go false f further =
          let more : from + leading (λ x. not (p x)) (slice from to l) ≡ from + 1 + leading (λ x. not (p x)) (slice (from + 1) to l) =
          omega (arith, leading_on (λ x. not (p x)) l d from to (omega arith) inside (ap not f)) in
          rw more (keep-passed p l d from to (omega arith) inside f ∙ further)
