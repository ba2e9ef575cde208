-- Laws of n registers from one on: their list (`registers_from`), the first of them that is held (`first_held`), and all of them set to one
-- value.
use Prim.{tt}
use Prim.Native.Nat.{ℕ, zero, suc, ◌+◌, ◌-◌, ◌≤◌, ◌<◌}
use native.Mathlib.Decide.{ℕ_discrete}
use native.Mathlib.Numerals.{add-one}
use native.Mathlib.Omega.{arith}
use mathlib.Core.Path.{◌≡◌, refl, sym, ap, ◌∙◌}
use mathlib.Core.Logic.{◌≢◌}
use mathlib.Core.Bool.{Bool, true, false, ◌&&◌}
use mathlib.Core.List.{List}
use lib.ListN.{length, get_or, set, replicate}
use lib.Seq.{get_or-set_same, get_or-set_other, lt-length-set, sets}
use lib.Dec.{ltb, eqb}
use borrow.Author.Tests.{ltb-true, ltb-false, eqb-true, eqb-false, ne_eqb}
use Rattle.lists.specs.Places.{All}
use Rattle.effects.specs.Effect.{unless_zero, first_held}
use Rattle.effects.specs.Touched.{registers_from}

-- a register from k on is k itself or one above it
first_or_above : {P : Type 0} (k j : ℕ) → k ≤ j → (k ≡ j → P) → (k < j → P) → P
first_or_above {P} k j low first above = go (ltb k j) refl
  where
    go : (t : Bool) → ltb k j ≡ t → P
    go true e = above (ltb-true k j e)
    go false e = first (omega (arith, ltb-false k j e))

-- ---- their list

module _ (P : ℕ → Type 0) where
  pub all_from : (n i : ℕ) → ((k : ℕ) → i ≤ k → k < i + n → P k) → All P (registers_from n i)
  unfolding registers_from
  all_from zero i each = tt
  all_from (suc n) i each =
      (each i (omega arith) (omega arith), all_from n (suc i) (λ k low high. each k (omega arith) (omega arith)))

  pub each_from : (n i : ℕ) → All P (registers_from n i) → (k : ℕ) → i ≤ k → k < i + n → P k
  unfolding registers_from
  each_from zero i all k low high = absurd (omega arith)
  each_from (suc n) i all k low high =
      first_or_above i k low (λ here. rw (← here) all.0) (λ above. each_from n (suc i) all.1 k above (omega arith))

-- ---- the first one held

held_first : (n k : ℕ) (b : List ℕ) → get_or b k 0 ≢ 0 → first_held (suc n) k b ≡ get_or b k 0
unfolding first_held
held_first n k b held = simp (ne_eqb _ _ held)

held-later : (n k : ℕ) (b : List ℕ) → get_or b k 0 ≡ 0 → first_held (suc n) k b ≡ first_held n (suc k) b
unfolding first_held
held-later n k b free = simp free

pub held_one : (k : ℕ) (b : List ℕ) → first_held 1 k b ≡ get_or b k 0
unfolding first_held
held_one k b = go (ℕ_discrete (get_or b k 0) 0)
  where
    go : Dec (get_or b k 0 ≡ 0) → first_held 1 k b ≡ get_or b k 0
    go (yes free) = held-later 0 k b free ∙ sym free
    go (no held) = held_first 0 k b held

both_zero : (v w : ℕ) → unless_zero v w ≡ 0 → (v ≡ 0) × (w ≡ 0)
both_zero v w e = go (eqb v 0) refl
  where
    go : (t : Bool) → eqb v 0 ≡ t → (v ≡ 0) × (w ≡ 0)
    go true f = (eqb-true v 0 f, simp f at e)
    go false f = absurd (eqb-false v 0 f (simp f at e))

pub all_zero_lem : (n k : ℕ) (b : List ℕ) → first_held n k b ≡ 0 → (j : ℕ) → k ≤ j → j < k + n → get_or b j 0 ≡ 0
unfolding first_held
all_zero_lem zero k b e j low high = absurd (omega arith)
all_zero_lem (suc n) k b e j low high =
    let zeros = both_zero (get_or b k 0) (first_held n (suc k) b) e in
    first_or_above k j low
    (λ here. ap (λ i. get_or b i 0) (sym here) ∙ zeros.0)
    (λ above. all_zero_lem n (suc k) b zeros.1 j above (omega arith))

pub none_held : (n k : ℕ) (b : List ℕ) → ((j : ℕ) → k ≤ j → j < k + n → get_or b j 0 ≡ 0) → first_held n k b ≡ 0
unfolding first_held
none_held zero k b free = refl
none_held (suc n) k b free =
    held-later n k b (free k (omega arith) (omega arith))
    ∙ none_held n (suc k) b (λ j low high. free j (omega arith) (omega arith))

pub lowest-held : (n k : ℕ) (b : List ℕ) (j : ℕ) → k ≤ j → j < k + n → get_or b j 0 ≢ 0 → ((i : ℕ) → k ≤ i → i < j → get_or b i 0 ≡ 0)
    → first_held n k b ≡ get_or b j 0
lowest-held zero k b j low high held free = absurd (omega arith)
lowest-held (suc n) k b j low high held free =
    first_or_above k j low
    (λ here. rw here (held_first n j b held))
    (λ above.
    held-later n k b (free k (omega arith) above)
    ∙ lowest-held n (suc k) b j above (omega arith) held (λ i from to. free i (omega arith) to))

-- ---- all of them set

pub set_outside : (n i v : ℕ) (b : List ℕ) (k : ℕ) → (i ≤ k → k < i + n → ⊥) → get_or (sets b i (replicate n v)) k 0 ≡ get_or b k 0
set_outside zero i v b k apart = refl
set_outside (suc n) i v b k apart =
    set_outside n (suc i) v (set b i v) k (λ low high. apart (omega arith) (omega arith))
    ∙ get_or-set_other b i k v 0 (λ e. apart (omega (arith, e)) (omega (arith, e)))

pub set_inside : (n i v : ℕ) (b : List ℕ) (k : ℕ) → i ≤ k → k < i + n → k < length b → get_or (sets b i (replicate n v)) k 0 ≡ v
set_inside zero i v b k low high inside = absurd (omega arith)
set_inside (suc n) i v b k low high inside =
    first_or_above i k low
    (λ here.
    set_outside n (suc i) v (set b i v) k (λ from to. omega arith)
    ∙ rw here (get_or-set_same b k v 0 inside))
    (λ above. set_inside n (suc i) v (set b i v) k above (omega arith) (lt-length-set b i v inside))

-- ---- one register after the other, up to an end

module _ (end k : ℕ) (b : List ℕ) where
  one_more : k < end → end - k ≡ suc (end - (k + 1))
  one_more more = omega arith

  no_more : end ≤ k → end - k ≡ 0
  no_more done = omega arith

  -- w is what those before k gave: where it is 0 and k is one of them, a register more is looked at, otherwise w is what all of them give
  pub held_on : (w : ℕ) → w ≡ 0 → k < end
      → unless_zero w (first_held (end - k) k b) ≡ unless_zero (get_or b k 0) (first_held (end - (k + 1)) (k + 1) b)
  unfolding first_held
  held_on w none more = rw (none, one_more more, add-one) refl

  pub held-end : (w : ℕ) → eqb w 0 && ltb k end ≡ false → unless_zero w (first_held (end - k) k b) ≡ w
  unfolding first_held
  held-end w e = go (eqb w 0) refl
    where
      go : (t : Bool) → eqb w 0 ≡ t → unless_zero w (first_held (end - k) k b) ≡ w
      go true f =
          let done : ltb k end ≡ false = ap (λ t. t && ltb k end) (sym f) ∙ e in
          simp f (rw (no_more (ltb-false k end done)) (sym (eqb-true w 0 f)))
      go false f = simp f

  -- a register more is set, or none is left
  pub set_on : (v : ℕ) → k < end → sets b k (replicate (end - k) v) ≡ sets (set b k v) (k + 1) (replicate (end - (k + 1)) v)
  set_on v more = rw (one_more more, add-one) refl

  pub set-end : (v : ℕ) → end ≤ k → sets b k (replicate (end - k) v) ≡ b
  set-end v done = rw (no_more done) refl
