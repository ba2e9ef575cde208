-- Laws of tables: how long one is, what stands at a place, one of zeros, and the words of one context in the table of all of them.
use Prim.Native.Nat.{ℕ, zero, suc, ◌+◌, ◌*◌, ◌/◌, ◌%◌, ◌<◌}
use native.Mathlib.Omega.{arith}
use mathlib.Core.Path.{◌≡◌, refl, sym, ap, ◌∙◌}
use mathlib.Core.List.{List, ◌∷◌}
use lib.ListN.{length, get_or, replicate}
use lib.Seq.{slice, length-slice, get_or-drop, get_or-take, ext_get_or}
use Rattle.numbers.specs.Numbers.{most_panels}
use Rattle.ordering.specs.Slots.{IsSlot}
use Rattle.store.specs.Requests.{most_words}
use Rattle.existence.specs.Memory.{table}

pub table-length : (n : ℕ) (f : ℕ → ℕ) → length (table n f) ≡ n
unfolding table
table-length zero f = refl
table-length (suc n) f = ap suc (table-length n (λ k. f (suc k)))

pub table_at : (n : ℕ) (f : ℕ → ℕ) (k : ℕ) → k < n → get_or (table n f) k 0 ≡ f k
unfolding table
table_at zero f k h = absurd (omega arith)
table_at (suc n) f zero h = refl
table_at (suc n) f (suc k) h = table_at n (λ j. f (suc j)) k (omega arith)

pub table_zeros : (n : ℕ) (f : ℕ → ℕ) → ((k : ℕ) → f k ≡ 0) → table n f ≡ replicate n 0
unfolding table
table_zeros zero f h = refl
table_zeros (suc n) f h =
    let first = h 0 in
    let others = table_zeros n (λ k. f (suc k)) (λ k. h (suc k)) in
    λ i. first i ∷ others i

-- of lists of so many words by slot, one after the other
module _ (words : ℕ → List ℕ) where
  abbrev pub word_at : ℕ → ℕ
  word_at k = get_or (words (k / most_panels)) (k % most_panels) 0

  pub words_at_lem : (slot : ℕ) → IsSlot slot → length (words slot) ≡ most_panels
      → slice (most_panels * slot) (most_panels * slot + most_panels) (table most_words word_at) ≡ words slot
  words_at_lem slot h long =
      ext_get_or 0 _ _ (part_length ∙ sym long) (λ i below. each i (omega (arith, part_length)))
    where
      part_length : length (slice (most_panels * slot) (most_panels * slot + most_panels) (table most_words word_at)) ≡ most_panels
      part_length =
          length-slice (most_panels * slot) (most_panels * slot + most_panels) (table most_words word_at)
          (omega (arith, table-length most_words word_at))
          ∙ omega arith

      each : (i : ℕ) → i < most_panels
          → get_or (slice (most_panels * slot) (most_panels * slot + most_panels) (table most_words word_at)) i 0 ≡ get_or (words slot) i 0
      each i below =
          let by_slot : (most_panels * slot + i) / most_panels ≡ slot = omega arith in
          let in-slot : (most_panels * slot + i) % most_panels ≡ i = omega arith in
          get_or-drop (most_panels * slot) _ i 0
          ∙ get_or-take (most_panels * slot + most_panels) (table most_words word_at) (most_panels * slot + i) 0 (omega arith)
          ∙ table_at most_words word_at (most_panels * slot + i) (omega arith)
          ∙ ap (λ (t : ℕ). get_or (words t) ((most_panels * slot + i) % most_panels) 0) by_slot
          ∙ ap (λ (k : ℕ). get_or (words slot) k 0) in-slot
