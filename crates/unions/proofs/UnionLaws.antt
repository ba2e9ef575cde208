-- Laws of the union of two sets in words: a turn, and the end.
use Prim.Native.Nat.{ℕ, ◌+◌, ◌/◌, ◌%◌, ◌≤◌, ◌<◌}
use native.Mathlib.Omega.{arith}
use mathlib.Core.Path.{◌≡◌, refl, ap, ◌∙◌}
use mathlib.Core.Bool.{Bool, true, false}
use mathlib.Core.List.{List}
use lib.ListN.{length, get_or, set, length-set}
use lib.Seq.{get_or-set_same, get_or-set_other}
use lib.Bits.{bit_or}
use lib.Dec.{eqb}
use borrow.Author.Tests.{eqb-true, eqb-false}
use Rattle.numbers.specs.Numbers.{most_panels, most_events}
use Rattle.sets.specs.Sets.{bit}
use Rattle.sets.proofs.BitLaws.{bit_or_lem}
use Rattle.ordering.specs.Slots.{in_words}
use Rattle.unions.specs.Union.{United}

-- the words before place i are united
pub record Uniting (words others ys : List ℕ) (i : ℕ) : Type 0 where
  pub high : i ≤ most_panels
  pub long : length ys ≡ most_panels
  pub below : (p : ℕ) → p < i → get_or ys p 0 ≡ bit_or (get_or words p 0) (get_or others p 0)
  pub above : (p : ℕ) → i ≤ p → get_or ys p 0 ≡ get_or words p 0

module _ (words others ys : List ℕ) (i : ℕ) (h : Uniting words others ys i) where
  pub uniting_on : i < most_panels → Uniting words others (set ys i (bit_or (get_or ys i 0) (get_or others i 0))) (i + 1)
  uniting_on more = record {
    high = omega arith;
    long = length-set ys i _ ∙ h.long;
    below = λ p low. go p low (eqb p i) refl;
    above = λ p low. get_or-set_other ys i p _ 0 (λ e. omega (arith, e)) ∙ h.above p (omega arith);
  }
    where
      go : (p : ℕ) → p < i + 1 → (b : Bool) → eqb p i ≡ b
          → get_or (set ys i (bit_or (get_or ys i 0) (get_or others i 0))) p 0 ≡ bit_or (get_or words p 0) (get_or others p 0)
      go p low true e =
          let same : p ≡ i = eqb-true p i e in
          rw same
          (get_or-set_same ys i (bit_or (get_or ys i 0) (get_or others i 0)) 0 (omega (arith, h.long))
          ∙ ap (λ (w : ℕ). bit_or w (get_or others i 0)) (h.above i (omega arith)))
      go p low false e =
          let apart = eqb-false p i e in
          get_or-set_other ys i p _ 0 apart ∙ h.below p (omega (arith, apart))

  pub uniting_ends : most_panels ≤ i → United words others ys
  unfolding in_words
  uniting_ends all = record {
    members = λ t slot.
        ap (bit (t % most_events)) (h.below (t / most_events) (omega arith)) ∙ bit_or_lem (t % most_events) _ _;
    long = h.long;
  }
