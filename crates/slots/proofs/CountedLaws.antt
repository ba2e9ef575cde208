-- Laws of the walk up to the last slot that a settlement moves, where it is known how many move.
use Prim.Native.Nat.{ℕ, suc, ◌+◌, ◌-◌, ◌≤◌, ◌<◌}
use native.Mathlib.Omega.{arith}
use native.Mathlib.Nat.{le_refl}
use mathlib.Core.Path.{◌≡◌, refl, sym, ap, ◌∙◌}
use mathlib.Core.Bool.{Bool, true, false, not, ◌||◌}
use mathlib.Core.List.{List, ◌∷◌}
use lib.ListN.{get_or}
use lib.Seq.{slice, slice-cons, slice_empty}
use lib.Dec.{eqb, ltb}
use borrow.Author.Tests.{ltb-true, ltb-false}
use Rattle.lists.specs.Lists.{one, count}
use Rattle.ordering.specs.Slots.{in_words}
use Rattle.slots.specs.Settlement.{stays, moves, Counted, CountedEnd}

-- that many move from the place on
pub record Left (order : List ℕ) (to : ℕ) (words : List ℕ) (s left end : ℕ) : Type 0 where
  pub high : end ≤ to
  pub all : left ≡ count (moves words s) (slice end to order)

-- the walk has come to `end`, and wherever the places end, that many are left to meet
pub record Counting (order : List ℕ) (from moving : ℕ) (words : List ℕ) (s left end : ℕ) : Type 0 where
  pub low : from ≤ end
  pub met : (to : ℕ) → Counted order from to moving words s → Left order to words s left end

pub counting_starts : (order : List ℕ) (from moving : ℕ) (words : List ℕ) (s : ℕ) → Counting order from moving words s moving from
counting_starts order from moving words s = record {
  low = le_refl from;
  met = λ to c. record { high = c.asks.part.rising; all = c.all };
}

-- where some are left, there is a place for them
left_below : (order : List ℕ) (to : ℕ) (words : List ℕ) (s left end : ℕ) → Left order to words s left end → 1 ≤ left → end < to
left_below order to words s left end h some = go (ltb end to) refl
  where
    go : (b : Bool) → ltb end to ≡ b → end < to
    go true e = ltb-true end to e
    go false e =
        let last : end ≡ to = omega (arith, h.high, ltb-false end to e) in
        absurd (omega (
          arith,
          h.all,
          ap (λ (k : ℕ). count (moves words s) (slice k to order)) last,
          ap (count (moves words s)) (slice_empty to order),
        ))

module _ (order : List ℕ) (from moving : ℕ) (words : List ℕ) (s left end : ℕ) (h : Counting order from moving words s left end)
    (some : 1 ≤ left) where
  pub counting_below : (to : ℕ) → Counted order from to moving words s → end < to
  counting_below to c = left_below order to words s left end (h.met to c) some

  -- of those left, the one at the place and the others
  parted : (to : ℕ) → Counted order from to moving words s
      → left ≡ one (moves words s (get_or order end 0)) + count (moves words s) (slice (end + 1) to order)
  parted to c =
      let next : suc end ≡ end + 1 = omega arith in
      (h.met to c).all
      ∙ ap (count (moves words s))
      (slice-cons end to order 0 (counting_below to c) (omega (arith, c.asks.part))
      ∙ ap (λ (k : ℕ). get_or order end 0 ∷ slice k to order) next)

  module _ (b : Bool) (test : moves words s (get_or order end 0) ≡ b) where
    -- one that moves is one of those left
    pub counting_some : (to : ℕ) → Counted order from to moving words s → one b ≤ left
    counting_some to c = omega (arith, parted to c, ap one test)

    pub counting_on : Counting order from moving words s (left - one b) (end + 1)
    counting_on = record {
      low = omega (arith, h.low);
      met = λ to c. record {
        high = omega (arith, counting_below to c);
        all = omega (arith, parted to c, ap one test);
      };
    }

pub counting_ends : (order : List ℕ) (from moving : ℕ) (words : List ℕ) (s left end : ℕ) → Counting order from moving words s left end
    → left ≡ 0 → CountedEnd order from moving words s end
counting_ends order from moving words s left end h none = record {
  low = h.low;
  end = λ to c. record { inside = (h.met to c).high; behind = sym (h.met to c).all ∙ none };
}

-- a slot moves by the test of a turn
pub moves_tested : (words : List ℕ) (s t : ℕ) (named : Bool) → named ≡ in_words words t → moves words s t ≡ (named || eqb s t)
unfolding stays
moves_tested words s t named e = go (in_words words t) (eqb s t) named e
  where
    go : (a b c : Bool) → c ≡ a → not (not (a || b)) ≡ (c || b)
    go true b c e = sym (ap (λ (d : Bool). d || b) e)
    go false true c e = sym (ap (λ (d : Bool). d || true) e)
    go false false c e = sym (ap (λ (d : Bool). d || false) e)
