-- Laws of the places that a settlement moves: a settlement of the places up to the last of them is the settlement of all.
use Prim.Native.Nat.{ℕ, ◌+◌, ◌-◌, ◌≤◌, ◌<◌}
use native.Mathlib.Omega.{arith}
use mathlib.Core.Path.{◌≡◌, refl, sym, ap, ◌∙◌}
use mathlib.Core.Bool.{Bool, true, false, not, ◌||◌}
use mathlib.Core.List.{List, ◌∷◌, ◌++◌, append_assoc, append-nil}
use lib.ListN.{length, take, drop}
use lib.Seq.{slice, drop-drop, take_at, length-slice}
use lib.Dec.{eqb, ltb}
use borrow.Author.Tests.{ltb-true, ltb-false}
use Rattle.lists.specs.Lists.{count, keep}
use Rattle.lists.proofs.AllLaws.{all_take}
use Rattle.lists.proofs.ListLaws.{count-append, count-drop, count_weaker, keep_append, keep-nothing, keep_everything}
use Rattle.lists.proofs.PlaceLaws.{drop_further, take_slice, slice_split, slice_further}
use Rattle.ordering.specs.Slots.{IsSlot, in_words}
use Rattle.slots.specs.Settlement.{stays, moves, settled, SettlementAsks, Settled}

-- ---- a settlement of the places up to e, from which on none moves

-- one that is named moves, and so does s itself
named-moves : (words : List ℕ) (s t : ℕ) → in_words words t ≡ true → moves words s t ≡ true
unfolding stays
named-moves words s t e = rw e

slot-moves : (words : List ℕ) (s t : ℕ) → eqb s t ≡ true → moves words s t ≡ true
unfolding stays
slot-moves words s t e = go (in_words words t) e
  where
    go : (b : Bool) {c : Bool} → c ≡ true → not (not (b || c)) ≡ true
    go true f = refl
    go false f = rw f

module _ (xs : List ℕ) (from to : ℕ) (words : List ℕ) (s : ℕ) (h : SettlementAsks xs from to words s)
    (e : ℕ) (high : e ≤ to) (behind : count (moves words s) (slice e to xs) ≡ 0) where
  -- s itself stands before e
  pub slot-before : from < e
  slot-before = go (ltb from e) refl
    where
      go : (b : Bool) → ltb from e ≡ b → from < e
      go true t = ltb-true from e t
      go false t =
          let low : e ≤ from = ltb-false from e t in
          let sum : e + (from - e) ≡ from = omega arith in
          let part : drop (from - e) (slice e to xs) ≡ slice from to xs =
          drop-drop (from - e) e (take to xs) ∙ ap (λ (k : ℕ). drop k (take to xs)) sum in
          absurd (omega (
            arith,
            h.once,
            behind,
            count_weaker (eqb s) (moves words s) (slot-moves words s) (slice from to xs),
            ap (count (moves words s)) part,
            count-drop (moves words s) (from - e) (slice e to xs),
          ))

  -- what is settled are the places up to e and then the others
  split : slice from to xs ≡ slice from e xs ++ slice e to xs
  split = slice_split e to high from xs (omega (arith, slot-before)) (omega (arith, h.part))

  -- those named all stand before e
  named-before : keep (in_words words) (slice from to xs) ≡ keep (in_words words) (slice from e xs)
  named-before =
      ap (keep (in_words words)) split ∙ keep_append (in_words words) (slice from e xs) (slice e to xs)
      ∙ ap (λ (r : List ℕ). keep (in_words words) (slice from e xs) ++ r)
      (keep-nothing (in_words words) (slice e to xs)
      (omega (arith, behind, count_weaker (in_words words) (moves words s) (named-moves words s) (slice e to xs))))
      ∙ append-nil (keep (in_words words) (slice from e xs))

  -- those that stay are those before e that do, and then the others
  staying-before : keep (stays words s) (slice from to xs) ≡ keep (stays words s) (slice from e xs) ++ slice e to xs
  staying-before =
      ap (keep (stays words s)) split ∙ keep_append (stays words s) (slice from e xs) (slice e to xs)
      ∙ ap (λ (r : List ℕ). keep (stays words s) (slice from e xs) ++ r) (keep_everything (stays words s) (slice e to xs) behind)

  -- the places up to e are the first of those that are settled
  front : take (e - from) (slice from to xs) ≡ slice from e xs
  front =
      ap (take (e - from)) split
      ∙ take_at (slice from e xs) (slice e to xs) (e - from) (length-slice from e xs (omega (arith, h.part)))

  -- they are as a settlement asks
  pub asked-before : SettlementAsks xs from e words s
  asked-before = record {
    part = record {
      rising = omega (arith, slot-before);
      inside = omega (arith, h.part);
      long = h.part.long;
      slots = rw front at (all_take IsSlot (e - from) (slice from to xs) h.part.slots);
    };
    once =
        omega (
          arith,
          h.once,
          ap (count (eqb s)) split,
          count-append (eqb s) (slice from e xs) (slice e to xs),
          behind,
          count_weaker (eqb s) (moves words s) (slot-moves words s) (slice e to xs),
        );
    apart = h.apart;
  }

  -- the others stand behind them afterwards
  settled_before : settled words s (slice from to xs) ≡ settled words s (slice from e xs) ++ slice e to xs
  unfolding settled
  settled_before =
      ap (λ (l : List ℕ). l ++ s ∷ keep (stays words s) (slice from to xs)) named-before
      ∙ ap (λ (l : List ℕ). keep (in_words words) (slice from e xs) ++ s ∷ l) staying-before
      ∙ sym (append_assoc (keep (in_words words) (slice from e xs)) (s ∷ keep (stays words s) (slice from e xs)) (slice e to xs))

  -- so their settlement is the settlement of all
  pub settled_further : (ys : List ℕ) (r k : ℕ) → Settled xs from e words s ys r k → Settled xs from to words s ys r k
  settled_further ys r k d = record {
    committed = d.committed ∙ ap (λ (l : List ℕ). from + length l + 1) (sym named-before);
    first =
        take_slice e to high ys
        ∙ ap (λ (l : List ℕ). take e ys ++ l)
        (slice_further e to high ys xs (omega (arith, h.part, d.long)) (omega (arith, h.part)) d.rest)
        ∙ ap (λ (l : List ℕ). l ++ slice e to xs) d.first
        ∙ append_assoc (take from xs) (settled words s (slice from e xs)) (slice e to xs)
        ∙ ap (λ (l : List ℕ). take from xs ++ l) (sym settled_before);
    rest = drop_further e to ys xs high d.rest;
    long = d.long;
    moved = d.moved;
    within = omega (arith, d.within);
    unmoved = d.unmoved;
  }
