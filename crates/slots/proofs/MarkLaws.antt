-- Laws of the set of the numbers that are settled: with it `MovesAsk` is met, and after a settlement it has those settled then.
use Prim.Native.Nat.{ℕ, ◌+◌}
use native.Mathlib.Omega.{arith}
use mathlib.Core.Path.{◌≡◌, refl, sym, ap, ◌∙◌}
use mathlib.Core.Bool.{Bool, true, false, ◌||◌, cond}
use mathlib.Core.List.{List, [], ◌∷◌, ◌++◌}
use lib.ListN.{length, take}
use lib.Seq.{slice}
use lib.Dec.{eqb}
use borrow.Author.Tests.{eq-eqb, eqb-true}
use Rattle.lists.specs.Lists.{one, count, keep}
use Rattle.lists.specs.Places.{All}
use Rattle.lists.proofs.BoolLaws.{true_not_false, same_test}
use Rattle.lists.proofs.ListLaws.{one_true, one_false, one_most, count-append}
use Rattle.lists.proofs.PlaceLaws.{take_slice}
use Rattle.lists.proofs.TallyLaws.{count-keep-number}
use Rattle.ordering.specs.Slots.{most_slots, IsSlot, InOrder, in_words}
use Rattle.slots.specs.Settlement.{SettlementAsks, Settled, MovesAsk}
use Rattle.slots.specs.Marks.{Marks, Marked}
use Rattle.slots.proofs.SettlementLaws.{committed-settled}

-- of a list of slots in which none that passes stands, none passes
none_passes : (p : ℕ → Bool) (l : List ℕ) → All IsSlot l → ((t : ℕ) → IsSlot t → p t ≡ true → count (eqb t) l ≡ 0) → count p l ≡ 0
none_passes p [] slots none = refl
none_passes p (x ∷ xs) slots none =
    go (p x) refl (none_passes p xs slots.1 (λ t h e. omega (arith, none t h e)))
  where
    go : (b : Bool) → p x ≡ b → count p xs ≡ 0 → one b + count p xs ≡ 0
    go true e h = absurd (omega (arith, none x slots.0 e, one_true (eq-eqb x x refl)))
    go false e h = omega (arith, h)

-- ---- before a settlement

module _ (xs : List ℕ) (from to : ℕ) (words settled_words held : List ℕ) (s : ℕ) (h : SettlementAsks xs from to words s)
    (settled : Marks xs from settled_words) (all : Marks xs to held)
    (named : (t : ℕ) → IsSlot t → in_words words t ≡ true → in_words held t ≡ true) where
  -- those committed and those tentative
  parted : (t : ℕ) → IsSlot t → one (in_words settled_words t) + count (eqb t) (slice from to xs) ≡ one (in_words held t)
  parted t i =
      omega (
        arith,
        settled.marked t i,
        all.marked t i,
        ap (count (eqb t)) (take_slice from to h.part.rising xs),
        count-append (eqb t) (take from xs) (slice from to xs),
      )

  pub moves_asked : (clocks : List ℕ) → length clocks ≡ most_slots → InOrder clocks xs from to
      → MovesAsk xs clocks from to words settled_words s
  moves_asked clocks long rising = record {
    asks = h;
    clocks_long = long;
    rising = rising;
    clear = none_passes (in_words settled_words) (slice from to xs) h.part.slots
        (λ t i e. omega (arith, parted t i, one_true e, one_most (in_words held t)));
    there = λ t i e f. omega (arith, parted t i, one_false f, one_true (named t i e));
  }

  -- ---- and after it

  module _ (ys : List ℕ) (r e : ℕ) (d : Settled xs from to words s ys r e) (after : List ℕ)
      (marked : Marked settled_words words s after) where
    counted : (t : ℕ) → count (eqb t) (take r ys)
        ≡ count (eqb t) (take from xs) + (cond (in_words words t) (count (eqb t) (slice from to xs)) 0 + one (eqb t s))
    counted t =
        let l = slice from to xs in
        omega (
          arith,
          ap (count (eqb t)) (committed-settled xs from to words s ys r e h d),
          count-append (eqb t) (take from xs) (keep (in_words words) l ++ (s ∷ [])),
          count-append (eqb t) (keep (in_words words) l) (s ∷ []),
          count-keep-number (in_words words) t l,
        )

    turned : (t : ℕ) → eqb t s ≡ eqb s t
    turned t = same_test _ _ (λ e. eq-eqb s t (sym (eqb-true t s e))) (λ e. eq-eqb t s (sym (eqb-true s t e)))

    -- s itself stands among those tentative
    own : (t : ℕ) → eqb s t ≡ true → count (eqb t) (slice from to xs) ≡ 1
    own t f = ap (λ (u : ℕ). count (eqb u) (slice from to xs)) (sym (eqb-true s t f)) ∙ h.once

    pub marks-after : Marks ys r after
    marks-after = record {
      marked = λ t i.
          counted t
          ∙ go t i (in_words settled_words t) refl (in_words words t) refl (eqb s t) refl
          ∙ ap one (sym (marked.members t i));
    }
      where
        go : (t : ℕ) → IsSlot t → (a : Bool) → in_words settled_words t ≡ a → (b : Bool) → in_words words t ≡ b → (c : Bool) → eqb s t ≡ c
            → count (eqb t) (take from xs) + (cond b (count (eqb t) (slice from to xs)) 0 + one (eqb t s)) ≡ one (a || (b || c))
        go t i true k b n true f = absurd (omega (arith, parted t i, one_true k, own t f, one_most (in_words held t)))
        go t i false k true n true f = true_not_false n (ap (in_words words) (sym (eqb-true s t f)) ∙ h.apart)
        go t i false k false n true f = omega (arith, settled.marked t i, one_false k, one_true (turned t ∙ f))
        go t i true k true n false f =
            omega (arith, settled.marked t i, one_true k, parted t i, one_true (named t i n), one_false (turned t ∙ f))
        go t i false k true n false f =
            omega (arith, settled.marked t i, one_false k, parted t i, one_true (named t i n), one_false (turned t ∙ f))
        go t i true k false n false f = omega (arith, settled.marked t i, one_true k, one_false (turned t ∙ f))
        go t i false k false n false f = omega (arith, settled.marked t i, one_false k, one_false (turned t ∙ f))
