-- The law of a settlement that moves a slot alone: where its context names none of the tentative slots, its move to their front is its
-- settlement.
use Prim.Native.Nat.{ℕ, suc, ◌+◌, ◌-◌, ◌≤◌}
use native.Mathlib.Omega.{arith}
use mathlib.Core.Path.{◌≡◌, refl, sym, ap, ◌∙◌}
use mathlib.Core.Bool.{Bool, true, false, not, ◌||◌}
use mathlib.Core.List.{List, ◌∷◌, ◌++◌, append_assoc}
use lib.ListN.{take, get_or}
use lib.Seq.{slice, slice-cons}
use lib.Dec.{eqb, ltb}
use borrow.Author.Tests.{eq-eqb, ltb-true, ltb-false}
use Rattle.lists.specs.Lists.{one, count, cons_if, keep}
use Rattle.lists.proofs.ListLaws.{one_true, count-append, count_implies, keep_append, keep-nothing, keep_everything}
use Rattle.lists.proofs.PlaceLaws.{drop_further, take_slice, slice_split, slice_further}
use Rattle.ordering.specs.Slots.{in_words}
use Rattle.slots.specs.Front.{Fronted}
use Rattle.slots.specs.Settlement.{stays, moves, settled, SettlementAsks, Settled}

-- of a list in which none is named and s does not stand none moves
none_moves : (words : List ℕ) (s : ℕ) (l : List ℕ) → count (in_words words) l ≡ 0 → count (eqb s) l ≡ 0
    → count (moves words s) l ≡ 0
unfolding stays
none_moves words s l named own =
    omega (
      arith,
      named,
      own,
      count_implies (moves words s) (in_words words) (eqb s) (λ t other e. go (in_words words t) (eqb s t) other e) l,
    )
  where
    go : (a b : Bool) → b ≡ false → not (not (a || b)) ≡ true → a ≡ true
    go true b f h = refl
    go false true f h = sym f
    go false false f h = h

module _ (xs : List ℕ) (from to : ℕ) (words : List ℕ) (s : ℕ) (h : SettlementAsks xs from to words s)
    (none : count (in_words words) (slice from to xs) ≡ 0) (ys : List ℕ) (e : ℕ) (d : Fronted xs from s ys e) where
  -- it stood among them
  alone_inside : e ≤ to
  alone_inside = go (ltb to e) refl
    where
      go : (b : Bool) → ltb to e ≡ b → e ≤ to
      go false f = ltb-false to e f
      go true f =
          let past = ltb-true to e f in
          absurd (omega (
            arith,
            h.once,
            d.before,
            ap (count (eqb s)) (slice_split to (e - 1) (omega arith) from xs h.part.rising (omega (arith, h.part))),
            count-append (eqb s) (slice from to xs) (slice to (e - 1) xs),
          ))

  abbrev before : List ℕ
  before = slice from (e - 1) xs

  abbrev after : List ℕ
  after = slice e to xs

  -- the tentative slots: those before it, itself, those behind it
  around : slice from to xs ≡ before ++ s ∷ after
  around =
      let next : suc (e - 1) ≡ e = omega (arith, d.some) in
      slice_split (e - 1) to (omega (arith, alone_inside)) from xs (omega (arith, d.some)) (omega (arith, alone_inside, h.part))
      ∙ ap (λ (r : List ℕ). before ++ r)
      (slice-cons (e - 1) to xs 0 (omega (arith, d.some, alone_inside)) (omega (arith, h.part))
      ∙ ap (λ (k : ℕ). get_or xs (e - 1) 0 ∷ slice k to xs) next
      ∙ ap (λ (t : ℕ). t ∷ after) d.there)

  counted : (p : ℕ → Bool) → count p (slice from to xs) ≡ count p before + (one (p s) + count p after)
  counted p = ap (count p) around ∙ count-append p before (s ∷ after)

  own-counts : one (eqb s s) ≡ 1
  own-counts = one_true (eq-eqb s s refl)

  stays-before : count (moves words s) before ≡ 0
  stays-before = none_moves words s before (omega (arith, none, counted (in_words words))) d.before

  stays_after : count (moves words s) after ≡ 0
  stays_after =
      none_moves words s after (omega (arith, none, counted (in_words words))) (omega (arith, h.once, counted (eqb s), own-counts))

  own-moves : stays words s s ≡ false
  unfolding stays
  own-moves = rw (h.apart, eq-eqb s s refl)

  staying : keep (stays words s) (slice from to xs) ≡ before ++ after
  staying =
      ap (keep (stays words s)) around
      ∙ keep_append (stays words s) before (s ∷ after)
      ∙ ap (λ (r : List ℕ). r ++ keep (stays words s) (s ∷ after)) (keep_everything (stays words s) before stays-before)
      ∙ ap (λ (r : List ℕ). before ++ r)
      (ap (λ (b : Bool). cons_if b s (keep (stays words s) after)) own-moves ∙ keep_everything (stays words s) after stays_after)

  pub settled_alone : Settled xs from to words s ys (from + 1) e
  unfolding settled
  settled_alone =
      let named = keep-nothing (in_words words) (slice from to xs) none in
      record {
        committed = rw named (omega arith);
        first =
            take_slice e to alone_inside ys
            ∙ ap (λ (l : List ℕ). take e ys ++ l)
            (slice_further e to alone_inside ys xs (omega (arith, d.inside, d.long)) (omega (arith, d.inside, h.part)) d.rest)
            ∙ ap (λ (l : List ℕ). l ++ after) d.first
            ∙ append_assoc (take from xs) (s ∷ before) after
            ∙ sym (ap (λ (l : List ℕ). take from xs ++ (l ++ s ∷ keep (stays words s) (slice from to xs))) named
            ∙ ap (λ (l : List ℕ). take from xs ++ s ∷ l) staying);
        rest = drop_further e to ys xs alone_inside d.rest;
        long = d.long;
        moved = omega (arith, d.some);
        within = alone_inside;
        unmoved = d.rest;
      }
