-- Laws of the order after a settlement: its parts are the whole, a separation, a store and a copy make it, and what is committed,
-- tentative and unmoved then.
use Prim.Native.Nat.{ℕ, ◌+◌, ◌-◌, ◌≤◌, ◌<◌, min}
use native.Mathlib.Omega.{arith}
use native.Mathlib.Nat.{le_refl}
use native.Mathlib.Numerals.{add-one}
use mathlib.Core.Path.{◌≡◌, refl, sym, ap, ◌∙◌}
use mathlib.Core.Bool.{Bool, true, false, not, ◌&&◌}
use mathlib.Core.List.{List, [], ◌∷◌, ◌++◌, append_assoc}
use lib.ListN.{length, take, drop, set, replicate, length-set, length-append}
use lib.Seq.{slice, paste, take-take, take-suc-set, drop-set-lt, take_at, drop_at, take-paste, drop-paste, length-paste, length-slice}
use lib.Seq.{length-take-le, slice_empty}
use lib.Dec.{eqb, leb}
use borrow.Author.Tests.{eqb-true, leb-true, leb-false}
use Rattle.lists.specs.Lists.{count, keep}
use Rattle.lists.specs.Places.{All}
use Rattle.lists.proofs.AllLaws.{all_of, all_append, all_keep}
use Rattle.lists.proofs.ListLaws.{count-append, count_all, count_split}
use Rattle.lists.proofs.MapLaws.{keep_agree}
use Rattle.lists.proofs.PlaceLaws.{keep_equal, slice_further}
use Rattle.ordering.specs.Slots.{in_words}
use Rattle.slots.specs.Settlement.{stays, Separated, PutAsks, settled, SettlementAsks, Settled}

-- ---- the parts are the whole

-- what holds of s and of every slot of the list holds of every slot afterwards
pub all_settled : (P : ℕ → Type 0) (words : List ℕ) (s : ℕ) (l : List ℕ) → P s → All P l → All P (settled words s l)
unfolding settled
all_settled P words s l here h =
    all_append P (keep (in_words words) l) (s ∷ keep (stays words s) l) (all_keep P (in_words words) l h)
    (here, all_keep P (stays words s) l h)

module _ (words : List ℕ) (s : ℕ) (l : List ℕ) (once : count (eqb s) l ≡ 1) (apart : in_words words s ≡ false) where
  -- the test for s is that for s and not named
  alone : (x : ℕ) → (eqb s x && not (in_words words x)) ≡ eqb s x
  alone x = go (eqb s x) refl
    where
      go : (b : Bool) → eqb s x ≡ b → (b && not (in_words words x)) ≡ b
      go true e = ap not (ap (in_words words) (sym (eqb-true s x e)) ∙ apart)
      go false e = refl

  -- those named, s itself and those that stay are the list in another order
  pub count-settled : (p : ℕ → Bool) → count p (settled words s l) ≡ count p l
  unfolding settled stays
  count-settled p =
      let here : keep (λ x. eqb s x && not (in_words words x)) l ≡ s ∷ [] =
      keep_agree (λ x. eqb s x && not (in_words words x)) (eqb s) l (all_of alone l)
      ∙ keep_equal s l ∙ ap (λ (k : ℕ). replicate k s) once in
      omega (
        arith,
        count-append p (keep (in_words words) l) (s ∷ keep (stays words s) l),
        ap (count p) here,
        count_split p (in_words words) (eqb s) l,
      )

  pub length-settled : length (settled words s l) ≡ length l
  length-settled = sym (count_all (settled words s l)) ∙ count-settled (λ x. true) ∙ count_all l

  pub parts_fit : length (keep (in_words words) l) + 1 + length (keep (stays words s) l) ≡ length l
  unfolding settled
  parts_fit = omega (arith, length-settled, length-append (keep (in_words words) l) (s ∷ keep (stays words s) l))

module _ (xs : List ℕ) (from to : ℕ) (words : List ℕ) (s : ℕ) (h : SettlementAsks xs from to words s) where
  pub settlement_fits :
      from + length (keep (in_words words) (slice from to xs)) + 1 + length (keep (stays words s) (slice from to xs)) ≡ to
  settlement_fits =
      omega (
        arith,
        h.part,
        parts_fit words s (slice from to xs) h.once h.apart,
        length-slice from to xs (omega (arith, h.part)),
      )

  -- ---- a separation, a store of s behind those named, and a copy of those that stay behind it

  module _ (ys zs : List ℕ) (own : ℕ) (d : Separated xs from to words s ys zs own) where
    -- there is a place for s
    pub own_inside : own < to
    own_inside = omega (arith, d.end, settlement_fits)

    pub put_asked : PutAsks (set ys own s) (own + 1) zs (to - (own + 1))
    put_asked = record {
      room = omega (arith, own_inside, h.part.inside);
      long = length-set ys own s ∙ d.long;
      source_long = d.staying_long;
    }

    -- those that stay fill the places behind it
    behind : own + 1 + (to - (own + 1)) ≡ to
    behind = omega (arith, own_inside)

    left : to - (own + 1) ≡ length (keep (stays words s) (slice from to xs))
    left = omega (arith, d.end, settlement_fits)

    committed_front : take (own + 1) (set ys own s) ≡ (take from xs ++ keep (in_words words) (slice from to xs)) ++ (s ∷ [])
    committed_front =
        rw (add-one own, take-suc-set ys own s (omega (arith, h.part, d.long, own_inside)))
        (ap (λ (r : List ℕ). r ++ (s ∷ [])) d.named)

    -- the order in the end
    abbrev copied : List ℕ
    copied = paste (set ys own s) (own + 1) zs (to - (own + 1))

    rest_copied : drop to copied ≡ drop to xs
    rest_copied =
        ap (λ (k : ℕ). drop k copied) (sym behind)
        ∙ drop-paste (set ys own s) (own + 1) zs (to - (own + 1)) (omega (arith, put_asked)) (omega (arith, put_asked))
        ∙ ap (λ (k : ℕ). drop k (set ys own s)) behind
        ∙ drop-set-lt to ys own s own_inside ∙ d.rest

    pub settled_by_lem : Settled xs from to words s copied (own + 1) to
    unfolding settled
    settled_by_lem = record {
      committed = omega (arith, d.end);
      first =
          ap (λ (k : ℕ). take k copied) (sym behind)
          ∙ take-paste (set ys own s) (own + 1) zs (to - (own + 1)) (omega (arith, put_asked)) (omega (arith, put_asked))
          ∙ ap (λ (k : ℕ). take (own + 1) (set ys own s) ++ take k zs) left
          ∙ simp (committed_front, d.staying, append_assoc);
      rest = rest_copied;
      long =
          length-paste (set ys own s) (own + 1) zs (to - (own + 1)) (omega (arith, put_asked)) (omega (arith, put_asked))
          ∙ put_asked.long;
      moved = omega (arith, own_inside);
      within = le_refl to;
      unmoved = rest_copied;
    }

-- ---- after a settlement

module _ (xs : List ℕ) (from to : ℕ) (words : List ℕ) (s : ℕ) (ys : List ℕ) (r e : ℕ)
    (h : SettlementAsks xs from to words s) (d : Settled xs from to words s ys r e) where
  -- what it was, those named in their order, and s itself
  committed : List ℕ
  committed = take from xs ++ (keep (in_words words) (slice from to xs) ++ (s ∷ []))

  order_split : take to ys ≡ committed ++ keep (stays words s) (slice from to xs)
  unfolding settled committed
  order_split = d.first ∙ rw (append_assoc, append_assoc)

  committed-length : length committed ≡ r
  unfolding committed
  committed-length = simp length-append (omega (arith, d.committed, length-take-le from xs (omega (arith, h.part))))

  pub committed_inside : r ≤ to
  committed_inside = omega (arith, d.moved, d.within)

  -- the committed list afterwards
  pub committed-settled : take r ys ≡ take from xs ++ (keep (in_words words) (slice from to xs) ++ (s ∷ []))
  unfolding committed
  committed-settled = sym (take-take r to ys committed_inside) ∙ ap (take r) order_split ∙ take_at committed _ r committed-length

  -- the tentative list afterwards: those that stay
  pub tentative-settled : slice r to ys ≡ keep (stays words s) (slice from to xs)
  tentative-settled = ap (drop r) order_split ∙ drop_at committed (keep (stays words s) (slice from to xs)) r committed-length

  -- up to any place n, what stands behind the last that moved is as it was
  pub unmoved_behind : (n k : ℕ) → k ≡ min n e → slice k n ys ≡ slice k n xs
  unmoved_behind n k lowest = go (leb n e) refl
    where
      go : (b : Bool) → leb n e ≡ b → slice k n ys ≡ slice k n xs
      go true f =
          let low = leb-true n e f in
          let end : k ≡ n = omega arith in
          rw end (slice_empty n ys ∙ sym (slice_empty n xs))
      go false f =
          let high = leb-false n e f in
          let end : k ≡ e = omega arith in
          rw end
          (slice_further e n (omega arith) ys xs (omega (arith, d.long, d.within, h.part)) (omega (arith, d.within, h.part))
          d.unmoved)
