-- Laws of a settlement where it is known which numbers are settled: how many slots it moves, and that it changes nothing where these stand
-- at the front in their order, the settled one last.
use Prim.Native.Nat.{ℕ, ◌+◌, ◌-◌, ◌<◌}
use native.Mathlib.Omega.{arith}
use native.Mathlib.Nat.{le_refl}
use mathlib.Core.Path.{◌≡◌, refl, sym, ap, ◌∙◌}
use mathlib.Core.Bool.{Bool, true, false, not, ◌||◌}
use mathlib.Core.List.{List, [], ◌∷◌, ◌++◌, append-nil}
use lib.ListN.{length, take, get_or}
use lib.Seq.{slice, length-slice}
use lib.Dec.{eqb}
use borrow.Author.Tests.{eqb-true}
use Rattle.lists.specs.Lists.{one, count, keep}
use Rattle.lists.proofs.BoolLaws.{true_not_false}
use Rattle.lists.proofs.ListLaws.{one_false, count-append, count_others, keep_append, keep-nothing, keep_everything}
use Rattle.lists.proofs.PlaceLaws.{take_slice, slice_split, slice_last}
use Rattle.ordering.specs.Slots.{in_words}
use Rattle.unions.specs.Lacked.{lacked_count}
use Rattle.slots.specs.Settlement.{stays, moves, settled, SettlementAsks, Settled, Counted, NoneBehind, MovesAsk}
use Rattle.slots.proofs.MovingLaws.{slot-before, asked-before, settled_further}
use Rattle.unions.proofs.LackedLaws.{named-counted}

-- ---- how many move

module _ (words : List ℕ) (s : ℕ) (apart : in_words words s ≡ false) where
  -- those named and s itself
  moves_parted : (l : List ℕ) → count (moves words s) l ≡ count (in_words words) l + count (eqb s) l
  unfolding stays
  moves_parted [] = refl
  moves_parted (x ∷ xs) = go (in_words words x) refl (eqb s x) refl (moves_parted xs)
    where
      go : (a : Bool) → in_words words x ≡ a → (b : Bool) → eqb s x ≡ b
          → count (moves words s) xs ≡ count (in_words words) xs + count (eqb s) xs
          → one (not (not (a || b))) + count (moves words s) xs ≡ one a + count (in_words words) xs + (one b + count (eqb s) xs)
      go true e true f h = true_not_false e (ap (in_words words) (sym (eqb-true s x f)) ∙ apart)
      go true e false f h = omega (arith, h)
      go false e true f h = omega (arith, h)
      go false e false f h = omega (arith, h)

module _ (xs clocks : List ℕ) (from to : ℕ) (words settled_words : List ℕ) (s : ℕ)
    (m : MovesAsk xs clocks from to words settled_words s) where
  -- the numbers that are settled tell how many are named
  pub named_many : (n : ℕ) → n ≡ lacked_count words settled_words → count (in_words words) (slice from to xs) ≡ n
  named_many n is = named-counted words settled_words (slice from to xs) m.asks.part.slots m.clear m.there ∙ sym is

  pub counted_by : (n : ℕ) → n ≡ lacked_count words settled_words → Counted xs from to (n + 1) words s
  counted_by n is = record {
    asks = m.asks;
    all = omega (arith, moves_parted words s m.asks.apart (slice from to xs), named_many n is, m.asks.once);
  }

-- ---- those that move at the front

module _ (xs : List ℕ) (from to moving : ℕ) (words : List ℕ) (s : ℕ) (c : Counted xs from to moving words s)
    (e : ℕ) (b : NoneBehind xs to words s e) where
  -- the last that moves stands behind `from`
  pub some-moves : from < e
  some-moves = slot-before xs from to words s c.asks e b.inside b.behind

  pub asked_upto : SettlementAsks xs from e words s
  asked_upto = asked-before xs from to words s c.asks e b.inside b.behind

  all_upto : count (moves words s) (slice from e xs) ≡ moving
  all_upto =
      omega (
        arith,
        c.all,
        b.behind,
        ap (count (moves words s))
            (slice_split e to b.inside from xs (omega (arith, some-moves)) (omega (arith, b.inside, c.asks.part))),
        count-append (moves words s) (slice from e xs) (slice e to xs),
      )

  module _ (full : e - from ≡ moving) (there : get_or xs (e - 1) 0 ≡ s) where
    abbrev before : List ℕ
    before = slice from (e - 1) xs

    last : slice from e xs ≡ before ++ (s ∷ [])
    last =
        let next : e - 1 + 1 ≡ e = omega (arith, some-moves) in
        ap (λ (k : ℕ). slice from k xs) (sym next)
        ∙ slice_last from (e - 1) xs 0 (omega (arith, some-moves)) (omega (arith, some-moves, b.inside, c.asks.part))
        ∙ ap (λ (t : ℕ). before ++ (t ∷ [])) there

    counted_last : (p : ℕ → Bool) → count p (slice from e xs) ≡ count p before + (one (p s) + 0)
    counted_last p = ap (count p) last ∙ count-append p before (s ∷ [])

    many : length (slice from e xs) ≡ e - from
    many = length-slice from e xs (omega (arith, b.inside, c.asks.part))

    many-before : length before ≡ e - 1 - from
    many-before = length-slice from (e - 1) xs (omega (arith, b.inside, c.asks.part))

    none_stays : count (stays words s) (slice from e xs) ≡ 0
    none_stays = omega (arith, count_others (stays words s) (slice from e xs), all_upto, full, many)

    all_named : count (λ t. not (in_words words t)) before ≡ 0
    all_named =
        omega (
          arith,
          count_others (in_words words) before,
          many-before,
          some-moves,
          full,
          all_upto,
          moves_parted words s c.asks.apart (slice from e xs),
          counted_last (in_words words),
          one_false c.asks.apart,
          asked_upto.once,
        )

    named_front : keep (in_words words) (slice from e xs) ≡ before
    named_front =
        ap (keep (in_words words)) last ∙ keep_append (in_words words) before (s ∷ [])
        ∙ ap (λ (r : List ℕ). r ++ keep (in_words words) (s ∷ [])) (keep_everything (in_words words) before all_named)
        ∙ ap (λ (r : List ℕ). before ++ r)
        (keep-nothing (in_words words) (s ∷ []) (omega (arith, one_false c.asks.apart)))
        ∙ append-nil before

    unchanged : settled words s (slice from e xs) ≡ slice from e xs
    unfolding settled
    unchanged =
        ap (λ (r : List ℕ). r ++ s ∷ keep (stays words s) (slice from e xs)) named_front
        ∙ ap (λ (r : List ℕ). before ++ s ∷ r) (keep-nothing (stays words s) (slice from e xs) none_stays)
        ∙ sym last

    pub settled-run : Settled xs from to words s xs e e
    settled-run =
        settled_further xs from to words s c.asks e b.inside b.behind xs e e record {
          committed = sym (ap (λ (l : List ℕ). from + length l + 1) named_front ∙ omega (arith, many-before, some-moves));
          first =
              take_slice from e (omega (arith, some-moves)) xs ∙ ap (λ (l : List ℕ). take from xs ++ l) (sym unchanged);
          rest = refl;
          long = c.asks.part.long;
          moved = le_refl e;
          within = le_refl e;
          unmoved = refl;
        }
