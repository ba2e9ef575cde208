-- Laws of lists of words, a word at a time, as a loop over the words asks for them: all zero, equal, lacked, the lowest number.
use Prim.Native.Nat.{ℕ, suc, ◌+◌, ◌-◌, ◌<◌, ◌≤◌}
use native.Mathlib.Numerals.{add-one}
use mathlib.Core.Path.{◌≡◌, refl, ap}
use mathlib.Core.Bool.{Bool, true, false, not, ◌&&◌, ◌||◌}
use mathlib.Core.List.{List, [], ◌∷◌, ◌++◌, append-nil}
use lib.ListN.{length, take, drop, get_or, set, drop_of_length-le}
use lib.Seq.{drop-cons, take-suc-set, drop-set-lt, append_snoc, take_all}
use lib.Bits.{bit_and}
use lib.Count.{count_trailing_zeros}
use lib.Pointwise.{pointwise}
use lib.Dec.{eqb}
use borrow.Author.Tests.{eq-eqb, ne_eqb, eqb-true}
use native.Mathlib.Omega.{arith}
use Rattle.std.specs.List.{list_any}
use Rattle.numbers.specs.Numbers.{numbered, no_number, most_events}
use Rattle.sets.specs.declared.Context.{Context}
use Rattle.sets.specs.contracts.ContextPartialEq.TheImpl as context_eq
use Rattle.sets.specs.Sets.{same_words, same_context, all_zero, lacked_words, lowest_from}
use Rattle.lists.proofs.BoolLaws.{true_not_false, both_true, both}

-- ---- all zero

abbrev pub nonzero : ℕ → Bool
nonzero w = not (eqb w 0)

-- some word is not 0 where not all are
pub some-nonzero : (ws : List ℕ) → list_any nonzero ws ≡ not (all_zero ws)
unfolding all_zero
some-nonzero [] = refl
some-nonzero (w ∷ ws) = rw (some-nonzero ws) (go (eqb w 0))
  where
    go : (b : Bool) → (not b || not (all_zero ws)) ≡ not (b && all_zero ws)
    go true = refl
    go false = refl

-- ---- equal

-- it is what the code's == says of lists, and so of sets
pub equal_words : (xs ys : List ℕ) → pointwise eqb xs ys ≡ same_words xs ys
unfolding same_words
equal_words [] [] = refl
equal_words [] (y ∷ ys) = refl
equal_words (x ∷ xs) [] = refl
equal_words (x ∷ xs) (y ∷ ys) = ap (λ b. eqb x y && b) (equal_words xs ys)

pub equal_context : (a b : Context) → (context_eq.ghosts).eq a b ≡ same_context a b
unfolding same_context
equal_context a b = equal_words a.words b.words

pub same_words_sound : (xs ys : List ℕ) → same_words xs ys ≡ true → xs ≡ ys
unfolding same_words
same_words_sound [] [] e = refl
same_words_sound [] (y ∷ ys) e = true_not_false e refl
same_words_sound (x ∷ xs) [] e = true_not_false e refl
same_words_sound (x ∷ xs) (y ∷ ys) e =
    let h = both_true _ _ e in
    let head : x ≡ y = eqb-true x y h.0 in
    let tail : xs ≡ ys = same_words_sound xs ys h.1 in
    cc

pub same_words_self : (xs : List ℕ) → same_words xs xs ≡ true
unfolding same_words
same_words_self [] = refl
same_words_self (x ∷ xs) = both (eq-eqb x x refl) (same_words_self xs)

-- ---- lacked

-- the words before i done, those from i on still to do
abbrev pub lacked_from : ℕ → List ℕ → List ℕ → List ℕ
lacked_from i ds vs = take i ds ++ lacked_words (drop i ds) (drop i vs)

pub lacked-step : (ds vs : List ℕ) (i : ℕ) → i < length ds → i < length vs
    → lacked_from (i + 1) (set ds i (get_or ds i 0 - bit_and (get_or ds i 0) (get_or vs i 0))) vs ≡ lacked_from i ds vs
unfolding lacked_words
lacked-step ds vs i hd hv =
    let w = get_or ds i 0 - bit_and (get_or ds i 0) (get_or vs i 0) in
    rw (add-one, take-suc-set ds i w hd, drop-set-lt (suc i) ds i w (omega arith), drop-cons ds i 0 hd, drop-cons vs i 0 hv)
    (append_snoc (take i ds) w (lacked_words (drop (suc i) ds) (drop (suc i) vs)))

pub lacked-end : (ds vs : List ℕ) (i : ℕ) → length ds ≤ i → lacked_from i ds vs ≡ ds
unfolding lacked_words
lacked-end ds vs i h = rw (drop_of_length-le ds {i = i} h, take_all i ds h) (append-nil ds)

pub lacked-length : (ws vs : List ℕ) → length (lacked_words ws vs) ≡ length ws
unfolding lacked_words
lacked-length [] vs = refl
lacked-length (w ∷ ws) [] = ap suc (lacked-length ws [])
lacked-length (w ∷ ws) (v ∷ vs) = ap suc (lacked-length ws vs)

-- ---- the lowest number

module _ (p : ℕ) (ws : List ℕ) (i : ℕ) (inside : i < length ws) where
  pub lowest-passed : get_or ws i 0 ≡ 0 → lowest_from p (drop i ws) ≡ lowest_from (p + 1) (drop (i + 1) ws)
  unfolding lowest_from
  lowest-passed e = rw (drop-cons ws i 0 inside, eq-eqb (get_or ws i 0) 0 e, add-one p, add-one i)

  pub lowest_stopped : (get_or ws i 0 ≡ 0 → ⊥) → lowest_from p (drop i ws) ≡ numbered p (count_trailing_zeros most_events (get_or ws i 0) + 1)
  unfolding lowest_from
  lowest_stopped e = rw (drop-cons ws i 0 inside, ne_eqb (get_or ws i 0) 0 e)

pub lowest-end : (p : ℕ) (ws : List ℕ) (i : ℕ) → length ws ≤ i → lowest_from p (drop i ws) ≡ no_number
unfolding lowest_from
lowest-end p ws i h = rw (drop_of_length-le ws {i = i} h)
