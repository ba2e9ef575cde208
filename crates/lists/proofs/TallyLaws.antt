-- Laws of lists of numbers and of tallies: how often a number stands in what a test keeps, parts of a tally, and that as many pass in a
-- list as below a bound, where each number that passes stands in the list once.
use Prim.{tt}
use Prim.Native.Nat.{ℕ, zero, suc, ◌+◌, ◌≤◌, ◌<◌}
use native.Mathlib.Omega.{arith}
use native.Mathlib.Nat.{add-zero, add-suc}
use mathlib.Core.Path.{◌≡◌, refl, sym, ap, ◌∙◌}
use mathlib.Core.Bool.{Bool, true, false, not, ◌&&◌, cond}
use mathlib.Core.List.{List, [], ◌∷◌}
use lib.ListN.{replicate}
use lib.Dec.{eqb}
use borrow.Author.Tests.{ne_eqb, eqb-false}
use Rattle.lists.specs.Lists.{one, count, cons_if, keep}
use Rattle.lists.specs.Places.{All}
use Rattle.lists.specs.Tally.{tally}
use Rattle.lists.proofs.BoolLaws.{both_swap}
use Rattle.lists.proofs.ListLaws.{one_most, count_either, count-keep}
use Rattle.lists.proofs.AllLaws.{all_of}
use Rattle.lists.proofs.MapLaws.{count_agree}
use Rattle.lists.proofs.PlaceLaws.{keep_equal}

-- ---- a number in a list

count-replicate : (q : ℕ → Bool) (k n : ℕ) → count q (replicate k n) ≡ cond (q n) k 0
count-replicate q zero n = go (q n)
  where
    go : (b : Bool) → ◌≡◌ {A = ℕ} 0 (cond b 0 0)
    go true = refl
    go false = refl
count-replicate q (suc k) n = go (q n) (count-replicate q k n)
  where
    go : (b : Bool) → count q (replicate k n) ≡ cond b k 0 → one b + count q (replicate k n) ≡ cond b (suc k) 0
    go true h = omega arith
    go false h = omega arith

-- n passes as often as it stands in the list, or never
count-number : (q : ℕ → Bool) (n : ℕ) (l : List ℕ) → count (λ x. eqb n x && q x) l ≡ cond (q n) (count (eqb n) l) 0
count-number q n l = sym (count-keep (eqb n) q l) ∙ ap (count q) (keep_equal n l) ∙ count-replicate q (count (eqb n) l) n

-- n is kept as often as it stands in the list, or never
pub count-keep-number : (q : ℕ → Bool) (n : ℕ) (l : List ℕ) → count (eqb n) (keep q l) ≡ cond (q n) (count (eqb n) l) 0
count-keep-number q n l =
    count-keep q (eqb n) l
    ∙ count_agree (λ x. q x && eqb n x) (λ x. eqb n x && q x) l (all_of (λ x. both_swap (q x) (eqb n x)) l)
    ∙ count-number q n l

-- those that pass are those other than n that do, and n
count_beside : (q : ℕ → Bool) (n : ℕ) (l : List ℕ) → count q l ≡ count q (keep (λ x. not (eqb n x)) l) + cond (q n) (count (eqb n) l) 0
count_beside q n l = omega (arith, count_either q (eqb n) l, count-number q n l, count-keep (λ x. not (eqb n x)) q l)

-- ---- parts of a tally

pub tally_agree : (n : ℕ) (p q : ℕ → Bool) → ((k : ℕ) → k < n → p k ≡ q k) → tally n p ≡ tally n q
tally_agree zero p q h = refl
tally_agree (suc n) p q h =
    omega (arith, tally_agree n p q (λ k l. h k (omega arith)), ap one (h n (omega arith)))

pub tally-add : (a b : ℕ) (q : ℕ → Bool) → tally (a + b) q ≡ tally a q + tally b (λ k. q (a + k))
tally-add a zero q = rw (add-zero a) (sym (add-zero (tally a q)))
tally-add a (suc b) q = rw (add-suc a b) (omega (arith, tally-add a b q))

pub tally_first : (n : ℕ) (q : ℕ → Bool) → tally (suc n) q ≡ one (q 0) + tally n (λ k. q (suc k))
tally_first zero q = omega arith
tally_first (suc n) q = omega (arith, tally_first n q)

pub tally_most : (n : ℕ) (q : ℕ → Bool) → tally n q ≤ n
tally_most zero q = omega arith
tally_most (suc n) q = omega (arith, tally_most n q, one_most (q n))

-- ---- a tally and a list

-- what is left of numbers up to n without n lies below n
all_below : (n : ℕ) (l : List ℕ) → All (λ t. t < suc n) l → All (λ t. t < n) (keep (λ x. not (eqb n x)) l)
all_below n [] h = tt
all_below n (x ∷ xs) h = go (eqb n x) refl (all_below n xs h.1)
  where
    go : (b : Bool) → eqb n x ≡ b → All (λ t. t < n) (keep (λ x. not (eqb n x)) xs)
        → All (λ t. t < n) (cons_if (not b) x (keep (λ x. not (eqb n x)) xs))
    go true e rest = rest
    go false e rest = (omega (arith, h.0, eqb-false n x e), rest)

-- what stands in a list once and is not n stands there once without n
once_beside : (n : ℕ) (l : List ℕ) (t : ℕ) → t < n → count (eqb t) l ≡ 1 → count (eqb t) (keep (λ x. not (eqb n x)) l) ≡ 1
once_beside n l t h e =
    let apart : eqb t n ≡ false = ne_eqb t n (λ e. omega arith) in
    omega (arith, e, count_beside (eqb t) n l, ap (λ (b : Bool). cond b (count (eqb n) l) 0) apart)

-- of a list of numbers below n in which each that passes stands once, as many pass as of the numbers below n
pub tally-count : (n : ℕ) (q : ℕ → Bool) (l : List ℕ) → All (λ t. t < n) l
    → ((t : ℕ) → t < n → q t ≡ true → count (eqb t) l ≡ 1) → count q l ≡ tally n q
tally-count zero q [] below once = refl
tally-count zero q (x ∷ xs) below once = absurd (omega (arith, below.0))
tally-count (suc n) q l below once =
    let rest = tally-count n q (keep (λ x. not (eqb n x)) l) (all_below n l below)
    (λ t h e. once_beside n l t h (once t (omega arith) e)) in
    count_beside q n l ∙ omega (arith, rest, go (q n) refl)
  where
    go : (b : Bool) → q n ≡ b → cond b (count (eqb n) l) 0 ≡ one b
    go true e = once n (omega arith) e
    go false e = refl
