-- Laws of the start of a list: an element at a place and whether a start reaches it; the common start of two lists.
use Prim.Native.Nat.{ℕ, zero, suc, ◌+◌, ◌-◌, ◌≤◌, ◌<◌, min}
use native.Mathlib.Omega.{arith}
use native.Mathlib.Nat.{le_refl}
use mathlib.Core.Path.{◌≡◌, refl, sym, ap, ◌∙◌}
use mathlib.Core.Bool.{Bool, true, false, cond}
use mathlib.Core.List.{List, [], ◌∷◌, ◌++◌}
use lib.ListN.{length, take, drop, get_or, length-take, length-drop, take-append-drop}
use lib.Seq.{slice, slice-cons, slice_empty, get_or-take, get_or-drop, take-take, take-append-le, take-append-add, take-length, length-take-le}
use lib.Dec.{eqb, leb, ltb, eqb-zero-suc, eqb-suc-suc}
use borrow.Author.Tests.{leb-true, leb-false, ltb-true, ltb-false, le-leb, lt-leb}
use Rattle.lists.specs.Lists.{count, some_passes, common_start}
use Rattle.lists.specs.Places.{All, insert_at}
use Rattle.lists.proofs.BoolLaws.{same_test}
use Rattle.lists.proofs.ListLaws.{one_true, one_false, count-append, passes_count, common_start_most, common_start_longest}

-- ---- an element at a place

module _ {A : Type 0} where
  -- inside the list no default is asked for
  pub get_or_inside : (l : List A) (k : ℕ) (d e : A) → k < length l → get_or l k d ≡ get_or l k e
  get_or_inside [] k d e h = absurd (omega arith)
  get_or_inside (x ∷ xs) zero d e h = refl
  get_or_inside (x ∷ xs) (suc k) d e h = get_or_inside xs k d e (omega arith)

  module _ (p : A → Bool) where
    pub count_at : (l : List A) (k : ℕ) (d : A) → k < length l → p (get_or l k d) ≡ true → 1 ≤ count p l
    count_at [] k d h e = absurd (omega arith)
    count_at (x ∷ xs) zero d h e = omega (arith, one_true e)
    count_at (x ∷ xs) (suc k) d h e = omega (arith, count_at xs k d (omega arith) e)

    -- where only the element at place k passes, one of the first n passes exactly where k is below n
    pub passes_below : (l : List A) (k n : ℕ) (d : A) → k < length l → p (get_or l k d) ≡ true → count p l ≤ 1
        → some_passes p (take n l) ≡ ltb k n
    passes_below l k n d h e once = go (ltb k n) refl
      where
        parts : count p (take n l) + count p (drop n l) ≡ count p l
        parts = sym (count-append p (take n l) (drop n l)) ∙ ap (count p) (take-append-drop n l)

        go : (b : Bool) → ltb k n ≡ b → some_passes p (take n l) ≡ b
        go true f =
            let low = ltb-true k n f in
            le-leb 1 (count p (take n l)) (count_at (take n l) k d (simp length-take (omega arith)) (ap p (get_or-take n l k d low) ∙ e))
        go false f =
            let high = ltb-false k n f in
            let place : n + (k - n) ≡ k = omega arith in
            let there : p (get_or (drop n l) (k - n) d) ≡ true = ap p (get_or-drop n l (k - n) d ∙ ap (λ (j : ℕ). get_or l j d) place) ∙ e in
            let behind = count_at (drop n l) (k - n) d (simp length-drop (omega arith)) there in
            lt-leb 1 (count p (take n l)) (omega (arith, parts))

-- a place of from..to whose element passes
pub record Found {A : Type 0} (p : A → Bool) (l : List A) (d : A) (from to : ℕ) : Type 0 where
  pub at : ℕ
  pub low : from ≤ at
  pub high : at < to
  pub passes : p (get_or l at d) ≡ true

-- where some of from..to pass, there is one
module _ {A : Type 0} (p : A → Bool) (l : List A) (d : A) (to : ℕ) (inside : to ≤ length l) where
  pub some-found : (n from : ℕ) → from + n ≡ to → 1 ≤ count p (slice from to l) → Found p l d from to
  some-found zero from e some =
      let end : from ≡ to = omega arith in
      absurd (omega (arith, some, ap (λ (k : ℕ). count p (slice k to l)) end, ap (count p) (slice_empty to l)))
  some-found (suc n) from e some = go (p (get_or l from d)) refl (some-found n (suc from) (omega arith))
    where
      go : (b : Bool) → p (get_or l from d) ≡ b → (1 ≤ count p (slice (suc from) to l) → Found p l d (suc from) to) → Found p l d from to
      go true f further = record { at = from; low = le_refl from; high = omega arith; passes = f }
      go false f further =
          let later = further (omega (arith, some, ap (count p) (slice-cons from to l d (omega arith) inside), one_false f)) in
          record { at = later.at; low = omega (arith, later.low); high = later.high; passes = later.passes }

-- ---- the common start of two lists that agree up to a place, or behind one

module _ {A : Type 0} (same : A → A → Bool) (self : (x : A) → same x x ≡ true) where
  common_start_behind : (k : ℕ) (xs ys : List A) → k ≤ length xs → k ≤ length ys → take k xs ≡ take k ys
      → k + common_start same (drop k xs) (drop k ys) ≡ common_start same xs ys
  common_start_behind zero xs ys h l e = omega arith
  common_start_behind (suc k) [] ys h l e = absurd (omega arith)
  common_start_behind (suc k) (x ∷ xs) [] h l e = absurd (omega arith)
  common_start_behind (suc k) (x ∷ xs) (y ∷ ys) h l e =
      let rest : take k xs ≡ take k ys = cc in
      let first : x ≡ y = cc in
      rw (← first, self x) (omega (arith, common_start_behind k xs ys (omega arith) (omega arith) rest))

  -- of the first n of one and the first m of the other, it may be looked for from the place on up to which they agree
  pub common_start_from : (xs ys : List A) (n m at : ℕ) → at ≤ n → at ≤ m → n ≤ length xs → m ≤ length ys → take at xs ≡ take at ys
      → at + common_start same (slice at n xs) (slice at m ys) ≡ common_start same (take n xs) (take m ys)
  common_start_from xs ys n m at first second first_inside second_inside e =
      common_start_behind at (take n xs) (take m ys) (rw (length-take-le n xs first_inside) first)
      (rw (length-take-le m ys second_inside) second)
      (take-take at n xs first ∙ e ∙ sym (take-take at m ys second))

  -- of a list with which the other begins, it is the whole
  common_start-whole : (xs ys : List A) → length xs ≤ length ys → xs ≡ take (length xs) ys → common_start same xs ys ≡ length xs
  common_start-whole xs ys h e =
      let most = common_start_most same xs ys in
      omega (arith, common_start_longest same self (length xs) xs ys (omega arith) h (take-length xs ∙ e))

  -- of two lists that agree from place k on, it is that of the first k, or the whole where that reaches k
  common_start-before : (k : ℕ) (xs ys : List A) → k ≤ length xs → length xs ≤ length ys → drop k xs ≡ drop k (take (length xs) ys)
      → common_start same xs ys ≡ cond (eqb (common_start same (take k xs) ys) k) (length xs) (common_start same (take k xs) ys)
  common_start-before zero xs ys h l e = common_start-whole xs ys l e
  common_start-before (suc k) [] ys h l e = absurd (omega arith)
  common_start-before (suc k) (x ∷ xs) [] h l e = absurd (omega arith)
  common_start-before (suc k) (x ∷ xs) (y ∷ ys) h l e =
      step (same x y) _ _ _ (common_start-before k xs ys (omega arith) (omega arith) e)
    where
      step : (b : Bool) (n c m : ℕ) → n ≡ cond (eqb c k) m c
          → cond b (suc n) 0 ≡ cond (eqb (cond b (suc c) 0) (suc k)) (suc m) (cond b (suc c) 0)
      step true n c m f = rw (eqb-suc-suc c k) (go (eqb c k) f)
        where
          go : (b : Bool) → n ≡ cond b m c → suc n ≡ cond b (suc m) (suc c)
          go true g = ap suc g
          go false g = ap suc g
      step false n c m f = rw (eqb-zero-suc k)

  -- of the first n of one and the first m of the other, it may be looked for up to the place k from which on they agree
  pub common_start_until : (xs ys : List A) (n m k : ℕ) → k ≤ n → n ≤ m → n ≤ length xs → m ≤ length ys → slice k n xs ≡ slice k n ys
      → common_start same (take n xs) (take m ys)
      ≡ cond (eqb (common_start same (take k xs) (take m ys)) k) n (common_start same (take k xs) (take m ys))
  common_start_until xs ys n m k low high first second e =
      let long : length (take n xs) ≡ n = length-take-le n xs first in
      let inside : take (length (take n xs)) (take m ys) ≡ take n ys = ap (λ (j : ℕ). take j (take m ys)) long ∙ take-take n m ys high in
      rw (take-take k n xs low, long) at
      (common_start-before k (take n xs) (take m ys) (omega arith) (omega (arith, length-take-le m ys second))
      (e ∙ ap (drop k) (sym inside)))

  -- of the first n of a list and of the list with x at place k, where x is none of the n, it ends at the lower of the two
  pub common_start_inserted : (x : A) (n k : ℕ) (l : List A) → n ≤ length l → All (λ y. same y x ≡ false) (take n l)
      → common_start same (take n l) (insert_at k x l) ≡ min n k
  unfolding insert_at
  common_start_inserted x zero k l h others = omega arith
  common_start_inserted x (suc n) k [] h others = absurd (omega arith)
  common_start_inserted x (suc n) zero (y ∷ ys) h others = rw others.0 (omega arith)
  common_start_inserted x (suc n) (suc k) (y ∷ ys) h others =
      rw (self y) (omega (arith, common_start_inserted x n k ys (omega arith) others.1))

-- ---- an element behind a list

module _ {A : Type 0} where
  -- the common start is no longer than the second list
  pub common_start_second : (same : A → A → Bool) (xs ys : List A) → common_start same xs ys ≤ length ys
  common_start_second same [] ys = omega arith
  common_start_second same (x ∷ xs) [] = omega arith
  common_start_second same (x ∷ xs) (y ∷ ys) = step (same x y) (common_start_second same xs ys)
    where
      step : (b : Bool) {n m : ℕ} → n ≤ m → cond b (suc n) 0 ≤ suc m
      step true h = omega arith
      step false h = omega arith

  -- a start that is long enough has x behind c
  pub take_behind : (k : ℕ) (c : List A) (x : A) (rest : List A) → length c + 1 ≤ k
      → take k (c ++ x ∷ rest) ≡ c ++ x ∷ take (k - length c - 1) rest
  take_behind k c x rest h =
      let sum : k ≡ length c + suc (k - length c - 1) = omega arith in
      ap (λ (m : ℕ). take m (c ++ x ∷ rest)) sum ∙ take-append-add c (x ∷ rest) (suc (k - length c - 1))

  -- where x is the first that passes, some of a start pass exactly where it is long enough to have x
  module _ (p : A → Bool) (c : List A) (x : A) (rest : List A) (passes : p x ≡ true) (first : count p c ≡ 0) where
    reached : (k : ℕ) → length c + 1 ≤ k → 1 ≤ count p (take k (c ++ x ∷ rest))
    reached k h =
        omega (
          arith,
          ap (count p) (take_behind k c x rest h),
          count-append p c (x ∷ take (k - length c - 1) rest),
          one_true passes,
        )

    short : (k : ℕ) → k ≤ length c → count p (take k (c ++ x ∷ rest)) ≡ 0
    short k h =
        omega (
          arith,
          ap (count p) (take-append-le k c (x ∷ rest) h),
          ap (count p) (take-append-drop k c),
          count-append p (take k c) (drop k c),
        )

    pub start_passes : (k : ℕ) → some_passes p (take k (c ++ x ∷ rest)) ≡ leb (length c + 1) k
    start_passes k = same_test _ _ long (λ e. le-leb 1 _ (reached k (leb-true (length c + 1) k e)))
      where
        long : some_passes p (take k (c ++ x ∷ rest)) ≡ true → leb (length c + 1) k ≡ true
        long e = go (leb (length c + 1) k) refl
          where
            go : (b : Bool) → leb (length c + 1) k ≡ b → b ≡ true
            go true f = refl
            go false f =
                absurd (omega (
                  arith,
                  passes_count p (take k (c ++ x ∷ rest)) e,
                  short k (omega (arith, leb-false (length c + 1) k f)),
                ))
