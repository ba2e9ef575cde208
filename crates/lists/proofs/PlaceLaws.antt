-- Laws of places: parts of a list and of two lists that agree; insertion in an order is insertion at a place, and the parts, the length
-- and the counts of a list with an element inserted; what a test keeps.
use Prim.Native.Nat.{ℕ, suc, zero, ◌+◌, ◌-◌, ◌≤◌, ◌<◌}
use native.Mathlib.Omega.{arith}
use native.Mathlib.Nat.{zero-add, suc-add, le_refl}
use mathlib.Core.Path.{◌≡◌, refl, sym, ap, ◌∙◌}
use mathlib.Core.Bool.{Bool, true, false, not, cond}
use mathlib.Core.List.{List, [], ◌∷◌, ◌++◌, append-nil}
use lib.ListN.{length, take, drop, get_or, set, replicate, take-append-drop, drop_of_length-le}
use lib.Seq.{sets, sets-eq, slice, take-take, take-add, drop-drop, drop-append-le, drop_at, get_or-drop, length-take-le, slice-cons, slice_empty}
use lib.Dec.{eqb}
use borrow.Author.Tests.{eqb-true}
use Rattle.lists.specs.Lists.{one, count, cons_if, keep, insert}
use Rattle.lists.specs.Places.{leading, insert_at}

module _ {A : Type 0} where
  -- ---- parts

  -- as many as a list has, stored from its front on, are all that it has then
  pub sets_all : (l vs : List A) → length vs ≡ length l → sets l 0 vs ≡ vs
  sets_all l vs e =
      sets-eq vs l 0 (omega (arith, e))
      ∙ ap (λ (r : List A). vs ++ r) (drop_of_length-le l {i = 0 + length vs} (omega (arith, e)))
      ∙ append-nil vs

  -- two lists that agree from place n on agree from every later place on
  pub drop_further : (n k : ℕ) (s t : List A) → n ≤ k → drop n s ≡ drop n t → drop k s ≡ drop k t
  drop_further n k s t h e =
      let sum : n + (k - n) ≡ k = omega arith in
      rw (← sum) (sym (drop-drop (k - n) n s) ∙ ap (drop (k - n)) e ∙ drop-drop (k - n) n t)

  -- and at every later place
  pub get_or_further : (n k : ℕ) (s t : List A) (d : A) → n ≤ k → drop n s ≡ drop n t → get_or s k d ≡ get_or t k d
  get_or_further n k s t d h e =
      let sum : n + (k - n) ≡ k = omega arith in
      rw (← sum) (sym (get_or-drop n s (k - n) d) ∙ ap (λ (l : List A). get_or l (k - n) d) e ∙ get_or-drop n t (k - n) d)

  module _ (k n : ℕ) (high : k ≤ n) where
    -- the first n are the first k, then the part k..n
    pub take_slice : (l : List A) → take n l ≡ take k l ++ slice k n l
    take_slice l = sym (take-append-drop k (take n l)) ∙ ap (λ (r : List A). r ++ slice k n l) (take-take k n l high)

    -- the part i..n is the part i..k, then the part k..n
    pub slice_split : (i : ℕ) (l : List A) → i ≤ k → k ≤ length l → slice i n l ≡ slice i k l ++ slice k n l
    slice_split i l low inside =
        ap (drop i) (take_slice l) ∙ drop-append-le i (take k l) (slice k n l) (omega (arith, length-take-le k l inside))

    -- the part k..n is the first n - k of what stands from place k on
    slice_from : (l : List A) → k ≤ length l → slice k n l ≡ take (n - k) (drop k l)
    slice_from l inside =
        let sum : k + (n - k) ≡ n = omega arith in
        ap (λ (j : ℕ). drop k (take j l)) (sym sum) ∙ ap (drop k) (take-add k (n - k) l)
        ∙ drop_at (take k l) (take (n - k) (drop k l)) k (length-take-le k l inside)

    -- two lists that agree from place k on have the same part k..n
    pub slice_further : (s t : List A) → k ≤ length s → k ≤ length t → drop k s ≡ drop k t → slice k n s ≡ slice k n t
    slice_further s t first second e = slice_from s first ∙ ap (take (n - k)) e ∙ sym (slice_from t second)

  -- the part i..k + 1 is the part i..k, then what stands at k
  pub slice_last : (i k : ℕ) (l : List A) (d : A) → i ≤ k → k < length l → slice i (k + 1) l ≡ slice i k l ++ (get_or l k d ∷ [])
  slice_last i k l d low inside =
      let next : suc k ≡ k + 1 = omega arith in
      slice_split k (k + 1) (omega arith) i l low (omega arith)
      ∙ ap (λ (r : List A). slice i k l ++ r)
      (slice-cons k (k + 1) l d (omega arith) (omega arith)
      ∙ ap (λ (j : ℕ). get_or l k d ∷ slice j (k + 1) l) next ∙ ap (λ (r : List A). get_or l k d ∷ r) (slice_empty (k + 1) l))

  -- ---- the place

  pub leading_most : (p : A → Bool) (l : List A) → leading p l ≤ length l
  leading_most p [] = omega arith
  leading_most p (x ∷ xs) = go (p x) (leading_most p xs)
    where
      go : (b : Bool) → leading p xs ≤ length xs → cond b (suc (leading p xs)) 0 ≤ suc (length xs)
      go true h = omega arith
      go false h = omega arith

  -- x in front of the first that it is before stands behind those at the front that it is not before
  pub insert_place : (before : A → A → Bool) (x : A) (l : List A) → insert before x l ≡ insert_at (leading (λ y. not (before x y)) l) x l
  unfolding insert_at
  insert_place before x [] = refl
  insert_place before x (y ∷ ys) = go (before x y) (insert_place before x ys)
    where
      go : (b : Bool) → insert before x ys ≡ insert_at (leading (λ y. not (before x y)) ys) x ys
          → cond b (x ∷ y ∷ ys) (y ∷ insert before x ys) ≡ insert_at (cond (not b) (suc (leading (λ y. not (before x y)) ys)) 0) x (y ∷ ys)
      go true h = refl
      go false h = ap (λ (r : List A). y ∷ r) h

  -- ---- a list with an element inserted

  pub length-insert_at : (k : ℕ) (x : A) (l : List A) → length (insert_at k x l) ≡ length l + 1
  unfolding insert_at
  length-insert_at zero x l = omega arith
  length-insert_at (suc k) x [] = omega arith
  length-insert_at (suc k) x (y ∷ ys) = omega (arith, length-insert_at k x ys)

  -- the part before the place is as it was, and the part from there on has the element at its own place
  pub take-insert_at : (n j : ℕ) (x : A) (l : List A) → n ≤ length l → take n (insert_at (n + j) x l) ≡ take n l
  unfolding insert_at
  take-insert_at zero j x l h = refl
  take-insert_at (suc n) j x [] h = absurd (omega arith)
  take-insert_at (suc n) j x (y ∷ ys) h = rw suc-add (ap (λ (r : List A). y ∷ r) (take-insert_at n j x ys (omega arith)))

  pub drop-insert_at : (n j : ℕ) (x : A) (l : List A) → n ≤ length l → drop n (insert_at (n + j) x l) ≡ insert_at j x (drop n l)
  unfolding insert_at
  drop-insert_at zero j x l h = rw zero-add
  drop-insert_at (suc n) j x [] h = absurd (omega arith)
  drop-insert_at (suc n) j x (y ∷ ys) h = rw suc-add (drop-insert_at n j x ys (omega arith))

  pub count-insert_at : (p : A → Bool) (k : ℕ) (x : A) (l : List A) → count p (insert_at k x l) ≡ one (p x) + count p l
  unfolding insert_at
  count-insert_at p zero x l = refl
  count-insert_at p (suc k) x [] = refl
  count-insert_at p (suc k) x (y ∷ ys) = omega (arith, count-insert_at p k x ys)

  -- storing x at place i and carrying what stood there one place on is an insertion of x at i
  pub insert_at_carry : (l : List A) (i : ℕ) (x d : A) → i < length l → insert_at (suc i) (get_or l i d) (set l i x) ≡ insert_at i x l
  unfolding insert_at
  insert_at_carry [] i x d h = absurd (omega arith)
  insert_at_carry (y ∷ ys) zero x d h = refl
  insert_at_carry (y ∷ ys) (suc i) x d h = ap (λ (r : List A). y ∷ r) (insert_at_carry ys i x d (omega arith))

  -- an insertion behind the last of the first n
  pub insert_at-end : (n : ℕ) (x : A) (l : List A) → insert_at n x (take n l) ≡ take n l ++ (x ∷ [])
  unfolding insert_at
  insert_at-end n x l = rw (take-take n n l (le_refl n), slice_empty n l)

  -- ---- what a test keeps

  pub length-keep : (p : A → Bool) (l : List A) → length (keep p l) ≡ count p l
  length-keep p [] = refl
  length-keep p (x ∷ xs) = go (p x) (length-keep p xs)
    where
      go : (b : Bool) → length (keep p xs) ≡ count p xs → length (cons_if b x (keep p xs)) ≡ one b + count p xs
      go true h = omega arith
      go false h = omega arith

-- what is kept of the places of n is n, as often as it stands there
pub keep_equal : (n : ℕ) (l : List ℕ) → keep (eqb n) l ≡ replicate (count (eqb n) l) n
keep_equal n [] = refl
keep_equal n (x ∷ xs) = go (eqb n x) refl (keep_equal n xs)
  where
    go : (b : Bool) → eqb n x ≡ b → keep (eqb n) xs ≡ replicate (count (eqb n) xs) n
        → cons_if b x (keep (eqb n) xs) ≡ replicate (one b + count (eqb n) xs) n
    go true e h =
        let here : n ≡ x = eqb-true n x e in
        let more : 1 + count (eqb n) xs ≡ suc (count (eqb n) xs) = omega arith in
        rw (more, ← here) (ap (λ (r : List ℕ). n ∷ r) h)
    go false e h = rw zero-add h
