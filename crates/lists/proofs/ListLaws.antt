-- Laws of lists with tests, in the order: counts; what is kept; what is found; insertion and ordered lists; the common start; the
-- pigeonhole; the first element.
-- What a list holds is said by counts: one equation between counts carries distinctness, membership and length together.
use Prim.Native.Nat.{ℕ, zero, suc, ◌+◌, ◌≤◌, zero-le}
use native.Mathlib.Omega.{arith}
use mathlib.Core.Path.{◌≡◌, refl, sym, ap, ◌∙◌}
use mathlib.Core.Bool.{Bool, true, false, not, ◌&&◌, ◌||◌, cond}
use mathlib.Core.List.{List, [], ◌∷◌, ◌++◌, reverse, reverse-cons}
use mathlib.Core.Option.{Option, none, some}
use lib.ListN.{length, take, drop, length-append}
use lib.Dec.{ltb, eqb}
use borrow.Author.Tests.{leb-true, ltb-true, ltb-false, eqb-false, le-ltb, not-false}
use Rattle.lists.proofs.BoolLaws.{true_not_false, both_true}
use Rattle.lists.specs.Lists.{one, count, some_passes, cons_if, keep, some_if, find, is_nil, insert, common_start, Ordered, nil, cons}

-- ---- one test

pub one_true : {b : Bool} → b ≡ true → one b ≡ 1
one_true e = ap one e

pub one_false : {b : Bool} → b ≡ false → one b ≡ 0
one_false e = ap one e

pub one_most : (b : Bool) → one b ≤ 1
one_most true = omega arith
one_most false = omega arith

pub one_zero : (b : Bool) → one b ≡ 0 → b ≡ false
one_zero true h = absurd (omega arith)
one_zero false h = refl

module _ {A : Type 0} where
  -- ---- counts

  pub count-append : (p : A → Bool) (s t : List A) → count p (s ++ t) ≡ count p s + count p t
  count-append p [] t = omega arith
  count-append p (x ∷ xs) t = omega (arith, count-append p xs t)

  pub count-reverse : (p : A → Bool) (l : List A) → count p (reverse l) ≡ count p l
  count-reverse p [] = refl
  count-reverse p (x ∷ xs) =
      omega (arith, ap (count p) (reverse-cons x xs), count-append p (reverse xs) (x ∷ []), count-reverse p xs)

  pub count_all : (l : List A) → count (λ x. true) l ≡ length l
  count_all [] = refl
  count_all (x ∷ xs) = omega (arith, count_all xs)

  pub count_most : (p : A → Bool) (l : List A) → count p l ≤ length l
  count_most p [] = omega arith
  count_most p (x ∷ xs) = omega (arith, count_most p xs, one_most (p x))

  pub count-drop : (p : A → Bool) (k : ℕ) (l : List A) → count p (drop k l) ≤ count p l
  count-drop p zero l = omega arith
  count-drop p (suc k) [] = omega arith
  count-drop p (suc k) (x ∷ xs) = omega (arith, count-drop p k xs)

  -- lists of equal counts are equally long
  pub counts-length : (l m : List A) → ((p : A → Bool) → count p l ≡ count p m) → length l ≡ length m
  counts-length l m h = omega (arith, count_all l, count_all m, h (λ x. true))

  -- where p implies q at the elements that are not excepted
  module _ (p q except : A → Bool) (implies : (x : A) → except x ≡ false → p x ≡ true → q x ≡ true) where
    implied : (x : A) (b c d : Bool) → except x ≡ b → p x ≡ c → q x ≡ d → one c ≤ one d + one b
    implied x true c d eb ec ed = omega (arith, one_most c)
    implied x false true true eb ec ed = omega arith
    implied x false true false eb ec ed = true_not_false (implies x eb ec) ed
    implied x false false d eb ec ed = omega arith

    pub count_implies : (l : List A) → count p l ≤ count q l + count except l
    count_implies [] = omega arith
    count_implies (x ∷ xs) = omega (arith, count_implies xs, implied x (except x) (p x) (q x) refl refl refl)

  pub count_never : (p : A → Bool) → ((x : A) → p x ≡ false) → (l : List A) → count p l ≡ 0
  count_never p h [] = refl
  count_never p h (x ∷ xs) = omega (arith, count_never p h xs, one_false (h x))

  -- where p implies q
  pub count_weaker : (p q : A → Bool) → ((x : A) → p x ≡ true → q x ≡ true) → (l : List A) → count p l ≤ count q l
  count_weaker p q h l = omega (arith, count_implies p q (λ x. false) (λ x e. h x) l, count_never (λ x. false) (λ x. refl) l)

  -- those that pass q and those that do not
  pub count_either : (p q : A → Bool) (l : List A) → count p l ≡ count (λ x. q x && p x) l + count (λ x. not (q x) && p x) l
  count_either p q [] = refl
  count_either p q (x ∷ xs) = step (q x) _ _ (count_either p q xs)
    where
      step : (b : Bool) (m n : ℕ) → count p xs ≡ m + n → one (p x) + count p xs ≡ (one (b && p x) + m) + (one (not b && p x) + n)
      step true m n e = omega arith
      step false m n e = omega arith

  -- those that pass and those that do not are all
  pub count_others : (p : A → Bool) (l : List A) → count p l + count (λ x. not (p x)) l ≡ length l
  count_others p [] = refl
  count_others p (x ∷ xs) = step (p x) (count_others p xs)
    where
      step : (b : Bool) → count p xs + count (λ x. not (p x)) xs ≡ length xs
          → one b + count p xs + (one (not b) + count (λ x. not (p x)) xs) ≡ suc (length xs)
      step true h = omega arith
      step false h = omega arith

  -- ---- the two ways to say that some element passes

  pub passes_count : (p : A → Bool) (l : List A) → some_passes p l ≡ true → 1 ≤ count p l
  passes_count p l e = leb-true 1 (count p l) e

  pub none_passes_count : (p : A → Bool) (l : List A) → some_passes p l ≡ false → count p l ≡ 0
  none_passes_count p l e = omega (arith, ltb-false 0 (count p l) e)

  -- ---- what is kept

  pub count-cons_if : (p : A → Bool) (b : Bool) (x : A) (l : List A) → count p (cons_if b x l) ≡ cond b (one (p x)) 0 + count p l
  count-cons_if p true x l = refl
  count-cons_if p false x l = omega arith

  pub count-keep : (p q : A → Bool) (l : List A) → count q (keep p l) ≡ count (λ x. p x && q x) l
  count-keep p q [] = refl
  count-keep p q (x ∷ xs) = simp count-cons_if (step (p x) (count-keep p q xs))
    where
      step : (b : Bool) {m n : ℕ} → m ≡ n → cond b (one (q x)) 0 + m ≡ one (b && q x) + n
      step true e = omega arith
      step false e = omega arith

  pub count_kept : (p q : A → Bool) (l : List A) → count q (keep p l) ≤ count q l
  count_kept p q l = omega (arith, count-keep p q l, count_weaker (λ x. p x && q x) q (λ x e. (both_true (p x) (q x) e).1) l)

  -- a list falls into three parts: those that pass a, those that pass only b, the others
  module _ (p a b : A → Bool) where
    pub count_split : (l : List A)
        → count p l ≡ count p (keep a l) + count p (keep (λ x. b x && not (a x)) l) + count p (keep (λ x. not (a x || b x)) l)
    count_split [] = refl
    count_split (x ∷ xs) = simp count-cons_if (step (a x) (b x) _ _ _ (count_split xs))
      where
        step : (u v : Bool) (k l m : ℕ) → count p xs ≡ k + l + m
            → one (p x) + count p xs
            ≡ (cond u (one (p x)) 0 + k) + (cond (v && not u) (one (p x)) 0 + l) + (cond (not (u || v)) (one (p x)) 0 + m)
        step true true k l m e = omega arith
        step true false k l m e = omega arith
        step false true k l m e = omega arith
        step false false k l m e = omega arith

  pub keep_append : (p : A → Bool) (s t : List A) → keep p (s ++ t) ≡ keep p s ++ keep p t
  keep_append p [] t = refl
  keep_append p (x ∷ xs) t = step (p x) (keep p xs) (keep p t) (keep_append p xs t)
    where
      step : (b : Bool) {k : List A} (l m : List A) → k ≡ l ++ m → cons_if b x k ≡ cons_if b x l ++ m
      step true l m e = cc
      step false l m e = e

  pub keep-nothing : (p : A → Bool) (l : List A) → count p l ≡ 0 → keep p l ≡ []
  keep-nothing p [] h = refl
  keep-nothing p (x ∷ xs) h = step (p x) h (keep-nothing p xs)
    where
      step : (b : Bool) {n : ℕ} {l : List A} → one b + n ≡ 0 → (n ≡ 0 → l ≡ []) → cons_if b x l ≡ []
      step true h ih = absurd (omega arith)
      step false h ih = ih (omega arith)

  pub keep_everything : (p : A → Bool) (l : List A) → count (λ x. not (p x)) l ≡ 0 → keep p l ≡ l
  keep_everything p [] h = refl
  keep_everything p (x ∷ xs) h = step (p x) h (keep_everything p xs)
    where
      step : (b : Bool) {n : ℕ} {l : List A} → one (not b) + n ≡ 0 → (n ≡ 0 → l ≡ xs) → cons_if b x l ≡ x ∷ xs
      step true {l = l} h ih = let e : l ≡ xs = ih (omega arith) in cc
      step false h ih = absurd (omega arith)

  -- where none passes b, none that passes b and not a is kept
  keep_none : (a b : A → Bool) (l : List A) → count b l ≡ 0 → keep (λ x. b x && not (a x)) l ≡ []
  keep_none a b l h =
      keep-nothing (λ x. b x && not (a x)) l
      (omega (arith, count_weaker (λ x. b x && not (a x)) b (λ x e. (both_true (b x) (not (a x)) e).0) l))

  -- the element found, where at most one passes b, is all that is kept of those that pass b and not a
  module _ (a b : A → Bool) (r : A) (out : a r ≡ false) where
    pub keep-found : (l : List A) → find b l ≡ some r → count b l ≤ 1 → keep (λ x. b x && not (a x)) l ≡ r ∷ []
    keep-found [] f h = let w : ◌≡◌ {A = ℕ} 0 1 = cc in absurd (omega arith)
    keep-found (x ∷ xs) f h = step (a x) (b x) refl f h (keep_none a b xs) (keep-found xs)
      where
        step : (u v : Bool) {n : ℕ} {l : List A} {o : Option A} → a x ≡ u → some_if v x o ≡ some r → one v + n ≤ 1
            → (n ≡ 0 → l ≡ []) → (o ≡ some r → n ≤ 1 → l ≡ r ∷ []) → cons_if (v && not u) x l ≡ r ∷ []
        step true true eu f h z ih = let xr : x ≡ r = cc in true_not_false eu (ap a xr ∙ out)
        step false true {l = l} eu f h z ih = let xr : x ≡ r = cc in let l0 : l ≡ [] = z (omega arith) in cc
        step u false eu f h z ih = ih f (omega arith)

  -- ---- what is found

  pub find_none : (p : A → Bool) (l : List A) → find p l ≡ none → count p l ≡ 0
  find_none p [] e = refl
  find_none p (x ∷ xs) e = step (p x) e (find_none p xs)
    where
      step : (b : Bool) {n : ℕ} {o : Option A} → some_if b x o ≡ none → (o ≡ none → n ≡ 0) → one b + n ≡ 0
      step true e ih = let w : ◌≡◌ {A = ℕ} 0 1 = cc in absurd (omega arith)
      step false {n} e ih = let h : n ≡ 0 = ih e in omega arith

  -- what is found passes
  pub found_passes : (p : A → Bool) (r : A) (l : List A) → find p l ≡ some r → p r ≡ true
  found_passes p r [] f = let w : ◌≡◌ {A = ℕ} 0 1 = cc in absurd (omega arith)
  found_passes p r (x ∷ xs) f = step (p x) refl f (found_passes p r xs)
    where
      step : (b : Bool) {o : Option A} → p x ≡ b → some_if b x o ≡ some r → (o ≡ some r → p r ≡ true) → p r ≡ true
      step true e f ih = let xr : x ≡ r = cc in ap p (sym xr) ∙ e
      step false e f ih = ih f

  -- what is found is counted by every test that it passes
  pub found-counts : (p q : A → Bool) (r : A) (l : List A) → find p l ≡ some r → q r ≡ true → 1 ≤ count q l
  found-counts p q r [] f e = let w : ◌≡◌ {A = ℕ} 0 1 = cc in absurd (omega arith)
  found-counts p q r (x ∷ xs) f e = step (p x) f (λ g. found-counts p q r xs g e)
    where
      step : (b : Bool) {n : ℕ} {o : Option A} → some_if b x o ≡ some r → (o ≡ some r → 1 ≤ n) → 1 ≤ one (q x) + n
      step true f ih = let xr : x ≡ r = cc in omega (arith, one_true (ap q xr ∙ e))
      step false {n} f ih = let h : 1 ≤ n = ih f in omega arith

  -- of a list in which none passes q, none that is found does
  pub found_not : (p q : A → Bool) (r : A) (l : List A) → find p l ≡ some r → count q l ≡ 0 → q r ≡ false
  found_not p q r l f h = step (q r) refl
    where
      step : (b : Bool) → q r ≡ b → b ≡ false
      step true e = absurd (omega (arith, found-counts p q r l f e))
      step false e = refl

  -- where the first list has none, what is found is found in the second
  pub find_skip : (p : A → Bool) (s t : List A) → count p s ≡ 0 → find p (s ++ t) ≡ find p t
  find_skip p [] t h = refl
  find_skip p (x ∷ xs) t h = step (p x) h (find_skip p xs t)
    where
      step : (b : Bool) {n : ℕ} {o o' : Option A} → one b + n ≡ 0 → (n ≡ 0 → o ≡ o') → some_if b x o ≡ o'
      step true h ih = absurd (omega arith)
      step false h ih = ih (omega arith)

  pub none-find : (p : A → Bool) (l : List A) → count p l ≡ 0 → find p l ≡ none
  none-find p [] h = refl
  none-find p (x ∷ xs) h = step (p x) h (none-find p xs)
    where
      step : (b : Bool) {n : ℕ} {o : Option A} → one b + n ≡ 0 → (n ≡ 0 → o ≡ none) → some_if b x o ≡ none
      step true h ih = absurd (omega arith)
      step false h ih = ih (omega arith)

  -- by a test of equality: of a list in which at most one passes, what is found is the one that is there
  module _ (same : A → A → Bool) (sound : (x y : A) → same x y ≡ true → x ≡ y) (self : (x : A) → same x x ≡ true) where
    pub find-one : (p : A → Bool) (x : A) (l : List A) → p x ≡ true → 1 ≤ count (same x) l → count p l ≤ 1 → find p l ≡ some x
    find-one p x [] e c h = absurd (omega arith)
    find-one p x (y ∷ ys) e c h = step (p y) (same x y) refl refl (find-one p x ys e)
      where
        also : (z : A) → same x z ≡ true → p z ≡ true
        also z f = ap p (sym (sound x z f)) ∙ e

        step : (b d : Bool) → p y ≡ b → same x y ≡ d → (1 ≤ count (same x) ys → count p ys ≤ 1 → find p ys ≡ some x)
            → some_if b y (find p ys) ≡ some x
        step true true f g ih = let xy : x ≡ y = sound x y g in ap some (sym xy)
        step true false f g ih = absurd (omega (arith, one_true f, one_false g, count_weaker (same x) p also ys))
        step false true f g ih = true_not_false (also y g) f
        step false false f g ih = ih (omega (arith, one_false g)) (omega arith)

    -- so it is the same in a rearrangement
    pub find-moved : (p : A → Bool) (l m : List A) → ((q : A → Bool) → count q l ≡ count q m) → count p m ≤ 1 → find p l ≡ find p m
    find-moved p l m moved few = go (find p m) refl
      where
        go : (o : Option A) → find p m ≡ o → find p l ≡ o
        go none f = none-find p l (omega (arith, moved p, find_none p m f))
        go (some x) f =
            find-one p x l (found_passes p x m f)
            (omega (arith, moved (same x), found-counts p (same x) x m f (self x))) (omega (arith, moved p))

  -- ---- insertion and ordered lists

  module _ (before : A → A → Bool) where
    pub count-insert : (p : A → Bool) (x : A) (l : List A) → count p (insert before x l) ≡ one (p x) + count p l
    count-insert p x [] = refl
    count-insert p x (y ∷ ys) = step (before x y) (insert before x ys) (count-insert p x ys)
      where
        step : (b : Bool) (l : List A) → count p l ≡ one (p x) + count p ys
            → count p (cond b (x ∷ y ∷ ys) (y ∷ l)) ≡ one (p x) + (one (p y) + count p ys)
        step true l h = refl
        step false l h = omega arith

    -- how many of a list are not after x
    abbrev pub behind : A → List A → ℕ
    behind x l = count (λ y. not (before x y)) l

    pub first_ordered : {x : A} {xs : List A} → Ordered before (x ∷ xs) → behind x xs ≡ 0
    first_ordered (cons h o) = h

    pub rest_ordered : {x : A} {xs : List A} → Ordered before (x ∷ xs) → Ordered before xs
    rest_ordered (cons h o) = o

    pub keep_ordered : (p : A → Bool) (l : List A) → Ordered before l → Ordered before (keep p l)
    keep_ordered p [] o = nil
    keep_ordered p (x ∷ xs) o = step (p x) few (keep_ordered p xs (rest_ordered o))
      where
        few : behind x (keep p xs) ≡ 0
        few = omega (arith, first_ordered o, count_kept p (λ y. not (before x y)) xs)

        step : (b : Bool) {l : List A} → behind x l ≡ 0 → Ordered before l → Ordered before (cons_if b x l)
        step true h o = cons h o
        step false h o = o

    module _ (transitive : (x y z : A) → before x y ≡ true → before y z ≡ true → before x z ≡ true)
        (same : A → A → Bool)
        (total : (x y : A) → before x y ≡ false → before y x ≡ false → same x y ≡ true) where
      -- what is before the first of an ordered list is before all of it
      before_all : (x y : A) (l : List A) → before x y ≡ true → behind y l ≡ 0 → behind x l ≡ 0
      before_all x y l e h =
          omega (arith, count_implies (λ z. not (before x z)) (λ z. not (before y z)) (λ z. not (before y z)) follows l)
        where
          follows : (z : A) → not (before y z) ≡ false → not (before x z) ≡ true → not (before y z) ≡ true
          follows z a b = true_not_false b (ap not (transitive x y z e (not-false _ a)))

      -- an element that is none of an ordered list's enters it in order
      pub insert_ordered : (x : A) (l : List A) → count (same x) l ≡ 0 → Ordered before l → Ordered before (insert before x l)
      insert_ordered x [] h o = cons refl nil
      insert_ordered x (y ∷ ys) h o =
          step (before x y) (before y x) refl refl (insert_ordered x ys (omega arith) (rest_ordered o))
        where
          step : (b c : Bool) → before x y ≡ b → before y x ≡ c → Ordered before (insert before x ys)
              → Ordered before (cond b (x ∷ y ∷ ys) (y ∷ insert before x ys))
          step true c e f ih =
              cons {x = x} {xs = y ∷ ys} (omega (arith, before_all x y ys e (first_ordered o), one_false (ap not e))) o
          step false true e f ih =
              cons {x = y} {xs = insert before x ys}
              (omega (arith, first_ordered o, count-insert (λ z. not (before y z)) x ys, one_false (ap not f))) ih
          step false false e f ih = true_not_false (total x y e f) (one_zero (same x y) (omega arith))

  -- ---- the common start

  module _ (same : A → A → Bool) where
    pub common_start_most : (xs ys : List A) → common_start same xs ys ≤ length xs
    common_start_most [] ys = omega arith
    common_start_most (x ∷ xs) [] = omega arith
    common_start_most (x ∷ xs) (y ∷ ys) = step (same x y) (common_start_most xs ys)
      where
        step : (b : Bool) {n m : ℕ} → n ≤ m → cond b (suc n) 0 ≤ suc m
        step true h = omega arith
        step false h = omega arith

    -- it is a start of both
    module _ (sound : (x y : A) → same x y ≡ true → x ≡ y) where
      pub common_start_both : (xs ys : List A) → take (common_start same xs ys) xs ≡ take (common_start same xs ys) ys
      common_start_both [] [] = refl
      common_start_both [] (y ∷ ys) = refl
      common_start_both (x ∷ xs) [] = refl
      common_start_both (x ∷ xs) (y ∷ ys) = step (same x y) (common_start same xs ys) refl (common_start_both xs ys)
        where
          step : (b : Bool) (n : ℕ) → same x y ≡ b → take n xs ≡ take n ys
              → take (cond b (suc n) 0) (x ∷ xs) ≡ take (cond b (suc n) 0) (y ∷ ys)
          step true n e ih = let xy : x ≡ y = sound x y e in cc
          step false n e ih = refl

    -- no longer start of both is equal
    module _ (self : (x : A) → same x x ≡ true) where
      pub common_start_longest : (k : ℕ) (xs ys : List A) → k ≤ length xs → k ≤ length ys → take k xs ≡ take k ys
          → k ≤ common_start same xs ys
      common_start_longest zero xs ys h l e = omega arith
      common_start_longest (suc k) [] ys h l e = absurd (omega arith)
      common_start_longest (suc k) (x ∷ xs) [] h l e = absurd (omega arith)
      common_start_longest (suc k) (x ∷ xs) (y ∷ ys) h l e =
          let rest : take k xs ≡ take k ys = cc in
          step (same x y) refl (cc) (common_start_longest k xs ys (omega arith) (omega arith) rest)
        where
          step : (b : Bool) {n : ℕ} → same x y ≡ b → x ≡ y → k ≤ n → suc k ≤ cond b (suc n) 0
          step true f xy h = omega arith
          step false f xy h = true_not_false (self x) (ap (same x) xy ∙ f)

    -- a start of c and then t shares with c and then u all but at most the length of t
    module _ (self : (x : A) → same x x ≡ true) where
      pub common_start_lost : (c xs ys t u : List A) → xs ++ ys ≡ c ++ t → length xs ≤ common_start same xs (c ++ u) + length t
      common_start_lost [] xs ys t u e = omega (arith, simp length-append at (ap length e))
      common_start_lost (z ∷ c) [] ys t u e = omega arith
      common_start_lost (z ∷ c) (x ∷ xs) ys t u e =
          let rest : xs ++ ys ≡ c ++ t = cc in
          step (same x z) _ refl (cc) (common_start_lost c xs ys t u rest)
        where
          step : (b : Bool) (k : ℕ) → same x z ≡ b → x ≡ z → length xs ≤ k + length t → suc (length xs) ≤ cond b (suc k) 0 + length t
          step true k e xz h = omega arith
          step false k e xz h = true_not_false (self x) (ap (same x) xz ∙ e)

  -- ---- the pigeonhole: elements with distinct numbers below n are at most n

  module _ (number : A → ℕ) where
    one_more : (x : A) (n : ℕ) (u v w : Bool)
        → ltb (number x) (suc n) ≡ u → ltb (number x) n ≡ v → eqb (number x) n ≡ w → one u ≤ one v + one w
    one_more x n false v w eu ev ew = omega arith
    one_more x n true true w eu ev ew = omega arith
    one_more x n true false true eu ev ew = omega arith
    one_more x n true false false eu ev ew =
        absurd (eqb-false (number x) n ew (omega (arith, ltb-true (number x) (suc n) eu, ltb-false (number x) n ev)))

    count_below : (n : ℕ) (l : List A)
        → count (λ x. ltb (number x) (suc n)) l ≤ count (λ x. ltb (number x) n) l + count (λ x. eqb (number x) n) l
    count_below n [] = omega arith
    count_below n (x ∷ xs) = omega (arith, count_below n xs, one_more x n _ _ _ refl refl refl)

    none_below : (l : List A) → count (λ x. ltb (number x) 0) l ≡ 0
    none_below [] = refl
    none_below (x ∷ xs) = omega (arith, none_below xs, one_false (le-ltb (number x) 0 zero-le))

    pub pigeonhole : (l : List A) → ((k : ℕ) → count (λ x. eqb (number x) k) l ≤ 1) → (n : ℕ) → count (λ x. ltb (number x) n) l ≤ n
    pigeonhole l h zero = omega (arith, none_below l)
    pigeonhole l h (suc n) = omega (arith, count_below n l, h n, pigeonhole l h n)

-- ---- the first element

module _ {A : Type 0} where
  pub nil_is : (l : List A) → is_nil l ≡ true → l ≡ []
  nil_is [] e = refl
  nil_is (x ∷ xs) e = true_not_false e refl

  pub length-nil : (l : List A) → length l ≡ 0 → is_nil l ≡ true
  length-nil [] e = refl
  length-nil (x ∷ xs) e = absurd (omega arith)

  -- a list that is not empty has a first element and one element less behind it
  pub first-length : (l : List A) → is_nil l ≡ false → (length l ≡ suc (length (drop 1 l))) × (length (take 1 l) ≡ 1)
  first-length [] e = true_not_false refl e
  first-length (x ∷ xs) e = (refl, refl)

  pub not-nil : (l : List A) → 1 ≤ length l → is_nil l ≡ false
  not-nil [] h = absurd (omega arith)
  not-nil (x ∷ xs) h = refl
