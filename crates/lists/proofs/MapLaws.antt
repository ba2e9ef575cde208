-- Laws of lists under a map, and of tests that agree on every element: what is counted, kept, found, inserted or common is the
-- same.
use Prim.Native.Nat.{ℕ, suc, zero, ◌+◌}
use mathlib.Core.Path.{◌≡◌, refl, ap, ◌∙◌}
use mathlib.Core.Bool.{Bool, true, false, cond}
use mathlib.Core.List.{List, [], ◌∷◌, map, map-append}
use mathlib.Core.Option
use mathlib.Core.Option.{Option}
use lib.ListN.{take, drop}
use Rattle.lists.specs.Lists.{one, count, cons_if, keep, some_if, find, common_start}
use Rattle.lists.specs.Places.{All, leading, insert_at}

-- ---- parts

module _ {A B : Type 0} (f : A → B) where
  pub map-take : (n : ℕ) (l : List A) → map f (take n l) ≡ take n (map f l)
  map-take zero l = refl
  map-take (suc n) [] = refl
  map-take (suc n) (x ∷ xs) = ap (λ (r : List B). f x ∷ r) (map-take n xs)

  pub map-drop : (n : ℕ) (l : List A) → map f (drop n l) ≡ drop n (map f l)
  map-drop zero l = refl
  map-drop (suc n) [] = refl
  map-drop (suc n) (x ∷ xs) = map-drop n xs

  pub map-insert_at : (k : ℕ) (x : A) (l : List A) → map f (insert_at k x l) ≡ insert_at k (f x) (map f l)
  unfolding insert_at
  map-insert_at k x l = map-append f (take k l) (x ∷ drop k l) ∙ rw (map-take k l, map-drop k l)

  -- ---- tests on a mapped list

  pub keep-map : (p : B → Bool) (l : List A) → keep p (map f l) ≡ map f (keep (λ x. p (f x)) l)
  keep-map p [] = refl
  keep-map p (x ∷ xs) = rw (keep-map p xs) (go (p (f x)) (keep (λ x. p (f x)) xs))
    where
      go : (b : Bool) (k : List A) → cons_if b (f x) (map f k) ≡ map f (cons_if b x k)
      go true k = refl
      go false k = refl

  pub find-map : (p : B → Bool) (l : List A) → find p (map f l) ≡ Option.map f (find (λ x. p (f x)) l)
  find-map p [] = refl
  find-map p (x ∷ xs) = rw (find-map p xs) (go (p (f x)) (find (λ x. p (f x)) xs))
    where
      go : (b : Bool) (o : Option A) → some_if b (f x) (Option.map f o) ≡ Option.map f (some_if b x o)
      go true o = refl
      go false o = refl

  pub count_map : (p : B → Bool) (l : List A) → count p (map f l) ≡ count (λ x. p (f x)) l
  count_map p [] = refl
  count_map p (x ∷ xs) = ap (λ (n : ℕ). one (p (f x)) + n) (count_map p xs)

  pub leading-map : (p : B → Bool) (l : List A) → leading p (map f l) ≡ leading (λ x. p (f x)) l
  leading-map p [] = refl
  leading-map p (x ∷ xs) = ap (λ (n : ℕ). cond (p (f x)) (suc n) 0) (leading-map p xs)

  -- the common start is that of the lists themselves, where the one comparison on images is the other on the elements concerned
  module _ (P : A → Type 0) (same : A → A → Bool) (alike : B → B → Bool)
      (agree : (x y : A) → P x → P y → alike (f x) (f y) ≡ same x y) where
    pub common_start-map : (s t : List A) → All P s → All P t → common_start alike (map f s) (map f t) ≡ common_start same s t
    common_start-map [] t a b = refl
    common_start-map (x ∷ xs) [] a b = refl
    common_start-map (x ∷ xs) (y ∷ ys) a b = rw (agree x y a.0 b.0, common_start-map xs ys a.1 b.1)

-- ---- what agrees on every element

pub map_agree : {A B : Type 0} (f g : A → B) (l : List A) → All (λ x. f x ≡ g x) l → map f l ≡ map g l
map_agree f g [] a = refl
map_agree f g (x ∷ xs) a = cc (a.0, map_agree f g xs a.1)

module _ {A : Type 0} (p q : A → Bool) where
  pub keep_agree : (l : List A) → All (λ x. p x ≡ q x) l → keep p l ≡ keep q l
  keep_agree [] a = refl
  keep_agree (x ∷ xs) a = rw (a.0, keep_agree xs a.1)

  pub find_agree : (l : List A) → All (λ x. p x ≡ q x) l → find p l ≡ find q l
  find_agree [] a = refl
  find_agree (x ∷ xs) a = rw (a.0, find_agree xs a.1)

  pub count_agree : (l : List A) → All (λ x. p x ≡ q x) l → count p l ≡ count q l
  count_agree [] a = refl
  count_agree (x ∷ xs) a = rw (a.0, count_agree xs a.1)

  pub leading_agree : (l : List A) → All (λ x. p x ≡ q x) l → leading p l ≡ leading q l
  leading_agree [] a = refl
  leading_agree (x ∷ xs) a = rw (a.0, leading_agree xs a.1)
