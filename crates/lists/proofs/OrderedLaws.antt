-- Laws of lists in a strict order: its elements by their places; such a list is determined by its members, and with it what a test keeps of it after an insertion; and
-- what is found after one.
use Prim.Native.Nat.{ℕ, zero, suc, ◌+◌, ◌≤◌, ◌<◌}
use native.Mathlib.Omega.{arith}
use mathlib.Core.Path.{◌≡◌, refl, sym, ap, ◌∙◌}
use mathlib.Core.Bool.{Bool, true, false, not, ◌&&◌, cond}
use mathlib.Core.List.{List, [], ◌∷◌}
use lib.ListN.{length, get_or}
use borrow.Author.Tests.{not-false}
use Rattle.lists.specs.Lists.{one, count, keep, some_if, find, insert, Ordered}
use Rattle.lists.proofs.BoolLaws.{true_not_false}
use Rattle.lists.proofs.AllLaws.{all_at, none_all}
use Rattle.lists.proofs.ListLaws.{one_true, one_false, count_weaker, count-keep, count_kept, count-insert, first_ordered}
use Rattle.lists.proofs.ListLaws.{rest_ordered, keep_ordered, insert_ordered}

module _ {A : Type 0} (before : A → A → Bool) where
  -- an element that fails the test changes nothing of what is found
  pub find-insert : (test : A → Bool) (x : A) (l : List A) → test x ≡ false → find test (insert before x l) ≡ find test l
  find-insert test x [] e = rw e
  find-insert test x (y ∷ ys) e = go (before x y) (find-insert test x ys e)
    where
      go : (b : Bool) → find test (insert before x ys) ≡ find test ys
          → find test (cond b (x ∷ y ∷ ys) (y ∷ insert before x ys)) ≡ some_if (test y) y (find test ys)
      go true ih = rw e
      go false ih = ap (some_if (test y) y) ih

  -- of two elements the one at the lower place is before the other
  pub ordered_at : (l : List A) → Ordered before l → (i j : ℕ) (d : A) → i < j → j < length l → before (get_or l i d) (get_or l j d) ≡ true
  ordered_at [] o i j d low inside = absurd (omega arith)
  ordered_at (x ∷ xs) o i zero d low inside = absurd (omega arith)
  ordered_at (x ∷ xs) o zero (suc j) d low inside =
      not-false _ (all_at (λ y. not (before x y) ≡ false) xs j d (none_all (λ y. not (before x y)) xs (first_ordered before o)) (omega arith))
  ordered_at (x ∷ xs) o (suc i) (suc j) d low inside = ordered_at xs (rest_ordered before o) i j d (omega arith) (omega arith)

  module _ (irreflexive : (x : A) → before x x ≡ false)
      (transitive : (x y z : A) → before x y ≡ true → before y z ≡ true → before x z ≡ true)
      (equal : A → A → Bool) (sound : (x y : A) → equal x y ≡ true → x ≡ y) (self : (x : A) → equal x x ≡ true) where
    -- a member of a list in which none passes a test fails it
    member_fails : (test : A → Bool) (x : A) (l : List A) → 1 ≤ count (equal x) l → count test l ≡ 0 → test x ≡ false
    member_fails test x l here none = go (test x) refl
      where
        go : (b : Bool) → test x ≡ b → b ≡ false
        go true e = absurd (omega (arith, count_weaker (equal x) test (λ y f. ap test (sym (sound x y f)) ∙ e) l))
        go false e = refl

    -- a member of an ordered list that is not its first comes behind that
    first-before : (x y : A) (ys : List A) → equal x y ≡ false → 1 ≤ count (equal x) (y ∷ ys) → Ordered before (y ∷ ys)
        → before y x ≡ true
    first-before x y ys other here o =
        not-false _ (member_fails (λ z. not (before y z)) x ys (omega (arith, one_false other)) (first_ordered before o))

    other_way : (x y : A) → equal x y ≡ false → equal y x ≡ false
    other_way x y e = go (equal y x) refl
      where
        go : (b : Bool) → equal y x ≡ b → b ≡ false
        go true f = true_not_false (ap (equal x) (sound y x f) ∙ self x) e
        go false f = refl

    -- an ordered list is determined by its members
    pub ordered_unique : (l m : List A) → Ordered before l → Ordered before m → ((z : A) → count (equal z) l ≡ count (equal z) m) → l ≡ m
    ordered_unique [] [] o p h = refl
    ordered_unique [] (y ∷ ys) o p h = absurd (omega (arith, h y, one_true (self y)))
    ordered_unique (x ∷ xs) [] o p h = absurd (omega (arith, h x, one_true (self x)))
    ordered_unique (x ∷ xs) (y ∷ ys) o p h =
        go (equal x y) refl (ordered_unique xs ys (rest_ordered before o) (rest_ordered before p))
      where
        go : (b : Bool) → equal x y ≡ b → (((z : A) → count (equal z) xs ≡ count (equal z) ys) → xs ≡ ys) → x ∷ xs ≡ y ∷ ys
        go true e ih =
            let xy : x ≡ y = sound x y e in
            let rest : xs ≡ ys = ih (λ z. omega (arith, h z, ap (λ (w : A). one (equal z w)) xy)) in
            cc
        go false e ih =
            true_not_false
            (transitive x y x (first-before y x xs (other_way x y e) (omega (arith, h y, one_true (self y))) o)
            (first-before x y ys e (omega (arith, h x, one_true (self x))) p))
            (irreflexive x)

    module _ (same : A → A → Bool) (total : (x y : A) → before x y ≡ false → before y x ≡ false → same x y ≡ true)
        (test : A → Bool) (x : A) (l : List A) (absent : count (same x) l ≡ 0) (ordered : Ordered before l) where
      inserted : Ordered before (keep test (insert before x l))
      inserted = keep_ordered before test (insert before x l) (insert_ordered before transitive same total x l absent ordered)

      count_inserted : (z : A) → count (equal z) (keep test (insert before x l)) ≡ one (test x && equal z x) + count (equal z) (keep test l)
      count_inserted z =
          omega (
            arith,
            count-keep test (equal z) (insert before x l),
            count-insert before (λ y. test y && equal z y) x l,
            count-keep test (equal z) l,
          )

      -- an element that the test keeps stands in its place among those kept
      pub keep_inserted : test x ≡ true → keep test (insert before x l) ≡ insert before x (keep test l)
      keep_inserted e =
          ordered_unique (keep test (insert before x l)) (insert before x (keep test l)) inserted
          (insert_ordered before transitive same total x (keep test l) (omega (arith, absent, count_kept test (same x) l))
          (keep_ordered before test l ordered))
          (λ z. omega (
            arith,
            count_inserted z,
            ap (λ (b : Bool). one (b && equal z x)) e,
            count-insert before (equal z) x (keep test l),
          ))

      -- one that it does not keep changes nothing of what is kept
      pub keep_not_inserted : test x ≡ false → keep test (insert before x l) ≡ keep test l
      keep_not_inserted e =
          ordered_unique (keep test (insert before x l)) (keep test l) inserted (keep_ordered before test l ordered)
          (λ z. omega (arith, count_inserted z, ap (λ (b : Bool). one (b && equal z x)) e))
