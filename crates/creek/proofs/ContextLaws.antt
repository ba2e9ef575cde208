-- Laws of a set of numbers without those of a list of requests.
use Prim.Native.Nat.{ℕ, ◌+◌}
use native.Mathlib.Omega.{arith}
use mathlib.Core.Path.{◌≡◌, refl, sym, ap, ◌∙◌}
use mathlib.Core.Bool.{Bool, true, false, not, ◌&&◌, and-true, and_assoc}
use mathlib.Core.List.{List, [], ◌∷◌}
use lib.ListN.{length}
use lib.Dec.{leb, ltb}
use borrow.Author.Tests.{ltb-true, le-leb, not-false}
use Rattle.sets.specs.declared.Context.{Context}
use Rattle.numbers.specs.declared.Number.{Number}
use Rattle.request.specs.declared.Request.{Request}
use Rattle.sets.specs.Sets.{names_from, member, leave}
use Rattle.lists.proofs.BoolLaws.{both_true}
use Rattle.numbers.proofs.NumberLaws.{same_number_sym}
use Rattle.sets.proofs.SetLaws.{member-leave, leave-length}
use Rattle.sets.proofs.PanelLaws.{names_from-leave}
use Rattle.lists.specs.Lists.{one, count, some_passes}
use Rattle.creek.specs.Plan.{has_number, without}
use Rattle.lists.proofs.ListLaws.{one_zero}

pub without-length : (s : Context) (l : List Request) → length (without s l).words ≡ length s.words
unfolding without
without-length s [] = refl
without-length s (x ∷ xs) = without-length (leave s x.number) xs ∙ leave-length s x.number

-- it has no number that the set had not
pub without-member : (s : Context) (l : List Request) (n : Number) → member (without s l) n ≡ true → member s n ≡ true
unfolding without
without-member s [] n h = h
without-member s (x ∷ xs) n h =
    (both_true _ _ (sym (member-leave s x.number n) ∙ without-member (leave s x.number) xs n h)).0

-- it has the numbers that the set has and no request of the list has
pub member-without : (s : Context) (l : List Request) (n : Number)
    → member (without s l) n ≡ (member s n && not (some_passes (has_number n) l))
unfolding without
member-without s [] n = sym (and-true (member s n))
member-without s (x ∷ xs) n =
    member-without (leave s x.number) xs n
    ∙ ap (λ (b : Bool). b && not (some_passes (has_number n) xs)) (member-leave s x.number n)
    ∙ ap (λ (b : Bool). member s n && not b && not (some_passes (has_number n) xs)) (same_number_sym x.number n)
    ∙ and_assoc (member s n) (not (has_number n x)) (not (some_passes (has_number n) xs))
    ∙ ap (λ (b : Bool). member s n && b) (step (has_number n x))
  where
    step : (b : Bool) → (not b && not (leb 1 (count (has_number n) xs))) ≡ not (leb 1 (one b + count (has_number n) xs))
    step true = ap not (sym (le-leb 1 (1 + count (has_number n) xs) (omega arith)))
    step false = let z : 0 + count (has_number n) xs ≡ count (has_number n) xs = omega arith in rw z

-- x's panel is not below p
abbrev pub beyond : ℕ → Request → Bool
beyond p x = not (ltb x.number.panel.0 p)

pub without-names_from : (p : ℕ) (s : Context) (l : List Request) → count (beyond p) l ≡ 0 → names_from p (without s l) ≡ names_from p s
unfolding without
without-names_from p s [] h = refl
without-names_from p s (x ∷ xs) h =
    without-names_from p (leave s x.number) xs (omega arith)
    ∙ names_from-leave p s x.number (ltb-true _ _ (not-false _ (one_zero (beyond p x) (omega arith))))
