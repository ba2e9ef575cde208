-- What follows from the layout for any kind: its sizes, and the kind that a number tells.
use Prim.Native.Nat.{ℕ, ◌+◌, ◌≤◌}
use mathlib.Core.Path.{◌≡◌, refl, ap, ◌∙◌}
use mathlib.Core.Bool.{Bool, true, false, cond}
use mathlib.Core.List.{◌++◌}
use Rattle.std.specs.Prelude.{Some, None}
use native.Mathlib.Omega.{arith}
use lib.Dec.{eqb}
use lib.ListN.{replicate}
use borrow.Author.Tests.{eqb-true, ne_eqb}
use Rattle.fields.proofs.WidthLaws.{size-append, size_bytes}
use Rattle.wire.specs.declared.Kind.{Kind}
use Rattle.wire.specs.declared.Kind.TheVariants.{Weak, Strong, Settlement}
use Rattle.fields.specs.Widths.{byte_width, head_size, size}
use Rattle.wire.specs.Layout.{kind_number, layout, kind_with, widths_with, least_size}

-- ---- sizes

-- a run makes a message longer by its bytes
pub size_with : (k : Kind) (n : ℕ) → size (widths_with k n) ≡ least_size k + n
unfolding widths_with least_size
size_with k n =
    let front = (layout k).front in
    let behind = (layout k).behind in
    omega (
      arith,
      size-append front (replicate n byte_width ++ behind),
      size-append (replicate n byte_width) behind,
      size-append front behind,
      size_bytes n,
    )

-- every message has a head
pub head_least : (k : Kind) → head_size ≤ least_size k
unfolding widths_with least_size
head_least k = omega arith

-- ---- the kind that a number tells

pub known-number : (n : ℕ) (k : Kind) → kind_with n ≡ Some k → n ≡ kind_number k
unfolding kind_with
known-number n k e = by (eqb n 1) (eqb n 2) (eqb n 3) refl refl refl e
  where
    by : (a b c : Bool) → eqb n 1 ≡ a → eqb n 2 ≡ b → eqb n 3 ≡ c
        → cond a (Some Weak) (cond b (Some Strong) (cond c (Some Settlement) None)) ≡ Some k → n ≡ kind_number k
    by true b c p q r e = let is : Weak ≡ k = cc in eqb-true n 1 p ∙ ap kind_number is
    by false true c p q r e = let is : Strong ≡ k = cc in eqb-true n 2 q ∙ ap kind_number is
    by false false true p q r e = let is : Settlement ≡ k = cc in eqb-true n 3 r ∙ ap kind_number is
    by false false false p q r e = cc

pub unknown-number : (n : ℕ) → ((k : Kind) → n ≡ kind_number k → ⊥) → kind_with n ≡ None
unfolding kind_with
unknown-number n h = simp (ne_eqb n 1 (h Weak), ne_eqb n 2 (h Strong), ne_eqb n 3 (h Settlement))
