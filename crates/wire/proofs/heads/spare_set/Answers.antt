-- `heads::spare_set` meets its contract, kind by kind.
use Prim.Native.Nat.{ℕ, ◌+◌, ◌≤◌, ◌<◌}
use mathlib.Core.List.{List}
use mathlib.Core.Bool.{false, not}
use mathlib.Core.Path.{◌≡◌, refl, sym, ◌∙◌}
use native.Mathlib.Nat.{add_assoc, add-zero}
use native.Mathlib.Omega.{arith}
use lib.Dec.{eqb}
use lib.ListN.{length, get_or}
use Rattle.std.specs.Prelude.{◌⊎◌}
use Rattle.std.proofs.Common.{inl, inr}
use Rattle.wire.specs.declared.Kind.{Kind}
use Rattle.wire.specs.declared.Kind.TheVariants.{Weak, Strong, Settlement}
use Rattle.wire.specs.Integers.{integer_at}
use Rattle.fields.specs.Widths.{spare_field, decode}
use Rattle.wire.specs.Layout.{least_size, widths_with, layout}
use Rattle.wire.specs.Reader.{spare_set, fields_at}
use Rattle.wire.proofs.ReaderLaws.{one_spare}
use Rattle.wire.proofs.heads.spare_set.Goals as goal

-- a request has its spare byte behind the operation
module _ (s : List ℕ) (at : ℕ) where
  inside : (k : Kind) → (k ≡ Weak) ⊎ (k ≡ Strong) → at + least_size k ≤ length s → at + 13 < length s
  unfolding least_size widths_with layout
  inside Weak e h = omega (arith, h)
  inside Strong e h = omega (arith, h)
  inside Settlement (inl e) h = cc
  inside Settlement (inr e) h = cc

  told : (k : Kind) → (k ≡ Weak) ⊎ (k ≡ Strong) → not (eqb (get_or s (at + 13) 0) 0) ≡ spare_set k (fields_at k s at)
  unfolding fields_at widths_with layout decode integer_at
  told Weak e = sym (one_spare Weak spare_field _ refl ∙ simp (add_assoc, add-zero))
  told Strong e = sym (one_spare Strong spare_field _ refl ∙ simp (add_assoc, add-zero))
  told Settlement (inl e) = cc
  told Settlement (inr e) = cc

  none : (k : Kind) → k ≡ Settlement → spare_set k (fields_at k s at) ≡ false
  unfolding spare_set layout
  none Settlement e = refl
  none Weak e = cc
  none Strong e = cc

pub bounds-s-at : goal.bounds-s-at
bounds-s-at c = inside c.args.s.now c.args.at c.args.kind c.in-Weak.is c.requires

pub returns-in-Weak : goal.returns-in-Weak
returns-in-Weak c = told c.args.s.now c.args.at c.args.kind c.in-Weak.is

pub returns-in-Settlement : goal.returns-in-Settlement
returns-in-Settlement c = sym (none c.args.s.now c.args.at c.args.kind c.in-Settlement.is)
