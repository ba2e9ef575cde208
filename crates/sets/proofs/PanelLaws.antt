-- Laws of the panels that a set names, from one on: after a join, after a leave, of the empty set.
use Prim.Native.Nat.{ℕ, zero, suc, ◌<◌}
use mathlib.Core.Path.{◌≡◌, refl, ap}
use mathlib.Core.Bool.{Bool, true, false, not}
use lib.ListN.{drop, replicate}
use lib.Seq.{drop-set-lt}
use Rattle.sets.specs.declared.Context.{Context}
use Rattle.numbers.specs.declared.Number.{Number}
use Rattle.numbers.specs.Numbers.{most_panels, bad_number}
use Rattle.sets.specs.Sets.{empty_set, all_zero, names_from, member, join, leave}

module _ (p : ℕ) (s : Context) (n : Number) (below : n.panel.0 < p) where
  pub names_from-join : names_from p (join s n) ≡ names_from p s
  unfolding names_from join
  names_from-join = go (bad_number most_panels n) refl
    where
      go : (b : Bool) → bad_number most_panels n ≡ b → names_from p (join s n) ≡ names_from p s
      go true e = rw e
      go false e = rw (e, drop-set-lt p s.words n.panel.0)

  pub names_from-leave : names_from p (leave s n) ≡ names_from p s
  unfolding names_from leave
  names_from-leave = go (member s n) refl
    where
      go : (b : Bool) → member s n ≡ b → names_from p (leave s n) ≡ names_from p s
      go true e = rw (e, drop-set-lt p s.words n.panel.0)
      go false e = rw e

zeros_from : (p k : ℕ) → all_zero (drop p (replicate k 0)) ≡ true
unfolding all_zero
zeros_from zero zero = refl
zeros_from zero (suc k) = zeros_from zero k
zeros_from (suc p) zero = refl
zeros_from (suc p) (suc k) = zeros_from p k

pub names_from_empty : (p : ℕ) → names_from p empty_set ≡ false
unfolding names_from
names_from_empty p = ap not (zeros_from p most_panels)
