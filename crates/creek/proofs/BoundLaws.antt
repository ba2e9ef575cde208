-- The bound on undos: as a product, as document 01 has it, and for any panel.
use Prim.Native.Nat.{ℕ, zero, suc, ◌+◌, ◌-◌, ◌*◌, ◌/◌, ◌≤◌}
use native.Mathlib.Omega.{arith}
use native.Mathlib.Nat.{mul-le-mul}
use mathlib.Core.Path.{◌≡◌, refl}
use lib.ListN.{length, length-append}
use Rattle.lists.proofs.ListLaws.{count_most}
use Rattle.creek.specs.Calls.{Replica}
use Rattle.creek.specs.Showing.{requests_shown, commits_shown, undos_shown}
use Rattle.creek.specs.internal.Sound.{most_requests, WithinBound, Sound}
use Rattle.creek.specs.Demand.{most_undos}

-- n(n−1)/2 by addition
sum_below : ℕ → ℕ
sum_below zero = 0
sum_below (suc n) = n + sum_below n

sum_below_twice : (n : ℕ) → 2 * sum_below n + n ≡ n * n
unfolding sum_below
sum_below_twice zero = refl
sum_below_twice (suc n) = omega (arith, sum_below_twice n)

sum_below_is : (n : ℕ) → n * (n - 1) / 2 ≡ sum_below n
unfolding sum_below
sum_below_is zero = refl
sum_below_is (suc n) =
    let p : suc n - 1 ≡ n = omega arith in
    let q : suc n * n ≡ 2 * (n + sum_below n) = omega (arith, sum_below_twice n) in
    rw (p, q) (omega arith)

pub bound_holds : (w s n : ℕ) → WithinBound w s n → w ≤ most_undos n s
unfolding most_undos
bound_holds w s n h = rw (sum_below_is n, sum_below_is s) (omega (arith, sum_below_twice n, sum_below_twice s))

-- with at most 512 requests, of which s are committed
bound_most : (w s d : ℕ) → WithinBound w s (s + d) → (s + d) * (s + d) ≤ most_requests * most_requests → w ≤ most_requests * most_requests
bound_most w s d h q = omega arith

bound-few : (w s n : ℕ) → WithinBound w s n → s ≤ n → n ≤ most_requests → w ≤ most_requests * most_requests
bound-few w s n h l m =
    let e : n ≡ s + (n - s) = omega arith in
    let q : n * n ≤ most_requests * most_requests = mul-le-mul m m in
    bound_most w s (n - s) (rw (← e) h) (rw (← e) q)

-- no panel undoes more
pub few_undos : (r : Replica) → Sound r → undos_shown r + length r.book.execution.rollback ≤ most_requests * most_requests
few_undos r i =
    bound-few (undos_shown r + length r.book.execution.rollback) (commits_shown r) (requests_shown r) i.within
    (omega (
      arith,
      i.commits_strong,
      count_most (λ x. x.asked.strong) r.book.plan.committed,
      length-append r.book.plan.committed r.book.plan.tentative,
    ))
    i.few
