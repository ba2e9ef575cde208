-- Demand 3 for every list of calls: the counts shown, and the theorem `demand_3`.
use Prim.Native.Nat.{ℕ, ◌+◌}
use native.Mathlib.Omega.{arith}
use mathlib.Core.Path.{◌≡◌, refl, ap}
use mathlib.Core.Bool.{Bool, true, false, ◌&&◌, cond}
use mathlib.Core.List.{List, [], ◌∷◌}
use lib.ListN.{length, length-append}
use Rattle.request.specs.Refusal as refused
use Rattle.lists.specs.Lists.{one}
use Rattle.creek.specs.Plan.{Plan, order, made}
use Rattle.creek.specs.Book.{Call, invoke, deliver, commit, undo, execute, Book, empty_book, refusal, is_accepted, accepted}
use Rattle.creek.specs.Calls.{Replica, replica_of, bad_shop, fresh, brings_request, is_commit, is_undo, is_execute, accept, step}
use Rattle.creek.specs.History.{run, accepted_in}
use Rattle.creek.specs.Showing.{requests_shown, commits_shown, undos_shown, executions_shown}
use Rattle.creek.specs.internal.Sound.{Sound}
use Rattle.creek.specs.Demand.{Demand3}
use Rattle.creek.proofs.CallLaws.{by-outcome, step_book}
use Rattle.creek.proofs.AcceptanceLaws.{commits}
use Rattle.creek.proofs.EnteredLaws.{entered-length}
use Rattle.creek.proofs.CommittedLaws.{committing-length}
use Rattle.creek.proofs.ExecutionLaws.{board-length}
use Rattle.creek.proofs.SoundLaws.{step_sound, fresh_sound, reached_sound}
use Rattle.creek.proofs.DueLaws.{later_plan, due_accepted, idle_exactly, replayed}
use Rattle.creek.proofs.BoundLaws.{bound_holds, few_undos}

-- ---- a number shown that counts the accepted calls of a kind

module _ (shown : Replica → ℕ) (kind : Call → Bool)
    (grows : (r : Replica) (c : Call) → Sound r → refusal r.book c ≡ refused.accepted
    → shown (accept r c) ≡ shown r + one (kind c)) where
  step_counts : (r : Replica) (c : Call) → Sound r → shown (step r c) ≡ shown r + one (is_accepted r.book c && kind c)
  step_counts r c i = by-outcome (λ v w q. shown q ≡ shown r + one (v && kind c)) r c (λ taken. grows r c i taken) (omega arith)

  run-counts : (r : Replica) (cs : List Call) → Sound r → shown (run r cs) ≡ shown r + accepted_in r.book cs kind
  unfolding run accepted_in
  run-counts r [] i = omega arith
  run-counts r (c ∷ cs) i =
      let noted-alike = ap (λ (b : Book). accepted_in b cs kind) (step_book r c) in
      omega (arith, run-counts (step r c) cs (step_sound r c i), step_counts r c i, noted-alike)

  -- from what fresh returns, where it starts at 0, it is the count in the whole list
  fresh-counts : ((panels own : ℕ) → shown (replica_of (empty_book panels own)) ≡ 0) → (panels own : ℕ) (cs : List Call)
      → shown (run (fresh panels own) cs) ≡ accepted_in (fresh panels own).book cs kind
  unfolding fresh
  fresh-counts zero-at panels own cs =
      omega (arith, run-counts (fresh panels own) cs (fresh_sound panels own), go (bad_shop panels own))
    where
      go : (v : Bool) → shown (cond v (replica_of (empty_book 1 0)) (replica_of (empty_book panels own))) ≡ 0
      go true = zero-at 1 0
      go false = zero-at panels own

requests_grow : (r : Replica) (c : Call) → Sound r → refusal r.book c ≡ refused.accepted
    → requests_shown (accept r c) ≡ requests_shown r + one (brings_request c)
unfolding accept accepted refusal
requests_grow r (invoke v) i taken = omega (arith, entered-length r.book.plan (made r.book.plan v))
requests_grow r (deliver x) i taken = omega (arith, entered-length r.book.plan x)
requests_grow r (commit n) i taken =
    let c = commits r.book.plan n taken in
    omega (arith, ap (λ (a : Plan). length (order a)) c.leads, committing-length r.book.plan c.request c.found i.plan)
requests_grow r undo i taken = omega arith
requests_grow r execute i taken = omega arith

commits_grow : (r : Replica) (c : Call) → commits_shown (accept r c) ≡ commits_shown r + one (is_commit c)
unfolding accept
commits_grow r c = refl

undos_grow : (r : Replica) (c : Call) → undos_shown (accept r c) ≡ undos_shown r + one (is_undo c)
unfolding accept
undos_grow r c = refl

executions_grow : (r : Replica) (c : Call) → executions_shown (accept r c) ≡ executions_shown r + one (is_execute c)
unfolding accept
executions_grow r c = refl

-- ---- the theorem

pub demand_3 : (panels own : ℕ) (calls : List Call) → Demand3 panels own calls
demand_3 panels own calls =
    let r = run (fresh panels own) calls in
    let i = reached_sound panels own calls in
    let requests = fresh-counts requests_shown brings_request requests_grow (λ p o. refl) panels own calls in
    let commits = fresh-counts commits_shown is_commit (λ r c j t. commits_grow r c) (λ p o. refl) panels own calls in
    record {
      bounded = rw (← requests, ← commits) (bound_holds _ (commits_shown r) (requests_shown r) i.within);
      on_board_is = i.on_board_is;
      requests_shown_is = requests;
      commits_shown_is = commits;
      undos_shown_is = fresh-counts undos_shown is_undo (λ r c j t. undos_grow r c) (λ p o. refl) panels own calls;
      executions_shown_is = fresh-counts executions_shown is_execute (λ r c j t. executions_grow r c) (λ p o. refl) panels own calls;
      due_accepted = due_accepted r i;
      idle_exactly = idle_exactly r i;
      plan_kept = λ k. later_plan k r;
      replayed = replayed r i;
      clock_order = i.plan.clock_order;
      undos_few = omega (arith, few_undos r i);
      executions_few =
          omega (
            arith,
            few_undos r i,
            i.on_board_is,
            i.few,
            board-length r.book.execution,
            length-append r.book.execution.executed r.book.execution.todo,
            ap length i.follows,
          );
    }
