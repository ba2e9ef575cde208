-- Every replica that fresh and the calls lead to is sound: fresh returns a sound one, and every call, accepted or refused, keeps it so.
use Prim.Native.Nat.{ℕ, suc, ◌+◌, ◌≤◌, ◌<◌}
use native.Mathlib.Omega.{arith}
use mathlib.Core.Path.{◌≡◌, refl, ap, ◌∙◌}
use mathlib.Core.Bool.{Bool, true, false, not, ◌&&◌, cond}
use mathlib.Core.List.{List, [], ◌∷◌}
use mathlib.Core.Option.{some}
use lib.ListN.{length, length-append}
use lib.Dec.{leb, ltb}
use borrow.Author.Tests.{leb-true, ltb-true, not-false}
use Rattle.counters.specs.declared.Counters.{Counters}
use Rattle.counters.specs.Counted.{counted}
use Rattle.request.specs.declared.Request.{Request}
use Rattle.numbers.specs.Numbers.{most_panels}
use Rattle.sets.specs.Sets.{subset}
use Rattle.request.specs.Refusal as refused
use Rattle.lists.proofs.BoolLaws.{true_not_false, both_true, neither_true}
use Rattle.sets.proofs.SetLaws.{member_empty}
use Rattle.lists.specs.Lists.{count, find, nil}
use Rattle.creek.specs.Plan.{Plan, order, has_number, entered, made, committing}
use Rattle.creek.specs.Execution.{Execution, nothing_executed, adjusted, undone, undo_refusal, executed_next, execute_refusal}
use Rattle.creek.specs.Book.{Call, invoke, deliver, commit, undo, execute, Book, empty_book, planned, refusal, accepted}
use Rattle.creek.specs.Calls.{Replica, bad_shop, replica_of, fresh, accept, step}
use Rattle.creek.specs.History.{run}
use Rattle.creek.specs.internal.Sound.{SoundPlan, WithinBound, SoundBook, Sound}
use Rattle.creek.proofs.CallLaws.{by-outcome}
use Rattle.lists.proofs.ListLaws.{count-append, count_most}
use Rattle.sets.proofs.PanelLaws.{names_from_empty}
use Rattle.creek.proofs.HeldLaws.{held-few}
use Rattle.creek.proofs.AcceptanceLaws.{New, made_new, heard_new, commits}
use Rattle.creek.proofs.EnteredLaws.{entered-count, entered-length, entered_committed}
use Rattle.creek.proofs.EnteredLaws.{entered_sound}
use Rattle.creek.proofs.CommittedLaws.{committing_starts, committing-count, committing-length, committing_sound}
use Rattle.creek.proofs.CommittedLaws.{committing-strong}
use Rattle.creek.proofs.ExecutionLaws.{board-length, adjusted_follows, adjusted-board, rollback_most, rollback_most_behind}
use Rattle.creek.proofs.ExecutionLaws.{undone_executed, undone_follows, undone-count, undone_rollback, executed_rollback}
use Rattle.creek.proofs.ExecutionLaws.{executed_follows, executes, board_executed}

-- ---- the bound

-- one more request: all n that were held may have to be undone
within-entered : (w v s n : ℕ) → WithinBound w s n → v ≤ w + n → WithinBound v (s + 0) (suc n)
within-entered w v s n h l = let z : s + 0 ≡ s = omega arith in rw z (omega arith)

-- one more settlement: at least s requests are committed and stay
within_committed : (w v s n : ℕ) → WithinBound w s n → v + s ≤ w + n → WithinBound v (s + 1) n
within_committed w v s n h l = let z : s + 1 ≡ suc s = omega arith in rw z (omega arith)

within_same : (w v s n : ℕ) → WithinBound w s n → v ≡ w → WithinBound v (s + 0) n
within_same w v s n h l = let z : s + 0 ≡ s = omega arith in rw (z, l) h

-- ---- each call

module _ (b : Book) (s : ℕ) (k : Counters) (i : SoundBook b s k) where
  abbrev a : Plan
  a = b.plan

  abbrev e : Execution
  e = b.execution

  entering : (x : Request) → New b.plan x → SoundBook (planned (entered b.plan x) b.execution) (s + 0) (counted k 0 0)
  entering x new = record {
    plan = plan;
    few = held-few plan.held;
    follows = adjusted_follows (order (entered a x)) e;
    board_held = λ test.
        omega (arith, i.board_held test, entered-count a x test, ap (count test) (adjusted-board (order (entered a x)) e));
    commits_strong = omega (arith, i.commits_strong, ap (count (λ x. x.asked.strong)) (entered_committed a x));
    within = rw (entered-length a x) (within-entered (k.undos + length e.rollback) _ s (length (order a)) i.within
        (omega (arith, rollback_most (order (entered a x)) e i.follows)));
    on_board_is = omega (arith, i.on_board_is, ap length (adjusted-board (order (entered a x)) e));
  }
    where
      plan : SoundPlan (entered b.plan x)
      plan = entered_sound b.plan x new i.plan

  committing_book : (x : Request) → find (has_number x.number) b.plan.tentative ≡ some x → x.asked.strong ≡ true
      → subset x.context b.plan.known ≡ true
      → SoundBook (planned (committing b.plan x) b.execution) (s + 1) (counted k 0 0)
  committing_book x found strong whole = record {
    plan = committing_sound a x found i.plan whole;
    few = omega (arith, i.few, committing-length a x found i.plan);
    follows = adjusted_follows (order (committing a x)) e;
    board_held = λ test.
        omega (
          arith,
          i.board_held test,
          committing-count a x found i.plan test,
          ap (count test) (adjusted-board (order (committing a x)) e),
        );
    commits_strong = omega (arith, i.commits_strong, committing-strong a x found i.plan whole strong);
    within =
        rw (committing-length a x found i.plan)
        (within_committed (k.undos + length e.rollback) _ s (length (order a)) i.within
        (omega (
          arith,
          lost,
          i.commits_strong,
          count_most (λ x. x.asked.strong) a.committed,
          length-append a.committed a.tentative,
        )));
    on_board_is = omega (arith, i.on_board_is, ap length (adjusted-board (order (committing a x)) e));
  }
    where
      -- what was committed before stays in place
      lost : length (adjusted (order (committing b.plan x)) b.execution).rollback
          ≤ length b.execution.rollback + length b.plan.tentative
      lost = rw committing_starts (rollback_most_behind e a.committed a.tentative _ i.follows)

  undoing : undo_refusal b.execution ≡ refused.accepted
      → SoundBook (record { plan = b.plan; execution = undone b.execution }) (s + 0) (counted k 1 0)
  undoing taken =
      let less = undone_rollback e taken in
      record {
        plan = i.plan;
        few = i.few;
        follows = undone_follows e i.follows;
        board_held = λ test. omega (arith, i.board_held test, undone-count test e);
        commits_strong = omega (arith, i.commits_strong);
        within = within_same (k.undos + length e.rollback) _ s (length (order a)) i.within (omega arith);
        on_board_is = omega (arith, i.on_board_is, board-length e, board-length (undone e), ap length (undone_executed e));
      }

  executing : execute_refusal b.execution ≡ refused.accepted
      → SoundBook (record { plan = b.plan; execution = executed_next b.execution }) (s + 0) (counted k 0 1)
  executing taken =
      let more = executes e taken in
      let none : (executed_next e).rollback ≡ [] = executed_rollback e ∙ more.nothing_back in
      let follows = executed_follows e i.follows in
      record {
        plan = i.plan;
        few = i.few;
        follows = follows;
        board_held = λ test.
            omega (
              arith,
              ap (count test) (board_executed (executed_next e) none),
              ap (count test) follows,
              count-append test (executed_next e).executed (executed_next e).todo,
            );
        commits_strong = omega (arith, i.commits_strong);
        within =
            within_same (k.undos + length e.rollback) _ s (length (order a)) i.within
            (omega (arith, ap length (executed_rollback e)));
        on_board_is = omega (arith, i.on_board_is, board-length e, board-length (executed_next e), ap length (executed_rollback e));
      }

pub accept_sound : (r : Replica) (c : Call) → refusal r.book c ≡ refused.accepted → Sound r → Sound (accept r c)
unfolding accept accepted refusal
accept_sound r (invoke v) taken i =
    entering r.book r.commits r.counters i (made r.book.plan v) (made_new r.book.plan i.plan v taken)
accept_sound r (deliver x) taken i = entering r.book r.commits r.counters i x (heard_new r.book.plan x taken)
accept_sound r (commit n) taken i =
    let c = commits r.book.plan n taken in
    rw c.leads (committing_book r.book r.commits r.counters i c.request c.found c.strong c.context_known)
accept_sound r undo taken i = undoing r.book r.commits r.counters i taken
accept_sound r execute taken i = executing r.book r.commits r.counters i taken

-- ---- every list of calls

pub step_sound : (r : Replica) (c : Call) → Sound r → Sound (step r c)
step_sound r c i = by-outcome (λ v w q. Sound q) r c (λ taken. accept_sound r c taken i) i

pub run_sound : (r : Replica) (cs : List Call) → Sound r → Sound (run r cs)
unfolding run
run_sound r [] i = i
run_sound r (c ∷ cs) i = run_sound (step r c) cs (step_sound r c i)

-- ---- fresh

empty_sound : (panels own : ℕ) → panels ≤ most_panels → own < panels → Sound (replica_of (empty_book panels own))
empty_sound panels own few below = record {
  plan = record {
    held = record {
      few_panels = few;
      own_below = below;
      distinct = λ n. omega arith;
      good = refl;
      own_events = refl;
      known_words = refl;
      known_panels = names_from_empty panels;
      known_held = λ n k. true_not_false k (member_empty n);
    };
    clock_order = nil;
    committed_known = refl;
    tentative_known = refl;
  };
  few = omega arith;
  follows = refl;
  board_held = λ test. omega arith;
  commits_strong = refl;
  within = omega arith;
  on_board_is = refl;
}

pub fresh_sound : (panels own : ℕ) → Sound (fresh panels own)
unfolding fresh bad_shop
fresh_sound panels own = go (bad_shop panels own) refl
  where
    go : (v : Bool) → bad_shop panels own ≡ v → Sound (cond v (replica_of (empty_book 1 0)) (replica_of (empty_book panels own)))
    go true e = empty_sound 1 0 (omega arith) (omega arith)
    go false e =
        let parts = neither_true (not (leb 1 panels && leb panels most_panels)) (not (ltb own panels)) e in
        let size = both_true (leb 1 panels) (leb panels most_panels) (not-false _ parts.0) in
        empty_sound panels own (leb-true panels most_panels size.1) (ltb-true own panels (not-false _ parts.1))

pub fresh-nothing : (panels own : ℕ) → (fresh panels own).book.execution ≡ nothing_executed
unfolding fresh
fresh-nothing panels own = go (bad_shop panels own)
  where
    go : (v : Bool) → (cond v (replica_of (empty_book 1 0)) (replica_of (empty_book panels own))).book.execution ≡ nothing_executed
    go true = refl
    go false = refl

-- what fresh and any list of calls lead to is sound
pub reached_sound : (panels own : ℕ) (cs : List Call) → Sound (run (fresh panels own) cs)
reached_sound panels own cs = run_sound (fresh panels own) cs (fresh_sound panels own)
