-- Who gets which replies (`specs/Waiting`): a weak or stable reply is the last, and an own strong request gets a tentative one at each
-- carry-out while it is not settled.
use Prim.Native.Nat.{ℕ, ◌≤◌}
use native.Mathlib.Omega.{arith}
use mathlib.Core.Path.{◌≡◌, refl, ap, ◌∙◌}
use mathlib.Core.Bool.{Bool, true, false, not, ◌&&◌}
use mathlib.Core.List.{List, [], ◌∷◌}
use Rattle.numbers.specs.declared.Number.{Number}
use Rattle.request.specs.declared.Request.{Request}
use Rattle.numbers.specs.Numbers.{same_number}
use Rattle.sets.specs.Sets.{member}
use Rattle.request.specs.Refusal as refused
use Rattle.lists.proofs.BoolLaws.{true_not_false, both_true, both}
use Rattle.numbers.proofs.NumberLaws.{same_number_self}
use Rattle.lists.specs.Lists.{count}
use Rattle.creek.specs.Plan.{Plan, order, has_number, is_of, is_committed}
use Rattle.creek.specs.Book.{Call, invoke, deliver, commit, undo, execute, refusal, accepted}
use Rattle.creek.specs.Replies.{no_mark, execution_mark, execution_reply}
use Rattle.creek.specs.Replies.{undo_reply, accepted_answer, answer_of, ends_waiting}
use Rattle.creek.specs.Replies.{accepted_awaiting}
use Rattle.creek.specs.Calls.{Replica, fresh, accept, step, answer}
use Rattle.creek.specs.History.{run}
use Rattle.creek.specs.internal.Sound.{Sound}
use Rattle.creek.specs.StableReply.{replied_to}
use Rattle.creek.specs.Waiting.{LastReply, TentativeReply}
use Rattle.creek.specs.internal.SoundAwaiting.{strong_unawaited, SoundAwaiting}
use Rattle.creek.proofs.AwaitingLaws.{awaiting_ends}
use Rattle.lists.proofs.ListLaws.{one_true, count-append, count_weaker}
use Rattle.creek.proofs.CallLaws.{by-outcome}
use Rattle.lists.proofs.ListLaws.{none_passes_count, found-counts}
use Rattle.creek.proofs.AcceptanceLaws.{commits}
use Rattle.creek.proofs.CommittedLaws.{committing-count}
use Rattle.creek.proofs.SoundLaws.{step_sound, reached_sound}
use Rattle.creek.proofs.SilentLaws.{Silent, accept_silent, accepted_silent}
use Rattle.creek.proofs.SoundAwaitingLaws.{order-counted, reached_awaiting, step_awaiting}

-- ---- a weak or stable reply is the last

-- a reply that ends the waiting silences its request
accepted_ends : (r : Replica) (c : Call) → refusal r.book c ≡ refused.accepted → Sound r
    → ends_waiting (accepted_answer r.book r.awaiting c).mark ≡ true
    → Silent (replied_to c (accepted_answer r.book r.awaiting c)) (accept r c)
unfolding accept accepted refusal accepted_awaiting accepted_answer undo_reply execution_reply
accepted_ends r (invoke i) taken sound e = true_not_false e refl
accepted_ends r (deliver x) taken sound e = true_not_false e refl
accepted_ends r (commit m) taken sound e =
    let a = r.book.plan in
    let c = commits a m taken in
    let here = ap (λ (n : Number). same_number n c.request.number) c.number ∙ same_number_self c.request.number in
    record {
      unawaited = awaiting_ends r.awaiting m (accepted_answer r.book r.awaiting (commit m)).mark e;
      there =
          omega (
            arith,
            ap (λ (b : Plan). count (has_number m) (order b)) c.leads,
            committing-count a c.request c.found sound.plan (has_number m),
            count-append (has_number m) a.committed a.tentative,
            found-counts (has_number c.request.number) (has_number m) c.request a.tentative c.found here,
          );
    }
accepted_ends r undo taken sound e = go r.book.execution.rollback e
  where
    go : (l : List Request) → ends_waiting (undo_reply l).mark ≡ true → Silent (undo_reply l).number (accept r undo)
    go [] e = true_not_false e refl
    go (x ∷ xs) e = true_not_false e refl
accepted_ends r execute taken sound e =
    let given = accepted_answer r.book r.awaiting execute in
    record { unawaited = awaiting_ends r.awaiting given.number given.mark e; there = there r.book.execution.todo refl e }
  where
    there : (l : List Request) → r.book.execution.todo ≡ l → let given = execution_reply r.book r.awaiting l in
        ends_waiting given.mark ≡ true → 1 ≤ count (has_number given.number) (order r.book.plan)
    there [] f e = true_not_false e refl
    there (x ∷ xs) f e =
        omega (
          arith,
          order-counted r x xs f sound (has_number x.number),
          one_true (same_number_self x.number),
          count-append (has_number x.number) r.book.plan.committed r.book.plan.tentative,
        )

-- a silent request stays silent
step_silent : (n : Number) (r : Replica) (c : Call) → Sound r → SoundAwaiting r → Silent n r → Silent n (step r c)
step_silent n r c sound w s = by-outcome (λ v u q. Silent n q) r c (λ taken. accept_silent n r c taken sound w.words s) s

run_silent : (n : Number) (r : Replica) (cs : List Call) → Sound r → SoundAwaiting r → Silent n r → Silent n (run r cs)
unfolding run
run_silent n r [] sound w s = s
run_silent n r (c ∷ cs) sound w s =
    run_silent n (step r c) cs (step_sound r c sound) (step_awaiting r c sound w) (step_silent n r c sound w s)

answer_silent : (n : Number) (r : Replica) (c : Call) → Silent n r → replied_to c (answer r c) ≡ n → (answer r c).mark ≡ no_mark
answer_silent n r c s =
    by-outcome (λ v u q. replied_to c u ≡ n → u.mark ≡ no_mark) r c (λ taken. accepted_silent n r c s) (λ same. refl)

answer_ends : (r : Replica) (c : Call) → Sound r → ends_waiting (answer r c).mark ≡ true → Silent (replied_to c (answer r c)) (step r c)
answer_ends r c sound =
    by-outcome (λ v u q. ends_waiting u.mark ≡ true → Silent (replied_to c u) q) r c
    (λ taken. accepted_ends r c taken sound) (λ ends. true_not_false ends refl)

pub last-reply : (panels own : ℕ) (calls : List Call) (c : Call) → LastReply (run (fresh panels own) calls) c
last-reply panels own calls c = record {
  last = λ ends further d same.
      let now = run (fresh panels own) calls in
      let sound = reached_sound panels own calls in
      let w = reached_awaiting panels own calls in
      answer_silent (replied_to c (answer now c)) (run (step now c) further) d
      (run_silent _ (step now c) further (step_sound now c sound) (step_awaiting now c sound w) (answer_ends now c sound ends)) same;
}

-- ---- tentative replies

-- an own strong request that is to be carried out and is not committed awaits its reply
strong_awaited : (r : Replica) (x : Request) (xs : List Request) → r.book.execution.todo ≡ x ∷ xs → Sound r → SoundAwaiting r
    → is_of r.book.plan.own x ≡ true → x.asked.strong ≡ true → is_committed r.book.plan x.number ≡ false
    → member r.awaiting x.number ≡ true
strong_awaited r x xs next sound w own strong new = go (member r.awaiting x.number) refl
  where
    both_tests : Request → Bool
    both_tests y = strong_unawaited r.book.plan.own r.awaiting y && has_number x.number y

    go : (b : Bool) → member r.awaiting x.number ≡ b → b ≡ true
    go true e = refl
    go false e = absurd (omega (
      arith,
      order-counted r x xs next sound both_tests,
      one_true (both (both (both own strong) (ap not e)) (same_number_self x.number)),
      w.strong_await,
      none_passes_count (has_number x.number) r.book.plan.committed new,
      count_weaker both_tests (has_number x.number) (λ y f. (both_true (strong_unawaited _ _ y) _ f).1) r.book.plan.committed,
      count_weaker both_tests (strong_unawaited r.book.plan.own r.awaiting) (λ y f. (both_true _ (has_number x.number y) f).0)
          r.book.plan.tentative,
    ))

pub tentative-reply : (panels own : ℕ) (calls : List Call) (x : Request) (xs : List Request)
    → TentativeReply (run (fresh panels own) calls) x xs
unfolding answer_of accepted_answer execution_reply execution_mark
tentative-reply panels own calls x xs = record {
  given = λ next taken mine strong new.
      let now = run (fresh panels own) calls in
      let awaited = strong_awaited now x xs next (reached_sound panels own calls) (reached_awaiting panels own calls) mine strong new in
      rw (taken, next, awaited, strong, new);
}
