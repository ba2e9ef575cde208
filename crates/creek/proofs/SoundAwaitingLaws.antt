-- What holds of the numbers that await a reply (`SoundAwaiting`), kept by every call: own strong requests await one until they are settled.
use Prim.Native.Nat.{ℕ, ◌+◌, ◌≤◌}
use native.Mathlib.Omega.{arith}
use mathlib.Core.Path.{◌≡◌, refl, sym, ap, ◌∙◌}
use mathlib.Core.Bool.{Bool, true, false, not, ◌&&◌, cond}
use mathlib.Core.List.{List, [], ◌∷◌}
use lib.ListN.{length}
use Rattle.sets.specs.declared.Context.{Context}
use Rattle.numbers.specs.declared.Number.{Number}
use Rattle.request.specs.declared.Request.{Request}
use Rattle.numbers.specs.Numbers.{most_panels}
use Rattle.sets.specs.Sets.{member, join, leave}
use Rattle.request.specs.Refusal as refused
use Rattle.lists.proofs.BoolLaws.{true_not_false, both_true, both, first_false, second_false}
use Rattle.numbers.proofs.NumberLaws.{same_number_self}
use Rattle.sets.proofs.SetLaws.{join-length}
use Rattle.creek.specs.declared.Invocation.{Invocation}
use Rattle.lists.specs.Lists.{one, count, keep}
use Rattle.creek.specs.Plan.{Plan, has_number, is_of, entered, made, stays, committing, committing_number, is_committed}
use Rattle.creek.specs.Book.{Call, invoke, deliver, commit, undo, execute, empty_book, refusal, accepted}
use Rattle.creek.specs.Replies.{no_mark, weak_mark, tentative_mark, stable_mark, execution_mark, execution_reply}
use Rattle.creek.specs.Replies.{accepted_answer, ends_waiting}
use Rattle.creek.specs.Replies.{awaiting_after, accepted_awaiting}
use Rattle.creek.specs.Calls.{Replica, bad_shop, replica_of, fresh, accept, step}
use Rattle.creek.specs.History.{run}
use Rattle.creek.specs.internal.Sound.{Sound}
use Rattle.creek.specs.internal.SoundAwaiting.{strong_unawaited, SoundAwaiting}
use Rattle.creek.proofs.AwaitingLaws.{leave_other, awaiting-length, awaiting_other}
use Rattle.lists.proofs.ListLaws.{one_true, one_false, count-append, count_implies, count_either, count_weaker, passes_count}
use Rattle.creek.proofs.CallLaws.{by-outcome}
use Rattle.lists.proofs.ListLaws.{count-keep}
use Rattle.creek.proofs.AcceptanceLaws.{Commits, commits}
use Rattle.creek.proofs.EnteredLaws.{placed-count}
use Rattle.creek.proofs.KnownLaws.{still_known, now_known}
use Rattle.creek.proofs.CommittedLaws.{stays_other}
use Rattle.creek.proofs.LookupLaws.{not_own}
use Rattle.creek.proofs.SoundLaws.{step_sound, fresh_sound}
use Rattle.creek.proofs.SilentLaws.{good-next}

-- ---- what holds of the numbers awaiting a reply

-- a carry-out whose reply ends the waiting is not of a tentative strong request
module _ (r : Replica) (x : Request) (xs : List Request) (next : r.book.execution.todo ≡ x ∷ xs) (sound : Sound r) where
  abbrev strong_of : Request → Bool
  strong_of y = y.asked.strong && has_number x.number y

  abbrev weak_of : Request → Bool
  weak_of y = not y.asked.strong && has_number x.number y

  pub order-counted : (p : Request → Bool) → count p r.book.execution.executed + (one (p x) + count p xs)
      ≡ count p r.book.plan.committed + count p r.book.plan.tentative
  order-counted p =
      omega (
        arith,
        ap (count p) sound.follows,
        ap (count p) next,
        count-append p r.book.execution.executed r.book.execution.todo,
        count-append p r.book.plan.committed r.book.plan.tentative,
      )

  ended_elsewhere : ends_waiting (execution_mark r.book.plan r.awaiting x) ≡ true → count strong_of r.book.plan.tentative ≡ 0
  unfolding execution_mark
  ended_elsewhere ends = go (member r.awaiting x.number) x.asked.strong (is_committed r.book.plan x.number) refl refl ends
    where
      once : count (has_number x.number) r.book.plan.committed + count (has_number x.number) r.book.plan.tentative ≤ 1
      once =
          omega (
            arith,
            sound.plan.held.distinct x.number,
            count-append (has_number x.number) r.book.plan.committed r.book.plan.tentative,
          )

      go : (awaited strong committed : Bool) → x.asked.strong ≡ strong → is_committed r.book.plan x.number ≡ committed
          → ends_waiting (cond awaited (cond strong (cond committed stable_mark tentative_mark) weak_mark) no_mark) ≡ true
          → count strong_of r.book.plan.tentative ≡ 0
      go true true true s c e =
          omega (
            arith,
            once,
            passes_count (has_number x.number) r.book.plan.committed c,
            count_weaker strong_of (has_number x.number) (λ y f. (both_true y.asked.strong _ f).1) r.book.plan.tentative,
          )
      go true true false s c e = true_not_false e refl
      go true false k s c e =
          omega (
            arith,
            once,
            order-counted weak_of,
            one_true (both (ap not s) (same_number_self x.number)),
            count_either (has_number x.number) (λ y. y.asked.strong) r.book.plan.committed,
            count_either (has_number x.number) (λ y. y.asked.strong) r.book.plan.tentative,
          )
      go false s k t c e = true_not_false e refl

-- a made request awaits, and nobody else ceases to
module _ (r : Replica) (i : Invocation) (taken : refusal r.book (invoke i) ≡ refused.accepted) (sound : Sound r)
    (words : length r.awaiting.words ≡ most_panels) where
  made_awaits : (y : Request) → strong_unawaited r.book.plan.own (join r.awaiting (made r.book.plan i).number) y ≡ true
      → strong_unawaited r.book.plan.own r.awaiting y ≡ true
  made_awaits y e =
      let parts = both_true (is_of r.book.plan.own y && y.asked.strong) _ e in
      both parts.0 (still_known r.awaiting (made r.book.plan i).number words (good-next r i taken sound) y parts.1)

  made_itself : strong_unawaited r.book.plan.own (join r.awaiting (made r.book.plan i).number) (made r.book.plan i) ≡ false
  made_itself =
      second_false (is_of r.book.plan.own (made r.book.plan i) && (made r.book.plan i).asked.strong)
      (ap not (now_known r.awaiting (made r.book.plan i).number words (good-next r i taken sound)))

-- at a settlement those that stay tentative await as before
settled_awaits : (own : ℕ) (awaiting : Context) (x : Request) (mark : ℕ) (y : Request)
    → stays x y && strong_unawaited own (awaiting_after awaiting x.number mark) y ≡ true → strong_unawaited own awaiting y ≡ true
settled_awaits own awaiting x mark y e =
    let parts = both_true (stays x y) _ e in
    let inner = both_true (is_of own y && y.asked.strong) _ parts.1 in
    both inner.0 (ap not (sym (awaiting_other awaiting x.number mark y.number (stays_other x y parts.0))) ∙ inner.1)

settled-strong : (own : ℕ) (awaiting : Context) (x : Request) (mark : ℕ) (t : List Request) → count (strong_unawaited own awaiting) t ≡ 0
    → count (strong_unawaited own (awaiting_after awaiting x.number mark)) (keep (stays x) t) ≡ 0
settled-strong own awaiting x mark t h =
    omega (
      arith,
      count-keep (stays x) (strong_unawaited own (awaiting_after awaiting x.number mark)) t,
      count_weaker (λ y. stays x y && strong_unawaited own (awaiting_after awaiting x.number mark) y) (strong_unawaited own awaiting)
          (settled_awaits own awaiting x mark) t,
    )

settlement_awaits : (a : Plan) (m : Number) (awaiting : Context) (mark : ℕ) → Commits a m
    → count (strong_unawaited a.own awaiting) a.tentative ≡ 0
    → count (strong_unawaited (committing_number a m).own (awaiting_after awaiting m mark)) (committing_number a m).tentative ≡ 0
unfolding committing
settlement_awaits a m awaiting mark c h =
    ap (λ (b : Plan). count (strong_unawaited b.own (awaiting_after awaiting m mark)) b.tentative) c.leads
    ∙ ap (λ (n : Number). count (strong_unawaited a.own (awaiting_after awaiting n mark)) (keep (stays c.request) a.tentative))
    c.number
    ∙ settled-strong a.own awaiting c.request mark a.tentative h

-- at a carry-out too
execution_awaits : (r : Replica) → refusal r.book execute ≡ refused.accepted → Sound r
    → count (strong_unawaited r.book.plan.own r.awaiting) r.book.plan.tentative ≡ 0
    → let given = accepted_answer r.book r.awaiting execute in
    count (strong_unawaited r.book.plan.own (awaiting_after r.awaiting given.number given.mark)) r.book.plan.tentative ≡ 0
unfolding accepted_answer execution_reply
execution_awaits r taken sound h = go r.book.execution.todo refl
  where
    go : (l : List Request) → r.book.execution.todo ≡ l → let given = execution_reply r.book r.awaiting l in
        count (strong_unawaited r.book.plan.own (awaiting_after r.awaiting given.number given.mark))
        r.book.plan.tentative ≡ 0
    go [] e = h
    go (x ∷ xs) e = ended (ends_waiting mark) refl
      where
        mark : ℕ
        mark = execution_mark r.book.plan r.awaiting x

        test : Bool → Request → Bool
        test b = strong_unawaited r.book.plan.own (cond b (leave r.awaiting x.number) r.awaiting)

        ended : (b : Bool) → ends_waiting mark ≡ b → count (test b) r.book.plan.tentative ≡ 0
        ended false f = h
        ended true f =
            omega (
              arith,
              h,
              ended_elsewhere r x xs e sound f,
              count_implies (test true) (test false) (λ y. y.asked.strong && has_number x.number y) still r.book.plan.tentative,
            )
          where
            still : (y : Request) → y.asked.strong && has_number x.number y ≡ false → test true y ≡ true → test false y ≡ true
            still y g t =
                let parts = both_true (is_of r.book.plan.own y && y.asked.strong) _ t in
                let strong = (both_true (is_of r.book.plan.own y) y.asked.strong parts.0).1 in
                let other = sym (ap (λ (b : Bool). b && has_number x.number y) strong) ∙ g in
                both parts.0 (ap not (sym (leave_other r.awaiting x.number y.number other)) ∙ parts.1)

pub accept_awaiting : (r : Replica) (c : Call) → refusal r.book c ≡ refused.accepted → Sound r → SoundAwaiting r
    → SoundAwaiting (accept r c)
unfolding accept accepted accepted_awaiting refusal entered committing
accept_awaiting r (invoke i) taken sound w =
    let test = strong_unawaited r.book.plan.own (join r.awaiting (made r.book.plan i).number) in
    record {
      words = join-length r.awaiting (made r.book.plan i).number ∙ w.words;
      strong_await =
          omega (
            arith,
            placed-count test (made r.book.plan i) r.book.plan.tentative,
            one_false (made_itself r i taken sound w.words),
            w.strong_await,
            count_weaker test (strong_unawaited r.book.plan.own r.awaiting) (made_awaits r i taken sound w.words)
                r.book.plan.tentative,
          );
    }
accept_awaiting r (deliver x) taken sound w = record {
  words = w.words;
  strong_await =
      omega (
        arith,
        placed-count (strong_unawaited r.book.plan.own r.awaiting) x r.book.plan.tentative,
        w.strong_await,
        one_false
            (first_false (not (member r.awaiting x.number))
            (first_false x.asked.strong (not_own r.book.plan sound.plan x taken))),
      );
}
accept_awaiting r (commit m) taken sound w =
    let mark = (accepted_answer r.book r.awaiting (commit m)).mark in
    record {
      words = awaiting-length r.awaiting m mark ∙ w.words;
      strong_await = settlement_awaits r.book.plan m r.awaiting mark (commits r.book.plan m taken) w.strong_await;
    }
accept_awaiting r undo taken sound w = record { words = w.words; strong_await = w.strong_await }
accept_awaiting r execute taken sound w =
    let given = accepted_answer r.book r.awaiting execute in
    record {
      words = awaiting-length r.awaiting given.number given.mark ∙ w.words;
      strong_await = execution_awaits r taken sound w.strong_await;
    }

pub step_awaiting : (r : Replica) (c : Call) → Sound r → SoundAwaiting r → SoundAwaiting (step r c)
step_awaiting r c sound w = by-outcome (λ v u q. SoundAwaiting q) r c (λ taken. accept_awaiting r c taken sound w) w

pub run_awaiting : (r : Replica) (cs : List Call) → Sound r → SoundAwaiting r → SoundAwaiting (run r cs)
unfolding run
run_awaiting r [] sound w = w
run_awaiting r (c ∷ cs) sound w = run_awaiting (step r c) cs (step_sound r c sound) (step_awaiting r c sound w)

pub fresh_awaiting : (panels own : ℕ) → SoundAwaiting (fresh panels own)
unfolding fresh
fresh_awaiting panels own = go (bad_shop panels own)
  where
    go : (v : Bool) → SoundAwaiting (cond v (replica_of (empty_book 1 0)) (replica_of (empty_book panels own)))
    go true = record { words = refl; strong_await = refl }
    go false = record { words = refl; strong_await = refl }

pub reached_awaiting : (panels own : ℕ) (cs : List Call) → SoundAwaiting (run (fresh panels own) cs)
reached_awaiting panels own cs = run_awaiting (fresh panels own) cs (fresh_sound panels own) (fresh_awaiting panels own)
