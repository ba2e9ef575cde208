-- Stable replies: a stable reply is the request's response in one replay of the committed list, which only grows at its end; and the one
-- that a settlement gives is the response of the request's last carry-out.
use Prim.Native.Nat.{ℕ, ◌≤◌}
use native.Mathlib.Omega.{arith}
use borrow.Author.Tests.{le-leb}
use mathlib.Core.Path.{◌≡◌, refl, sym, ap, ◌∙◌}
use mathlib.Core.Bool.{Bool, true, false, ◌&&◌, cond}
use mathlib.Core.List.{List, [], ◌∷◌, ◌++◌, append_assoc, append-nil}
use mathlib.Core.Option.{Option, none, some}
use lib.ListN.{length, take, drop, take-append-drop}
use Rattle.sets.specs.declared.Context.{Context}
use Rattle.numbers.specs.declared.Number.{Number}
use Rattle.request.specs.declared.Request.{Request}
use Rattle.numbers.specs.Numbers.{no_number, same_number}
use Rattle.sets.specs.Sets.{member}
use Rattle.request.specs.Request.{same_request}
use Rattle.request.specs.Refusal as refused
use Rattle.request.specs.Asked.{operation_of}
use Rattle.lists.proofs.BoolLaws.{both_true}
use Rattle.numbers.proofs.NumberLaws.{same_number_sound, same_number_self}
use Rattle.effects.specs.Effect.{response}
use Rattle.effects.specs.Replay.{replay}
use Rattle.creek.specs.declared.Answer.{Answer}
use Rattle.lists.specs.Lists.{count, keep, find, common_start}
use Rattle.creek.specs.Plan.{Plan, order, has_number, entered, named, committing, committing_found}
use Rattle.creek.specs.Execution.{Execution, operations, registers, adjusted, undone, executed_next}
use Rattle.creek.specs.Book.{Call, invoke, deliver, commit, undo, execute, Book, refusal, accepted}
use Rattle.creek.specs.Replies.{no_mark, weak_mark, tentative_mark, stable_mark, reply, done, response_in, execution_mark}
use Rattle.creek.specs.Replies.{execution_reply, stable_reply_due, settlement_reply, undo_reply, accepted_answer}
use Rattle.creek.specs.Calls.{Replica, fresh, is_execute, accept, step, answer}
use Rattle.creek.specs.History.{run}
use Rattle.creek.specs.internal.Sound.{Sound}
use Rattle.creek.specs.Agreement.{Extends}
use Rattle.creek.specs.StableReply.{replied_to, carries_out, last_response, SettledWith, StableReply, LastCarryOut}
use Rattle.creek.proofs.CallLaws.{by-outcome}
use Rattle.lists.proofs.ListLaws.{one_true, one_false, count-append, passes_count}
use Rattle.creek.proofs.AcceptanceLaws.{commits}
use Rattle.creek.proofs.ExecutionLaws.{executes, board_executed}
use Rattle.creek.proofs.SoundLaws.{accept_sound, step_sound, fresh-nothing, fresh_sound, reached_sound}
use Rattle.creek.proofs.ResponseLaws.{response_start, response_behind, response_both}

-- ---- the committed list only grows at its end

extends_self : (l : List Request) → Extends l l
extends_self l = record { behind = []; is = sym (append-nil l) }

extends_twice : {k l m : List Request} → Extends k l → Extends l m → Extends k m
extends_twice {k} e f = record {
  behind = e.behind ++ f.behind;
  is = f.is ∙ ap (λ (x : List Request). x ++ f.behind) e.is ∙ append_assoc k e.behind f.behind;
}

committing_extends : (a : Plan) (o : Option Request) → Extends a.committed (committing_found a o).committed
unfolding committing_found committing
committing_extends a none = extends_self a.committed
committing_extends a (some x) = record { behind = keep (named x) a.tentative ++ x ∷ []; is = refl }

accept_extends : (r : Replica) (c : Call) → Extends r.book.plan.committed (accept r c).book.plan.committed
unfolding accept accepted entered
accept_extends r (invoke i) = extends_self r.book.plan.committed
accept_extends r (deliver x) = extends_self r.book.plan.committed
accept_extends r (commit n) = committing_extends r.book.plan (find (has_number n) r.book.plan.tentative)
accept_extends r undo = extends_self r.book.plan.committed
accept_extends r execute = extends_self r.book.plan.committed

pub step_extends : (r : Replica) (c : Call) → Extends r.book.plan.committed (step r c).book.plan.committed
step_extends r c =
    by-outcome (λ v w q. Extends r.book.plan.committed q.book.plan.committed) r c
    (λ taken. accept_extends r c) (extends_self r.book.plan.committed)

pub run_extends : (r : Replica) (cs : List Call) → Extends r.book.plan.committed (run r cs).book.plan.committed
unfolding run
run_extends r [] = extends_self r.book.plan.committed
run_extends r (c ∷ cs) = extends_twice (step_extends r c) (run_extends (step r c) cs)

-- ---- a stable reply

-- v is n's response in a replay of the committed list of b, in which n is
record Stands (n : Number) (v : ℕ) (b : Book) : Type 0 where
  there : 1 ≤ count (has_number n) b.plan.committed
  is : v ≡ response_in n b.plan.committed

committed_then : (r : Replica) (n : Number) → refusal r.book (commit n) ≡ refused.accepted
    → 1 ≤ count (has_number n) (accept r (commit n)).book.plan.committed
unfolding accept accepted refusal committing
committed_then r n taken =
    let a = r.book.plan in
    let c = commits a n taken in
    let x = c.request in
    rw c.leads (omega (
      arith,
      count-append (has_number n) a.committed (keep (named x) a.tentative ++ x ∷ []),
      count-append (has_number n) (keep (named x) a.tentative) (x ∷ []),
      one_true (ap (λ (k : Number). same_number k x.number) c.number ∙ same_number_self x.number),
    ))

-- n is in the executed list of e, and v is its response in a replay of that list
record Reports (n : Number) (v : ℕ) (e : Execution) : Type 0 where
  there : 1 ≤ count (has_number n) e.executed
  is : v ≡ response_in n e.executed

settlement_reports : (after : Book) (awaiting : Context) (n : Number) → (settlement_reply after awaiting n).mark ≡ stable_mark
    → Reports n (settlement_reply after awaiting n).response after.execution
unfolding settlement_reply stable_reply_due
settlement_reports after awaiting n mark = go (stable_reply_due after awaiting n) refl mark
  where
    answered : Bool → Answer
    answered d = cond d (reply no_number (response_in n after.execution.executed) stable_mark) done

    go : (d : Bool) → stable_reply_due after awaiting n ≡ d → (answered d).mark ≡ stable_mark
        → Reports n (answered d).response after.execution
    go true e h = record {
      there = passes_count (has_number n) after.execution.executed (both_true (member awaiting n) _ e).1;
      is = refl;
    }
    go false e h = absurd (omega arith)

commit_stands : (r : Replica) (n : Number) → refusal r.book (commit n) ≡ refused.accepted → Sound r
    → (settlement_reply (accepted r.book (commit n)) r.awaiting n).mark ≡ stable_mark
    → Stands n (settlement_reply (accepted r.book (commit n)) r.awaiting n).response (accept r (commit n)).book
unfolding accept
commit_stands r n taken sound mark =
    let after = accepted r.book (commit n) in
    let reports = settlement_reports after r.awaiting n mark in
    let there = committed_then r n taken in
    record {
      there = there;
      is =
          reports.is
          ∙ response_both n after.execution.executed after.execution.todo after.plan.committed after.plan.tentative
          (accept_sound r (commit n) taken sound).follows reports.there there;
    }

-- a carry-out with nothing to be undone
module _ (r : Replica) (x : Request) (xs : List Request) (next : r.book.execution.todo ≡ x ∷ xs)
    (taken : refusal r.book execute ≡ refused.accepted) (sound : Sound r) where
  -- the order is what is executed, x, and the rest
  line : r.book.execution.executed ++ x ∷ xs ≡ order r.book.plan
  line = ap (λ (l : List Request). r.book.execution.executed ++ l) (sym next) ∙ sound.follows

  absent : count (has_number x.number) r.book.execution.executed ≡ 0
  absent =
      omega (
        arith,
        sound.plan.held.distinct x.number,
        ap (count (has_number x.number)) line,
        one_true (same_number_self x.number),
        count-append (has_number x.number) r.book.execution.executed (x ∷ xs),
      )

  -- its response is its response in a replay of the executed list with it
  carried_out_is : (m : List Request)
      → response (operation_of x.asked) (registers r.book.execution) ≡ response_in x.number (r.book.execution.executed ++ x ∷ m)
  unfolding refusal registers
  carried_out_is m =
      let empty = (executes r.book.execution taken).nothing_back in
      ap (λ (l : List Request). response (operation_of x.asked) (replay (operations l))) (board_executed r.book.execution empty)
      ∙ sym (response_behind x r.book.execution.executed m absent)

  execute_stands : execution_mark r.book.plan r.awaiting x ≡ stable_mark
      → Stands x.number (response (operation_of x.asked) (registers r.book.execution)) (accept r execute).book
  unfolding execution_mark accept accepted
  execute_stands mark =
      let there = passes_count (has_number x.number) r.book.plan.committed
      (of-mark (member r.awaiting x.number) x.asked.strong _ mark) in
      record {
        there = there;
        is =
            carried_out_is xs ∙ ap (response_in x.number) line
            ∙ response_start x.number r.book.plan.committed r.book.plan.tentative there;
      }
    where
      of-mark : (awaited strong committed : Bool)
          → cond awaited (cond strong (cond committed stable_mark tentative_mark) weak_mark) no_mark ≡ stable_mark → committed ≡ true
      of-mark true true true e = refl
      of-mark true true false e = absurd (omega arith)
      of-mark true false c e = absurd (omega arith)
      of-mark false s c e = absurd (omega arith)

accepted_stands : (r : Replica) (c : Call) → refusal r.book c ≡ refused.accepted → Sound r
    → (accepted_answer r.book r.awaiting c).mark ≡ stable_mark
    → Stands (replied_to c (accepted_answer r.book r.awaiting c)) (accepted_answer r.book r.awaiting c).response
    (accept r c).book
unfolding accepted_answer undo_reply execution_reply
accepted_stands r (invoke i) taken sound mark = absurd (omega arith)
accepted_stands r (deliver x) taken sound mark = absurd (omega arith)
accepted_stands r (commit n) taken sound mark = commit_stands r n taken sound mark
accepted_stands r undo taken sound mark = absurd (never r.book.execution.rollback mark)
  where
    never : (l : List Request) → (undo_reply l).mark ≡ stable_mark → ⊥
    never [] e = omega arith
    never (x ∷ xs) e = omega arith
accepted_stands r execute taken sound mark = go r.book.execution.todo refl mark
  where
    go : (l : List Request) → r.book.execution.todo ≡ l → (execution_reply r.book r.awaiting l).mark ≡ stable_mark
        → Stands (execution_reply r.book r.awaiting l).number (execution_reply r.book r.awaiting l).response
        (accept r execute).book
    go [] e h = absurd (omega arith)
    go (x ∷ xs) e h = execute_stands r x xs e taken sound h

stands : (r : Replica) (c : Call) → Sound r → (answer r c).mark ≡ stable_mark
    → Stands (replied_to c (answer r c)) (answer r c).response (step r c).book
stands r c sound =
    by-outcome (λ v w q. w.mark ≡ stable_mark → Stands (replied_to c w) w.response q.book) r c
    (λ taken. accepted_stands r c taken sound) (λ mark. absurd (omega arith))

-- of every sound replica
pub sound_stable_reply : (r : Replica) (c : Call) → Sound r → StableReply r c
sound_stable_reply r c sound = record { stands = λ mark further. lasts (stands r c sound mark) further }
  where
    lasts : Stands (replied_to c (answer r c)) (answer r c).response (step r c).book → (further : List Call)
        → SettledWith (replied_to c (answer r c)) (answer r c).response (run (step r c) further).book.plan.committed
    lasts s further =
        let n = replied_to c (answer r c) in
        let first = (step r c).book.plan.committed in
        let grown = run_extends (step r c) further in
        record {
          settled =
              le-leb 1 (count (has_number n) (run (step r c) further).book.plan.committed)
              (omega (arith, s.there, count-append (has_number n) first grown.behind, ap (count (has_number n)) grown.is));
          response = s.is ∙ sym (response_start n first grown.behind s.there) ∙ ap (response_in n) (sym grown.is);
        }

pub stable-reply : (panels own : ℕ) (calls : List Call) (c : Call) → StableReply (run (fresh panels own) calls) c
stable-reply panels own calls c = sound_stable_reply (run (fresh panels own) calls) c (reached_sound panels own calls)

-- ---- the last carry-out

-- v is n's response in a replay of the executed list, if n is in it
abbrev pub Recorded : Number → ℕ → Execution → Type 0
Recorded n v e = 1 ≤ count (has_number n) e.executed → v ≡ response_in n e.executed

module _ (n : Number) (v : ℕ) where
  -- a shorter executed list
  pub adjusted_recorded : (order : List Request) (e : Execution) → Recorded n v e → Recorded n v (adjusted order e)
  unfolding adjusted
  adjusted_recorded order e h c =
      let k = common_start same_request e.executed order in
      let whole = take-append-drop k e.executed in
      h (omega (arith, count-append (has_number n) (take k e.executed) (drop k e.executed), ap (count (has_number n)) whole))
      ∙ ap (response_in n) (sym whole) ∙ response_start n (take k e.executed) (drop k e.executed) c

  module _ (r : Replica) (x : Request) (xs : List Request) (next : r.book.execution.todo ≡ x ∷ xs)
      (taken : refusal r.book execute ≡ refused.accepted) (sound : Sound r) (before : Recorded n v r.book.execution) where
    -- one more executed request
    pub executed_recorded : 1 ≤ count (has_number n) (r.book.execution.executed ++ x ∷ [])
        → cond (same_number n x.number) (response (operation_of x.asked) (registers r.book.execution)) v
        ≡ response_in n (r.book.execution.executed ++ x ∷ [])
    executed_recorded c = go (same_number n x.number) refl
      where
        go : (b : Bool) → same_number n x.number ≡ b
            → cond b (response (operation_of x.asked) (registers r.book.execution)) v
            ≡ response_in n (r.book.execution.executed ++ x ∷ [])
        go true e =
            carried_out_is r x xs next taken sound []
            ∙ ap (λ (m : Number). response_in m (r.book.execution.executed ++ x ∷ [])) (sym (same_number_sound n x.number e))
        go false e =
            let there : 1 ≤ count (has_number n) r.book.execution.executed =
            omega (arith, count-append (has_number n) r.book.execution.executed (x ∷ []), one_false e) in
            before there ∙ sym (response_start n r.book.execution.executed (x ∷ []) there)

  accept_recorded : (r : Replica) (c : Call) → refusal r.book c ≡ refused.accepted → Sound r → Recorded n v r.book.execution
      → Recorded n (cond (is_execute c && same_number n (accepted_answer r.book r.awaiting c).number)
      (accepted_answer r.book r.awaiting c).response v) (accept r c).book.execution
  unfolding accept accepted refusal undone executed_next accepted_answer execution_reply
  accept_recorded r (invoke i) taken sound h = adjusted_recorded _ r.book.execution h
  accept_recorded r (deliver x) taken sound h = adjusted_recorded _ r.book.execution h
  accept_recorded r (commit m) taken sound h = adjusted_recorded _ r.book.execution h
  accept_recorded r undo taken sound h = h
  accept_recorded r execute taken sound h = go r.book.execution.todo refl
    where
      go : (l : List Request) → r.book.execution.todo ≡ l → 1 ≤ count (has_number n) (r.book.execution.executed ++ take 1 l)
          → cond (same_number n (execution_reply r.book r.awaiting l).number) (execution_reply r.book r.awaiting l).response v
          ≡ response_in n (r.book.execution.executed ++ take 1 l)
      go [] e c = absurd (omega (arith, (executes r.book.execution taken).todo_less, ap length e))
      go (x ∷ xs) e c = executed_recorded r x xs e taken sound h c

  step_recorded : (r : Replica) (c : Call) → Sound r → Recorded n v r.book.execution
      → Recorded n (cond (carries_out r c n) (answer r c).response v) (step r c).book.execution
  step_recorded r c sound h =
      by-outcome
      (λ b w q. Recorded n (cond (b && is_execute c && same_number n w.number) w.response v) q.book.execution) r c
      (λ taken. accept_recorded r c taken sound h) h

run_recorded : (n : Number) (v : ℕ) (r : Replica) (cs : List Call) → Sound r → Recorded n v r.book.execution
    → Recorded n (last_response n v r cs) (run r cs).book.execution
unfolding run last_response
run_recorded n v r [] sound h = h
run_recorded n v r (c ∷ cs) sound h = run_recorded n (cond (carries_out r c n) (answer r c).response v) (step r c) cs (step_sound r c sound) (step_recorded n v r c sound h)

-- a settlement's stable reply has the response in a replay of the executed list that it leads to
settlement_executed : (r : Replica) (n : Number) → (answer r (commit n)).mark ≡ stable_mark
    → Reports n (answer r (commit n)).response (accepted r.book (commit n)).execution
unfolding accepted_answer
settlement_executed r n =
    by-outcome (λ v w q. w.mark ≡ stable_mark → Reports n w.response (accepted r.book (commit n)).execution) r (commit n)
    (λ taken. settlement_reports (accepted r.book (commit n)) r.awaiting n) (λ mark. absurd (omega arith))

pub last_carry_out : (panels own : ℕ) (calls : List Call) (n : Number) → LastCarryOut panels own calls n
unfolding accepted
last_carry_out panels own calls n = record { reported = λ mark. go (settlement_executed now n mark) }
  where
    now : Replica
    now = run (fresh panels own) calls

    first : Recorded n 0 (fresh panels own).book.execution
    first c = absurd (omega (arith, ap (λ (e : Execution). count (has_number n) e.executed) (fresh-nothing panels own)))

    go : Reports n (answer now (commit n)).response (accepted now.book (commit n)).execution
        → (answer now (commit n)).response ≡ last_response n 0 (fresh panels own) calls
    go reports =
        reports.is ∙ sym (adjusted_recorded n (last_response n 0 (fresh panels own) calls) _ now.book.execution
        (run_recorded n 0 (fresh panels own) calls (fresh_sound panels own) first) reports.there)
