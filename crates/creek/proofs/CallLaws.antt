-- A call is accepted, with its answer and its effect, or refused, with its number and no effect; it answers with the book's refusal
-- number, and so does each of a list of calls; the book depends on the calls alone; and two lists of calls in turn are one.
use mathlib.Core.Path.{◌≡◌, refl, sym, ap, ◌∙◌}
use mathlib.Core.Bool.{Bool, true, false, cond}
use mathlib.Core.List.{List, [], ◌∷◌, ◌++◌}
use borrow.Author.Tests.{eqb-true}
use Rattle.lists.proofs.BoolLaws.{either}
use Rattle.sets.specs.declared.Context.{Context}
use Rattle.numbers.specs.declared.Number.{Number}
use Rattle.request.specs.declared.Request.{Request}
use Rattle.request.specs.Refusal as refused
use Rattle.creek.specs.declared.Answer.{Answer}
use Rattle.creek.specs.Book.{Call, invoke, deliver, commit, undo, execute, Book, refusal, is_accepted, accepted, noted, noted_all}
use Rattle.creek.specs.Replies.{refused_with, stable_reply_due, settlement_reply, undo_reply}
use Rattle.creek.specs.Replies.{execution_reply, accepted_answer, named_by_refusal, answer_of}
use Rattle.creek.specs.Calls.{Replica, accept, step, answer}
use Rattle.creek.specs.History.{run, answers_to, refusals_in, refusals}

-- what holds of both outcomes holds of the call: of whether it is accepted, what it answers and what it leaves
pub by-outcome : (P : Bool → Answer → Replica → Type 0) (r : Replica) (c : Call)
    → (refusal r.book c ≡ refused.accepted → P true (accepted_answer r.book r.awaiting c) (accept r c))
    → P false (refused_with (refusal r.book c) (named_by_refusal r.book c)) r
    → P (is_accepted r.book c) (answer r c) (step r c)
unfolding answer_of step
by-outcome P r c taken left = go (is_accepted r.book c) refl
  where
    answered : Bool → Answer
    answered v = cond v (accepted_answer r.book r.awaiting c) (refused_with (refusal r.book c) (named_by_refusal r.book c))

    go : (v : Bool) → is_accepted r.book c ≡ v → P v (answered v) (cond v (accept r c) r)
    go true e = taken (eqb-true _ _ e)
    go false e = left

-- an accepted call leaves what it makes of the replica, and has the answer of an accepted one
pub step-accepted : (r : Replica) (c : Call) → is_accepted r.book c ≡ true → step r c ≡ accept r c
unfolding step
step-accepted r c e = rw e

pub answer-accepted : (b : Book) (awaiting : Context) (c : Call) → is_accepted b c ≡ true → answer_of b awaiting c ≡ accepted_answer b awaiting c
unfolding answer_of
answer-accepted b awaiting c e = rw e

-- ---- the refusal number of an answer

-- a settlement that is accepted answers 0, with a stable reply or without
settlement-refusal : (after : Book) (awaiting : Context) (n : Number) → (settlement_reply after awaiting n).refusal ≡ refused.accepted
unfolding settlement_reply
settlement-refusal after awaiting n =
    either (λ (a : Answer). a.refusal ≡ refused.accepted) (stable_reply_due after awaiting n) (λ due. refl) (λ none. refl)

-- an accepted call answers 0
accepted-refusal : (b : Book) (awaiting : Context) (c : Call) → (accepted_answer b awaiting c).refusal ≡ refused.accepted
unfolding accepted_answer undo_reply execution_reply
accepted-refusal b awaiting (invoke i) = refl
accepted-refusal b awaiting (deliver x) = refl
accepted-refusal b awaiting (commit n) = settlement-refusal _ awaiting n
accepted-refusal b awaiting undo = go b.execution.rollback
  where
    go : (l : List Request) → (undo_reply l).refusal ≡ refused.accepted
    go [] = refl
    go (x ∷ xs) = refl
accepted-refusal b awaiting execute = go b.execution.todo
  where
    go : (l : List Request) → (execution_reply b awaiting l).refusal ≡ refused.accepted
    go [] = refl
    go (x ∷ xs) = refl

-- a call answers with the book's refusal number
pub answer-refusal : (r : Replica) (c : Call) → (answer r c).refusal ≡ refusal r.book c
answer-refusal r c =
    by-outcome (λ v a q. a.refusal ≡ refusal r.book c) r c (λ taken. accepted-refusal r.book r.awaiting c ∙ sym taken) refl

-- ---- the book

pub step_book : (r : Replica) (c : Call) → (step r c).book ≡ noted r.book c
unfolding step accept noted
step_book r c = go (is_accepted r.book c)
  where
    go : (v : Bool) → (cond v (accept r c) r).book ≡ cond v (accepted r.book c) r.book
    go true = refl
    go false = refl

pub run_book : (r : Replica) (cs : List Call) → (run r cs).book ≡ noted_all r.book cs
unfolding run noted_all
run_book r [] = refl
run_book r (c ∷ cs) = run_book (step r c) cs ∙ ap (λ (b : Book). noted_all b cs) (step_book r c)

-- ---- two lists of calls in turn

pub run-append : (r : Replica) (cs ds : List Call) → run r (cs ++ ds) ≡ run (run r cs) ds
unfolding run
run-append r [] ds = refl
run-append r (c ∷ cs) ds = run-append (step r c) cs ds

pub answers-append : (r : Replica) (cs ds : List Call) → answers_to r (cs ++ ds) ≡ answers_to r cs ++ answers_to (run r cs) ds
unfolding answers_to run
answers-append r [] ds = refl
answers-append r (c ∷ cs) ds = ap (λ (l : List Answer). answer r c ∷ l) (answers-append (step r c) cs ds)

-- ---- the refusals of a list of calls are the book's

pub answers-refusals : (r : Replica) (cs : List Call) → refusals_in (answers_to r cs) ≡ refusals r.book cs
unfolding answers_to refusals
answers-refusals r [] = refl
answers-refusals r (c ∷ cs) =
    let first = answer-refusal r c in
    let others = answers-refusals (step r c) cs ∙ ap (λ (b : Book). refusals b cs) (step_book r c) in
    λ i. first i ∷ others i
