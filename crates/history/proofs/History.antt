-- Demand 3 of the panel, for every list of calls with all due steps at once among them: what the calls lead through is what `creek` runs
-- through, and the theorem `panel_demand_3`.
use Prim.Native.Nat.{ℕ, zero, suc, ◌-◌, ◌≤◌, ◌<◌}
use native.Mathlib.Omega.{arith}
use mathlib.Core.Path.{◌≡◌, refl, sym, ap, ◌∙◌}
use mathlib.Core.Bool.{Bool, true, false}
use mathlib.Core.List.{List, ◌∷◌, ◌++◌, map}
use lib.ListN.{length, replicate}
use lib.Dec.{eqb}
use Rattle.lists.specs.Lists.{cons_if, keep}
use Rattle.request.specs.Refusal as refused
use Rattle.effects.specs.Replay.{replay}
use Rattle.creek.specs.declared.Answer.{Answer}
use Rattle.creek.specs.Plan.{order}
use Rattle.creek.specs.Execution.{operations, registers, owed, is_idle}
use Rattle.creek.specs.Book.{Call, Book, refusal, noted_all}
use Rattle.creek.specs.Calls.{Replica, fresh, step, answer}
use Rattle.creek.specs.History.{run, after_due_steps, due_calls, idled, due_call, answers_to, refusals_in}
use Rattle.creek.proofs.DueLaws.{due_calls_lem, run_due_is, undos-done, executions-done}
use Rattle.creek.specs.Showing.{undos_shown, executions_shown, owed_shown}
use Rattle.creek.specs.Demand.{Demand3}
use Rattle.creek.proofs.CallLaws.{answer-refusal, run_book, run-append, answers-append, answers-refusals}
use Rattle.creek.proofs.Demand.{demand_3}
use Rattle.replica.specs.State.{State, Opened}
use Rattle.creek.specs.Replies.{reply_in}
use Rattle.due.specs.Due.{DueOutcome, no_reply, is_awaited, due_replies, most_replies, replies_owed, RunDue}
use Rattle.creek.specs.declared.Reply.{Reply}
use Rattle.replica.specs.Promises.{Fresh}
use Rattle.replica.specs.internal.Model.{model, Inv}
use Rattle.replica.proofs.ModelLaws.{registers_are}
use Rattle.history.specs.History.{opened_book, steps_due, answers_due, Leads, stay, call, all_due_is, in_one}
use Rattle.history.specs.History.{replies_in, DueStepsDone, AllDueDone, PanelDemand3}

-- ---- all due steps at once, and the single steps

-- all due steps at once lead where the single steps lead
due-model : (p : State) (r : DueOutcome) → RunDue p r → model r.state ≡ run (model p) (steps_due p)
due-model p r ran = ran.state ∙ sym (run_due_is (owed_shown (model p)) (model p))

-- ---- from one call to a list of calls

-- the invariant holds of every state on the way
pub leads_inv : {p q : State} {cs : List Call} {answers : List Answer} → Inv p → Leads p cs answers q → Inv q
leads_inv inv stay = inv
leads_inv inv (call r kept rest) = leads_inv (kept inv).invariant rest
leads_inv inv (all_due_is r ran rest) = leads_inv (ran inv).invariant rest
leads_inv inv (in_one r ran rest) = leads_inv (ran inv).invariant rest

-- the replica that the last state stands for is the one that `creek` runs to
pub leads-model : {p q : State} {cs : List Call} {answers : List Answer} → Inv p → Leads p cs answers q → model q ≡ run (model p) cs
unfolding run
leads-model inv stay = refl
leads-model inv (call {cs = cs} r kept rest) =
    leads-model (kept inv).invariant rest ∙ ap (λ (x : Replica). run x cs) (kept inv).state
leads-model inv (all_due_is {p = p} {cs = cs} r ran rest) =
    leads-model (ran inv).invariant rest ∙ ap (λ (x : Replica). run x cs) (due-model p r (ran inv))
    ∙ sym (run-append (model p) (steps_due p) cs)
leads-model inv (in_one {p = p} {done = done} {cs = cs} r ran rest) =
    leads-model (ran inv).invariant rest ∙ ap (λ (x : Replica). run x cs) (ran inv).state ∙ sym (run-append (model p) done cs)

-- the answers are the ones that `creek` gives
pub leads-answers : {p q : State} {cs : List Call} {answers : List Answer} → Inv p → Leads p cs answers q → answers ≡ answers_to (model p) cs
unfolding answers_to
leads-answers inv stay = refl
leads-answers inv (call {cs = cs} r kept rest) =
    let first = (kept inv).answer in
    let others = leads-answers (kept inv).invariant rest ∙ ap (λ (x : Replica). answers_to x cs) (kept inv).state in
    λ i. first i ∷ others i
leads-answers inv (all_due_is {p = p} {cs = cs} r ran rest) =
    let others = leads-answers (ran inv).invariant rest ∙ ap (λ (x : Replica). answers_to x cs) (due-model p r (ran inv)) in
    ap (λ (l : List Answer). answers_due p ++ l) others ∙ sym (answers-append (model p) (steps_due p) cs)
leads-answers inv (in_one {p = p} {done = done} {cs = cs} r ran rest) =
    let others = leads-answers (ran inv).invariant rest ∙ ap (λ (x : Replica). answers_to x cs) (ran inv).state in
    ap (λ (l : List Answer). answers_to (model p) done ++ l) others ∙ sym (answers-append (model p) done cs)

-- ---- due steps

-- the answers of due steps that are all accepted
due-answers : (k : ℕ) (r : Replica) → ((j : ℕ) → j < k → refusal (after_due_steps j r).book (due_call (after_due_steps j r).book) ≡ refused.accepted)
    → refusals_in (answers_to r (due_calls k r.book)) ≡ replicate k refused.accepted
unfolding due_calls after_due_steps answers_to
due-answers zero r taken = refl
due-answers (suc k) r taken =
    let first = answer-refusal r (due_call r.book) ∙ taken 0 (omega arith) in
    let others = due-answers k (step r (due_call r.book)) (λ j h. taken (suc j) (omega arith)) in
    ap (λ (l : List Call). refusals_in (answers_to r l)) (due_calls_lem k r) ∙ (λ i. first i ∷ others i)

-- the replies of due steps are those in their answers
due_replies_lem : (k : ℕ) (r : Replica) → due_replies k r ≡ replies_in (answers_to r (due_calls k r.book))
unfolding due_replies due_calls answers_to
due_replies_lem zero r = refl
due_replies_lem (suc k) r =
    ap (cons_if (is_awaited first) (reply_in first)) (due_replies_lem k (step r (due_call r.book)))
    ∙ kept (is_awaited first) (answers_to (step r (due_call r.book)) (due_calls k (step r (due_call r.book)).book))
    ∙ ap (λ (l : List Call). replies_in (answers_to r l)) (sym (due_calls_lem k r))
  where
    first : Answer
    first = answer r (due_call r.book)

    kept : (b : Bool) (others : List Answer)
        → cons_if b (reply_in first) (replies_in others) ≡ map reply_in (cons_if b first (keep is_awaited others))
    kept true others = refl
    kept false others = refl

pub registers-model : (q : State) → Inv q → q.registers ≡ registers (model q).book.execution
unfolding model
registers-model q inv = sym (registers_are q inv)

-- ---- the theorem

-- of a panel q to which any calls led from any panel that fresh returned
module _ {panels own : ℕ} {opened : Opened} {calls : List Call} {answers : List Answer} {q : State} (begun : Fresh panels own opened)
    (led : Leads opened.state calls answers q) where
  pub panel_inv : Inv q
  panel_inv = leads_inv begun.invariant led

  pub panel_replica : model q ≡ run (fresh panels own) calls
  panel_replica = leads-model begun.invariant led ∙ ap (λ (r : Replica). run r calls) begun.state

  answered : answers ≡ answers_to (fresh panels own) calls
  answered = leads-answers begun.invariant led ∙ ap (λ (r : Replica). answers_to r calls) begun.state

  book : (model q).book ≡ noted_all (opened_book panels own) calls
  book = ap (λ (r : Replica). r.book) panel_replica ∙ run_book (fresh panels own) calls

  execution : (run (fresh panels own) calls).book.execution ≡ (noted_all (opened_book panels own) calls).execution
  execution = ap (λ (b : Book). b.execution) (run_book (fresh panels own) calls)

  demand : Demand3 panels own calls
  demand = demand_3 panels own calls

  due_taken : (j : ℕ) → j < owed_shown (model q)
      → refusal (after_due_steps j (model q)).book (due_call (after_due_steps j (model q)).book) ≡ refused.accepted
  due_taken = rw panel_replica demand.due_accepted

  due_idle : (k : ℕ) → k ≤ owed_shown (model q) → is_idle (after_due_steps k (model q)).book.execution ≡ eqb k (owed_shown (model q))
  due_idle = rw panel_replica demand.idle_exactly

  due_replayed : registers (idled (model q)).book.execution ≡ replay (operations (order (model q).book.plan))
  due_replayed = rw panel_replica demand.replayed

  due-done : (k : ℕ) (last : State) → k ≤ owed_shown (model q) → Inv last → model last ≡ after_due_steps k (model q)
      → DueStepsDone q k (answers_to (model q) (due_calls k (model q).book)) last
  due-done k last few inv end = record {
    accepted = due-answers k (model q) (λ j h. due_taken j (omega arith));
    idle_exactly = ap (λ (r : Replica). is_idle r.book.execution) end ∙ due_idle k few;
    replayed =
        λ all. registers-model last inv
        ∙ ap (λ (r : Replica). registers r.book.execution) (end ∙ ap (λ (n : ℕ). after_due_steps n (model q)) all)
        ∙ due_replayed;
  }

  due_steps : (k : ℕ) (more : List Answer) (last : State) → k ≤ owed_shown (model q) → Leads q (due_calls k (model q).book) more last
      → DueStepsDone q k more last
  due_steps k more last few steps =
      rw (leads-answers panel_inv steps)
      (due-done k last few (leads_inv panel_inv steps) (leads-model panel_inv steps ∙ run_due_is k (model q)))

  due_at_once : (r : DueOutcome) → RunDue q r → AllDueDone q r
  due_at_once r ran =
      let replied = due_replies_lem (owed_shown (model q)) (model q) in
      record {
        steps = due-done (owed_shown (model q)) r.state (omega arith) ran.invariant ran.state;
        undos = omega (arith, ap undos_shown ran.state, undos-done (model q), ran.undos);
        executions = omega (arith, ap executions_shown ran.state, executions-done (model q), ran.executions);
        count = ran.count ∙ ap length replied;
        replies =
            ran.replies ∙ ap (λ (n : ℕ). replies_owed q ++ replicate (most_replies - n) no_reply) (sym ran.count)
            ∙ ap (λ (l : List Reply). l ++ replicate (most_replies - r.count) no_reply) replied;
      }

  pub panel_demand_3 : PanelDemand3 panels own calls answers q
  unfolding registers
  panel_demand_3 = record {
    book = book;
    refused_alike = ap refusals_in answered ∙ answers-refusals (fresh panels own) calls;
    answered = answered;
    replayed = registers-model q panel_inv ∙ ap (λ (b : Book). registers b.execution) book;
    bounded = rw (← execution, panel_replica) demand.bounded;
    on_board_is = rw (← execution, panel_replica) demand.on_board_is;
    requests_shown_is = rw panel_replica demand.requests_shown_is;
    commits_shown_is = rw panel_replica demand.commits_shown_is;
    undos_shown_is = rw panel_replica demand.undos_shown_is;
    executions_shown_is = rw panel_replica demand.executions_shown_is;
    owed_shown_is = ap (λ (b : Book). owed b.execution) book;
    due_steps_done = rw (← book) due_steps;
    all_due_done = due_at_once;
    clock_order = rw (← run_book (fresh panels own) calls) demand.clock_order;
    undos_few = rw panel_replica demand.undos_few;
    executions_few = rw panel_replica demand.executions_few;
  }
