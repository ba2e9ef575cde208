-- Stable replies of the panel (`specs/Agreement`): the theorem `panel_stable_replies`.
use Prim.Native.Nat.{ℕ, zero, suc, ◌-◌}
use native.Mathlib.Omega.{arith}
use mathlib.Core.Path.{◌≡◌, refl, ap, ◌∙◌, subst}
use mathlib.Core.Bool.{Bool, true, false, cond}
use mathlib.Core.List.{List, [], ◌∷◌, ◌++◌}
use lib.ListN.{length, replicate}
use Rattle.lists.specs.Lists.{is_nil}
use Rattle.lists.specs.Places.{All}
use Rattle.lists.proofs.AllLaws.{all_anywhere, all_append, all-cons_if}
use Rattle.numbers.specs.declared.Number.{Number}
use Rattle.request.specs.declared.Request.{Request}
use Rattle.creek.specs.declared.Answer.{Answer}
use Rattle.creek.specs.Book.{Call, Book, undo, execute}
use Rattle.creek.specs.Replies.{reply_in, stable_mark}
use Rattle.creek.specs.Calls.{Replica, fresh, step, answer}
use Rattle.creek.specs.History.{run, answers_to, due_call, after_due_steps, idled, due_calls}
use Rattle.creek.specs.internal.Sound.{Sound}
use Rattle.creek.specs.StableReply.{replied_to, SettledWith}
use Rattle.creek.specs.Agreement.{replica_after}
use Rattle.creek.proofs.CallLaws.{run-append}
use Rattle.creek.proofs.DueLaws.{run_due_is}
use Rattle.creek.proofs.SoundLaws.{step_sound, fresh_sound}
use Rattle.creek.proofs.StableReply.{sound_stable_reply}
use Rattle.creek.specs.Showing.{owed_shown}
use Rattle.replica.specs.State.{State}
use Rattle.due.specs.Due.{DueOutcome, no_reply, is_awaited, due_replies, most_replies, replies_owed, RunDue}
use Rattle.creek.specs.declared.Reply.{Reply}
use Rattle.replica.specs.internal.Model.{model}
use Rattle.history.specs.History.{Leads}
use Rattle.history.specs.PanelHistory.{PanelHistory, history_of}
use Rattle.history.specs.Agreement.{settled_list, call_at, answer_at, reply_at, PanelStableReplies}
use Rattle.history.proofs.History.{leads-model}
use Rattle.history.proofs.PanelHistory.{last_inv, last_replica, last-answers, last_sound}

-- ---- stable replies of `creek`, in a list of answers and in the replies of due steps

stable_in_answers : (r : Replica) (cs further : List Call) (place : ℕ) → Sound r → (answer_at (answers_to r cs) place).mark ≡ stable_mark
    → SettledWith (replied_to (call_at cs place) (answer_at (answers_to r cs) place)) (answer_at (answers_to r cs) place).response
    (run (run r cs) further).book.plan.committed
unfolding answers_to run
stable_in_answers r [] further place sound mark = absurd (omega arith)
stable_in_answers r (c ∷ cs) further zero sound mark =
    subst (λ (q : Replica). SettledWith (replied_to c (answer r c)) (answer r c).response q.book.plan.committed)
    (run-append (step r c) cs further) ((sound_stable_reply r c sound).stands mark (cs ++ further))
stable_in_answers r (c ∷ cs) further (suc place) sound mark = stable_in_answers (step r c) cs further place (step_sound r c sound) mark

-- a due step answers with the number that its reply is about
due-number : (b : Book) (v : Answer) → replied_to (due_call b) v ≡ v.number
due-number b v = go (is_nil b.execution.rollback)
  where
    go : (none : Bool) → replied_to (cond none execute undo) v ≡ v.number
    go true = refl
    go false = refl

-- a reply that is stable is about one of those requests, and is its response in a replay of them
abbrev StandsIn : List Request → Reply → Type 0
StandsIn l d = d.mark ≡ stable_mark → SettledWith d.number d.response l

due_replies_stand : (k : ℕ) (r : Replica) (further : List Call) → Sound r
    → All (StandsIn (run (after_due_steps k r) further).book.plan.committed) (due_replies k r)
unfolding due_replies after_due_steps
due_replies_stand zero r further sound = tt
due_replies_stand (suc k) r further sound =
    all-cons_if (StandsIn (run (after_due_steps k next) further).book.plan.committed) (is_awaited (answer r (due_call r.book)))
    (reply_in (answer r (due_call r.book))) (due_replies k next) this
    (due_replies_stand k next further (step_sound r (due_call r.book) sound))
  where
    next : Replica
    next = step r (due_call r.book)

    this : (answer r (due_call r.book)).mark ≡ stable_mark
        → SettledWith (answer r (due_call r.book)).number (answer r (due_call r.book)).response
        (run (after_due_steps k next) further).book.plan.committed
    this mark =
        let v = answer r (due_call r.book) in
        let later = run-append next (due_calls k next.book) further ∙ ap (λ (q : Replica). run q further) (run_due_is k next) in
        subst (λ (n : Number). SettledWith n v.response (run (after_due_steps k next) further).book.plan.committed)
        (due-number r.book v)
        (subst (λ (q : Replica). SettledWith (replied_to (due_call r.book) v) v.response q.book.plan.committed) later
        ((sound_stable_reply r (due_call r.book) sound).stands mark (due_calls k next.book ++ further)))

-- the replies of zeros have no mark
zeros_stand : (l : List Request) (n : ℕ) → All (StandsIn l) (replicate n no_reply)
zeros_stand l zero = tt
zeros_stand l (suc n) = ((λ mark. absurd (omega arith)), zeros_stand l n)

-- ---- of the panel

module _ {panels own : ℕ} (p : PanelHistory panels own) where
  pub stable-single : (place : ℕ) → (answer_at p.answers place).mark ≡ stable_mark → (further : List Call) (more : List Answer) (later : State)
      → Leads p.last further more later
      → SettledWith (replied_to (call_at p.calls place) (answer_at p.answers place)) (answer_at p.answers place).response
      (settled_list later)
  stable-single place mark further more later leads =
      told p.answers (last-answers p) mark
      (ap (λ (r : Replica). r.book.plan.committed)
      (leads-model (last_inv p) leads ∙ ap (λ (r : Replica). run r further) (last_replica p)))
    where
      told : (answers : List Answer) → answers ≡ answers_to (fresh panels own) p.calls → (answer_at answers place).mark ≡ stable_mark
          → settled_list later ≡ (run (replica_after (history_of p)) further).book.plan.committed
          → SettledWith (replied_to (call_at p.calls place) (answer_at answers place)) (answer_at answers place).response
          (settled_list later)
      told answers is mark settled =
          rw (settled, is) (stable_in_answers (fresh panels own) p.calls further place (fresh_sound panels own) (rw is at mark))

  stable_due : (r : DueOutcome) → RunDue p.last r → (place : ℕ) → (reply_at r place).mark ≡ stable_mark
      → (further : List Call) (more : List Answer) (later : State) → Leads r.state further more later
      → SettledWith (reply_at r place).number (reply_at r place).response (settled_list later)
  stable_due r ran place mark further more later leads =
      all_anywhere (StandsIn (settled_list later)) r.replies place no_reply (λ m. absurd (omega arith)) stand mark
    where
      settled : settled_list later ≡ (run (idled (model p.last)) further).book.plan.committed
      settled = ap (λ (q : Replica). q.book.plan.committed)
          (leads-model ran.invariant leads ∙ ap (λ (q : Replica). run q further) ran.state)

      zeros : ℕ
      zeros = most_replies - length (replies_owed p.last)

      stand : All (StandsIn (settled_list later)) r.replies
      stand = rw ran.replies (all_append (StandsIn (settled_list later)) (replies_owed p.last) (replicate zeros no_reply)
          (rw settled (due_replies_stand (owed_shown (model p.last)) (model p.last) further (last_sound p)))
          (zeros_stand (settled_list later) zeros))

  pub panel_stable_replies : PanelStableReplies p
  panel_stable_replies = record { single = stable-single; all_due_is = stable_due }
