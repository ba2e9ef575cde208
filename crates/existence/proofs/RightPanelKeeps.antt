-- The right panel keeps every contract: that of fresh, of each call that fits, of all due steps at once and of the showing calls.
use Prim.Native.Nat.{ℕ}
use native.Mathlib.Omega.{arith}
use mathlib.Core.Path.{◌≡◌, refl, ap, ◌∙◌}
use mathlib.Core.Bool.{Bool, false, cond}
use mathlib.Core.List.{List, [], ◌∷◌}
use borrow.Author.Tests.{eq-eqb}
use Rattle.lists.specs.Places.{All}
use Rattle.lists.proofs.BoolLaws.{either}
use Rattle.creek.specs.Execution.{is_idle}
use Rattle.creek.specs.declared.Answer.{Answer}
use Rattle.creek.specs.Book.{Call, deliver, commit, is_accepted, accepted}
use Rattle.creek.specs.Replies.{reply_answer, reply_in, answer_of, accepted_answer, settlement_reply, stable_reply_due}
use Rattle.creek.specs.Calls.{Replica, fresh, step, answer}
use Rattle.creek.specs.History.{idled}
use Rattle.creek.specs.Showing.{owed_shown}
use Rattle.creek.proofs.DueLaws.{idle_exactly}
use Rattle.replica.specs.State.{State}
use Rattle.replica.specs.Promises.{Fresh, Kept}
use Rattle.replica.specs.internal.Model.{book_of, model, Inv}
use Rattle.due.specs.Due.{RunDue}
use Rattle.wire.specs.Reader.{Outcome, message, end, refused as unread, read_at}
use Rattle.wire.specs.declared.Message.TheVariants.{Request as request, Settlement as settlement}
use Rattle.wire.specs.Message.{BusMessage}
use Rattle.intake.specs.Intake.{call_of, answer_to, number_told, kind_told, received, is_taken_in, Received}
use Rattle.history.specs.Received.{calls_in}
use Rattle.history.specs.Worthless.{PanelCall, single, run_due, receive, next, KeepsCalls, Keeps}
use Rattle.existence.specs.Memory.{memory_of}
use Rattle.existence.specs.RightPanel.{right_fresh, right_call, right_run_due, right_received, right_register, right_place, right_panel}
use Rattle.existence.specs.Existence.{CallFits, PanelCallFits}
use Rattle.existence.proofs.FirstMemory.{fresh-memory}
use Rattle.existence.proofs.MemoryLaws.{Storable, memory-model, memory_inv}
use Rattle.existence.proofs.StorableLaws.{step_storable, due_storable, fresh_storable}

-- ---- each contract

pub right-fresh : (panels own : ℕ) → Fresh panels own (right_fresh panels own)
unfolding right_fresh
right-fresh panels own = record {
  refusal = refl;
  memory = fresh-memory panels own;
  state = memory-model (fresh panels own) (fresh_storable panels own);
  invariant = memory_inv (fresh panels own) (fresh_storable panels own);
}

-- a refused call leaves the replica as it was
refused-model : (p : State) (c : Call) → is_accepted (book_of p) c ≡ false → model p ≡ step (model p) c
unfolding model step
refused-model p c refused = rw refused

-- ---- what is answered to a message has no request

-- the answer is what the reply says
abbrev Whole : Answer → Type 0
Whole a = reply_answer (reply_in a) ≡ a

reply-whole : (r : Replica) (m : BusMessage) → Whole (answer r (call_of m))
unfolding call_of answer_of accepted_answer settlement_reply
reply-whole r (request x) = either Whole (is_accepted r.book (deliver x)) (λ e. refl) (λ e. refl)
reply-whole r (settlement n) =
    either Whole (is_accepted r.book (commit n))
    (λ e. either Whole (stable_reply_due (accepted r.book (commit n)) r.awaiting n) (λ f. refl) (λ f. refl)) (λ e. refl)

module _ (p : State) (s : Storable (model p)) where
  module _ (c : Call) (fit : CallFits c) where
    after_call : Storable (step (model p) c)
    after_call = step_storable (model p) c fit s

    pub right-call-model : model (right_call p c).state ≡ step (model p) c
    unfolding right_call
    right-call-model =
        either (λ (q : State). model q ≡ step (model p) c) (is_accepted (book_of p) c)
        (λ taken. memory-model (step (model p) c) after_call) (refused-model p c)

    pub right-call : Inv p → Kept p c (right_call p c)
    unfolding right_call
    right-call inv = record {
      answer = refl;
      state = right-call-model;
      unchanged = λ refused. ap (λ (b : Bool). cond b (memory_of (step (model p) c)) p) refused;
      invariant = either Inv (is_accepted (book_of p) c) (λ taken. memory_inv (step (model p) c) after_call) (λ refused. inv);
    }

  after_due_lem : Storable (idled (model p))
  after_due_lem = due_storable (owed_shown (model p)) (model p) s

  pub right_due_model : model (right_run_due p).state ≡ idled (model p)
  unfolding right_run_due
  right_due_model = memory-model (idled (model p)) after_due_lem

  pub right_run_due_lem : RunDue p (right_run_due p)
  unfolding right_run_due
  right_run_due_lem = record {
    state = right_due_model;
    undos = refl;
    executions = refl;
    count = refl;
    replies = refl;
    idle =
        ap (λ (r : Replica). is_idle r.book.execution) right_due_model
        ∙ idle_exactly (model p) s.sound (owed_shown (model p)) (omega arith)
        ∙ eq-eqb (owed_shown (model p)) (owed_shown (model p)) refl;
    invariant = memory_inv (idled (model p)) after_due_lem;
  }

  -- what stands at a place, received
  pub right-received : (o : Outcome) → All CallFits (calls_in o) → Inv p
      → Received p o (right_received p o).receipt (right_received p o).state
  unfolding right_received answer_to number_told kind_told received is_taken_in
  right-received (message m n) fit inv =
      let kept = right-call (call_of m) fit.0 inv in
      record {
        number = refl;
        kind = refl;
        taken = refl;
        answer = ap (λ (a : Answer). reply_answer (reply_in a)) kept.answer ∙ reply-whole (model p) m;
        state = kept.state;
        unchanged = kept.unchanged;
        invariant = kept.invariant;
      }
  right-received end fit inv =
      record { number = refl; kind = refl; taken = refl; answer = refl; state = refl; unchanged = λ none. refl; invariant = inv }
  right-received (unread w) fit inv =
      record { number = refl; kind = refl; taken = refl; answer = refl; state = refl; unchanged = λ none. refl; invariant = inv }

  pub right_received_storable : (o : Outcome) → All CallFits (calls_in o) → Storable (model (right_received p o).state)
  unfolding right_received
  right_received_storable (message m n) fit = rw (right-call-model (call_of m) fit.0) (after_call (call_of m) fit.0)
  right_received_storable end fit = s
  right_received_storable (unread w) fit = s

-- ---- each list of calls

right_fresh_storable : (panels own : ℕ) → Storable (model (right_fresh panels own).state)
right_fresh_storable panels own = rw (right-fresh panels own).state (fresh_storable panels own)

right_next_storable : (p : State) (c : PanelCall) → PanelCallFits c → Storable (model p) → Storable (model (next right_panel p c))
right_next_storable p (single c) fit s = rw (right-call-model p s c fit) (step_storable (model p) c fit s)
right_next_storable p run_due fit s = rw (right_due_model p s) (due_storable (owed_shown (model p)) (model p) s)
right_next_storable p (receive bytes at) fit s = right_received_storable p s (read_at bytes at) fit

right_keeps_calls : (p : State) (calls : List PanelCall) → All PanelCallFits calls → Storable (model p) → KeepsCalls right_panel p calls
right_keeps_calls p [] fit s = tt
right_keeps_calls p (single c ∷ cs) fit s =
    (right-call p s c fit.0, right_keeps_calls (right_call p c).state cs fit.1 (right_next_storable p (single c) fit.0 s))
right_keeps_calls p (run_due ∷ cs) fit s =
    ((λ inv. right_run_due_lem p s), right_keeps_calls (right_run_due p).state cs fit.1 (right_next_storable p run_due fit.0 s))
right_keeps_calls p (receive bytes at ∷ cs) fit s = (
  right-received p s (read_at bytes at) fit.0,
  right_keeps_calls (right_received p (read_at bytes at)).state cs fit.1 (right_received_storable p s (read_at bytes at) fit.0),
)

pub right_panel_keeps : (panels own : ℕ) (calls : List PanelCall) → All PanelCallFits calls → Keeps right_panel panels own calls
unfolding right_register right_place
right_panel_keeps panels own calls fit = record {
  fresh = right-fresh panels own;
  kept = right_keeps_calls (right_fresh panels own).state calls fit (right_fresh_storable panels own);
  register = λ k inv. record { refusal = refl; value = refl };
  requests = λ inv. refl;
  commits = λ inv. refl;
  undos = λ inv. refl;
  executions = λ inv. refl;
  owed = λ inv. refl;
  place = λ k inv. record { refusal = refl; request = refl };
}
