-- A message that cannot be read is heard as the request of zeros: it is refused and changes nothing.
use Prim.Native.Nat.{ℕ, ◌≤◌}
use mathlib.Core.Path.{◌≡◌, refl, sym, ◌∙◌}
use mathlib.Core.Bool.{Bool, true, false}
use mathlib.Core.List.{List}
use native.Mathlib.Omega.{arith}
use lib.Dec.{ltb}
use borrow.Author.Tests.{eq-eqb, ne_eqb}
use Rattle.numbers.specs.Numbers.{bad_number, no_number}
use Rattle.request.specs.Refusal as refused_by
use Rattle.creek.specs.declared.Answer.{Answer}
use Rattle.creek.specs.Book.{Book, refusal}
use Rattle.creek.specs.Plan.{deliver_refusal}
use Rattle.creek.specs.Replies.{answer_of, named_by_refusal, refused_with}
use Rattle.creek.specs.Calls.{Replica, step, answer}
use Rattle.replica.specs.State.{State}
use Rattle.replica.specs.declared.Panel.{Panel}
use Rattle.replica.specs.Changes.{entering_changes}
use Rattle.replica.specs.Promises.{Kept}
use Rattle.replica.specs.internal.Model.{model}
use Rattle.replica.proofs.ChangesLaws.{changed_by}
use Rattle.wire.specs.Layout.{least_message}
use Rattle.request.specs.Request.{no_request}
use Rattle.wire.specs.declared.Message.TheVariants.{Request as request, Settlement as settlement}
use Rattle.wire.specs.Message.{BusMessage}
use Rattle.wire.specs.Reader.{Outcome, message, end, refused, read_at}
use Rattle.wire.proofs.RoundTrip.{taken_least}
use Rattle.intake.specs.declared.Receipt.{Receipt}
use Rattle.intake.specs.Intake.{call_of, answer_to, received, is_taken_in, receiving_changes, Received}
use Rattle.encoding.specs.Encoding.{one, message_at, message_of}
use Rattle.encoding.specs.internal.Running.{receipt_answer, entry_changes}

-- its number is bad in every shop
unread-refused : (b : Book) → refusal b (call_of (request no_request)) ≡ refused_by.bad_number
unfolding refusal deliver_refusal bad_number call_of
unread-refused b = go (ltb 0 b.plan.panels) refl
  where
    go : (t : Bool) → ltb 0 b.plan.panels ≡ t → refusal b (call_of (request no_request)) ≡ refused_by.bad_number
    go true e = rw e refl
    go false e = rw e refl

pub unread_changes_nothing : (r : Replica) → step r (call_of (request no_request)) ≡ r
unfolding step
unread_changes_nothing r = rw (unread-refused r.book) refl

-- and no refusal of a delivery names a request
unread_names : (b : Book) → named_by_refusal b (call_of (request no_request)) ≡ no_number
unfolding named_by_refusal call_of
unread_names b = refl

unread-answer : (r : Replica) → answer r (call_of (request no_request)) ≡ refused_with refused_by.bad_number no_number
unfolding answer_of
unread-answer r = rw (unread-refused r.book, unread_names r.book) refl

-- what cannot be read is received as the request of zeros is heard
unread-kept : (p q : State) (o : Outcome) (r : Receipt) → r.taken ≡ 0 → model q ≡ model p → q ≡ p → Received p o r q
    → Kept p (call_of (request no_request)) (record { answer = receipt_answer r; state = q })
unread-kept p q o r none stays same got = record {
  answer = rw (eq-eqb r.taken 0 none) (sym (unread-answer (model p)));
  state = stays ∙ sym (unread_changes_nothing (model p));
  unchanged = λ _. same;
  invariant = got.invariant;
}

kept_by : (p q : State) (o : Outcome) (r : Receipt) → ((m : BusMessage) (n : ℕ) → o ≡ message m n → least_message ≤ n)
    → Received p o r q → Kept p (call_of (message_of o)) (record { answer = receipt_answer r; state = q })
unfolding answer_to received is_taken_in
kept_by p q (message m n) r least got =
    let some : r.taken ≡ 0 → ⊥ = λ none. omega (arith, least m n refl, got.taken, none) in
    rw (ne_eqb r.taken 0 some)
    record { answer = got.answer; state = got.state; unchanged = got.unchanged; invariant = got.invariant }
kept_by p q end r least got = unread-kept p q end r got.taken got.state (got.unchanged refl) got
kept_by p q (refused w) r least got = unread-kept p q (refused w) r got.taken got.state (got.unchanged refl) got

-- a message received is heard or settled as the call that it stands for in a list
pub received-kept : {p q : State} {r : Receipt} (s : List ℕ) (at : ℕ) → Received p (read_at s at) r q
    → Kept p (call_of (message_at s at)) (record { answer = receipt_answer r; state = q })
unfolding message_at
received-kept {p} {q} {r} s at got = kept_by p q (read_at s at) r (taken_least s at) got

changed_by_outcome : (o : Outcome) (a : Answer) (p q : Panel) → q ≡ receiving_changes o a p q
    → q ≡ entry_changes (one (call_of (message_of o))) p q
unfolding call_of
changed_by_outcome (message (request x) n) a p q others = others
changed_by_outcome (message (settlement k) n) a p q others = others
changed_by_outcome end a p q others = changed_by (entering_changes p) others refl
changed_by_outcome (refused w) a p q others = changed_by (entering_changes p) others refl

-- and changes of a panel what that call may
pub received_changes : (a : Answer) (p q : Panel) (s : List ℕ) (at : ℕ) → q ≡ receiving_changes (read_at s at) a p q
    → q ≡ entry_changes (one (call_of (message_at s at))) p q
unfolding message_at
received_changes a p q s at others = changed_by_outcome (read_at s at) a p q others
