-- The call that a message stands for is that of its kind, and what stands at a place is received by it or leaves the panel alone.
use Prim.Native.Nat.{ℕ}
use mathlib.Core.Path.{◌≡◌, refl, sym, subst}
use Rattle.numbers.specs.declared.Number.{Number}
use Rattle.request.specs.Refusal.{accepted}
use Rattle.creek.specs.declared.Answer.{Answer}
use Rattle.creek.specs.declared.Reply.{Reply}
use Rattle.creek.specs.Replies.{reply_answer}
use Rattle.replica.specs.State.{State}
use Rattle.replica.specs.declared.Panel.{Panel}
use Rattle.replica.specs.Changes.{call_changes}
use Rattle.replica.specs.Memory.{memory, Done}
use Rattle.replica.specs.Promises.{Kept}
use Rattle.replica.specs.internal.Model.{Inv}
use Rattle.wire.specs.Layout.{kind_number}
use Rattle.wire.specs.declared.Message.TheVariants.{Request as request, Settlement as settlement}
use Rattle.wire.specs.Message.{BusMessage, kind_of, number_in}
use Rattle.wire.specs.Reader.{Outcome, message, end, refused}
use Rattle.intake.specs.declared.Receipt.{Receipt}
use Rattle.intake.specs.Intake.{call_of, answer_to, number_told, kind_told, received, is_taken_in, nothing, Received}
use Rattle.intake.specs.Intake.{receiving_uses, ReceiveKept}

module _ {p : State} {o : Outcome} where
  pub receive-message : {q : State} {reply : Reply} {m : BusMessage} {n : ℕ} {number : Number} {kind : ℕ} → o ≡ message m n
      → number ≡ number_in m → kind ≡ kind_number (kind_of m)
      → Kept p (call_of m) (record { answer = reply_answer reply; state = q })
      → Received p o (record { reply = reply; number = number; kind = kind; taken = n }) q
  unfolding answer_to number_told kind_told received is_taken_in
  receive-message e named numbered done = rw e record {
    number = named;
    kind = numbered;
    taken = refl;
    answer = done.answer;
    state = done.state;
    unchanged = done.unchanged;
    invariant = done.invariant;
  }

  pub receive-end : Inv p → o ≡ end → Received p o (nothing accepted) p
  unfolding answer_to number_told kind_told received is_taken_in
  receive-end inv e = rw e record {
    number = refl;
    kind = refl;
    taken = refl;
    answer = refl;
    state = refl;
    unchanged = λ _. refl;
    invariant = inv;
  }

  pub receive-refused : Inv p → (w : ℕ) → o ≡ refused w → Received p o (nothing w) p
  unfolding answer_to number_told kind_told received is_taken_in
  receive-refused inv w e = rw e record {
    number = refl;
    kind = refl;
    taken = refl;
    answer = refl;
    state = refl;
    unchanged = λ _. refl;
    invariant = inv;
  }

-- ---- on a panel in place

-- the call that a message stands for uses no more than receiving does
call_kept : (m : BusMessage) {p q : Panel} {a : Answer} → Done p (call_of m) a q → (s : Panel) → Inv (memory (receiving_uses p s))
    → Kept (memory (receiving_uses p s)) (call_of m)
    (record { answer = a; state = memory (call_changes (call_of m) a (receiving_uses p s) q) })
unfolding call_of
call_kept (request x) {p} d s inv = d.kept (receiving_uses p s) inv
call_kept (settlement n) {p} d s inv = d.kept (receiving_uses p s) inv

module _ {p : Panel} {o : Outcome} where
  pub kept-message : {q : Panel} {reply : Reply} {m : BusMessage} {n : ℕ} {number : Number} {kind : ℕ} → o ≡ message m n
      → number ≡ number_in m → kind ≡ kind_number (kind_of m) → Done p (call_of m) (reply_answer reply) q
      → ReceiveKept p o (record { reply = reply; number = number; kind = kind; taken = n }) q
  kept-message {m = m} e named numbered done = rw e record {
    kept = λ s inv. receive-message refl named numbered (call_kept m done s inv);
    spare = done.spare;
    others = done.others;
  }

  pub kept-end : o ≡ end → ReceiveKept p o (nothing accepted) p
  kept-end e = rw e record { kept = λ s inv. receive-end inv refl; spare = refl; others = refl }

  pub kept-refused : (w : ℕ) → o ≡ refused w → ReceiveKept p o (nothing w) p
  kept-refused w e = rw e record { kept = λ s inv. receive-refused inv w refl; spare = refl; others = refl }

-- receiving goes by the fields that it uses alone: q is any panel with these as p has them
pub receives_by : (p q r : Panel) → receiving_uses (record q {
  committed = p.committed;
  ordered = p.ordered;
  executed = p.executed;
  commits = p.commits;
  panels = p.panels;
  own = p.own;
  held = p.held;
  known = p.known;
  awaiting = p.awaiting;
  clocks = p.clocks;
  askings = p.askings;
  contexts = p.contexts;
  order = p.order;
  stack = p.stack;
  responses = p.responses;
  settled = p.settled;
}) r ≡ receiving_uses p r
receives_by p q r = refl

-- ---- of the panel itself, where it came from fresh and the calls

pub received_here : (o : Outcome) {p q : Panel} {r : Receipt} → ReceiveKept p o r q → Inv (memory p) → Received (memory p) o r (memory q)
received_here o {p} {q} {r} d inv = subst (λ (z : Panel). Received (memory p) o r (memory z)) (sym d.others) (d.kept p inv)
