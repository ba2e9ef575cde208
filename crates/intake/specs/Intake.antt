-- The call that a bus message stands for, and what a panel does with what stands at a place of a run of bytes.
use Rattle.std.specs.Prelude.{ℕ, ◌≡◌, Bool, false}
use Rattle.numbers.specs.declared.Number.{Number}
use Rattle.numbers.specs.Numbers.{no_number}
use Rattle.creek.specs.declared.Answer.{Answer}
use Rattle.creek.specs.Book.{Call, Book, deliver, commit, is_accepted}
use Rattle.creek.specs.Calls.{Replica, step, answer}
use Rattle.creek.specs.Replies.{done, refused_with, reply_answer, reply_in}
use Rattle.replica.specs.State.{State}
use Rattle.replica.specs.declared.Panel.{Panel}
use Rattle.replica.specs.Changes.{call_changes}
use Rattle.replica.specs.Memory.{memory, SameSpare}
use Rattle.replica.specs.internal.Model.{model, book_of, Inv}
use Rattle.wire.specs.Layout.{kind_number}
use Rattle.wire.specs.declared.Message.TheVariants.{Request as request, Settlement as settlement}
use Rattle.wire.specs.Message.{BusMessage, kind_of, number_in}
use Rattle.wire.specs.Reader.{Outcome, message, end, refused, taken_of}
use Rattle.intake.specs.declared.Receipt.{Receipt}

-- ---- what stands at a place, o, of a run of bytes

-- a request is heard, a settlement is settled
unfoldable pub call_of : BusMessage → Call
call_of (request x) = deliver x
call_of (settlement n) = commit n

-- the answer to it: the call's, the reader's refusal, or, at the end, zeros
unfoldable pub answer_to : Replica → Outcome → Answer
answer_to r (message m n) = answer r (call_of m)
answer_to r end = done
answer_to r (refused w) = refused_with w no_number

-- the number that it names, 0/0 where it cannot be read
unfoldable pub number_told : Outcome → Number
number_told (message m n) = number_in m
number_told end = no_number
number_told (refused w) = no_number

-- document 01's number of its kind, 0 where it cannot be read
unfoldable pub kind_told : Outcome → ℕ
kind_told (message m n) = kind_number (kind_of m)
kind_told end = 0
kind_told (refused w) = 0

-- the replica after it; what cannot be read leaves it alone
unfoldable pub received : Replica → Outcome → Replica
received r (message m n) = step r (call_of m)
received r end = r
received r (refused w) = r

-- a message is there, and its call is accepted
unfoldable pub is_taken_in : Book → Outcome → Bool
is_taken_in b (message m n) = is_accepted b (call_of m)
is_taken_in b end = false
is_taken_in b (refused w) = false

-- p received it, and q is the state then
pub record Received (p : State) (o : Outcome) (r : Receipt) (q : State) : Type 0 where
  -- which message it was, and its bytes, none where there is none
  pub number : r.number ≡ number_told o
  pub kind : r.kind ≡ kind_told o
  pub taken : r.taken ≡ taken_of o
  -- the answer outright, every field, of which the request is that of zeros
  pub answer : reply_answer r.reply ≡ answer_to (model p) o
  pub state : model q ≡ received (model p) o
  -- what is refused, by the reader or by the panel, leaves the very state
  pub unchanged : is_taken_in (book_of p) o ≡ false → q ≡ p
  pub invariant : Inv q

-- ---- on a panel in place

-- what receiving uses of a panel: another panel with those fields as p has them
abbrev pub receiving_uses : Panel → Panel → Panel
receiving_uses p r = record r {
  committed = p.committed;
  ordered = p.ordered;
  executed = p.executed;
  commits = p.commits;
  panels = p.panels;
  own = p.own;
  held = p.held;
  known = p.known;
  awaiting = p.awaiting;
  clocks = p.clocks;
  askings = p.askings;
  contexts = p.contexts;
  order = p.order;
  stack = p.stack;
  responses = p.responses;
  settled = p.settled;
}

-- what receiving it may change of a panel: p with what the call may change as q has it; what cannot be read changes nothing
abbrev pub receiving_changes : Outcome → Answer → Panel → Panel → Panel
receiving_changes (message m n) a p q = call_changes (call_of m) a p q
receiving_changes end a p q = p
receiving_changes (refused w) a p q = p

-- p received it, and became q
pub record ReceiveKept (p : Panel) (o : Outcome) (r : Receipt) (q : Panel) : Type 0 where
  -- of every panel that came from fresh and the calls and has what receiving uses as p has it
  pub kept : (s : Panel) → Inv (memory (receiving_uses p s))
      → Received (memory (receiving_uses p s)) o r (memory (receiving_changes o (reply_answer r.reply) (receiving_uses p s) q))
  pub spare : SameSpare p q
  -- what receiving does not change is as it was
  pub others : q ≡ receiving_changes o (reply_answer r.reply) p q

-- the receipt where nothing was taken in, by that refusal
abbrev pub nothing : ℕ → Receipt
nothing w = record { reply = reply_in (refused_with w no_number); number = no_number; kind = 0; taken = 0 }
