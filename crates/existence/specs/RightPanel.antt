-- The right panel, made of `creek`'s own definitions: it answers and shows as `creek` does, and its memory after an accepted call is the
-- one that holds the replica after `creek`'s step.
use Rattle.std.specs.Prelude.{ℕ, cond, length}
use Rattle.request.specs.Refusal as refused_by
use Rattle.creek.specs.Book.{Call, is_accepted}
use Rattle.creek.specs.Replies.{reply_in}
use Rattle.creek.specs.Calls.{fresh_refusal, fresh, step, answer}
use Rattle.creek.specs.History.{idled}
use Rattle.creek.specs.Showing.{register_refusal, register_shown, requests_shown, commits_shown, undos_shown, executions_shown, owed_shown}
use Rattle.creek.specs.Showing.{place_refusal, place_shown}
use Rattle.replica.specs.State.{State, Opened, Called}
use Rattle.replica.specs.internal.Model.{book_of, model}
use Rattle.replica.specs.declared.RegisterValue.{RegisterValue}
use Rattle.replica.specs.declared.PlacedRequest.{PlacedRequest}
use Rattle.due.specs.Due.{DueOutcome, padded, replies_owed}
use Rattle.wire.specs.Reader.{Outcome, message, end, refused, read_at}
use Rattle.wire.specs.Layout.{kind_number}
use Rattle.wire.specs.Message.{kind_of, number_in}
use Rattle.intake.specs.Intake.{call_of}
use Rattle.intake.specs.Intake.{nothing}
use Rattle.history.specs.Received.{Reception}
use Rattle.history.specs.Worthless.{Panel}
use Rattle.existence.specs.Memory.{memory_of}

-- fresh: its refusal, and the memory that holds the replica that `creek` begins with
unfoldable pub right_fresh : ℕ → ℕ → Opened
right_fresh panels own = record { refusal = fresh_refusal panels own; state = memory_of (fresh panels own) }

-- a call: its answer, and the memory that holds the replica after it; a refused one leaves the memory as it was
unfoldable pub right_call : State → Call → Called
right_call p c = record { answer = answer (model p) c; state = cond (is_accepted (book_of p) c) (memory_of (step (model p) c)) p }

-- all due steps at once: how many they are, the replies that fall due, and the memory that holds the idle replica
unfoldable pub right_run_due : State → DueOutcome
right_run_due p = record {
  undos = length (model p).book.execution.rollback;
  executions = length (model p).book.execution.todo;
  count = length (replies_owed p);
  replies = padded (replies_owed p);
  state = memory_of (idled (model p));
}

-- what stands at a place, received: a message as its call, told by its number and kind, with its bytes taken; what
-- cannot be read leaves the memory as it was
unfoldable pub right_received : State → Outcome → Reception
right_received p (message m n) = record {
  receipt = record {
    reply = reply_in (right_call p (call_of m)).answer;
    number = number_in m;
    kind = kind_number (kind_of m);
    taken = n;
  };
  state = (right_call p (call_of m)).state;
}
right_received p end = record { receipt = nothing refused_by.accepted; state = p }
right_received p (refused w) = record { receipt = nothing w; state = p }

-- a register, shown
unfoldable pub right_register : State → ℕ → RegisterValue
right_register p k = record { refusal = register_refusal k; value = register_shown (model p) k }

-- the request at a place, shown
unfoldable pub right_place : State → ℕ → PlacedRequest
right_place p place = record { refusal = place_refusal (model p) place; request = place_shown (model p) place }

-- these and the counts, shown
abbrev pub right_panel : Panel
right_panel = record {
  fresh = right_fresh;
  call = right_call;
  run_due_is = right_run_due;
  receive = λ p s at. right_received p (read_at s at);
  register = right_register;
  requests = λ p. requests_shown (model p);
  commits = λ p. commits_shown (model p);
  undos = λ p. undos_shown (model p);
  executions = λ p. executions_shown (model p);
  owed = λ p. owed_shown (model p);
  place = right_place;
}
