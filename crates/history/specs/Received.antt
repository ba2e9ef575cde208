-- A message received as a call of a history: what stands at a place of a run of bytes stands for the call of its message, or for none. That
-- a received message is that call done, with that answer, is `received_in_one` in `proofs/Received`.
use Rattle.std.specs.Prelude.{◌≡◌, List, [], ◌∷◌}
use Rattle.creek.specs.declared.Answer.{Answer}
use Rattle.creek.specs.Book.{Call}
use Rattle.creek.specs.Replies.{reply_answer}
use Rattle.creek.specs.History.{answers_to}
use Rattle.replica.specs.State.{State}
use Rattle.replica.specs.internal.Model.{model}
use Rattle.wire.specs.Reader.{Outcome, message, end, refused}
use Rattle.intake.specs.declared.Receipt.{Receipt}
use Rattle.intake.specs.Intake.{call_of}
use Rattle.history.specs.History.{DoneInOne}

-- the calls that it stands for
abbrev pub calls_in : Outcome → List Call
calls_in (message m n) = call_of m ∷ []
calls_in end = []
calls_in (refused w) = []

-- the answers to them, of which the receipt has one
abbrev pub answers_in : Outcome → Receipt → List Answer
answers_in (message m n) r = reply_answer r.reply ∷ []
answers_in end r = []
answers_in (refused w) r = []

-- what receiving leads to: the receipt, and the state after it
pub record Reception : Type 0 where
  pub receipt : Receipt
  pub state : State

-- what stands at the place was received by p as calls done in one
pub record ReceivedInOne (p : State) (o : Outcome) (r : Reception) : Type 0 where
  pub done : DoneInOne p (calls_in o) r.state
  pub answers : answers_in o r.receipt ≡ answers_to (model p) (calls_in o)
