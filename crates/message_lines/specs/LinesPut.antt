-- What putting the line of a message, calling due steps until the panel is idle, and putting the lines of all that is found promise.
use Rattle.std.specs.Prelude.{ℕ, ◌+◌, ◌*◌, ◌≤◌, ◌≡◌, List}
use Rattle.numbers.specs.declared.Number.{Number}
use Rattle.text.specs.Written.{Written}
use Rattle.report.specs.Lines.{message_line}
use Rattle.report.specs.Sizes.{most_message_bytes}
use Rattle.creek.specs.History.{idled}
use Rattle.replica.specs.State.{State}
use Rattle.replica.specs.internal.Model.{model, Inv}
use Rattle.runs.specs.Found.{found_from}
use Rattle.printed.specs.Printout.{after_all, message_lines, shop_bytes, most_messages}

-- the line of a message of that kind that names that number was put
pub record LinePut (place kind : ℕ) (number : Number) (refusal undone : ℕ) (out out' : List ℕ) (n : ℕ) : Type 0 where
  pub written : Written out (message_line place kind number.panel.0 number.event.0 refusal undone) out' n
  pub few : n ≤ most_message_bytes

-- every due step was done on p, which is q then, and so many undos were counted
pub record Idle (p q : State) (undone : ℕ) : Type 0 where
  pub state : model q ≡ idled (model p)
  pub counted : q.counters.undos ≡ p.counters.undos + undone
  pub invariant : Inv q

-- all that is found in the input was received by p, which is q then, and its lines were put
pub record AllPut (p : State) (s out : List ℕ) (q : State) (out' : List ℕ) (n : ℕ) : Type 0 where
  pub state : model q ≡ after_all (model p) (found_from s shop_bytes)
  pub invariant : Inv q
  pub lines : Written out (message_lines 1 (model p) (found_from s shop_bytes)) out' n
  pub few : n ≤ most_messages * most_message_bytes
