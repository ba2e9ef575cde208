-- All due steps as an entry: their count is small, and what running them does.
use Prim.Native.Nat.{◌+◌, ◌*◌, ◌≤◌}
use native.Mathlib.Omega.{arith}
use Rattle.numbers.specs.Numbers.{no_number}
use Rattle.creek.specs.Replies.{no_mark, reply}
use Rattle.creek.specs.internal.Sound.{most_requests}
use Rattle.creek.specs.Showing.{owed_shown}
use Rattle.replica.specs.State.{State}
use Rattle.replica.specs.internal.Model.{Inv, model}
use Rattle.due.specs.Due.{DueOutcome, RunDue}
use Rattle.replica.proofs.ShowingLaws.{owed_are}
use Rattle.encoding.specs.Encoding.{all_due, after, answer_to}
use Rattle.encoding.specs.internal.Running.{Done}

-- at most two steps are owed for each request
owed-few : (p : State) → Inv p → owed_shown (model p) ≤ 2 * most_requests
owed-few p inv = omega (arith, owed_are p inv, inv.counts.ordered, inv.counts.stacked)

pub steps-few : (p : State) (r : DueOutcome) → Inv p → RunDue p r → r.undos + r.executions ≤ 2 * most_requests
steps-few p r inv ran = omega (arith, owed-few p inv, ran.undos, ran.executions)

-- all due steps, from what running them gives
pub done_all_due : (p : State) (r : DueOutcome) → RunDue p r
    → Done p all_due (record { answer = reply no_number (r.undos + r.executions) no_mark; state = r.state })
unfolding after answer_to
done_all_due p r ran = record { answer = rw (ran.undos, ran.executions); state = ran.state; invariant = ran.invariant }
