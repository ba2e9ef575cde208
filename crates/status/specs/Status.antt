-- What the status of a request promises of a panel.
use Rattle.std.specs.Prelude.{◌≡◌}
use Rattle.numbers.specs.declared.Number.{Number}
use Rattle.creek.specs.Status.{status_refusal, status_place, status_settled, status_awaited, status_executed, status_response}
use Rattle.replica.specs.declared.Panel.{Panel}
use Rattle.replica.specs.State.{State}
use Rattle.replica.specs.Memory.{memory}
use Rattle.replica.specs.internal.Model.{model, Inv}
use Rattle.status.specs.declared.RequestStatus.{RequestStatus}

-- what p has of the request of number n, or a refusal with zeros
pub record StatusShown (p : State) (n : Number) (r : RequestStatus) : Type 0 where
  pub refusal : r.refusal ≡ status_refusal (model p) n
  pub place : r.place ≡ status_place (model p) n
  pub settled : r.settled ≡ status_settled (model p) n
  pub awaited : r.awaited ≡ status_awaited (model p) n
  pub executed : r.executed ≡ status_executed (model p) n
  pub response : r.response ≡ status_response (model p) n

-- what the status of a request is read from: another panel with those fields as p has them
abbrev pub status_uses : Panel → Panel → Panel
status_uses p r = record r {
  committed = p.committed;
  ordered = p.ordered;
  executed = p.executed;
  panels = p.panels;
  held = p.held;
  awaiting = p.awaiting;
  order = p.order;
  responses = p.responses;
}

-- r is what is shown of the request of number n in every panel that came from fresh and the calls and has what it is read from as p has it
pub record StatusKept (p : Panel) (n : Number) (r : RequestStatus) : Type 0 where
  pub shown : (o : Panel) → Inv (memory (status_uses p o)) → StatusShown (memory (status_uses p o)) n r
