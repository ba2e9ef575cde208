-- What the map to `creek` does not see of a panel's memory cannot be seen: numbers at slots and places that are not in use (decision 93). Two
-- panels that stand for one replica answer alike, whatever is called on them, and stand for one replica again. It is proved in
-- `proofs/Unseen`: `unseen`.
use Rattle.std.specs.Prelude.{ℕ, ◌≡◌, List}
use Rattle.numbers.specs.declared.Number.{Number}
use Rattle.creek.specs.declared.Answer.{Answer}
use Rattle.creek.specs.declared.Reply.{Reply}
use Rattle.creek.specs.Book.{Call}
use Rattle.replica.specs.State.{State}
use Rattle.replica.specs.Shown.{RegisterShown, PlaceShown}
use Rattle.replica.specs.declared.RegisterValue.{RegisterValue}
use Rattle.replica.specs.declared.PlacedRequest.{PlacedRequest}
use Rattle.replica.specs.internal.Model.{model, Inv}
use Rattle.due.specs.Due.{DueOutcome, RunDue}
use Rattle.status.specs.declared.RequestStatus.{RequestStatus}
use Rattle.status.specs.Status.{StatusShown}
use Rattle.wire.specs.Reader.{Outcome}
use Rattle.intake.specs.declared.Receipt.{Receipt}
use Rattle.intake.specs.Intake.{Received}
use Rattle.history.specs.History.{Leads}

-- what is shown of p and of q is the same, all due steps at once give the same replies, and what is received has the same receipt; the counts
-- that are shown are of the replica alone
pub record ShownAlike (p q : State) : Type 0 where
  pub models : model p ≡ model q
  pub register : (k : ℕ) (shown shown' : RegisterValue) → RegisterShown p k shown → RegisterShown q k shown' → shown ≡ shown'
  pub at_place : (place : ℕ) (shown shown' : PlacedRequest) → PlaceShown p place shown → PlaceShown q place shown' → shown ≡ shown'
  pub status : (n : Number) (shown shown' : RequestStatus) → StatusShown p n shown → StatusShown q n shown' → shown ≡ shown'
  pub replies : (r s : DueOutcome) → RunDue p r → RunDue q s → r.replies ≡ s.replies
  pub receipt : (o : Outcome) (r s : Receipt) (p' q' : State) → Received p o r p' → Received q o s q' → r ≡ s

-- of two panels that stand for one replica, on which the same was called
pub record Unseen (p q : State) : Type 0 where
  pub alike : (calls : List Call) (answers answers' : List Answer) (p' q' : State) → Leads p calls answers p' → Leads q calls answers' q'
      → (answers ≡ answers') × ShownAlike p' q'
