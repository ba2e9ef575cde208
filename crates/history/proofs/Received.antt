-- A received message is its call, done in one (`specs/Received`): the theorem `received_in_one`.
use mathlib.Core.Path.{◌≡◌, refl, ap}
use mathlib.Core.List.{List, [], ◌∷◌}
use Rattle.creek.specs.declared.Answer.{Answer}
use Rattle.creek.specs.History.{run, answers_to}
use Rattle.replica.specs.State.{State}
use Rattle.replica.specs.internal.Model.{model}
use Rattle.wire.specs.Reader.{Outcome, message, end, refused}
use Rattle.intake.specs.Intake.{answer_to, received, Received}
use Rattle.history.specs.Received.{Reception, calls_in, answers_in, ReceivedInOne}

pub received_in_one : (p : State) (o : Outcome) (r : Reception) → Received p o r.receipt r.state → ReceivedInOne p o r
unfolding run answers_to answer_to received
received_in_one p (message m n) r kept = record {
  done = record { state = kept.state; invariant = kept.invariant };
  answers = ap (λ (a : Answer). a ∷ []) kept.answer;
}
received_in_one p end r kept = record { done = record { state = kept.state; invariant = kept.invariant }; answers = refl }
received_in_one p (refused w) r kept = record { done = record { state = kept.state; invariant = kept.invariant }; answers = refl }
