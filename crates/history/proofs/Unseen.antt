-- What the map to `creek` does not see cannot be seen (`specs/Unseen`): the theorem `unseen`.
use Prim.Native.Nat.{ℕ}
use mathlib.Core.Path.{◌≡◌, sym, ap, ◌∙◌}
use mathlib.Core.List.{List}
use Rattle.numbers.specs.declared.Number.{Number}
use Rattle.creek.specs.declared.Answer.{Answer}
use Rattle.creek.specs.declared.Reply.{Reply}
use Rattle.creek.specs.Book.{Call}
use Rattle.creek.specs.Replies.{reply_in}
use Rattle.creek.specs.Calls.{Replica}
use Rattle.creek.specs.History.{run, answers_to}
use Rattle.creek.specs.Showing.{owed_shown, register_shown, place_refusal, place_shown}
use Rattle.creek.specs.Status.{status_refusal, status_place, status_settled, status_awaited, status_executed, status_response}
use Rattle.request.specs.declared.Request.{Request}
use Rattle.replica.specs.State.{State}
use Rattle.replica.specs.Shown.{RegisterShown, PlaceShown}
use Rattle.replica.specs.declared.RegisterValue.{RegisterValue}
use Rattle.replica.specs.declared.PlacedRequest.{PlacedRequest}
use Rattle.replica.specs.internal.Model.{model, Inv}
use Rattle.due.specs.Due.{DueOutcome, due_replies, padded, RunDue}
use Rattle.status.specs.declared.RequestStatus.{RequestStatus}
use Rattle.status.specs.Status.{StatusShown}
use Rattle.wire.specs.Reader.{Outcome}
use Rattle.intake.specs.declared.Receipt.{Receipt}
use Rattle.intake.specs.Intake.{answer_to, Received}
use Rattle.history.specs.Unseen.{ShownAlike, Unseen}
use Rattle.history.proofs.History.{leads-model, leads-answers}

module _ (p q : State) (same : model p ≡ model q) where
  values_alike : (k : ℕ) (shown shown' : RegisterValue) → RegisterShown p k shown → RegisterShown q k shown' → shown ≡ shown'
  values_alike k shown shown' s s' =
      let refusal = s.refusal ∙ sym s'.refusal in
      let value = s.value ∙ ap (λ (r : Replica). register_shown r k) same ∙ sym s'.value in
      λ i. record { refusal = refusal i; value = value i }

  places_alike : (place : ℕ) (shown shown' : PlacedRequest) → PlaceShown p place shown → PlaceShown q place shown' → shown ≡ shown'
  places_alike place shown shown' s s' =
      let refusal = s.refusal ∙ ap (λ (r : Replica). place_refusal r place) same ∙ sym s'.refusal in
      let request = s.request ∙ ap (λ (r : Replica). place_shown r place) same ∙ sym s'.request in
      λ i. record { refusal = refusal i; request = request i }

  -- what is shown of the request of number n by the replica alone
  alike : {A : Type 0} (show : Replica → Number → A) (n : Number) {x y : A} → x ≡ show (model p) n → y ≡ show (model q) n → x ≡ y
  alike show n e f = e ∙ ap (λ (r : Replica). show r n) same ∙ sym f

  statuses_alike : (n : Number) (shown shown' : RequestStatus) → StatusShown p n shown → StatusShown q n shown' → shown ≡ shown'
  statuses_alike n shown shown' s s' = λ i. record {
    response = alike status_response n s.response s'.response i;
    place = alike status_place n s.place s'.place i;
    settled = alike status_settled n s.settled s'.settled i;
    awaited = alike status_awaited n s.awaited s'.awaited i;
    executed = alike status_executed n s.executed s'.executed i;
    refusal = alike status_refusal n s.refusal s'.refusal i;
  }

  receipts_alike : (o : Outcome) (r s : Receipt) (p' q' : State) → Received p o r p' → Received q o s q' → r ≡ s
  receipts_alike o r s p' q' kept kept' =
      let number = kept.number ∙ sym kept'.number in
      let kind = kept.kind ∙ sym kept'.kind in
      let taken = kept.taken ∙ sym kept'.taken in
      let answer = kept.answer ∙ ap (λ (x : Replica). answer_to x o) same ∙ sym kept'.answer in
      λ i. record { reply = reply_in (answer i); number = number i; kind = kind i; taken = taken i }

  pub shown_alike : ShownAlike p q
  shown_alike = record {
    models = same;
    register = values_alike;
    at_place = places_alike;
    status = statuses_alike;
    replies = λ r s ran ran'.
        ran.replies ∙ ap (λ (x : Replica). padded (due_replies (owed_shown x) x)) same ∙ sym ran'.replies;
    receipt = receipts_alike;
  }

pub unseen : (p q : State) → Inv p → Inv q → model p ≡ model q → Unseen p q
unseen p q inv inv' same = record {
  alike = λ calls answers answers' p' q' leads leads'. (
    leads-answers inv leads ∙ ap (λ (r : Replica). answers_to r calls) same ∙ sym (leads-answers inv' leads'),
    shown_alike p' q' (leads-model inv leads ∙ ap (λ (r : Replica). run r calls) same ∙ sym (leads-model inv' leads')),
  );
}
