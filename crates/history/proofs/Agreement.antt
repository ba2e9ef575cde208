-- Two panels side by side, of the panels themselves (`specs/Agreement`): the theorems `panel_grows` and `panels_side_by_side`.
use Prim.Native.Nat.{ℕ}
use mathlib.Core.Path.{◌≡◌, refl, sym, ap, ◌∙◌, subst}
use mathlib.Core.List.{List, []}
use Rattle.request.specs.declared.Request.{Request}
use Rattle.effects.specs.Replay.{replay}
use Rattle.creek.specs.Plan.{order}
use Rattle.creek.specs.Execution.{operations}
use Rattle.creek.specs.Replies.{response_in}
use Rattle.creek.specs.Calls.{Replica}
use Rattle.creek.specs.StableReply.{replied_to, SettledWith}
use Rattle.creek.specs.Agreement.{AcceptedSame, Idle, SideBySide}
use Rattle.creek.proofs.Agreement.{grows_at_end, side_by_side}
use Rattle.due.specs.Due.{DueOutcome, RunDue}
use Rattle.replica.specs.declared.RegisterValue.{RegisterValue}
use Rattle.replica.specs.declared.PlacedRequest.{PlacedRequest}
use Rattle.replica.specs.internal.Model.{model}
use Rattle.replica.specs.Shown.{RegisterShown, PlaceShown}
use Rattle.history.specs.History.{stay}
use Rattle.history.specs.PanelHistory.{PanelHistory, history_of}
use Rattle.history.specs.Agreement.{call_at, answer_at, PanelGrows, PanelsAgree, PanelsSideBySide}
use Rattle.history.proofs.History.{leads-model, registers-model, panel_demand_3}
use Rattle.history.proofs.PanelHistory.{last_inv, last_replica}
use Rattle.history.proofs.StableReplies.{stable-single}

-- ---- one panel

module _ {panels own : ℕ} (p : PanelHistory panels own) where
  pub panel_grows : PanelGrows p
  panel_grows = record {
    grows = λ further more later leads.
        let grown = (grows_at_end (model p.last) further).grows in
        record {
          behind = grown.behind;
          is = ap (λ (r : Replica). r.book.plan.committed) (leads-model (last_inv p) leads) ∙ grown.is;
        };
  }

  -- all due steps leave one replay of the standing order in the registers
  registers_replayed : (r : DueOutcome) → RunDue p.last r
      → r.state.registers ≡ replay (operations (order (model p.last).book.plan))
  registers_replayed r ran = ((panel_demand_3 p.begun p.led).all_due_done r ran).steps.replayed refl

-- ---- two panels

module _ {panels own own' : ℕ} (p : PanelHistory panels own) (q : PanelHistory panels own')
    (same : AcceptedSame (history_of p) (history_of q)) where
  -- the replicas that the two panels stand for
  alike : SideBySide (model p.last) (model q.last)
  alike = rw (last_replica p, last_replica q) (side_by_side (history_of p) (history_of q) same)

  registers_same : Idle (model p.last) → Idle (model q.last) → p.last.registers ≡ q.last.registers
  registers_same idle idle' =
      registers-model p.last (last_inv p) ∙ alike.registers_idle idle idle' ∙ sym (registers-model q.last (last_inv q))

  places_same : (place : ℕ) (shown shown' : PlacedRequest) → PlaceShown p.last place shown → PlaceShown q.last place shown'
      → shown ≡ shown'
  places_same place shown shown' s s' =
      let refusal = s.refusal ∙ alike.place_refusal_is place ∙ sym s'.refusal in
      let request = s.request ∙ alike.place_shown_is place ∙ sym s'.request in
      λ i. record { refusal = refusal i; request = request i }

  values_same : Idle (model p.last) → Idle (model q.last) → (k : ℕ) (shown shown' : RegisterValue) → RegisterShown p.last k shown
      → RegisterShown q.last k shown' → shown ≡ shown'
  values_same idle idle' k shown shown' s s' =
      let refusal = s.refusal ∙ sym s'.refusal in
      let value = s.value ∙ alike.register_shown_is idle idle' k ∙ sym s'.value in
      λ i. record { refusal = refusal i; value = value i }

  pub panels_agree : PanelsAgree p q
  panels_agree = record {
    settled = alike.committed;
    unsettled = alike.tentative;
    standing_order_is = alike.standing_order_is;
    at_place = places_same;
    registers_idle = registers_same;
    register_shown_is = values_same;
    registers_after = λ r s ran ran'.
        registers_replayed p r ran ∙ ap (λ (l : List Request). replay (operations l)) alike.standing_order_is
        ∙ sym (registers_replayed q s ran');
    told_stable = λ place mark.
        subst
        (SettledWith (replied_to (call_at p.calls place) (answer_at p.answers place)) (answer_at p.answers place).response)
        alike.committed (stable-single p place mark [] [] p.last stay);
  }

pub panels_side_by_side : {panels own own' : ℕ} (p : PanelHistory panels own) (q : PanelHistory panels own') → PanelsSideBySide p q
panels_side_by_side p q = record { agree = panels_agree p q }
