-- Of a panel and what was called on it since fresh: the replica that it stands for, and that its answers tell what was accepted,
-- `panel_tells` (`specs/PanelHistory`).
use Prim.Native.Nat.{ℕ}
use mathlib.Core.Path.{◌≡◌, refl, sym, ap, ◌∙◌}
use mathlib.Core.Bool.{cond}
use mathlib.Core.List.{List, [], ◌∷◌, ◌++◌}
use lib.Dec.{eqb}
use Rattle.sets.specs.declared.Context.{Context}
use Rattle.request.specs.Refusal as refused
use Rattle.creek.specs.declared.Answer.{Answer}
use Rattle.creek.specs.Plan.{Plan}
use Rattle.creek.specs.Book.{Call, invoke, deliver, commit, undo, execute, Book, is_accepted}
use Rattle.creek.specs.Replies.{accepted_answer}
use Rattle.creek.specs.Calls.{Replica, fresh, step, answer}
use Rattle.creek.specs.internal.Sound.{Sound}
use Rattle.creek.specs.Agreement.{brought_by, settled_by, gathered, replica_after}
use Rattle.creek.proofs.CallLaws.{by-outcome, answer-refusal, step_book}
use Rattle.creek.proofs.SoundLaws.{reached_sound}
use Rattle.replica.specs.internal.Model.{model, Inv}
use Rattle.creek.specs.History.{answers_to}
use Rattle.history.specs.PanelHistory.{PanelHistory, history_of, request_told, settlement_told, told, PanelTells}
use Rattle.history.proofs.History.{panel_inv, panel_replica, panel_demand_3}

-- ---- what was accepted, as the answers tell

-- what accepted calls give in `creek` is what they tell with their answers, where it is so of each
module _ {A : Type 0} (given : Plan → Call → List A) (by : Call → Answer → List A)
    (each : (b : Book) (awaiting : Context) (c : Call) → given b.plan c ≡ by c (accepted_answer b awaiting c)) where
  accepted-told : (r : Replica) (c : Call) → cond (is_accepted r.book c) (given r.book.plan c) []
      ≡ cond (eqb (answer r c).refusal refused.accepted) (by c (answer r c)) []
  accepted-told r c =
      by-outcome (λ v w q. cond v (given r.book.plan c) [] ≡ cond v (by c w) []) r c
      (λ taken. each r.book r.awaiting c) refl
      ∙ ap (λ (w : ℕ). cond (eqb w refused.accepted) (by c (answer r c)) []) (sym (answer-refusal r c))

  gathered-told : (r : Replica) (cs : List Call) → gathered given r.book cs ≡ told by cs (answers_to r cs)
  unfolding gathered told answers_to
  gathered-told r [] = refl
  gathered-told r (c ∷ cs) =
      let first = accepted-told r c in
      let others = ap (λ (b : Book). gathered given b cs) (sym (step_book r c)) ∙ gathered-told (step r c) cs in
      λ i. first i ++ others i

-- an accepted make spreads the request that it made
request-told : (b : Book) (awaiting : Context) (c : Call) → brought_by b.plan c ≡ request_told c (accepted_answer b awaiting c)
unfolding accepted_answer
request-told b awaiting (invoke i) = refl
request-told b awaiting (deliver x) = refl
request-told b awaiting (commit n) = refl
request-told b awaiting undo = refl
request-told b awaiting execute = refl

settlement-told : (b : Book) (awaiting : Context) (c : Call) → settled_by b.plan c ≡ settlement_told c (accepted_answer b awaiting c)
settlement-told b awaiting (invoke i) = refl
settlement-told b awaiting (deliver x) = refl
settlement-told b awaiting (commit n) = refl
settlement-told b awaiting undo = refl
settlement-told b awaiting execute = refl

-- ---- one panel

module _ {panels own : ℕ} (p : PanelHistory panels own) where
  pub last_inv : Inv p.last
  last_inv = panel_inv p.begun p.led

  pub last_replica : model p.last ≡ replica_after (history_of p)
  last_replica = panel_replica p.begun p.led

  pub last-answers : p.answers ≡ answers_to (fresh panels own) p.calls
  last-answers = (panel_demand_3 p.begun p.led).answered

  pub last_sound : Sound (model p.last)
  last_sound = rw last_replica (reached_sound panels own p.calls)

  pub panel_tells : PanelTells p
  panel_tells = record {
    requests =
        gathered-told brought_by request_told request-told (fresh panels own) p.calls
        ∙ ap (told request_told p.calls) (sym last-answers);
    settlements =
        gathered-told settled_by settlement_told settlement-told (fresh panels own) p.calls
        ∙ ap (told settlement_told p.calls) (sym last-answers);
  }
