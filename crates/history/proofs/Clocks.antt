-- Clocks that are put back, of the panel (`specs/Clocks`): the theorem `panel_clocks`.
use Prim.Native.Nat.{ℕ}
use native.Mathlib.Omega.{arith}
use mathlib.Core.Path.{◌≡◌, refl, ap, ◌∙◌}
use mathlib.Core.List.{List, [], ◌∷◌}
use borrow.Author.Tests.{ne_eqb}
use Rattle.lists.specs.Lists.{count}
use Rattle.lists.proofs.ListLaws.{one_false}
use Rattle.request.specs.Refusal as refused
use Rattle.creek.specs.declared.Answer.{Answer}
use Rattle.creek.specs.Book.{Call}
use Rattle.creek.specs.Calls.{Replica, step, answer}
use Rattle.creek.proofs.Clocks.{in_event_order, never_clock_back}
use Rattle.creek.specs.History.{answers_to, refusals_in}
use Rattle.replica.specs.State.{State, Opened}
use Rattle.replica.specs.Promises.{Fresh}
use Rattle.history.specs.History.{Leads}
use Rattle.history.specs.Clocks.{is_clock_back, PanelClocks}
use Rattle.history.proofs.History.{panel_replica, panel_demand_3}

-- no call of `creek` is answered with 5
answers_not : (r : Replica) (cs : List Call) → count is_clock_back (refusals_in (answers_to r cs)) ≡ 0
unfolding answers_to
answers_not r [] = refl
answers_not r (c ∷ cs) =
    omega (arith, one_false (ne_eqb (answer r c).refusal refused.clock_back (never_clock_back.answers r c)), answers_not (step r c) cs)

pub panel_clocks : {panels own : ℕ} {opened : Opened} {calls : List Call} {answers : List Answer} {q : State} → Fresh panels own opened
    → Leads opened.state calls answers q → PanelClocks answers q
panel_clocks {panels} {own} {calls = calls} begun led = record {
  never_back = ap (λ (l : List Answer). count is_clock_back (refusals_in l)) (panel_demand_3 begun led).answered ∙ answers_not _ calls;
  in_order = rw (panel_replica begun led) (in_event_order panels own calls);
}
