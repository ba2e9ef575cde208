-- Calls that fit have a history: that of the right panel.
use Prim.Native.Nat.{ℕ}
use mathlib.Core.Path.{◌≡◌, refl, ap}
use mathlib.Core.List.{List, [], ◌∷◌}
use Rattle.lists.specs.Places.{All}
use Rattle.creek.specs.Book.{Call}
use Rattle.replica.specs.State.{State}
use Rattle.history.specs.History.{Leads}
use Rattle.history.specs.Worthless.{PanelCall, singly, Panel, stand_for, answers_from, reached}
use Rattle.history.proofs.Worthless.{kept_leads}
use Rattle.existence.specs.RightPanel.{right_fresh, right_panel}
use Rattle.existence.specs.Existence.{CallFits, PanelCallFits, HasHistory}
use Rattle.existence.proofs.RightPanelKeeps.{right_panel_keeps}

-- all due steps at once among them
pub right_panel_leads : (panels own : ℕ) (calls : List PanelCall) → All PanelCallFits calls
    → let start = (right_fresh panels own).state in
    Leads start (stand_for right_panel start calls) (answers_from right_panel start calls) (reached right_panel panels own calls)
right_panel_leads panels own calls fit =
    kept_leads right_panel (right_fresh panels own).state calls (right_panel_keeps panels own calls fit).kept

-- single calls stand for themselves
singly_stand : (panel : Panel) (p : State) (calls : List Call) → stand_for panel p (singly calls) ≡ calls
singly_stand panel p [] = refl
singly_stand panel p (c ∷ cs) = ap (λ (l : List Call). c ∷ l) (singly_stand panel (panel.call p c).state cs)

singly_fit : (calls : List Call) → All CallFits calls → All PanelCallFits (singly calls)
singly_fit [] fit = tt
singly_fit (c ∷ cs) fit = (fit.0, singly_fit cs fit.1)

pub right_panel_history : (panels own : ℕ) (calls : List Call) → All CallFits calls → HasHistory panels own calls
right_panel_history panels own calls fit = record {
  history = record {
    opened = right_fresh panels own;
    begun = (right_panel_keeps panels own (singly calls) (singly_fit calls fit)).fresh;
    calls = calls;
    answers = answers_from right_panel (right_fresh panels own).state (singly calls);
    last = reached right_panel panels own (singly calls);
    led =
        rw (singly_stand right_panel (right_fresh panels own).state calls) at
        (right_panel_leads panels own (singly calls) (singly_fit calls fit));
  };
  called = refl;
}
