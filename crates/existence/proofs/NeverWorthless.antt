-- A panel that keeps its contracts on all calls that fit is never worthless, so neither is the right panel.
use native.Mathlib.Omega.{arith}
use mathlib.Core.Path.{refl}
use mathlib.Core.List.{List, [], ◌∷◌, ◌++◌}
use Rattle.lists.specs.Places.{All}
use Rattle.lists.proofs.AllLaws.{all_append}
use Rattle.creek.specs.Book.{execute}
use Rattle.fields.specs.Integers.{integer_at}
use Rattle.fields.specs.Widths.{decode}
use Rattle.wire.specs.Layout.{kind_with, layout, widths_with, least_size, most_size}
use Rattle.wire.specs.Message.{message_from}
use Rattle.wire.specs.Reader.{length_at, kind_at, run_at, fields_at, spare_set, refusal_as, read_as, read_at}
use Rattle.intake.specs.Intake.{call_of}
use Rattle.history.specs.Worthless.{PanelCall, single, run_due, receive, singly, Panel, Keeps, first_value, second_value, setting, heard_message}
use Rattle.history.proofs.Worthless.{no_worthless_panel}
use Rattle.existence.specs.RightPanel.{right_panel}
use Rattle.existence.specs.Existence.{PanelCallFits, KeepsFitting, NeverWorthless}
use Rattle.existence.proofs.RightPanelKeeps.{right_panel_keeps}

-- where two sets are made, and then those calls
abbrev after_two_sets : List PanelCall → List PanelCall
after_two_sets more = single (setting first_value) ∷ single (setting second_value) ∷ more

kept_two_sets : (panel : Panel) → KeepsFitting panel → (more : List PanelCall) → All PanelCallFits more → Keeps panel 1 0 (after_two_sets more)
kept_two_sets panel keeps more fit = keeps 1 0 (after_two_sets more) (omega arith, (omega arith, fit))

-- document 01's second message fits
message_fits : PanelCallFits (receive heard_message 0)
unfolding integer_at kind_with layout widths_with least_size most_size decode message_from length_at kind_at run_at fields_at spare_set refusal_as
    read_as read_at call_of
message_fits = (record { words = refl; amount = omega arith }, tt)

pub never_worthless : (panel : Panel) → KeepsFitting panel → NeverWorthless panel
never_worthless panel keeps =
    let breaks = no_worthless_panel panel in
    let two-sets = kept_two_sets panel keeps in
    record {
      refuses_each = λ never. breaks.refuses_each never (two-sets [] tt);
      replies_always = λ response always.
          breaks.replies_always response always (two-sets (singly (execute ∷ execute ∷ [])) (tt, (tt, tt)));
      leaves_alone = λ alone. breaks.leaves_alone alone (two-sets [] tt);
      executes_all = λ all. breaks.executes_all all (two-sets (singly (execute ∷ [])) (tt, tt));
      invents_counters = λ panels own calls fit invented. breaks.invents_counters panels own calls invented (keeps panels own calls fit);
      leaves_due = λ alone. breaks.leaves_due alone (two-sets (run_due ∷ []) (tt, tt));
      replies_due_always = λ response always. breaks.replies_due_always response always (two-sets (run_due ∷ []) (tt, tt));
      invents_due_counts = λ panels own calls fit invented.
          breaks.invents_due_counts panels own calls invented (keeps panels own calls fit)
          (keeps panels own (calls ++ run_due ∷ []) (all_append PanelCallFits calls (run_due ∷ []) fit (tt, tt)));
      receives_nothing = λ nothing. breaks.receives_nothing nothing (keeps 2 0 (receive heard_message 0 ∷ []) (message_fits, tt));
    }

pub right_panel_never_worthless : NeverWorthless right_panel
right_panel_never_worthless = never_worthless right_panel right_panel_keeps
