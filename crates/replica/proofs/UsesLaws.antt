-- A call goes by the fields that it uses alone: of panels that agree in these it asks the same, whatever else they hold.
use mathlib.Core.Path.{◌≡◌, refl}
use Rattle.replica.specs.declared.Panel.{Panel}
use Rattle.replica.specs.Uses.{entering_uses, making_uses, hearing_uses, settling_uses, undoing_uses, stepping_uses}
use Rattle.replica.specs.Shown.{place_uses}

-- q is any panel with what is used as p has it
module _ (p q r : Panel) where
  pub enters_by : entering_uses (record q {
    ordered = p.ordered;
    executed = p.executed;
    held = p.held;
    known = p.known;
    clocks = p.clocks;
    askings = p.askings;
    contexts = p.contexts;
    order = p.order;
  }) r ≡ entering_uses p r
  enters_by = refl

  pub makes_by : making_uses (record q {
    committed = p.committed;
    ordered = p.ordered;
    executed = p.executed;
    clock = p.clock;
    own = p.own;
    events = p.events;
    held = p.held;
    known = p.known;
    awaiting = p.awaiting;
    clocks = p.clocks;
    askings = p.askings;
    contexts = p.contexts;
    order = p.order;
  }) r ≡ making_uses p r
  makes_by = refl

  pub hears_by : hearing_uses (record q {
    committed = p.committed;
    ordered = p.ordered;
    executed = p.executed;
    panels = p.panels;
    own = p.own;
    held = p.held;
    known = p.known;
    clocks = p.clocks;
    askings = p.askings;
    contexts = p.contexts;
    order = p.order;
  }) r ≡ hearing_uses p r
  hears_by = refl

  pub settles_by : settling_uses (record q {
    committed = p.committed;
    ordered = p.ordered;
    executed = p.executed;
    commits = p.commits;
    panels = p.panels;
    held = p.held;
    known = p.known;
    awaiting = p.awaiting;
    clocks = p.clocks;
    askings = p.askings;
    contexts = p.contexts;
    order = p.order;
    stack = p.stack;
    responses = p.responses;
    settled = p.settled;
  }) r ≡ settling_uses p r
  settles_by = refl

  pub undoes_by : undoing_uses (record q {
    executed = p.executed;
    stacked = p.stacked;
    askings = p.askings;
    stack = p.stack;
    registers = p.registers;
    saved = p.saved;
  }) r ≡ undoing_uses p r
  undoes_by = refl

  pub steps_by : stepping_uses (record q {
    committed = p.committed;
    ordered = p.ordered;
    executed = p.executed;
    stacked = p.stacked;
    awaiting = p.awaiting;
    askings = p.askings;
    order = p.order;
    stack = p.stack;
    registers = p.registers;
    saved = p.saved;
    responses = p.responses;
  }) r ≡ stepping_uses p r
  steps_by = refl

  pub placed_by : place_uses (record q {
    ordered = p.ordered;
    clocks = p.clocks;
    askings = p.askings;
    contexts = p.contexts;
    order = p.order;
  }) r ≡ place_uses p r
  placed_by = refl
