-- A panel in place, as the state that the contracts of the calls speak of, and what fresh and a call lead to there.
use Rattle.std.specs.Prelude.{ℕ, ◌≡◌, Bool, List, replicate, Result, if◌then◌else◌}
use Rattle.request.specs.declared.refusal.Refusal.{Refusal}
use Rattle.request.specs.Refusal.{outcome_number}
use Rattle.numbers.specs.declared.PanelNo.{PanelNo}
use Rattle.creek.specs.declared.Answer.{Answer}
use Rattle.creek.specs.Book.{Call}
use Rattle.numbers.specs.Numbers.{panel_no, clock_reading}
use Rattle.sets.specs.Sets.{set_of}
use Rattle.replica.specs.State.{State, Opened}
use Rattle.replica.specs.Promises.{Kept}
use Rattle.replica.specs.internal.Model.{Inv}
use Rattle.replica.specs.declared.Shop.{Shop}
use Rattle.replica.specs.declared.Panel.{Panel}
use Rattle.replica.specs.Uses.{call_uses}
use Rattle.replica.specs.Changes.{call_changes}

abbrev pub memory : Panel → State
memory p = record {
  panels = p.panels;
  own = p.own;
  events = p.events;
  clock = clock_reading p.clock;
  committed = p.committed;
  ordered = p.ordered;
  executed = p.executed;
  stacked = p.stacked;
  commits = p.commits;
  counters = p.counters;
  held = set_of p.held;
  known = set_of p.known;
  awaiting = set_of p.awaiting;
  clocks = p.clocks;
  askings = p.askings;
  contexts = p.contexts;
  order = p.order;
  stack = p.stack;
  registers = p.registers;
  saved = p.saved;
  responses = p.responses;
  settled = set_of p.settled;
}

-- the bytes that no call looks at, cleared
abbrev pub no_spare : List ℕ
no_spare = replicate 5 0

-- those of q are those of p
abbrev pub SameSpare : Panel → Panel → Type 0
SameSpare p q = q.spare ≡ p.spare

-- fresh with that outcome left p
abbrev pub opened_by : Result Unit Refusal → Panel → Opened
opened_by outcome p = record { refusal = outcome_number outcome; state = memory p }

-- some panel that came from fresh and the calls has those parts
pub record Asks (parts : Panel → Panel) : Type 0 where
  pub panel : Panel
  pub invariant : Inv (memory (parts panel))

-- a call on p was answered and carried out as `creek` says, and p became q
pub record Done (p : Panel) (c : Call) (a : Answer) (q : Panel) : Type 0 where
  -- of every panel that came from fresh and the calls and has what the call uses as p has it
  pub kept : (r : Panel) → Inv (memory (call_uses c p r))
      → Kept (memory (call_uses c p r)) c (record { answer = a; state = memory (call_changes c a (call_uses c p r) q) })
  pub spare : SameSpare p q
  -- what the call does not change is as it was
  pub others : q ≡ call_changes c a p q

-- the shop that is opened where that one, bad or not, is asked for
abbrev pub shop_opened : Bool → ℕ → PanelNo → Shop
shop_opened bad panels own = if bad then record { panels = 1; own = panel_no 0 } else record { panels = panels; own = own }
