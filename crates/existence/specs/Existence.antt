-- What is claimed: the right panel keeps every contract of `Keeps` on every list of calls that fit the code's types (`right_panel_keeps`),
-- each such list has a history (`right_panel_history`), and the right panel is never worthless (`right_panel_never_worthless`); and on two
-- lists with a call that does not fit no panel keeps its contracts (`words_needed`, `amount_needed`).
use Prim.{Unit}
use Rattle.std.specs.Prelude.{ℕ, ◌<◌, ◌≡◌, List, [], ◌∷◌, length}
use Rattle.lists.specs.Places.{All}
use Rattle.request.specs.declared.Request.{Request}
use Rattle.numbers.specs.Numbers.{most_panels}
use Rattle.sets.specs.Sets.{set_of}
use Rattle.effects.specs.Effect.{range}
use Rattle.creek.specs.Book.{Call, invoke, deliver, commit, undo, execute}
use Rattle.creek.specs.examples.Notation.{read, strong}
use Rattle.wire.specs.Reader.{read_at}
use Rattle.history.specs.PanelHistory.{PanelHistory}
use Rattle.history.specs.Received.{calls_in}
use Rattle.history.specs.Worthless.{PanelCall, single, run_due, receive, singly, Panel, Keeps, RefusesEach, RepliesAlways, LeavesAlone, ExecutesAll}
use Rattle.history.specs.Worthless.{InventsCounters, LeavesDue, RepliesDueAlways, InventsDueCounts, ReceivesNothing, first_value, setting}

-- ---- calls that fit the code's types

-- a request with a word for each panel in its context and an amount in the range of a register
pub record RequestFits (x : Request) : Type 0 where
  pub words : length x.context.words ≡ most_panels
  pub amount : x.asked.amount < range

-- no other width matters: `creek` refuses a bad number or operation, and a memory holds any clock reading and any word of a context
abbrev pub CallFits : Call → Type 0
CallFits (invoke i) = i.asked.amount < range
CallFits (deliver x) = RequestFits x
CallFits (commit n) = Unit {0}
CallFits undo = Unit {0}
CallFits execute = Unit {0}

abbrev pub PanelCallFits : PanelCall → Type 0
PanelCallFits (single c) = CallFits c
PanelCallFits run_due = Unit {0}
PanelCallFits (receive s at) = All CallFits (calls_in (read_at s at))

-- ---- a panel that keeps its contracts on each of them

-- in every shop and on every list of calls that fit
abbrev pub KeepsFitting : Panel → Type 0
KeepsFitting panel = (panels own : ℕ) (calls : List PanelCall) → All PanelCallFits calls → Keeps panel panels own calls

-- a panel of that shop on which exactly those calls were called
pub record HasHistory (panels own : ℕ) (calls : List Call) : Type 0 where
  pub history : PanelHistory panels own
  pub called : history.calls ≡ calls

-- it is worthless in none of the ways that `history` names
pub record NeverWorthless (panel : Panel) : Type 0 where
  pub refuses_each : RefusesEach panel → ⊥
  pub replies_always : (response : ℕ) → RepliesAlways panel response → ⊥
  pub leaves_alone : LeavesAlone panel → ⊥
  pub executes_all : ExecutesAll panel → ⊥
  pub invents_counters : (panels own : ℕ) (calls : List PanelCall) → All PanelCallFits calls → InventsCounters panel panels own calls → ⊥
  pub leaves_due : LeavesDue panel → ⊥
  pub replies_due_always : (response : ℕ) → RepliesDueAlways panel response → ⊥
  pub invents_due_counts : (panels own : ℕ) (calls : List PanelCall) → All PanelCallFits calls → InventsDueCounts panel panels own calls → ⊥
  pub receives_nothing : ReceivesNothing panel → ⊥

-- ---- that the calls fit is needed

-- no panel of that shop keeps its contracts on those calls
abbrev pub NobodyKeeps : ℕ → ℕ → List PanelCall → Type 0
NobodyKeeps panels own calls = (panel : Panel) → Keeps panel panels own calls → ⊥

-- a request with no word in its context is heard, and a memory has eight words for each context
abbrev pub wordless : Request
wordless = strong 1 1 5 (read 0) (set_of [])

abbrev pub short_context : List PanelCall
short_context = single (deliver wordless) ∷ []

-- register 0 is set to more than it holds and then set again, and what is saved before that does not fit its word
abbrev pub wide_calls : List Call
wide_calls = setting range ∷ setting first_value ∷ execute ∷ execute ∷ []

abbrev pub wide_amount : List PanelCall
wide_amount = singly wide_calls
