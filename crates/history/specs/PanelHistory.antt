-- What was called on a panel since fresh, all due steps at once among it, and what the panel accepted of it, as its answers tell
-- (`panel_tells` in `proofs/PanelHistory`).
use Rattle.std.specs.Prelude.{ℕ, ◌≡◌, cond, List, [], ◌∷◌, ◌++◌, eqb}
use Rattle.numbers.specs.declared.Number.{Number}
use Rattle.request.specs.declared.Request.{Request}
use Rattle.request.specs.Refusal as refused
use Rattle.creek.specs.declared.Answer.{Answer}
use Rattle.creek.specs.Book.{Call, invoke, deliver, commit, undo, execute}
use Rattle.creek.specs.Agreement.{History, requests_in, settlements_in}
use Rattle.replica.specs.State.{State, Opened}
use Rattle.replica.specs.Promises.{Fresh}
use Rattle.history.specs.History.{Leads}

-- ---- what was called on a panel

-- a panel of a shop of P: what fresh returned, and what was called on it since, where all due steps at once stand for the single steps
pub record PanelHistory (panels own : ℕ) : Type 0 where
  pub opened : Opened
  pub begun : Fresh panels own opened
  pub calls : List Call
  pub answers : List Answer
  pub last : State
  pub led : Leads opened.state calls answers last

-- its history as `creek` has it: P, the own panel and the calls
abbrev pub history_of : {panels own : ℕ} → PanelHistory panels own → History
history_of {panels} {own} p = record { panels = panels; own = own; calls = p.calls }

-- ---- what it accepted, as its answers tell

-- the request that an accepted call brought: a made one as the answer spreads it, a heard one as it came
abbrev pub request_told : Call → Answer → List Request
request_told (invoke i) v = v.request ∷ []
request_told (deliver x) v = x ∷ []
request_told (commit n) v = []
request_told undo v = []
request_told execute v = []

-- the number that it settled
abbrev pub settlement_told : Call → Answer → List Number
settlement_told (invoke i) v = []
settlement_told (deliver x) v = []
settlement_told (commit n) v = n ∷ []
settlement_told undo v = []
settlement_told execute v = []

-- what those of the calls tell with their answers that were answered with refusal 0, in their order
unfoldable pub told : {A : Type 0} → (Call → Answer → List A) → List Call → List Answer → List A
told by [] answers = []
told by (c ∷ cs) [] = []
told by (c ∷ cs) (v ∷ vs) = cond (eqb v.refusal refused.accepted) (by c v) [] ++ told by cs vs

-- what the shift book accepts among the calls is what the panel told; all due steps at once stand for undos and carry-outs, which tell of
-- no request and no settlement
pub record PanelTells {panels own : ℕ} (p : PanelHistory panels own) : Type 0 where
  pub requests : requests_in (history_of p) ≡ told request_told p.calls p.answers
  pub settlements : settlements_in (history_of p) ≡ told settlement_told p.calls p.answers
