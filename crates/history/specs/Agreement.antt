-- Two panels side by side (document 02, request (j)), of the panels themselves: what is claimed of one panel's settled list and stable
-- replies, and of two panels of one shop that accepted the same. It is proved in `proofs/StableReplies` and `proofs/Agreement`.
use Rattle.std.specs.Prelude.{ℕ, ◌≡◌, List, get_or}
use Rattle.request.specs.declared.Request.{Request}
use Rattle.creek.specs.declared.Answer.{Answer}
use Rattle.creek.specs.Plan.{order}
use Rattle.creek.specs.Book.{Call, undo}
use Rattle.creek.specs.Replies.{stable_mark, done}
use Rattle.creek.specs.StableReply.{replied_to, SettledWith}
use Rattle.creek.specs.Agreement.{Extends, AcceptedSame, Idle}
use Rattle.replica.specs.State.{State}
use Rattle.due.specs.Due.{DueOutcome, no_reply, RunDue}
use Rattle.creek.specs.declared.Reply.{Reply}
use Rattle.replica.specs.declared.RegisterValue.{RegisterValue}
use Rattle.replica.specs.declared.PlacedRequest.{PlacedRequest}
use Rattle.replica.specs.internal.Model.{model}
use Rattle.replica.specs.Shown.{RegisterShown, PlaceShown}
use Rattle.history.specs.History.{Leads}
use Rattle.history.specs.PanelHistory.{PanelHistory, history_of}

-- ---- one panel

-- document 01's settled list and unsettled list
abbrev pub settled_list : State → List Request
settled_list q = (model q).book.plan.committed

abbrev pub unsettled_list : State → List Request
unsettled_list q = (model q).book.plan.tentative

-- what stands at a place of a list, counted from 0
abbrev pub call_at : List Call → ℕ → Call
call_at calls place = get_or calls place undo

abbrev pub answer_at : List Answer → ℕ → Answer
answer_at answers place = get_or answers place done

abbrev pub reply_at : DueOutcome → ℕ → Reply
reply_at r place = get_or r.replies place no_reply

-- whatever is called on it then, its settled list only grows at its end
pub record PanelGrows {panels own : ℕ} (p : PanelHistory panels own) : Type 0 where
  pub grows : (further : List Call) (more : List Answer) (later : State) → Leads p.last further more later
      → Extends (settled_list p.last) (settled_list later)

-- each stable reply that it gave is about a request of the settled list and is its response in one replay of that list, then and whatever
-- is called on it later
pub record PanelStableReplies {panels own : ℕ} (p : PanelHistory panels own) : Type 0 where
  -- of a carry-out or a settlement: every place in the list of answers that has mark 3, where all due steps at once stand for the answers
  -- of the single steps
  pub single : (place : ℕ) → (answer_at p.answers place).mark ≡ stable_mark
      → (further : List Call) (more : List Answer) (later : State) → Leads p.last further more later
      → SettledWith (replied_to (call_at p.calls place) (answer_at p.answers place)) (answer_at p.answers place).response
      (settled_list later)
  -- of all due steps at once: every place in the replies that they gave that has mark 3
  pub all_due_is : (r : DueOutcome) → RunDue p.last r → (place : ℕ) → (reply_at r place).mark ≡ stable_mark
      → (further : List Call) (more : List Answer) (later : State) → Leads r.state further more later
      → SettledWith (reply_at r place).number (reply_at r place).response (settled_list later)

-- ---- two panels of one shop

module _ {panels own own' : ℕ} (p : PanelHistory panels own) (q : PanelHistory panels own') where
  -- what is equal of them
  pub record PanelsAgree : Type 0 where
    pub settled : settled_list p.last ≡ settled_list q.last
    pub unsettled : unsettled_list p.last ≡ unsettled_list q.last
    pub standing_order_is : order (model p.last).book.plan ≡ order (model q.last).book.plan
    -- what the showing call gives at every place
    pub at_place : (place : ℕ) (shown shown' : PlacedRequest) → PlaceShown p.last place shown → PlaceShown q.last place shown'
        → shown ≡ shown'
    -- where both are idle, the registers, and what the showing call gives for each
    pub registers_idle : Idle (model p.last) → Idle (model q.last) → p.last.registers ≡ q.last.registers
    pub register_shown_is : Idle (model p.last) → Idle (model q.last) → (k : ℕ) (shown shown' : RegisterValue)
        → RegisterShown p.last k shown → RegisterShown q.last k shown' → shown ≡ shown'
    -- after all due steps on each, the registers
    pub registers_after : (r s : DueOutcome) → RunDue p.last r → RunDue q.last s → r.state.registers ≡ s.state.registers
    -- what the one was told as stable is about a request that the other has settled, and is its response in one replay of that settled list
    pub told_stable : (place : ℕ) → (answer_at p.answers place).mark ≡ stable_mark
        → SettledWith (replied_to (call_at p.calls place) (answer_at p.answers place)) (answer_at p.answers place).response
        (settled_list q.last)

  -- if they accepted the same requests, field for field, and the same settlements in the same order
  pub record PanelsSideBySide : Type 0 where
    pub agree : AcceptedSame (history_of p) (history_of q) → PanelsAgree
