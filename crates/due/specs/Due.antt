-- All due steps in one call: the replies that fall due on the way, and what the call promises.
use Rattle.std.specs.Prelude.{ℕ, zero, suc, ◌-◌, ◌≡◌, Bool, true, not, List, [], ◌++◌, length, replicate, eqb}
use Rattle.lists.specs.Lists.{cons_if}
use Rattle.numbers.specs.Numbers.{most_events}
use Rattle.creek.specs.declared.Answer.{Answer}
use Rattle.creek.specs.Execution.{is_idle}
use Rattle.creek.specs.Replies.{no_mark, done, reply_in}
use Rattle.creek.specs.Calls.{Replica, step, answer}
use Rattle.creek.specs.History.{due_call, idled}
use Rattle.creek.specs.Showing.{owed_shown}
use Rattle.creek.specs.declared.Reply.{Reply}
use Rattle.replica.specs.State.{State}
use Rattle.counters.specs.Counted.{undos_held, executions_held}
use Rattle.replica.specs.declared.Panel.{Panel}
use Rattle.replica.specs.Uses.{stepping_uses}
use Rattle.replica.specs.Changes.{stepping_changes}
use Rattle.replica.specs.Memory.{memory, SameSpare}
use Rattle.replica.specs.internal.Model.{model, Inv}
use Rattle.due.specs.declared.DueSteps.{DueSteps}

-- ---- the replies

-- the reply of zeros
abbrev pub no_reply : Reply
no_reply = reply_in done

-- somebody waits for that answer
abbrev pub is_awaited : Answer → Bool
is_awaited a = not (eqb a.mark no_mark)

-- the replies with a mark among the answers of so many due steps, in their order
unfoldable pub due_replies : ℕ → Replica → List Reply
due_replies zero r = []
due_replies (suc k) r =
    cons_if (is_awaited (answer r (due_call r.book))) (reply_in (answer r (due_call r.book))) (due_replies k (step r (due_call r.book)))

-- at most this many replies fall due: only own requests are awaited, and each is executed at most once on the way
abbrev pub most_replies : ℕ
most_replies = most_events

-- those replies, and replies of zeros up to the most
abbrev pub padded : List Reply → List Reply
padded l = l ++ replicate (most_replies - length l) no_reply

-- ---- the call

-- what it leads to: how many undos and executions they were, the replies that fell due, of which there are `count`, and the state after them
pub record DueOutcome : Type 0 where
  pub undos : ℕ
  pub executions : ℕ
  pub count : ℕ
  pub replies : List Reply
  pub state : State

-- those steps, which led to that state
abbrev pub ran : DueSteps → State → DueOutcome
ran r q = record {
  undos = r.undos;
  executions = r.executions;
  count = r.count;
  replies = r.replies;
  state = q;
}

-- the replies that fall due until it is idle
abbrev pub replies_owed : State → List Reply
replies_owed p = due_replies (owed_shown (model p)) (model p)

-- every due step done on p
pub record RunDue (p : State) (r : DueOutcome) : Type 0 where
  -- the state after as many due steps as were owed
  pub state : model r.state ≡ idled (model p)
  -- how many undos and how many executions these were
  pub undos : r.undos ≡ length (model p).book.execution.rollback
  pub executions : r.executions ≡ length (model p).book.execution.todo
  -- the replies, and zeros behind them
  pub count : r.count ≡ length (replies_owed p)
  pub replies : r.replies ≡ padded (replies_owed p)
  pub idle : is_idle (model r.state).book.execution ≡ true
  pub invariant : Inv r.state

-- ---- on a panel in place

-- what all due steps may change of a panel: p with that as q has it, and those steps counted
abbrev pub due_changes : DueSteps → Panel → Panel → Panel
due_changes r p q = record (stepping_changes p q) { counters = executions_held (undos_held p.counters r.undos) r.executions }

-- every due step was done on p, which became q
pub record DueKept (p : Panel) (r : DueSteps) (q : Panel) : Type 0 where
  -- of every panel that came from fresh and the calls and has what the steps use as p has it
  pub kept : (o : Panel) → Inv (memory (stepping_uses p o))
      → RunDue (memory (stepping_uses p o)) (ran r (memory (due_changes r (stepping_uses p o) q)))
  pub spare : SameSpare p q
  -- what the steps do not change is as it was
  pub others : q ≡ due_changes r p q
