-- What the two loops of all due steps lead to.
use Rattle.std.specs.Prelude.{ℕ, ◌-◌, ◌≡◌, true, length}
use Rattle.creek.specs.Execution.{is_idle}
use Rattle.creek.specs.History.{idled}
use Rattle.counters.specs.declared.Counters.{Counters}
use Rattle.counters.specs.Counted.{undos_counted, undos_held, executions_counted, executions_held}
use Rattle.replica.specs.State.{State}
use Rattle.replica.specs.declared.Panel.{Panel}
use Rattle.replica.specs.Uses.{stepping_uses}
use Rattle.replica.specs.Changes.{stepping_changes}
use Rattle.replica.specs.Memory.{memory}
use Rattle.replica.specs.internal.Model.{model, Inv}
use Rattle.due.specs.declared.DueSteps.{DueSteps}
use Rattle.due.specs.Due.{DueOutcome, ran, replies_owed, padded}

-- the job from q on is the job from p on: as many due steps as are owed lead to one replica, with the same replies
pub record SameJob (p q : State) : Type 0 where
  pub state : idled (model q) ≡ idled (model p)
  pub replies : replies_owed q ≡ replies_owed p

-- q is p with nothing left to be rolled back
pub record RolledBack (p q : State) : Type 0 where
  pub invariant : Inv q
  pub nothing : q.executed ≡ q.stacked
  pub executed : q.executed ≡ p.executed
  pub ordered : q.ordered ≡ p.ordered
  pub job : SameJob p q

-- what was to do on p, which has nothing to be rolled back, is executed
pub record ExecutedAll (p : State) (undos : ℕ) (r : DueOutcome) : Type 0 where
  pub state : model r.state ≡ idled (model p)
  pub handed : r.undos ≡ undos
  pub executions : r.executions ≡ p.ordered - p.executed
  pub count : r.count ≡ length (replies_owed p)
  pub replies : r.replies ≡ padded (replies_owed p)
  pub idle : is_idle (model r.state).book.execution ≡ true
  pub invariant : Inv r.state

-- ---- on a panel in place

-- p with that left on the board and those registers as q has them, and those counters
abbrev pub rolled_by : Counters → Panel → Panel → Panel
rolled_by counters p q = record p { stacked = q.stacked; registers = q.registers; counters = counters }

-- p was rolled back, and became q: of every panel with what the steps use as p has it, all undos that were due counted
pub record RolledKept (p q : Panel) : Type 0 where
  pub kept : (o : Panel) → Inv (memory (stepping_uses p o)) → RolledBack (memory (stepping_uses p o))
      (memory (rolled_by (undos_counted o.counters (p.stacked - p.executed)) (stepping_uses p o) q))
  pub others : q ≡ rolled_by (undos_held p.counters (p.stacked - p.executed)) p q

-- p with what executions change as q has it, and those counters
abbrev pub executed_by : Counters → Panel → Panel → Panel
executed_by counters p q = record (stepping_changes p q) { counters = counters }

-- what was to do on p was executed, and p became q: of every such panel, all executions that were due counted
pub record ExecutedKept (p : Panel) (undos : ℕ) (r : DueSteps) (q : Panel) : Type 0 where
  pub kept : (o : Panel) → Inv (memory (stepping_uses p o)) → ExecutedAll (memory (stepping_uses p o)) undos
      (ran r (memory (executed_by (executions_counted o.counters r.executions) (stepping_uses p o) q)))
  pub handed : r.undos ≡ undos
  pub others : q ≡ executed_by (executions_held p.counters r.executions) p q
