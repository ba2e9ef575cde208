-- The two loops of all due steps on a panel in place: what holds at the start, after each turn and at the end.
use Prim.Native.Nat.{ℕ, ◌+◌, ◌-◌, ◌≤◌, ◌<◌}
use native.Mathlib.Omega.{arith}
use mathlib.Core.Path.{◌≡◌, refl, sym, ap, subst, ◌∙◌}
use mathlib.Core.List.{List}
use lib.ListN.{set, replicate}
use Rattle.sets.specs.Sets.{set_of}
use Rattle.counters.specs.declared.Counters.{Counters}
use Rattle.counters.specs.Counted.{most_steps, undos_counted, undos_held, executions_counted, executions_held, counted}
use Rattle.creek.specs.Replies.{reply_in, no_mark, reply}
use Rattle.creek.specs.declared.Reply.{Reply}
use Rattle.replica.specs.State.{State}
use Rattle.replica.specs.declared.Panel.{Panel}
use Rattle.replica.specs.Uses.{stepping_uses}
use Rattle.replica.specs.Memory.{memory, Asks}
use Rattle.replica.specs.internal.Model.{Inv}
use Rattle.board.specs.Board.{TopAsks, rolled_back, TakenOff, NextAsks, ExecutedAt}
use Rattle.due.specs.declared.DueSteps.{DueSteps}
use Rattle.due.specs.Due.{no_reply, most_replies, ran, RunDue, DueKept}
use Rattle.due.specs.internal.Job.{RolledBack, RolledKept, ExecutedAll, executed_by, ExecutedKept}
use Rattle.replica.proofs.ChangesLaws.{changed_by}
use Rattle.replica.proofs.BoundLaws.{undos_fit, executions_fit, undos_held_are, executions_held_are}
use Rattle.replica.proofs.ModelLaws.{top_slot_lem, next_slot_lem}
use Rattle.replica.proofs.States.{executed_state}
use Rattle.steps.proofs.ExecuteLaws.{NextReply}
use Rattle.due.proofs.DueLaws.{Rolling, rolling_start, rolling_on, rolling-end, Executing, executing_start, executing-end}
use Rattle.due.proofs.DueLaws.{executing_room, executing_quiet, executing-replied, run_through}

-- ---- counting one step more

module _ (c : Counters) (from at : ℕ) where
  undone_more : at < from → undos_counted c (from - at) ≡ undos_counted (undos_counted c (from - (at + 1))) 1
  undone_more h =
      let more : c.undos + (from - at) ≡ c.undos + (from - (at + 1)) + 1 = omega arith in
      λ i. record { undos = more i; executions = c.executions }

  executed_more : from ≤ at → executions_counted c (at + 1 - from) ≡ executions_counted (executions_counted c (at - from)) 1
  executed_more h =
      let more : c.executions + (at + 1 - from) ≡ c.executions + (at - from) + 1 = omega arith in
      λ i. record { undos = c.undos; executions = more i }

-- none is counted at the start

none_undone : (c : Counters) (n : ℕ) → c ≡ undos_counted c (n - n)
none_undone c n =
    let none : c.undos ≡ c.undos + (n - n) = omega arith in
    λ i. record { undos = none i; executions = c.executions }

none_executed : (c : Counters) (n : ℕ) → c ≡ executions_counted c (n - n)
none_executed c n =
    let none : c.executions ≡ c.executions + (n - n) = omega arith in
    λ i. record { undos = c.undos; executions = none i }

-- ---- the loop of undos

-- the state of a panel o with what the steps use as p has it, where so many are left on the board and the registers are those of q, the
-- undos counted
abbrev pub rolled_to : Panel → Panel → Panel → (left : ℕ) → State
rolled_to p o q left = record (memory (stepping_uses p o)) {
  stacked = left;
  registers = q.registers;
  counters = undos_counted o.counters (p.stacked - left);
}

-- from p to q the board was rolled back to so many
pub record RollingTo (p q : Panel) (left : ℕ) : Type 0 where
  pub low : p.executed ≤ left
  pub high : left ≤ p.stacked
  pub others : q ≡ record p { registers = q.registers }
  pub rolling : (o : Panel) → Inv (memory (stepping_uses p o)) → Rolling (memory (stepping_uses p o)) (rolled_to p o q left)

pub rolling_to_start : (p : Panel) → p.executed ≤ p.stacked → RollingTo p p p.stacked
rolling_to_start p within =
    record {
      low = within;
      high = omega arith;
      others = refl;
      rolling = λ o inv.
          let s = memory (stepping_uses p o) in
          subst (λ (c : Counters). Rolling s (record s { counters = c })) (none_undone o.counters p.stacked)
          (rolling_start s inv);
    }

module _ {p q : Panel} {left : ℕ} (h : RollingTo p q left) where
  module _ (more : p.executed < left) where
    pub roll_top : (o : Panel) → Inv (memory (stepping_uses p o)) → TopAsks q.stack (left - 1)
    roll_top o inv =
        let at = h.rolling o inv in
        rw h.others (record {
          place = omega (arith, at.invariant.counts, at.invariant.lengths);
          slot = top_slot_lem (rolled_to p o q left) at.invariant (omega (arith, at.executed));
        })

    pub roll_on : {z : Panel} {s : ℕ} → TakenOff q (left - 1) z s → RollingTo p z (left - 1)
    roll_on {z} {s} taken =
        let here : Panel = record p { registers = q.registers } in
        let off : TakenOff here (left - 1) z s = subst (λ (y : Panel). TakenOff y (left - 1) z s) h.others taken in
        let again : left - 1 + 1 ≡ left = omega arith in
        record {
          low = omega arith;
          high = omega (arith, h.high);
          others = changed_by (λ (y : Panel). record p { registers = y.registers }) off.panel refl;
          rolling = λ o inv.
              let at = h.rolling o inv in
              subst (λ (y : Panel). Rolling (memory (stepping_uses p o)) (rolled_to p o y (left - 1))) (sym off.panel)
              (rolling_on (memory (stepping_uses p o)) (rolled_to p o q left) at (omega (arith, at.executed)) (rolled_back here (left - 1))
              (undos_counted o.counters (p.stacked - (left - 1))) refl
              (undone_more o.counters p.stacked (left - 1) (omega (arith, h.high))
              ∙ ap (λ (n : ℕ). undos_counted (undos_counted o.counters (p.stacked - n)) 1) again));
        }

  pub roll_end : left ≤ p.executed → (counters : Counters) → counters ≡ undos_held q.counters (p.stacked - p.executed)
      → RolledKept p (record q { stacked = p.executed; counters = counters })
  roll_end all counters counted =
      let end : left ≡ p.executed = omega (arith, h.low) in
      record {
        kept = λ o inv.
            let s = memory (stepping_uses p o) in
            let at = h.rolling o inv in
            subst (λ (n : ℕ). RolledBack s (rolled_to p o q n)) end
            (rolling-end s (rolled_to p o q left) at (omega (arith, at.executed)));
        others =
            ap (λ (y : Panel). record y { stacked = p.executed; counters = counters }) h.others
            ∙ ap (λ (c : Counters). record p { stacked = p.executed; registers = q.registers; counters = c })
            (counted ∙ ap (λ (y : Panel). undos_held y.counters (p.stacked - p.executed)) h.others);
      }

-- ---- the loop of executions

-- the state of such a panel o where so many are executed and the rest is that of q, those behind the first counted
abbrev pub executed_to : Panel → Panel → Panel → (at : ℕ) → State
executed_to p o q at = record (memory (stepping_uses p o)) {
  executed = at;
  stacked = at;
  counters = executions_counted o.counters (at - p.executed);
  awaiting = set_of q.awaiting;
  stack = q.stack;
  registers = q.registers;
  saved = q.saved;
  responses = q.responses;
}

-- p with what an execution changes as q has it, but for how many are executed
abbrev pub written : Panel → Panel → Panel
written p q = record p {
  awaiting = q.awaiting;
  stack = q.stack;
  registers = q.registers;
  saved = q.saved;
  responses = q.responses;
}

-- from p to q all before `at` was executed, and the first n of the array are the replies that fell due
pub record ExecutingTo (p q : Panel) (replies : List Reply) (n at : ℕ) : Type 0 where
  pub low : p.executed ≤ at
  pub high : at ≤ p.ordered
  pub others : q ≡ written p q
  pub executing : (o : Panel) → Inv (memory (stepping_uses p o)) → Executing (memory (stepping_uses p o)) (executed_to p o q at) replies n

pub executing_to_start : (p : Panel) → p.executed ≤ p.ordered → p.executed ≡ p.stacked → (none : Reply) → none ≡ no_reply
    → ExecutingTo p p (replicate most_replies none) 0 p.executed
executing_to_start p within idle none is =
    record {
      low = omega arith;
      high = within;
      others = refl;
      executing = λ o inv.
          let s = memory (stepping_uses p o) in
          subst (λ (c : Counters). Executing s (record s { executed = p.executed; stacked = p.executed; counters = c }) (replicate most_replies none) 0)
          (none_executed o.counters p.executed)
          (subst (λ (k : ℕ). Executing s (record s { stacked = k }) (replicate most_replies none) 0) (sym idle)
          (executing_start s none inv idle is));
    }

module _ {p q : Panel} {replies : List Reply} {n at : ℕ} (h : ExecutingTo p q replies n at) where
  module _ (more : at < p.ordered) where
    pub execute_next : (o : Panel) → Inv (memory (stepping_uses p o)) → NextAsks q.order at
    execute_next o inv =
        let here = (h.executing o inv).invariant in
        rw h.others (record {
          place = omega (arith, here.counts, here.lengths);
          slot = next_slot_lem (executed_to p o q at) here more;
        })

    module _ {z : Panel} {r : Reply} (done : ExecutedAt q at z r) where
      next : ExecutedAt (written p q) at z r
      next = subst (λ (y : Panel). ExecutedAt y at z r) h.others done

      about : (o : Panel) → NextReply (executed_to p o q at) r.number r.mark
      about o = record { number = next.number; mark = next.mark }

      -- one execution more is counted
      abbrev one_more : Panel → Counters
      one_more o = executions_counted o.counters (at + 1 - p.executed)

      counted_one : (o : Panel) → one_more o ≡ executions_counted (executions_counted o.counters (at - p.executed)) 1
      counted_one o = executed_more o.counters p.executed at h.low

      pub execute_room : (o : Panel) → Inv (memory (stepping_uses p o)) → (r.mark ≡ no_mark → ⊥) → n < most_replies
      execute_room o inv due =
          executing_room (memory (stepping_uses p o)) (executed_to p o q at) replies n (h.executing o inv) more z.registers next.word
          r.response r.number r.mark next.restores next.done (about o) due

      -- what the reply is, field by field
      said : r ≡ reply_in (reply r.number r.response r.mark)
      said = λ i. record { response = r.response; number = r.number; mark = r.mark; refusal = next.refusal i }

      -- the state after it, as the panel has it
      moved : (replies : List Reply) (n : ℕ)
          → ((o : Panel) → Inv (memory (stepping_uses p o)) → Executing (memory (stepping_uses p o))
          (executed_state (executed_to p o q at) z.registers next.word r.response z.awaiting (one_more o)) replies n)
          → ExecutingTo p z replies n (at + 1)
      moved replies n e = record {
        low = omega (arith, h.low);
        high = omega arith;
        others = changed_by (written p) next.panel refl;
        executing = λ o inv.
            subst (λ (y : Panel). Executing (memory (stepping_uses p o)) (executed_to p o y (at + 1)) replies n) (sym next.panel) (e o inv);
      }

      pub execute_quiet : r.mark ≡ no_mark → ExecutingTo p z replies n (at + 1)
      execute_quiet quiet =
          moved replies n
          (λ o inv. executing_quiet (memory (stepping_uses p o)) (executed_to p o q at) replies n (h.executing o inv) more z.registers next.word
          r.response r.number r.mark next.restores next.done (about o) z.awaiting (one_more o) next.waits (counted_one o) quiet)

      pub execute-replied : (r.mark ≡ no_mark → ⊥) → ExecutingTo p z (set replies n r) (n + 1) (at + 1)
      execute-replied due =
          moved (set replies n r) (n + 1)
          (λ o inv. executing-replied (memory (stepping_uses p o)) (executed_to p o q at) replies n (h.executing o inv) more z.registers next.word
          r.response r.number r.mark next.restores next.done (about o) z.awaiting (one_more o) next.waits (counted_one o) due r said)

  pub execute-end : p.ordered ≤ at → (undos : ℕ) (counters : Counters) → counters ≡ executions_held q.counters (p.ordered - p.executed)
      → ExecutedKept p undos (record { undos = undos; executions = p.ordered - p.executed; count = n; replies = replies })
      (record q { executed = p.ordered; stacked = p.ordered; counters = counters })
  execute-end all undos counters counted =
      let end : at ≡ p.ordered = omega (arith, h.high) in
      record {
        kept = λ o inv.
            let s = memory (stepping_uses p o) in
            subst (λ (k : ℕ). ExecutedAll s undos (record {
              undos = undos;
              executions = p.ordered - p.executed;
              count = n;
              replies = replies;
              state = executed_to p o q k;
            })) end
            (executing-end s (executed_to p o q at) replies n (h.executing o inv) all undos (p.ordered - p.executed) refl);
        handed = refl;
        others =
            ap (λ (y : Panel). record y { executed = p.ordered; stacked = p.ordered; counters = counters }) h.others
            ∙ ap (λ (c : Counters). record (written p q) { executed = p.ordered; stacked = p.ordered; counters = c })
            (counted ∙ ap (λ (y : Panel). executions_held y.counters (p.ordered - p.executed)) h.others);
      }

-- ---- a panel's counters have room for the steps

pub roll_counts : {p q : Panel} → RolledKept p q → (o : Panel) → Inv (memory (stepping_uses p o))
    → o.counters.undos + (p.stacked - p.executed) ≤ most_steps
roll_counts back o inv = undos_fit _ (back.kept o inv).invariant

pub execute_counts : {p q : Panel} {undos : ℕ} {r : DueSteps} → ExecutedKept p undos r q → (o : Panel) → Inv (memory (stepping_uses p o))
    → o.counters.executions + r.executions ≤ most_steps
execute_counts all o inv = executions_fit _ (all.kept o inv).invariant

-- ---- both

-- counted in 32 bits, it is the same state where it has the invariant
steps_held : (c : Counters) (undos executions : ℕ) → (counted c undos executions).undos ≤ most_steps
    → (counted c undos executions).executions ≤ most_steps
    → counted c undos executions ≡ executions_held (undos_held c undos) executions
steps_held c undos executions few fewer =
    executions_held_are (undos_counted c undos) executions fewer
    ∙ ap (λ (k : Counters). executions_held k executions) (undos_held_are c undos few)

module _ {p q : Panel} (back : RolledKept p q) where
  -- q, but that all of p is named that did not change
  abbrev rolled : Panel
  rolled = record p {
    stacked = q.stacked;
    registers = q.registers;
    counters = undos_held p.counters (p.stacked - p.executed);
  }

  -- another panel with the undos counted
  abbrev undone_in : Panel → Panel
  undone_in o = record o { counters = undos_counted o.counters (p.stacked - p.executed) }

  pub nothing_left : (o : Panel) → Inv (memory (stepping_uses p o)) → q.executed ≡ q.stacked
  nothing_left o inv = ap (λ (y : Panel). y.executed) back.others ∙ (back.kept o inv).nothing

  pub still_asked : (o : Panel) → Inv (memory (stepping_uses p o)) → Asks (stepping_uses q)
  still_asked o inv =
      subst (λ (y : Panel). Asks (stepping_uses y)) (sym back.others)
      (record { panel = undone_in o; invariant = (back.kept o inv).invariant })

  module _ {z : Panel} {undos : ℕ} {r : DueSteps} (is : undos ≡ p.stacked - p.executed) (all : ExecutedKept q undos r z) where
    executed : ExecutedKept rolled undos r z
    executed = subst (λ (y : Panel). ExecutedKept y undos r z) back.others all

    undos_are : p.stacked - p.executed ≡ r.undos
    undos_are = sym (executed.handed ∙ is)

    -- every due step was done on such a panel, and counted
    due_done : (o : Panel) → Inv (memory (stepping_uses p o)) → RunDue (memory (stepping_uses p o))
        (ran r (memory (executed_by (counted o.counters r.undos r.executions) (stepping_uses p o) z)))
    due_done o inv =
        let s = memory (stepping_uses p o) in
        let rolled_back = back.kept o inv in
        let here = undone_in o in
        subst (λ (n : ℕ). RunDue s (ran r (memory (executed_by (counted o.counters n r.executions) (stepping_uses p o) z))))
        undos_are
        (run_through s _ _ inv rolled_back
        (subst (λ (n : ℕ). ExecutedAll (memory (stepping_uses rolled here)) n
        (ran r (memory (executed_by (executions_counted here.counters r.executions) (stepping_uses rolled here) z))))
        is (executed.kept here rolled_back.invariant)))

    pub all_due_is : DueKept p r z
    all_due_is = record {
      kept = λ o inv.
          let few = subst (λ (n : ℕ). o.counters.undos + n ≤ most_steps) undos_are (roll_counts back o inv) in
          let fewer = execute_counts executed (undone_in o) (back.kept o inv).invariant in
          subst (λ (c : Counters). RunDue (memory (stepping_uses p o)) (ran r (memory (executed_by c (stepping_uses p o) z))))
          (steps_held o.counters r.undos r.executions few fewer) (due_done o inv);
      spare = ap (λ (y : Panel). y.spare) executed.others;
      others =
          subst (λ (n : ℕ). z ≡ executed_by (executions_held (undos_held p.counters n) r.executions) p z) undos_are executed.others;
    }

-- ---- of the panel itself, where it came from fresh and the calls

pub due_here : {p q : Panel} {r : DueSteps} → DueKept p r q → Inv (memory p) → RunDue (memory p) (ran r (memory q))
due_here {p} {q} {r} d inv = subst (λ (z : Panel). RunDue (memory p) (ran r (memory z))) (sym d.others) (d.kept p inv)
