-- What a call may change of a panel: p with those fields as q has them. Where q is that, every other field of q is p's: what a call does
-- not change stays as it was, at slots and places that are not in use too.
use Rattle.std.specs.Prelude.{Bool, cond, eqb}
use Rattle.counters.specs.Counted.{undos_held, executions_held}
use Rattle.request.specs.Refusal as refused
use Rattle.creek.specs.declared.Answer.{Answer}
use Rattle.creek.specs.Book.{Call, invoke, deliver, commit, undo, execute}
use Rattle.replica.specs.declared.Panel.{Panel}

-- a request enters
abbrev pub entering_changes : Panel → Panel → Panel
entering_changes p q = record p {
  ordered = q.ordered;
  executed = q.executed;
  held = q.held;
  known = q.known;
  clocks = q.clocks;
  askings = q.askings;
  contexts = q.contexts;
  order = q.order;
}

-- a request is made
abbrev pub making_changes : Panel → Panel → Panel
making_changes p q = record p {
  ordered = q.ordered;
  executed = q.executed;
  clock = q.clock;
  events = q.events;
  held = q.held;
  known = q.known;
  awaiting = q.awaiting;
  clocks = q.clocks;
  askings = q.askings;
  contexts = q.contexts;
  order = q.order;
}

-- a request is settled
abbrev pub settling_changes : Panel → Panel → Panel
settling_changes p q = record p {
  committed = q.committed;
  executed = q.executed;
  commits = q.commits;
  known = q.known;
  awaiting = q.awaiting;
  order = q.order;
  settled = q.settled;
}

-- a step is undone
abbrev pub undoing_changes : Panel → Panel → Panel
undoing_changes p q = record p {
  stacked = q.stacked;
  registers = q.registers;
}

-- a step is carried out, or all due steps are done
abbrev pub stepping_changes : Panel → Panel → Panel
stepping_changes p q = record p {
  executed = q.executed;
  stacked = q.stacked;
  awaiting = q.awaiting;
  stack = q.stack;
  registers = q.registers;
  saved = q.saved;
  responses = q.responses;
}

-- an answer that refuses nothing
abbrev pub accepts : Answer → Bool
accepts a = eqb a.refusal refused.accepted

-- an undo with that answer is done, and counted where it is accepted
abbrev pub undo_changes : Answer → Panel → Panel → Panel
undo_changes a p q = record (undoing_changes p q) { counters = cond (accepts a) (undos_held p.counters 1) p.counters }

-- an execution with that answer is done, and counted where it is accepted
abbrev pub execute_changes : Answer → Panel → Panel → Panel
execute_changes a p q = record (stepping_changes p q) { counters = cond (accepts a) (executions_held p.counters 1) p.counters }

-- a call with that answer is done
abbrev pub call_changes : Call → Answer → Panel → Panel → Panel
call_changes (invoke i) a p q = making_changes p q
call_changes (deliver x) a p q = entering_changes p q
call_changes (commit n) a p q = settling_changes p q
call_changes undo a p q = undo_changes a p q
call_changes execute a p q = execute_changes a p q
