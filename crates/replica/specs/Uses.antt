-- What a call uses of a panel: another panel with those fields as p has them. A call asks that some panel which came from fresh and the
-- calls is one with them, and promises what it does of each such panel: fields that it does not use may hold anything.
use Rattle.creek.specs.Book.{Call, invoke, deliver, commit, undo, execute}
use Rattle.replica.specs.declared.Panel.{Panel}

-- a request enters
abbrev pub entering_uses : Panel → Panel → Panel
entering_uses p r = record r {
  ordered = p.ordered;
  executed = p.executed;
  held = p.held;
  known = p.known;
  clocks = p.clocks;
  askings = p.askings;
  contexts = p.contexts;
  order = p.order;
}

-- a request is made
abbrev pub making_uses : Panel → Panel → Panel
making_uses p r = record r {
  committed = p.committed;
  ordered = p.ordered;
  executed = p.executed;
  clock = p.clock;
  own = p.own;
  events = p.events;
  held = p.held;
  known = p.known;
  awaiting = p.awaiting;
  clocks = p.clocks;
  askings = p.askings;
  contexts = p.contexts;
  order = p.order;
}

-- a request is heard
abbrev pub hearing_uses : Panel → Panel → Panel
hearing_uses p r = record r {
  committed = p.committed;
  ordered = p.ordered;
  executed = p.executed;
  panels = p.panels;
  own = p.own;
  held = p.held;
  known = p.known;
  clocks = p.clocks;
  askings = p.askings;
  contexts = p.contexts;
  order = p.order;
}

-- a request is settled
abbrev pub settling_uses : Panel → Panel → Panel
settling_uses p r = record r {
  committed = p.committed;
  ordered = p.ordered;
  executed = p.executed;
  commits = p.commits;
  panels = p.panels;
  held = p.held;
  known = p.known;
  awaiting = p.awaiting;
  clocks = p.clocks;
  askings = p.askings;
  contexts = p.contexts;
  order = p.order;
  stack = p.stack;
  responses = p.responses;
  settled = p.settled;
}

-- a step is undone
abbrev pub undoing_uses : Panel → Panel → Panel
undoing_uses p r = record r {
  executed = p.executed;
  stacked = p.stacked;
  askings = p.askings;
  stack = p.stack;
  registers = p.registers;
  saved = p.saved;
}

-- a step is carried out, or all due steps are done
abbrev pub stepping_uses : Panel → Panel → Panel
stepping_uses p r = record r {
  committed = p.committed;
  ordered = p.ordered;
  executed = p.executed;
  stacked = p.stacked;
  awaiting = p.awaiting;
  askings = p.askings;
  order = p.order;
  stack = p.stack;
  registers = p.registers;
  saved = p.saved;
  responses = p.responses;
}

-- a call is done
abbrev pub call_uses : Call → Panel → Panel → Panel
call_uses (invoke i) p r = making_uses p r
call_uses (deliver x) p r = hearing_uses p r
call_uses (commit n) p r = settling_uses p r
call_uses undo p r = undoing_uses p r
call_uses execute p r = stepping_uses p r
