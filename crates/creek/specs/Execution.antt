-- The execution: how far a standing order is carried out on the board. First the three lists and what is read from them, then adjusting
-- to a new order, the two steps and their refusals.
--
-- Document 01's words: executed is its carried list, rollback its undo list, todo its to-do list. Numbers in brackets are lines of Creek's
-- Algorithm 1.
use Rattle.std.specs.Prelude.{ℕ, ◌+◌, Bool, not, ◌&&◌, List, [], ◌++◌, reverse, map, length, take, drop}
use Rattle.request.specs.declared.Operation.{Operation}
use Rattle.request.specs.declared.Request.{Request}
use Rattle.request.specs.Request.{same_request}
use Rattle.request.specs.Refusal as refused
use Rattle.request.specs.Asked.{operation_of}
use Rattle.effects.specs.Replay.{replay}
use Rattle.lists.specs.Lists.{is_nil, common_start}
use Rattle.creek.specs.Plan.{met}

pub record Execution : Type 0 where
  -- the carried list [8]
  pub executed : List Request
  -- the undo list, Creek's toBeRolledBack; its first is undone first [8]
  pub rollback : List Request
  -- the to-do list, Creek's toBeExecuted [8]
  pub todo : List Request

abbrev pub nothing_executed : Execution
nothing_executed = record { executed = []; rollback = []; todo = [] }

-- the requests on the board: the carried list followed by the undo list reversed
abbrev pub board : Execution → List Request
board e = e.executed ++ reverse e.rollback

abbrev pub operations : List Request → List Operation
operations l = map (λ x. operation_of x.asked) l

-- the registers are one replay of the requests on the board
unfoldable pub registers : Execution → List ℕ
registers e = replay (operations (board e))

-- how many steps are owed
abbrev pub owed : Execution → ℕ
owed e = length e.rollback + length e.todo

-- nothing is to be undone and nothing to be executed
abbrev pub is_idle : Execution → Bool
is_idle e = is_nil e.rollback && is_nil e.todo

-- adjusting [42 to 47]: the executed list shrinks to its common start with the new standing order; what it lost is appended, last first,
-- to the rollback list; the to-do list is the rest of the standing order
unfoldable pub adjusted : List Request → Execution → Execution
adjusted order e =
    let start = common_start same_request e.executed order in
    record {
      executed = take start e.executed;
      rollback = e.rollback ++ reverse (drop start e.executed);
      todo = drop start order;
    }

-- undo [58 to 61]: the first of the rollback list leaves the board
unfoldable pub undone : Execution → Execution
undone e = record { executed = e.executed; rollback = drop 1 e.rollback; todo = e.todo }

-- undo: nothing to undo
unfoldable pub undo_refusal : Execution → ℕ
undo_refusal e = met (is_nil e.rollback) refused.nothing_to_undo refused.accepted

-- carry out [62, 63, 75, 76]: the first of the to-do list joins the executed list
unfoldable pub executed_next : Execution → Execution
executed_next e = record { executed = e.executed ++ take 1 e.todo; rollback = e.rollback; todo = drop 1 e.todo }

-- carry out: undo first, nothing to do
unfoldable pub execute_refusal : Execution → ℕ
execute_refusal e = met (not (is_nil e.rollback)) refused.undo_first (met (is_nil e.todo) refused.nothing_to_do refused.accepted)
