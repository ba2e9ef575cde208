-- The shift book: told P and the own panel, and then fed the calls alone. It keeps the settled, unsettled, carried, undo and to-do lists
-- and the known set, refuses by the refusal words, and a refused call changes nothing in it.
use Rattle.std.specs.Prelude.{ℕ, Bool, cond, List, [], ◌∷◌, eqb}
use Rattle.numbers.specs.declared.Number.{Number}
use Rattle.request.specs.declared.Request.{Request}
use Rattle.request.specs.Refusal as refused
use Rattle.creek.specs.declared.Invocation.{Invocation}
use Rattle.creek.specs.Plan.{Plan, empty_plan, order, entered, made, committing_number, invoke_refusal, deliver_refusal, commit_refusal}
use Rattle.creek.specs.Execution.{Execution, nothing_executed, adjusted, undone, undo_refusal, executed_next, execute_refusal}

-- the calls that may change a panel
pub data Call : Type 0 where
  -- make [15 to 25]
  invoke : Invocation → Call
  -- hear [26 to 31]
  deliver : Request → Call
  -- settle [10 to 14, 32 to 57]
  commit : Number → Call
  -- undo one step [58 to 61]
  undo : Call
  -- carry out one step [62 to 76]
  execute : Call

pub record Book : Type 0 where
  pub plan : Plan
  pub execution : Execution

abbrev pub empty_book : ℕ → ℕ → Book
empty_book panels own = record { plan = empty_plan panels own; execution = nothing_executed }

-- the number by which a call is refused, or 0
unfoldable pub refusal : Book → Call → ℕ
refusal b (invoke i) = invoke_refusal b.plan i
refusal b (deliver x) = deliver_refusal b.plan x
refusal b (commit n) = commit_refusal b.plan n
refusal b undo = undo_refusal b.execution
refusal b execute = execute_refusal b.execution

abbrev pub is_accepted : Book → Call → Bool
is_accepted b c = eqb (refusal b c) refused.accepted

-- a book with a new plan, whose standing order the execution is adjusted to [41, 54]
abbrev pub planned : Plan → Execution → Book
planned a e = record { plan = a; execution = adjusted (order a) e }

-- the book after an accepted call
unfoldable pub accepted : Book → Call → Book
accepted b (invoke i) = planned (entered b.plan (made b.plan i)) b.execution
accepted b (deliver x) = planned (entered b.plan x) b.execution
accepted b (commit n) = planned (committing_number b.plan n) b.execution
accepted b undo = record { plan = b.plan; execution = undone b.execution }
accepted b execute = record { plan = b.plan; execution = executed_next b.execution }

-- the book after a call; a refused one changes nothing in it
unfoldable pub noted : Book → Call → Book
noted b c = cond (is_accepted b c) (accepted b c) b

-- the book after those calls
unfoldable pub noted_all : Book → List Call → Book
noted_all b [] = b
noted_all b (c ∷ cs) = noted_all (noted b c) cs
