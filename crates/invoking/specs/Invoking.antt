-- The call by which a request is made: what is asked of it, and what the call answers.
use Rattle.std.specs.Prelude.{ℕ, ◌≡◌, Bool, cond, List, Result, Ok, Err}
use Rattle.numbers.specs.declared.Number.{Number}
use Rattle.numbers.specs.Numbers.{no_number}
use Rattle.sets.specs.declared.Context.{Context}
use Rattle.sets.specs.Sets.{empty_set}
use Rattle.request.specs.declared.Request.{Request}
use Rattle.request.specs.declared.refusal.Refusal.{Refusal}
use Rattle.request.specs.Refusal.{number_of}
use Rattle.ordering.specs.Slots.{without}
use Rattle.creek.specs.declared.Answer.{Answer}
use Rattle.creek.specs.declared.Invocation.{Invocation}
use Rattle.creek.specs.Plan.{Plan, last_event, invoke_refusal}
use Rattle.creek.specs.Replies.{spread, refused_with}

-- ---- what is asked of a request that is made

-- w is the refusal of an invocation by a plan whose last own request had that event
pub record InvokeRefused (events : ℕ) (i : Invocation) (w : ℕ) : Type 0 where
  pub word : (a : Plan) → last_event a ≡ events → w ≡ invoke_refusal a i

-- the context of a request of that strength: where it is strong, the known set without those slots
abbrev pub context_without : Bool → Context → List ℕ → Context
context_without strong known slots = cond strong (without known slots) empty_set

-- the request of that number that i asks for, with that context
abbrev pub request_for : Number → Invocation → Context → Request
request_for n i context = record {
  number = n;
  clock = i.clock;
  asked = i.asked;
  context = context;
}

-- ---- invoke

-- the answer of a call that made x, which is to be spread, or was refused
abbrev pub made_answer : Result Request Refusal → Answer
made_answer (Ok x) = spread x
made_answer (Err w) = refused_with (number_of w) no_number
