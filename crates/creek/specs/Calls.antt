-- The replica: the book and what a panel keeps beside it; what fresh and the five calls make of it and answer.
use Rattle.std.specs.Prelude.{ℕ, ◌+◌, Bool, true, false, not, ◌&&◌, ◌||◌, cond, leb, ltb}
use Rattle.counters.specs.declared.Counters.{Counters}
use Rattle.counters.specs.Counted.{counted}
use Rattle.sets.specs.declared.Context.{Context}
use Rattle.numbers.specs.Numbers.{most_panels}
use Rattle.sets.specs.Sets.{empty_set}
use Rattle.request.specs.Refusal as refused
use Rattle.creek.specs.declared.Answer.{Answer}
use Rattle.lists.specs.Lists.{one}
use Rattle.creek.specs.Book.{Call, invoke, deliver, commit, undo, execute, Book, empty_book, is_accepted, accepted}
use Rattle.creek.specs.Replies.{answer_of, accepted_awaiting}

-- registers and the values from before each request are not kept here: the registers are a replay of the requests on the board
pub record Replica : Type 0 where
  pub book : Book
  -- the numbers of own requests awaiting a reply
  pub awaiting : Context
  -- the settlements accepted
  pub commits : ℕ
  -- the undos and carry-outs done
  pub counters : Counters

-- ---- fresh

-- P not 1 to 8, or own panel not below P
unfoldable pub bad_shop : ℕ → ℕ → Bool
bad_shop panels own = not (leb 1 panels && leb panels most_panels) || not (ltb own panels)

unfoldable pub fresh_refusal : ℕ → ℕ → ℕ
fresh_refusal panels own = cond (bad_shop panels own) refused.bad_shop refused.accepted

-- empty lists, zero board
abbrev pub replica_of : Book → Replica
replica_of b = record { book = b; awaiting = empty_set; commits = 0; counters = record { undos = 0; executions = 0 } }

-- what fresh returns; a refused fresh returns a one-panel shop, panel 0
unfoldable pub fresh : ℕ → ℕ → Replica
fresh panels own = cond (bad_shop panels own) (replica_of (empty_book 1 0)) (replica_of (empty_book panels own))

-- ---- the kinds of calls

-- the call brings a request, made or heard
abbrev pub brings_request : Call → Bool
brings_request (invoke i) = true
brings_request (deliver x) = true
brings_request (commit n) = false
brings_request undo = false
brings_request execute = false

abbrev pub is_commit : Call → Bool
is_commit (invoke i) = false
is_commit (deliver x) = false
is_commit (commit n) = true
is_commit undo = false
is_commit execute = false

abbrev pub is_undo : Call → Bool
is_undo (invoke i) = false
is_undo (deliver x) = false
is_undo (commit n) = false
is_undo undo = true
is_undo execute = false

abbrev pub is_execute : Call → Bool
is_execute (invoke i) = false
is_execute (deliver x) = false
is_execute (commit n) = false
is_execute undo = false
is_execute execute = true

-- ---- the five calls

-- the replica after an accepted call
unfoldable pub accept : Replica → Call → Replica
accept r c = record {
  book = accepted r.book c;
  awaiting = accepted_awaiting r.book r.awaiting c;
  commits = r.commits + one (is_commit c);
  counters = counted r.counters (one (is_undo c)) (one (is_execute c));
}

-- the replica after a call; a refusal changes nothing
unfoldable pub step : Replica → Call → Replica
step r c = cond (is_accepted r.book c) (accept r c) r

-- what a call answers
abbrev pub answer : Replica → Call → Answer
answer r c = answer_of r.book r.awaiting c
