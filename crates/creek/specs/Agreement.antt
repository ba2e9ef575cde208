-- Two panels side by side (document 02, request (j)). First the standing order as requests and settlements alone give it: no call, no known
-- set, no panel, no P. Then what a list of calls accepted, and what is claimed of one history and of two. It is proved in
-- `proofs/StandingOrderLaws` and `proofs/Agreement`, and of the panel itself in `history`.
use Rattle.std.specs.Prelude.{ℕ, ◌≤◌, ◌≡◌, true, cond, List, [], ◌∷◌, ◌++◌, length}
use Rattle.std.proofs.Math.Option.{Option, none, some}
use Rattle.numbers.specs.declared.Number.{Number}
use Rattle.request.specs.declared.Request.{Request}
use Rattle.request.specs.Request.{same_request}
use Rattle.lists.specs.Lists.{count, find}
use Rattle.creek.specs.Plan.{Plan, Parts, order, has_number, placed, made, committing_in}
use Rattle.creek.specs.Execution.{registers, is_idle}
use Rattle.creek.specs.Book.{Call, invoke, deliver, commit, undo, execute, Book, is_accepted, noted}
use Rattle.creek.specs.Calls.{Replica, fresh, brings_request, is_commit}
use Rattle.creek.specs.History.{run, accepted_in}
use Rattle.creek.specs.Showing.{register_shown, place_refusal, place_shown}

-- ---- the order from requests and settlements alone

-- all those requests in clock order
unfoldable pub in_clock_order : List Request → List Request
in_clock_order [] = []
in_clock_order (x ∷ xs) = placed x (in_clock_order xs)

-- nothing is committed, and all requests are tentative
abbrev pub nothing_committed : List Request → Parts
nothing_committed requests = record { committed = []; tentative = in_clock_order requests }

-- a request found among the tentative ones is committed
abbrev pub committing_found_in : Parts → Option Request → Parts
committing_found_in p none = p
committing_found_in p (some x) = committing_in p x

-- the request of that number is committed, if it is tentative
abbrev pub committing_number_in : Parts → Number → Parts
committing_number_in p n = committing_found_in p (find (has_number n) p.tentative)

-- the requests of those numbers are committed, one after the other
unfoldable pub committing_in_turn : Parts → List Number → Parts
committing_in_turn p [] = p
committing_in_turn p (n ∷ ns) = committing_in_turn (committing_number_in p n) ns

-- the standing order of those requests and settlements
unfoldable pub standing_order : List Request → List Number → Parts
standing_order requests settlements = committing_in_turn (nothing_committed requests) settlements

-- ---- what it depends on

-- the same requests, field for field, whatever their order; `same_request` is equality (`same_request_sound` in `request`)
abbrev pub SameRequests : List Request → List Request → Type 0
SameRequests l m = (z : Request) → count (same_request z) l ≡ count (same_request z) m

-- no two of them have one number
abbrev pub EachNumberOnce : List Request → Type 0
EachNumberOnce l = (n : Number) → count (has_number n) l ≤ 1

-- on which requests there are and on the settlements in their order, and on nothing else
pub record Determined (l m : List Request) (settlements : List Number) : Type 0 where
  pub same : SameRequests l m → EachNumberOnce l → EachNumberOnce m → standing_order l settlements ≡ standing_order m settlements

-- ---- what a list of calls accepted

-- the request that an accepted call brings: a made one as it is spread, a heard one as it came
abbrev pub brought_by : Plan → Call → List Request
brought_by a (invoke i) = made a i ∷ []
brought_by a (deliver x) = x ∷ []
brought_by a (commit n) = []
brought_by a undo = []
brought_by a execute = []

-- the number that it settles
abbrev pub settled_by : Plan → Call → List Number
settled_by a (invoke i) = []
settled_by a (deliver x) = []
settled_by a (commit n) = n ∷ []
settled_by a undo = []
settled_by a execute = []

-- what those of the calls give that the book, fed the calls alone, accepts, in their order
unfoldable pub gathered : {A : Type 0} → (Plan → Call → List A) → Book → List Call → List A
gathered given b [] = []
gathered given b (c ∷ cs) = cond (is_accepted b c) (given b.plan c) [] ++ gathered given (noted b c) cs

-- the requests that it accepts among those calls
abbrev pub accepted_requests : Book → List Call → List Request
accepted_requests b calls = gathered brought_by b calls

-- the numbers of the settlements that it accepts among them
abbrev pub accepted_settlements : Book → List Call → List Number
accepted_settlements b calls = gathered settled_by b calls

-- ---- one history

-- the calls on a panel since fresh, refused ones among them
pub record History : Type 0 where
  -- P
  pub panels : ℕ
  -- the own panel
  pub own : ℕ
  pub calls : List Call

-- the shift book that is told P and the own panel
abbrev pub opened_in : History → Book
opened_in h = (fresh h.panels h.own).book

-- the requests accepted in it
abbrev pub requests_in : History → List Request
requests_in h = accepted_requests (opened_in h) h.calls

-- the settlements accepted in it
abbrev pub settlements_in : History → List Number
settlements_in h = accepted_settlements (opened_in h) h.calls

-- the replica after it
abbrev pub replica_after : History → Replica
replica_after h = run (fresh h.panels h.own) h.calls

-- every history comes to the order of the requests and settlements that it accepted, which are as many as `accepted_in` counts
pub record ComesToOrder (h : History) : Type 0 where
  pub committed : (replica_after h).book.plan.committed ≡ (standing_order (requests_in h) (settlements_in h)).committed
  pub tentative : (replica_after h).book.plan.tentative ≡ (standing_order (requests_in h) (settlements_in h)).tentative
  pub requests_counted : length (requests_in h) ≡ accepted_in (opened_in h) h.calls brings_request
  pub settlements_counted : length (settlements_in h) ≡ accepted_in (opened_in h) h.calls is_commit

-- m is l with something behind it
pub record Extends (l m : List Request) : Type 0 where
  pub behind : List Request
  pub is : m ≡ l ++ behind

-- the committed list only grows at its end
pub record GrowsAtEnd (r : Replica) (further : List Call) : Type 0 where
  pub grows : Extends r.book.plan.committed (run r further).book.plan.committed

-- ---- two histories

-- they accepted the same requests, field for field, and the same settlements in the same order
pub record AcceptedSame (h k : History) : Type 0 where
  pub requests : SameRequests (requests_in h) (requests_in k)
  pub settlements : settlements_in h ≡ settlements_in k

-- nothing is to be undone and nothing to be executed
abbrev pub Idle : Replica → Type 0
Idle r = is_idle r.book.execution ≡ true

-- what is equal of two replicas then, whatever P, the own panels and the interleaving of the calls were
pub record SideBySide (r q : Replica) : Type 0 where
  pub committed : r.book.plan.committed ≡ q.book.plan.committed
  pub tentative : r.book.plan.tentative ≡ q.book.plan.tentative
  pub standing_order_is : order r.book.plan ≡ order q.book.plan
  -- the showing call at every place
  pub place_refusal_is : (place : ℕ) → place_refusal r place ≡ place_refusal q place
  pub place_shown_is : (place : ℕ) → place_shown r place ≡ place_shown q place
  -- and where both are idle, the registers and what is shown of each
  pub registers_idle : Idle r → Idle q → registers r.book.execution ≡ registers q.book.execution
  pub register_shown_is : Idle r → Idle q → (k : ℕ) → register_shown r k ≡ register_shown q k
