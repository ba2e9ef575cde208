-- What holds of every replica that fresh and the calls lead to: of the requests held, of the plan, of the book with its counters.
-- Facts about a list of requests are said by counts, so that they hold of any rearrangement of it.
use Rattle.std.specs.Prelude.{ℕ, ◌+◌, ◌*◌, ◌≤◌, ◌<◌, ◌≡◌, Bool, true, false, not, ◌&&◌, ◌||◌, List, ◌++◌, length, ltb}
use Rattle.std.specs.Bool.{beq}
use Rattle.counters.specs.declared.Counters.{Counters}
use Rattle.sets.specs.declared.Context.{Context}
use Rattle.numbers.specs.declared.Number.{Number}
use Rattle.request.specs.declared.Request.{Request}
use Rattle.numbers.specs.Numbers.{bad_number, most_panels, most_events}
use Rattle.request.specs.Asked.{bad_asked}
use Rattle.sets.specs.Sets.{member, names_from}
use Rattle.request.specs.Order.{before}
use Rattle.request.specs.Request.{bad_context}
use Rattle.lists.specs.Lists.{count, Ordered}
use Rattle.creek.specs.Plan.{Plan, order, has_number, is_of}
use Rattle.creek.specs.Execution.{board}
use Rattle.creek.specs.Book.{Book}
use Rattle.creek.specs.Calls.{Replica}

-- a shift has at most 512 requests
abbrev pub most_requests : ℕ
most_requests = most_panels * most_events

-- a request that no shop of those panels holds: bad number, bad operation or bad context
unfoldable pub is_bad : ℕ → Request → Bool
is_bad panels x = bad_number panels x.number || bad_asked x.asked || bad_context panels x

-- an own request with an event past how many there are
unfoldable pub own_beyond : ℕ → ℕ → Request → Bool
own_beyond own last x = is_of own x && ltb last x.number.event.0

-- of the requests held, l, in a shop of those panels, and the known set
pub record Held (panels own : ℕ) (known : Context) (l : List Request) : Type 0 where
  pub few_panels : panels ≤ most_panels
  pub own_below : own < panels
  -- the numbers are distinct
  pub distinct : (n : Number) → count (has_number n) l ≤ 1
  -- number, operation and context of each are good
  pub good : count (is_bad panels) l ≡ 0
  -- the own events are those from 1 to how many there are
  pub own_events : count (own_beyond own (count (is_of own) l)) l ≡ 0
  -- the known set has a word for each panel of the largest shop, and names none that this shop has not
  pub known_words : length known.words ≡ most_panels
  pub known_panels : names_from panels known ≡ false
  -- what is known is held
  pub known_held : (n : Number) → member known n ≡ true → 1 ≤ count (has_number n) l

-- x's number is not known
abbrev pub unknown : Context → Request → Bool
unknown known x = not (member known x.number)

-- x is strong and known, or weak and unknown
abbrev pub known_against_strength : Context → Request → Bool
known_against_strength known x = beq x.asked.strong (member known x.number)

pub record SoundPlan (a : Plan) : Type 0 where
  pub held : Held a.panels a.own a.known (order a)
  pub clock_order : Ordered before a.tentative
  -- a committed request is known
  pub committed_known : count (unknown a.known) a.committed ≡ 0
  -- a tentative request is known exactly where it is weak
  pub tentative_known : count (known_against_strength a.known) a.tentative ≡ 0

-- demand 3's bound on the undos done and to be done, w, after n requests and s settlements: doubled, and with no subtraction
abbrev pub WithinBound : ℕ → ℕ → ℕ → Type 0
WithinBound w s n = 2 * w + (s * s + n) ≤ n * n + 2 * (s * n) + s

-- of a book, with the counts of settlements and of steps beside it
pub record SoundBook (b : Book) (commits : ℕ) (counters : Counters) : Type 0 where
  pub plan : SoundPlan b.plan
  -- at most 512 requests are held
  pub few : length (order b.plan) ≤ most_requests
  -- what is executed and then what is to do is the standing order
  pub follows : b.execution.executed ++ b.execution.todo ≡ b.plan.committed ++ b.plan.tentative
  -- the requests on the board are among those held, each once: the executed list and the rollback list have none in common
  pub board_held : (test : Request → Bool) → count test (board b.execution) ≤ count test (order b.plan)
  -- the settlements accepted are the strong requests that are committed
  pub commits_strong : commits ≡ count (λ x. x.asked.strong) b.plan.committed
  pub within : WithinBound (counters.undos + length b.execution.rollback) commits (length (order b.plan))
  -- carry-outs done exceed undos done by the requests on the board
  pub on_board_is : counters.executions ≡ counters.undos + length (board b.execution)

abbrev pub Sound : Replica → Type 0
Sound r = SoundBook r.book r.commits r.counters
