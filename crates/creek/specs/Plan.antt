-- The plan: which requests are held, and in which order they are to be executed. First the plan and what is read from it, then how a
-- request enters it (make, hear), how one is committed (settle), and the refusals of these calls. Nothing here executes.
--
-- Document 01's words: committed is its settled list, tentative its unsettled list. Numbers in brackets are lines of Creek's Algorithm 1.
use Rattle.std.specs.Prelude.{ℕ, suc, max, Bool, not, ◌||◌, cond, List, [], ◌∷◌, ◌++◌, leb, eqb}
use Rattle.std.proofs.Math.Option.{Option, none, some}
use Rattle.sets.specs.declared.Context.{Context}
use Rattle.numbers.specs.declared.Number.{Number}
use Rattle.request.specs.declared.Request.{Request}
use Rattle.numbers.specs.Numbers.{clock_reading, numbered, same_number, bad_number, most_events}
use Rattle.request.specs.Asked.{bad_asked}
use Rattle.sets.specs.Sets.{empty_set, member, join, leave, subset}
use Rattle.request.specs.Order.{before}
use Rattle.request.specs.Request.{same_request, bad_context}
use Rattle.request.specs.Refusal as refused
use Rattle.creek.specs.declared.Invocation.{Invocation}
use Rattle.lists.specs.Lists.{count, some_passes, keep, find, insert}

pub record Plan : Type 0 where
  -- P
  pub panels : ℕ
  -- the own panel
  pub own : ℕ
  -- the known set, Creek's causalCtx [7]
  pub known : Context
  -- the settled list [6]
  pub committed : List Request
  -- the unsettled list, in clock order [6]
  pub tentative : List Request

-- the plan that a shift begins with: no request, nothing known
abbrev pub empty_plan : ℕ → ℕ → Plan
empty_plan panels own = record { panels = panels; own = own; known = empty_set; committed = []; tentative = [] }

-- the two lists of which the standing order is made
pub record Parts : Type 0 where
  pub committed : List Request
  pub tentative : List Request

-- those of a plan
abbrev pub parts_of : Plan → Parts
parts_of a = record { committed = a.committed; tentative = a.tentative }

-- the standing order
abbrev pub order : Plan → List Request
order a = a.committed ++ a.tentative

-- ---- what is read from the requests held

-- x has the number n
abbrev pub has_number : Number → Request → Bool
has_number n x = same_number n x.number

-- the request held under the number n, if there is one [11]
abbrev pub held : Plan → Number → Option Request
held a n = find (has_number n) (order a)

-- x is one of that panel's requests
abbrev pub is_of : ℕ → Request → Bool
is_of panel x = eqb x.number.panel.0 panel

-- the last own event: own events are counted from 1, so it is how many own requests are held [5]
unfoldable pub last_event : Plan → ℕ
last_event a = count (is_of a.own) (order a)

abbrev pub clock_of : Option Request → ℕ
clock_of none = 0
clock_of (some x) = x.clock.0

-- the clock reading of the last own request, 0 where none was made
unfoldable pub last_clock : Plan → ℕ
last_clock a = clock_of (held a (numbered a.own (last_event a)))

-- ---- a request enters [22, 29 to 31, 36 to 39]

-- a weak request's number joins the known set, a strong one's does not [22, 29, 30]
abbrev pub known_with : Context → Bool → Number → Context
known_with known strong n = cond strong known (join known n)

-- a list in clock order with x in its place [37 to 39]
abbrev pub placed : Request → List Request → List Request
placed x l = insert before x l

-- the plan after x has entered the tentative list
unfoldable pub entered : Plan → Request → Plan
entered a x = record {
  panels = a.panels;
  own = a.own;
  known = known_with a.known x.asked.strong x.number;
  committed = a.committed;
  tentative = placed x a.tentative;
}

-- ---- the request that is made [15 to 19]

-- s without the numbers of those requests, one after the other
unfoldable pub without : Context → List Request → Context
without s [] = s
without s (x ∷ xs) = without (leave s x.number) xs

-- the event is the last own event plus 1 [16]
abbrev pub next_number : Plan → Number
next_number a = numbered a.own (suc (last_event a))

-- the request asked for, with that context [17]
abbrev pub request_with : Plan → Invocation → Context → Request
request_with a i context = record {
  number = next_number a;
  clock = i.clock;
  asked = i.asked;
  context = context;
}

-- the tentative requests that come after it in clock order, in which its context plays no part
abbrev pub later : Plan → Invocation → List Request
later a i = keep (before (request_with a i empty_set)) a.tentative

-- its context: a strong one's is the known set without the later tentative requests, a weak one's is empty [18, 19]
abbrev pub context_of : Plan → Invocation → Context
context_of a i = cond i.asked.strong (without a.known (later a i)) empty_set

-- i with its clock reading or, where that is lower, with the given one
unfoldable pub at_least : ℕ → Invocation → Invocation
at_least last i = record { asked = i.asked; clock = clock_reading (max last i.clock.0) }

-- the request to be spread; one made with a lower clock takes the reading of the last own request (document 02, request (b)), and that
-- reading gives it its place and its context too
unfoldable pub made : Plan → Invocation → Request
made a i = let raised = at_least (last_clock a) i in request_with a raised (context_of a raised)

-- ---- a request is committed [32 to 35, 48 to 52]

-- y is named in x's context
abbrev pub named : Request → Request → Bool
named x y = member x.context y.number

-- y stays tentative when x is committed: it is neither named in x's context nor x itself [50]
abbrev pub stays : Request → Request → Bool
stays x y = not (named x y || has_number x.number y)

-- the two lists after x is committed: the tentative requests named in its context, in clock order, and then itself move to the end of
-- the committed list [49 to 52]
abbrev pub committing_in : Parts → Request → Parts
committing_in p x = record {
  committed = p.committed ++ (keep (named x) p.tentative ++ x ∷ []);
  tentative = keep (stays x) p.tentative;
}

-- the plan after x is committed: its number joins the known set [34], and it moves in the two lists
unfoldable pub committing : Plan → Request → Plan
committing a x = record {
  panels = a.panels;
  own = a.own;
  known = join a.known x.number;
  committed = (committing_in (parts_of a) x).committed;
  tentative = (committing_in (parts_of a) x).tentative;
}

-- the same for a request found or not; an accepted call finds it [33]
unfoldable pub committing_found : Plan → Option Request → Plan
committing_found a none = a
committing_found a (some x) = committing a x

-- the plan after the request of that number is committed
abbrev pub committing_number : Plan → Number → Plan
committing_number a n = committing_found a (find (has_number n) a.tentative)

-- ---- refusals, each a test and its number, in document 01's order

-- the number where its test is met, else what the later tests come to
abbrev pub met : Bool → ℕ → ℕ → ℕ
met test number rest = cond test number rest

-- make: bad operation, shift full; a lower clock is no refusal (document 02, request (b))
unfoldable pub invoke_refusal : Plan → Invocation → ℕ
invoke_refusal a i =
    met (bad_asked i.asked) refused.bad_operation
    (met (leb most_events (last_event a)) refused.shift_full
    refused.accepted)

-- held already where the request is held with all fields equal, number clash where some other field differs
abbrev pub held_refusal : Option Request → Request → ℕ
held_refusal none x = refused.accepted
held_refusal (some y) x = cond (same_request y x) refused.held_already refused.number_clash

-- hear: bad number, own echo [27, 28], bad operation, bad context, then held already or number clash
unfoldable pub deliver_refusal : Plan → Request → ℕ
deliver_refusal a x =
    met (bad_number a.panels x.number) refused.bad_number
    (met (is_of a.own x) refused.own_echo
    (met (bad_asked x.asked) refused.bad_operation
    (met (bad_context a.panels x) refused.bad_context
    (held_refusal (held a x.number) x))))

-- the request of that number is in the committed list
abbrev pub is_committed : Plan → Number → Bool
is_committed a n = some_passes (has_number n) a.committed

-- a context number is not in the known set [14]
abbrev pub waits : Plan → Request → Bool
waits a x = not (subset x.context a.known)

-- of a request that is held or not: not here, weak, settled already, waits
abbrev pub found_refusal : Plan → Number → Option Request → ℕ
found_refusal a n none = refused.not_here
found_refusal a n (some x) =
    met (not x.asked.strong) refused.weak
    (met (is_committed a n) refused.settled_already
    (met (waits a x) refused.waits
    refused.accepted))

-- settle: bad number, not here, weak, settled already, waits [10 to 14]
unfoldable pub commit_refusal : Plan → Number → ℕ
commit_refusal a n = met (bad_number a.panels n) refused.bad_number (found_refusal a n (held a n))
