-- Examples as document 01 writes them: operations, requests and calls, and what is looked at in a replica.
use Rattle.std.specs.Prelude.{ℕ, Bool, true, false, List, [], ◌∷◌, get_or, replicate}
use Rattle.sets.specs.declared.Context.{Context}
use Rattle.request.specs.declared.Operation.{Operation}
use Rattle.request.specs.declared.Asked.{Asked}
use Rattle.request.specs.declared.Request.{Request}
use Rattle.numbers.specs.Numbers.{numbered}
use Rattle.request.specs.Operations.{code_read, code_set, code_add, code_claim, code_move}
use Rattle.sets.specs.Sets.{empty_set}
use Rattle.effects.specs.Effect.{exec, response}
use Rattle.creek.specs.declared.Answer.{Answer}
use Rattle.creek.specs.Book.{Call, invoke}
use Rattle.creek.specs.Calls.{Replica, step, answer}
use Rattle.creek.specs.History.{idled}

-- what the definitions compute beside what document 01 says
pub record Case : Type 0 where
  pub computed : List ℕ
  pub said : List ℕ

abbrev pub case : List ℕ → List ℕ → Case
case c s = record { computed = c; said = s }

-- ---- operations, requests and calls as document 01 writes them

abbrev pub operation : ℕ → ℕ → ℕ → ℕ → Operation
operation code r q v = record { code = code; r = r; q = q; amount = v }

abbrev pub read : ℕ → Operation
read r = operation code_read r 0 0

abbrev pub set_to : ℕ → ℕ → Operation
set_to r v = operation code_set r 0 v

abbrev pub add : ℕ → ℕ → Operation
add v r = operation code_add r 0 v

abbrev pub claim : ℕ → ℕ → Operation
claim r v = operation code_claim r 0 v

abbrev pub move : ℕ → ℕ → ℕ → Operation
move v r q = operation code_move r q v

-- that operation, strong or weak
abbrev pub asking : Operation → Bool → Asked
asking o is_strong = record { code = o.code; r = o.r; q = o.q; strong = is_strong; amount = o.amount }

-- request p/e with that clock reading
abbrev pub request : ℕ → ℕ → ℕ → Operation → Bool → Context → Request
request p e clock o is_strong context = record {
  number = numbered p e;
  clock = record { 0 = clock };
  asked = asking o is_strong;
  context = context;
}

abbrev pub weak : ℕ → ℕ → ℕ → Operation → Request
weak p e clock o = request p e clock o false empty_set

abbrev pub strong : ℕ → ℕ → ℕ → Operation → Context → Request
strong p e clock o context = request p e clock o true context

-- make a request with that clock reading
abbrev pub making : ℕ → Operation → Bool → Call
making clock o is_strong = invoke (record { asked = asking o is_strong; clock = record { 0 = clock } })

abbrev pub make : ℕ → Operation → Call
make clock o = making clock o false

abbrev pub make_strong : ℕ → Operation → Call
make_strong clock o = making clock o true

-- ---- what is looked at

-- an operation where register 0 holds v and register 1 holds w: its response, and the two registers afterwards
unfoldable pub on_registers : ℕ → ℕ → Operation → List ℕ
on_registers v w o =
    let before = v ∷ w ∷ replicate 62 0 in
    response o before ∷ get_or (exec o before) 0 0 ∷ get_or (exec o before) 1 0 ∷ []

-- an operation on those registers: its response, and all registers afterwards
unfoldable pub on_board : List ℕ → Operation → List ℕ
on_board b o = response o b ∷ exec o b

-- the refusal numbers of those calls, in turn
unfoldable pub answers : Replica → List Call → List ℕ
answers r [] = []
answers r (c ∷ cs) = (answer r c).refusal ∷ answers (step r c) cs

-- the requests that those calls spread, in turn; one of zeros for a call that spreads none
unfoldable pub spreads : Replica → List Call → List Request
spreads r [] = []
spreads r (c ∷ cs) = (answer r c).request ∷ spreads (step r c) cs

-- event and clock reading of each request
unfoldable pub events_and_clocks : List Request → List ℕ
events_and_clocks [] = []
events_and_clocks (x ∷ xs) = x.number.event.0 ∷ x.clock.0 ∷ events_and_clocks xs

-- panel and event of each request
unfoldable pub numbers : List Request → List ℕ
numbers [] = []
numbers (x ∷ xs) = x.number.panel.0 ∷ x.number.event.0 ∷ numbers xs

-- the replica after those calls, with the due steps called until idle after each, as the printout program does
unfoldable pub driven : Replica → List Call → Replica
driven r [] = r
driven r (c ∷ cs) = driven (idled (step r c)) cs

-- an answer's number, response and mark
abbrev pub replied : Answer → List ℕ
replied v = v.number.panel.0 ∷ v.number.event.0 ∷ v.response ∷ v.mark ∷ []
