-- What a stable reply is worth, and which carry-out it reports. Both statements hold after every list of calls from fresh: `stable-reply`
-- and `last_carry_out` in `proofs/StableReply`.
use Rattle.std.specs.Prelude.{ℕ, ◌≡◌, Bool, true, ◌&&◌, cond, List, [], ◌∷◌}
use Rattle.lists.specs.Lists.{some_passes}
use Rattle.numbers.specs.declared.Number.{Number}
use Rattle.numbers.specs.Numbers.{same_number}
use Rattle.request.specs.declared.Request.{Request}
use Rattle.creek.specs.declared.Answer.{Answer}
use Rattle.creek.specs.Plan.{has_number}
use Rattle.creek.specs.Book.{Call, invoke, deliver, commit, undo, execute, is_accepted}
use Rattle.creek.specs.Replies.{stable_mark, response_in}
use Rattle.creek.specs.Calls.{Replica, fresh, is_execute, step, answer}
use Rattle.creek.specs.History.{run}

-- the number that a reply is about: a settlement's own, else the one that the answer names
abbrev pub replied_to : Call → Answer → Number
replied_to (invoke i) v = v.number
replied_to (deliver x) v = v.number
replied_to (commit n) v = n
replied_to undo v = v.number
replied_to execute v = v.number

-- the call carries out the request of that number
abbrev pub carries_out : Replica → Call → Number → Bool
carries_out r c n = is_accepted r.book c && is_execute c && same_number n (answer r c).number

-- the response of the last carry-out of the request of that number among those calls, v where there is none
unfoldable pub last_response : Number → ℕ → Replica → List Call → ℕ
last_response n v r [] = v
last_response n v r (c ∷ cs) = last_response n (cond (carries_out r c n) (answer r c).response v) (step r c) cs

-- the request of number n is one of those committed, and v is its response in one replay of them
pub record SettledWith (n : Number) (v : ℕ) (committed : List Request) : Type 0 where
  pub settled : some_passes (has_number n) committed ≡ true
  pub response : v ≡ response_in n committed

-- a stable reply is about a committed request and has its response in one replay of the committed list, as it then stands and ever after
pub record StableReply (r : Replica) (c : Call) : Type 0 where
  pub stands : (answer r c).mark ≡ stable_mark → (further : List Call)
      → SettledWith (replied_to c (answer r c)) (answer r c).response (run (step r c) further).book.plan.committed

-- after those calls, a settlement's stable reply has the response of the request's last carry-out
pub record LastCarryOut (panels own : ℕ) (calls : List Call) (n : Number) : Type 0 where
  pub reported : (answer (run (fresh panels own) calls) (commit n)).mark ≡ stable_mark
      → (answer (run (fresh panels own) calls) (commit n)).response ≡ last_response n 0 (fresh panels own) calls
