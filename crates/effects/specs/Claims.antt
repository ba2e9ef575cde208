-- Claims of registers together (document 02, request (g)): that one of a single register is a plain claim, that it takes all or none, and
-- that two which share a register never end up with a part each. What is said here is proved in `proofs/ClaimLaws`; what such a claim does
-- is in `Effect`.
use Rattle.std.specs.Prelude.{ℕ, suc, ◌≤◌, ◌<◌, ◌≡◌, Bool, true, not, ◌&&◌, List, ◌≢◌, ◌⊎◌, length, get_or, eqb}
use Rattle.request.specs.declared.Operation.{Operation}
use Rattle.request.specs.Operations.{code_claim, code_claim_all, last_register, bad_operation}
use Rattle.effects.specs.Effect.{exec, response}
use Rattle.effects.specs.internal.OnBoard.{ClaimOnBoard}

-- claim registers r to q for v
abbrev pub claim_all : (r q v : ℕ) → Operation
claim_all r q v = record { code = code_claim_all; r = r; q = q; amount = v }

-- claim register r for v, as document 01 has it
abbrev pub plain_claim : (r v : ℕ) → Operation
plain_claim r v = record { code = code_claim; r = r; q = 0; amount = v }

-- register k is one of r to q
abbrev pub Among : Operation → ℕ → Type 0
Among o k = (o.r ≤ k) × (k ≤ o.q)

-- ---- one register

-- "For r = q it is proved equal to a plain claim."
pub record SameAsPlainClaim (r v : ℕ) (b : List ℕ) : Type 0 where
  pub effect : exec (claim_all r r v) b ≡ exec (plain_claim r v) b
  pub response : response (claim_all r r v) b ≡ response (plain_claim r v) b
  -- one is a bad operation exactly where the other is
  pub bad : bad_operation (claim_all r r v) ≡ bad_operation (plain_claim r v)

-- ---- all or none

-- of a claim o of registers together on the registers b
pub record AllOrNone (o : Operation) (b : List ℕ) : Type 0 where
  -- where every register from r to q is 0, each of them is v afterwards
  pub all : ((k : ℕ) → Among o k → get_or b k 0 ≡ 0) → (k : ℕ) → Among o k → get_or (exec o b) k 0 ≡ o.amount
  -- and v is the response
  pub all_responds : ((k : ℕ) → Among o k → get_or b k 0 ≡ 0) → response o b ≡ o.amount
  -- where one of them is not, the registers are the same list
  pub none : (k : ℕ) → Among o k → get_or b k 0 ≢ 0 → exec o b ≡ b
  -- and the response is the value of the lowest-numbered one that is not 0
  pub none_responds : (k : ℕ) → Among o k → get_or b k 0 ≢ 0 → ((j : ℕ) → o.r ≤ j → j < k → get_or b j 0 ≡ 0) → response o b ≡ get_or b k 0
  -- no other register ever changes
  pub outside : (k : ℕ) → (k < o.r) ⊎ (o.q < k) → get_or (exec o b) k 0 ≡ get_or b k 0

-- for every such claim on the board, whether it is good or longer than four, and any 64 registers
abbrev pub TakesAllOrNone : Operation → List ℕ → Type 0
TakesAllOrNone o b = ClaimOnBoard o → length b ≡ suc last_register → AllOrNone o b

-- ---- two claims

-- a good claim of registers together: code 6 and not a bad operation
unfoldable pub good_claim : Operation → Bool
good_claim o = eqb o.code code_claim_all && not (bad_operation o)

-- of two good claims that share a register k, in turn on any 64 registers b, at most one changes anything: where the first did, the second
-- leaves the registers as they are
abbrev pub NeverOneEach : Operation → Operation → List ℕ → Type 0
NeverOneEach first second b =
    length b ≡ suc last_register → good_claim first ≡ true → good_claim second ≡ true → (k : ℕ) → Among first k → Among second k
    → exec first b ≢ b → exec second (exec first b) ≡ exec first b
