-- What an operation does to the registers and what it responds, by document 01's table, in which document 02's request (i) changes move,
-- and by its request (g), which adds the claim of registers r to q together.
use Rattle.std.specs.Prelude.{ℕ, zero, suc, ◌+◌, ◌-◌, ◌%◌, ◌^◌, min, ◌≡◌, Bool, ◌||◌, cond, List, get_or, set, replicate, ltb, eqb}
use Rattle.std.proofs.lemmas.List.Edits.{sets}
use Rattle.request.specs.declared.Operation.{Operation}
use Rattle.request.specs.Operations.{code_read, code_set, code_add, code_claim, code_move, code_claim_all, last_register, span}

-- one past the greatest value of a register
abbrev pub range : ℕ
range = 2 ^ 32

-- the operation names a register over 63; only a bad operation does
unfoldable pub off_board : Operation → Bool
off_board o = ltb last_register o.r || ltb last_register o.q

-- the sum of add, modulo 4,294,967,296
unfoldable pub added : Operation → List ℕ → ℕ
added o b = (get_or b o.r 0 + o.amount) % range

-- the value of r after a claim: v if it was 0
unfoldable pub claimed : Operation → List ℕ → ℕ
claimed o b = cond (eqb (get_or b o.r 0) 0) o.amount (get_or b o.r 0)

-- the amount that a move moves: "the least of the amount, what r holds, and the room left in q", which is 4,294,967,295 less what q holds
unfoldable pub amount_moved : Operation → List ℕ → ℕ
amount_moved o b = min o.amount (min (get_or b o.r 0) (range - 1 - get_or b o.q 0))

-- the registers after a move: r holds that amount less, and q what it held and that amount
unfoldable pub moved : Operation → List ℕ → List ℕ
moved o b = set (set b o.r (get_or b o.r 0 - amount_moved o b)) o.q (get_or b o.q 0 + amount_moved o b)

-- v or, where that is 0, w
abbrev pub unless_zero : ℕ → ℕ → ℕ
unless_zero v w = cond (eqb v 0) w v

-- the first value other than 0 in the n registers from k on, or 0 where all of them are 0
unfoldable pub first_held : (n k : ℕ) → List ℕ → ℕ
first_held zero k b = 0
first_held (suc n) k b = unless_zero (get_or b k 0) (first_held n (suc k) b)

-- the value of the lowest-numbered register from r to q that is not 0, or 0 where all of them are
unfoldable pub lowest_held : Operation → List ℕ → ℕ
lowest_held o b = first_held (span o) o.r b

-- the registers with all of r to q set to v
unfoldable pub all_set : Operation → ℕ → List ℕ → List ℕ
all_set o v b = sets b o.r (replicate (span o) v)

-- the registers after a claim of r to q: "all must be 0, then all become v", "otherwise nothing changes"
unfoldable pub all_claimed : Operation → List ℕ → List ℕ
all_claimed o b = cond (eqb (lowest_held o b) 0) (all_set o o.amount b) b

-- its response: v, otherwise "the value of the lowest one held"
unfoldable pub all_claimed_response : Operation → List ℕ → ℕ
all_claimed_response o b = unless_zero (lowest_held o b) o.amount

-- the registers after an operation; one off the board, or of no known code, changes nothing
unfoldable pub exec : Operation → List ℕ → List ℕ
exec o b =
    cond (off_board o) b
    (cond (eqb o.code code_set) (set b o.r o.amount)
    (cond (eqb o.code code_add) (set b o.r (added o b))
    (cond (eqb o.code code_claim) (set b o.r (claimed o b))
    (cond (eqb o.code code_move) (moved o b)
    (cond (eqb o.code code_claim_all) (all_claimed o b)
    b)))))

-- its response, for a move the amount moved; 0 for one off the board, or of no known code
unfoldable pub response : Operation → List ℕ → ℕ
response o b =
    cond (off_board o) 0
    (cond (eqb o.code code_read) (get_or b o.r 0)
    (cond (eqb o.code code_set) (get_or b o.r 0)
    (cond (eqb o.code code_add) (added o b)
    (cond (eqb o.code code_claim) (claimed o b)
    (cond (eqb o.code code_move) (amount_moved o b)
    (cond (eqb o.code code_claim_all) (all_claimed_response o b)
    0))))))

-- o was executed on the registers b: they became b', and it responded x
pub record Executed (o : Operation) (b b' : List ℕ) (x : ℕ) : Type 0 where
  pub effect : b' ≡ exec o b
  pub response : x ≡ response o b
