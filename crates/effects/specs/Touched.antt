-- The registers that an operation touches, as a list. That no other register changes is `exec_frame` in `proofs/RegisterLaws`; worked cases
-- are in `examples/TouchedCases`, and what an operation does to these registers is in `Effect`.
use Rattle.std.specs.Prelude.{ℕ, zero, suc, cond, List, [], ◌∷◌, ◌≢◌, eqb}
use Rattle.lists.specs.Places.{All}
use Rattle.request.specs.declared.Operation.{Operation}
use Rattle.request.specs.Operations.{code_set, code_add, code_claim, code_move, code_claim_all, span}
use Rattle.effects.specs.Effect.{off_board}

-- n registers from k on, in rising order
unfoldable pub registers_from : (n k : ℕ) → List ℕ
registers_from zero k = []
registers_from (suc n) k = k ∷ registers_from n (suc k)

-- the registers that o may change: none for one off the board, for a read and for one of no known code
unfoldable pub touched : Operation → List ℕ
touched o =
    cond (off_board o) []
    (cond (eqb o.code code_set) (o.r ∷ [])
    (cond (eqb o.code code_add) (o.r ∷ [])
    (cond (eqb o.code code_claim) (o.r ∷ [])
    (cond (eqb o.code code_move) (o.r ∷ o.q ∷ [])
    (cond (eqb o.code code_claim_all) (registers_from (span o) o.r)
    [])))))

-- register k is none of those that o touches
abbrev pub Untouched : Operation → ℕ → Type 0
Untouched o k = All (λ i. k ≢ i) (touched o)
