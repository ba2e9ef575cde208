-- What is saved before an operation, also as one word, and the registers after a rollback from it.
use Rattle.std.specs.Prelude.{ℕ, ◌+◌, ◌*◌, ◌/◌, ◌%◌, ◌≡◌, Bool, not, ◌||◌, cond, List, get_or, set, eqb}
use Rattle.request.specs.declared.Operation.{Operation}
use Rattle.request.specs.Operations.{code_claim_all}
use Rattle.registers.specs.declared.Saved.{Saved}
use Rattle.effects.specs.Effect.{range, off_board, all_set}

-- what is saved before o on the registers b: the values of r and q, and zeros for an operation off the board
unfoldable pub saved_of : Operation → List ℕ → Saved
saved_of o b = cond (off_board o) (record { r = 0; q = 0 }) (record { r = get_or b o.r 0; q = get_or b o.q 0 })

-- a claim of registers together, before which s was saved, has not taken them: r was held, or is still 0
unfoldable pub not_taken : Operation → Saved → List ℕ → Bool
not_taken o s b = not (eqb s.r 0) || eqb (get_or b o.r 0) 0

-- the registers b with what was saved before o put back: r and q; after a claim of registers together that took them, all of them as q was
unfoldable pub restored : Operation → Saved → List ℕ → List ℕ
restored o s b =
    cond (off_board o) b
    (cond (eqb o.code code_claim_all) (cond (not_taken o s b) b (all_set o s.q b))
    (set (set b o.r s.r) o.q s.q))

-- what was saved as one word: r in the lower half, q in the upper
unfoldable pub saved_word : Saved → ℕ
saved_word s = s.r + range * s.q

-- what was saved in a word
unfoldable pub saved_in : ℕ → Saved
saved_in w = record { r = w % range; q = w / range }

-- w is the word of s, and s is read from it again
pub record SavedAs (s : Saved) (w : ℕ) : Type 0 where
  pub word : w ≡ saved_word s
  pub read : saved_in w ≡ s
