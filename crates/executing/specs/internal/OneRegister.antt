-- The operations on one register, codes 1 to 4, and what the functions for them and for the other codes ask.
use Rattle.std.specs.Prelude.{◌≡◌, ℕ, ◌+◌, ◌%◌, Bool, true, false, cond, ◌&&◌, ◌==◌, nat_le}
use Rattle.request.specs.declared.Operation.{Operation}
use Rattle.request.specs.Operations.{code_read, code_set, code_add, code_claim}
use Rattle.effects.specs.Effect.{range, off_board}

-- an operation of that code is on one register: read, set, add or claim
abbrev pub on_one_register : ℕ → Bool
on_one_register code = nat_le code_read code && nat_le code code_claim

-- what the register holds after an operation of that code and amount, where it held `before`
unfoldable pub value_after : (code before amount : ℕ) → ℕ
value_after code before amount =
    cond (code == code_set) amount
    (cond (code == code_add) ((before + amount) % range)
    (cond (code == code_claim && before == 0) amount
    before))

-- the response: read and set respond what the register held before, add and claim what it holds after
abbrev pub response_of : (code before after : ℕ) → ℕ
response_of code before after = cond (nat_le code code_set) before after

-- o is an operation on one register, and on the board
pub record OneOnBoard (o : Operation) : Type 0 where
  pub on : off_board o ≡ false
  pub one : on_one_register o.code ≡ true

-- o is on the board, and no operation on one register
pub record OtherOnBoard (o : Operation) : Type 0 where
  pub on : off_board o ≡ false
  pub other : on_one_register o.code ≡ false
