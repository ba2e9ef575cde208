-- Operations: their codes, the one of zeros, equality, and what makes one bad. What they do is in the crate `registers`.
use Rattle.std.specs.Prelude.{ℕ, ◌+◌, ◌-◌, Bool, not, ◌&&◌, ◌||◌, ltb, leb, eqb}
use Rattle.request.specs.declared.Operation.{Operation}

abbrev pub code_read : ℕ
code_read = 1

abbrev pub code_set : ℕ
code_set = 2

abbrev pub code_add : ℕ
code_add = 3

abbrev pub code_claim : ℕ
code_claim = 4

abbrev pub code_move : ℕ
code_move = 5

-- a claim of registers r to q together (document 02, request (g))
abbrev pub code_claim_all : ℕ
code_claim_all = 6

-- the last code of document 01's table; document 02's recipes have none behind it
abbrev pub last_table_code : ℕ
last_table_code = code_move

-- the last code there is
abbrev pub last_code : ℕ
last_code = code_claim_all

-- the last register
abbrev pub last_register : ℕ
last_register = 63

-- the most registers that are claimed together
abbrev pub most_claimed : ℕ
most_claimed = 4

-- how many registers r to q are: none where r is above q
abbrev pub span : Operation → ℕ
span o = o.q + 1 - o.r

-- zeros, where there is no operation
abbrev pub no_operation : Operation
no_operation = record { code = 0; r = 0; q = 0; amount = 0 }

-- all fields are equal
unfoldable pub same_operation : Operation → Operation → Bool
same_operation a b = eqb a.code b.code && eqb a.r b.r && eqb a.q b.q && eqb a.amount b.amount

-- a bad operation: a code outside 1 to 6; r or q over 63; q not 0 under codes 1 to 4; an amount not 0 under read;
-- amount 0 under claim; r equal to q under move; r above q, more than four registers or amount 0 under a claim of registers together
unfoldable pub bad_operation : Operation → Bool
bad_operation o =
    not (leb code_read o.code && leb o.code last_code)
    || ltb last_register o.r
    || ltb last_register o.q
    || leb o.code code_claim && not (eqb o.q 0)
    || eqb o.code code_read && not (eqb o.amount 0)
    || eqb o.code code_claim && eqb o.amount 0
    || eqb o.code code_move && eqb o.r o.q
    || eqb o.code code_claim_all && (ltb o.q o.r || ltb most_claimed (span o) || eqb o.amount 0)
