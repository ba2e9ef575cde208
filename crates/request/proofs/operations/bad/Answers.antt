-- `operations::bad` meets its contract: each answer is what is left of the definition by the tests passed.
use Prim.Native.Nat.{◌≤◌, ◌<◌}
use native.Mathlib.Omega.{arith}
use mathlib.Core.Path.{◌≡◌, refl}
use mathlib.Core.Bool.{Bool, true, false, not, ◌&&◌, ◌||◌, or-false, and-true}
use lib.Dec.{ltb, leb, eqb}
use borrow.Author.Tests.{leb-true, eqb-true, le-leb, lt-leb, eq-eqb, ne_eqb}
use Rattle.lists.proofs.BoolLaws.{neither_true, same_test}
use Rattle.request.specs.declared.Operation.{Operation}
use Rattle.request.specs.Operations.{code_read, code_claim, code_move, code_claim_all, last_code}
use Rattle.request.specs.Operations.{last_register, most_claimed, span, bad_operation}
use Rattle.request.proofs.operations.bad.Goals as goal

-- the second or third of three tests is met
met_behind : (a b c : Bool) → b || c ≡ true → a || b || c ≡ true
met_behind true b c met = refl
met_behind false b c met = met

-- eight tests of which only the first and the last may be met: the first where b is false, the last only where it is true
first_or_last : (b x y z : Bool)
    → not b || x || y || z ≡ not b || false || false || false || false || false || false || b && (x || y || z)
first_or_last true x y z = refl
first_or_last false x y z = refl

module _ (o : Operation) where
  -- a register is over the last
  abbrev outside : Bool
  outside = ltb last_register o.r || ltb last_register o.q

  bad-registers : outside ≡ true → true ≡ bad_operation o
  unfolding bad_operation
  bad-registers met =
      rw (met_behind (not (leb code_read o.code && leb o.code last_code)) (ltb last_register o.r) (ltb last_register o.q) met)

  module _ (inside : outside ≡ false) where
    registers : (ltb last_register o.r ≡ false) × (ltb last_register o.q ≡ false)
    registers = neither_true (ltb last_register o.r) (ltb last_register o.q) inside

    bad_alone : o.code ≤ code_claim
        → not (leb code_read o.code) || not (eqb o.q 0) || eqb o.code code_read && not (eqb o.amount 0)
        || eqb o.code code_claim && eqb o.amount 0
        ≡ bad_operation o
    unfolding bad_operation
    bad_alone low =
        rw (
          registers.0,
          registers.1,
          le-leb o.code last_code (omega arith),
          le-leb o.code code_claim low,
          ne_eqb o.code code_move (λ e. omega arith),
          ne_eqb o.code code_claim_all (λ e. omega arith),
        )
        (simp (or-false, and-true))

    bad-move : o.code ≡ code_move → eqb o.r o.q ≡ bad_operation o
    unfolding bad_operation
    bad-move e = rw (registers.0, registers.1, e) (simp or-false)

    -- of the codes behind move only one is good
    bad_together : code_claim < o.code → (o.code ≡ code_move → ⊥)
        → not (eqb o.code code_claim_all) || ltb o.q o.r || ltb most_claimed (span o) || eqb o.amount 0 ≡ bad_operation o
    unfolding bad_operation
    bad_together high other =
        let last : leb o.code last_code ≡ eqb o.code code_claim_all =
        same_test (leb o.code last_code) (eqb o.code code_claim_all)
        (λ h. eq-eqb o.code code_claim_all (omega (arith, leb-true o.code last_code h, other)))
        (λ h. le-leb o.code last_code (omega (arith, eqb-true o.code code_claim_all h))) in
        rw (
          registers.0,
          registers.1,
          le-leb code_read o.code (omega arith),
          last,
          lt-leb o.code code_claim (omega arith),
          ne_eqb o.code code_read (λ e. omega arith),
          ne_eqb o.code code_claim (λ e. omega arith),
          ne_eqb o.code code_move other,
        )
        (first_or_last (eqb o.code code_claim_all) (ltb o.q o.r) (ltb most_claimed (span o)) (eqb o.amount 0))

pub returns-then-r-q : goal.returns-then-r-q
returns-then-r-q c = bad-registers c.args.o c.if-r-q.true

pub returns-then-code-le-CLAIM : goal.returns-then-code-le-CLAIM
returns-then-code-le-CLAIM c = bad_alone c.args.o c.if-r-q.false c.if-code-le-CLAIM.true

pub returns-then-code-eq-MOVE : goal.returns-then-code-eq-MOVE
returns-then-code-eq-MOVE c = bad-move c.args.o c.if-r-q.false c.if-code-eq-MOVE.true

pub returns : goal.returns
returns c =
    rw c.span-registers.ensures (bad_together c.args.o c.if-r-q.false c.if-code-le-CLAIM.false c.if-code-eq-MOVE.false)
