-- The outcome of an operation on one register in the terms of that register, and that an operation of no known code does nothing.
use Rattle.std.proofs.Common.{◌≡◌, ℕ, ◌≤◌, Bool, true, false, eqb, ◌≢◌, List, get_or, set, sym, refl, ap, ◌∙◌, arith, eqb-true, leb-true}
use lib.Seq.{set-get_or}
use borrow.Author.Tests.{eqb-false}
use Rattle.request.specs.declared.Operation.{Operation}
use Rattle.request.specs.Operations.{code_read, code_set, code_add, code_claim, code_move, code_claim_all}
use Rattle.lists.proofs.BoolLaws.{true_not_false, both_true}
use Rattle.effects.specs.Effect.{off_board, added, Executed}
use Rattle.effects.proofs.RegisterLaws.{executed-read, executed-set, executed-add, executed-claim, executed_no_claim, executed-unknown}
use Rattle.executing.specs.internal.OneRegister.{on_one_register, value_after, response_of, OneOnBoard, OtherOnBoard}

-- the codes of the operations on one register
record Code (code : ℕ) : Type 0 where
  first : code_read ≤ code
  last : code ≤ code_claim

code_of : (code : ℕ) → on_one_register code ≡ true → Code code
code_of code e =
    let h = both_true _ _ e in
    record { first = leb-true _ _ h.0; last = leb-true _ _ h.1 }

module _ (o : Operation) (b : List ℕ) where
  -- what r holds before o, and after it
  abbrev held : ℕ
  held = get_or b o.r 0

  abbrev after : ℕ
  after = value_after o.code held o.amount

  -- o changes r alone, and responds by what r holds
  abbrev pub DoneOnOne : Type 0
  DoneOnOne = Executed o b (set b o.r after) (response_of o.code held after)

  -- an outcome is in these terms where it says the same
  done_by : {b' : List ℕ} {x : ℕ} → Executed o b b' x → b' ≡ set b o.r after → x ≡ response_of o.code held after → DoneOnOne
  done_by h e f = record { effect = sym e ∙ h.effect; response = sym f ∙ h.response }

  module _ (on : off_board o ≡ false) where
    read_done : o.code ≡ code_read → DoneOnOne
    unfolding value_after
    read_done e = done_by (executed-read o b on e) (simp (e, set-get_or)) (simp e)

    set-done : o.code ≡ code_set → DoneOnOne
    unfolding value_after
    set-done e = done_by (executed-set o b on e) (simp e) (simp e)

    add_done : o.code ≡ code_add → DoneOnOne
    unfolding value_after added
    add_done e = done_by (executed-add o b on e) (simp e) (simp e)

    claim-done : o.code ≡ code_claim → (free : Bool) → eqb held 0 ≡ free → DoneOnOne
    unfolding value_after
    claim-done e true z = done_by (executed-claim o b on e (eqb-true _ _ z)) (simp (e, z)) (simp (e, z))
    claim-done e false z = done_by (executed_no_claim o b on e (eqb-false _ _ z)) (simp (e, z, set-get_or)) (simp (e, z))

  pub executed-one : OneOnBoard o → DoneOnOne
  executed-one h = by_read (eqb o.code code_read) refl
    where
      by_claim : o.code ≢ code_read → o.code ≢ code_set → o.code ≢ code_add → DoneOnOne
      by_claim r s a = claim-done h.on (omega (arith, code_of o.code h.one, r, s, a)) (eqb held 0) refl

      by_add : o.code ≢ code_read → o.code ≢ code_set → (t : Bool) → eqb o.code code_add ≡ t → DoneOnOne
      by_add r s true e = add_done h.on (eqb-true _ _ e)
      by_add r s false e = by_claim r s (eqb-false _ _ e)

      by_set : o.code ≢ code_read → (t : Bool) → eqb o.code code_set ≡ t → DoneOnOne
      by_set r true e = set-done h.on (eqb-true _ _ e)
      by_set r false e = by_add r (eqb-false _ _ e) (eqb o.code code_add) refl

      by_read : (t : Bool) → eqb o.code code_read ≡ t → DoneOnOne
      by_read true e = read_done h.on (eqb-true _ _ e)
      by_read false e = by_set (eqb-false _ _ e) (eqb o.code code_set) refl

  -- on more registers than one there are moves and claims of registers together, and else nothing is known
  pub executed_other : OtherOnBoard o → o.code ≢ code_move → o.code ≢ code_claim_all → Executed o b b 0
  executed_other h m c =
      executed-unknown o b h.on (not-one code_read refl) (not-one code_set refl) (not-one code_add refl) (not-one code_claim refl) m c
    where
      not-one : (code : ℕ) → on_one_register code ≡ true → o.code ≢ code
      not-one code t e = true_not_false (ap on_one_register e ∙ t) h.other
