-- Rolling back from what was saved: what an operation does not touch stays, what it touches is restored, and so the registers are those
-- from before (`rolled_back_is`). Two ways of putting back come first: of r and q, and after a claim of registers together.
use Prim.{tt}
use Prim.Native.Nat.{ℕ, ◌+◌, ◌≤◌, ◌<◌}
use native.Mathlib.Decide.{ℕ_discrete}
use native.Mathlib.Omega.{arith}
use mathlib.Core.Path.{◌≡◌, refl, sym, ap, subst, ◌∙◌}
use mathlib.Core.Logic.{◌≢◌}
use mathlib.Core.Bool.{Bool, true, false, cond}
use mathlib.Core.List.{List}
use lib.ListN.{length, get_or, set, length-set, replicate}
use lib.Seq.{get_or-set_same, get_or-set_other, set-get_or, ext_get_or, lt-length-set, length-sets, lt-length-sets}
use lib.Dec.{eqb}
use borrow.Author.Tests.{eqb-true, eqb-false}
use Rattle.lists.specs.Places.{All}
use Rattle.lists.proofs.AllLaws.{all_or_other}
use Rattle.lists.proofs.BoolLaws.{true_not_false, either}
use Rattle.request.specs.declared.Operation.{Operation}
use Rattle.request.specs.Operations.{code_set, code_add, code_claim, code_move, code_claim_all, span}
use Rattle.effects.specs.Effect.{off_board, lowest_held, all_set, exec}
use Rattle.effects.specs.internal.OnBoard.{ClaimOnBoard}
use Rattle.effects.specs.Touched.{touched, Untouched}
use Rattle.effects.proofs.RegisterLaws.{executed_claim_all, executed_no_claim_all, exec-length, exec_frame}
use Rattle.effects.proofs.SpanLaws.{each_from, all_from, all_zero_lem, set_outside, set_inside}
use Rattle.effects.proofs.TouchedLaws.{touched_off, touched_together}
use Rattle.registers.specs.declared.Saved.{Saved}
use Rattle.registers.specs.Rollback.{saved_of, not_taken, restored}

-- ---- r and q put back

-- a register that is as in b stays so when a register of b is put back
put-kept : (b c : List ℕ) (i k : ℕ) → get_or c k 0 ≡ get_or b k 0 → get_or (set c i (get_or b i 0)) k 0 ≡ get_or b k 0
put-kept b c i k same = go (ℕ_discrete k i)
  where
    go : Dec (k ≡ i) → get_or (set c i (get_or b i 0)) k 0 ≡ get_or b k 0
    go (yes e) =
        ap (λ j. get_or (set c j (get_or b j 0)) k 0) (sym e)
        ∙ ap (λ v. get_or (set c k v) k 0) (sym same)
        ∙ ap (λ l. get_or l k 0) (set-get_or c k 0)
        ∙ same
    go (no apart) = get_or-set_other c i k (get_or b i 0) 0 apart ∙ same

-- the registers c with registers r and q of b put back
abbrev r_q_back : List ℕ → List ℕ → ℕ → ℕ → List ℕ
r_q_back b c r q = set (set c r (get_or b r 0)) q (get_or b q 0)

module _ (b c : List ℕ) (r q : ℕ) where
  r_q_frame : (k : ℕ) → get_or c k 0 ≡ get_or b k 0 → get_or (r_q_back b c r q) k 0 ≡ get_or b k 0
  r_q_frame k same = put-kept b (set c r (get_or b r 0)) q k (put-kept b c r k same)

  r_back : r < length c → get_or (r_q_back b c r q) r 0 ≡ get_or b r 0
  r_back inside = put-kept b (set c r (get_or b r 0)) q r (get_or-set_same c r (get_or b r 0) 0 inside)

  q_back : q < length c → get_or (r_q_back b c r q) q 0 ≡ get_or b q 0
  q_back inside = get_or-set_same (set c r (get_or b r 0)) q (get_or b q 0) 0 (lt-length-set c r (get_or b r 0) inside)

-- an operation that is no claim of registers together touches r and q at most
touches_r_q : (o : Operation) (P : ℕ → Type 0) → eqb o.code code_claim_all ≡ false → P o.r → P o.q → All P (touched o)
unfolding touched
touches_r_q o P other at-r at-q =
    either (All P) (off_board o) (λ e. tt) (λ e.
    either (All P) (eqb o.code code_set) (λ e. (at-r, tt)) (λ e.
    either (All P) (eqb o.code code_add) (λ e. (at-r, tt)) (λ e.
    either (All P) (eqb o.code code_claim) (λ e. (at-r, tt)) (λ e.
    either (All P) (eqb o.code code_move) (λ e. (at-r, (at-q, tt))) (λ e.
    either (All P) (eqb o.code code_claim_all) (λ e. true_not_false e other) (λ e. tt))))))

-- ---- a claim of registers together

-- what is saved before an operation on the board
abbrev saved : Operation → List ℕ → Saved
saved o b = record { r = get_or b o.r 0; q = get_or b o.q 0 }

-- the registers c with what was saved before the claim on b put back
abbrev claim-restored : Operation → List ℕ → List ℕ → List ℕ
claim-restored o b c = cond (not_taken o (saved o b) c) c (all_set o (get_or b o.q 0) c)

claim_frame : (o : Operation) (b c : List ℕ) → ClaimOnBoard o → (k : ℕ) → Untouched o k → get_or c k 0 ≡ get_or b k 0
    → get_or (claim-restored o b c) k 0 ≡ get_or b k 0
unfolding all_set
claim_frame o b c claim k apart same =
    let outside = each_from (λ i. k ≢ i) (span o) o.r (rw (touched_together o claim) at apart) k in
    either (λ d. get_or d k 0 ≡ get_or b k 0) (not_taken o (saved o b) c) (λ e. same)
    (λ e. set_outside (span o) o.r (get_or b o.q 0) c k (λ low high. outside low high refl) ∙ same)

-- one that took none of its registers leaves nothing to put back
claim_not_taken : (o : Operation) (b : List ℕ) → claim-restored o b b ≡ b
unfolding not_taken
claim_not_taken o b = go (eqb (get_or b o.r 0) 0) refl
  where
    go : (t : Bool) → eqb (get_or b o.r 0) 0 ≡ t → claim-restored o b b ≡ b
    go true e = simp e
    go false e = simp e

-- where one took its registers they were 0, and are 0 again
module _ (o : Operation) (b : List ℕ) (free : lowest_held o b ≡ 0) where
  abbrev taken : List ℕ
  taken = all_set o o.amount b

  was_zero : (j : ℕ) → o.r ≤ j → j < o.r + span o → get_or b j 0 ≡ 0
  unfolding lowest_held
  was_zero = all_zero_lem (span o) o.r b free

  module _ (k : ℕ) (low : o.r ≤ k) (high : k < o.r + span o) (inside : k < length b) where
    now_amount : (j : ℕ) → o.r ≤ j → j ≤ k → get_or taken j 0 ≡ o.amount
    unfolding all_set
    now_amount j from to = set_inside (span o) o.r o.amount b j from (omega arith) (omega arith)

    -- where r does not show that they were taken, the amount is 0
    amount_zero : get_or taken o.r 0 ≡ 0 → get_or taken k 0 ≡ get_or b k 0
    amount_zero shown =
        now_amount k low (omega arith) ∙ sym (now_amount o.r (omega arith) low) ∙ shown ∙ sym (was_zero k low high)

    put_back : get_or (all_set o (get_or b o.q 0) taken) k 0 ≡ get_or b k 0
    unfolding all_set
    put_back =
        set_inside (span o) o.r _ taken k low high (lt-length-sets b o.r (replicate (span o) o.amount) inside)
        ∙ was_zero o.q (omega arith) (omega arith)
        ∙ sym (was_zero k low high)

    claim_taken : get_or (claim-restored o b taken) k 0 ≡ get_or b k 0
    unfolding not_taken
    claim_taken = go (eqb (get_or b o.r 0) 0) (eqb (get_or taken o.r 0) 0) refl refl
      where
        go : (s t : Bool) → eqb (get_or b o.r 0) 0 ≡ s → eqb (get_or taken o.r 0) 0 ≡ t
            → get_or (claim-restored o b taken) k 0 ≡ get_or b k 0
        go true true e f = simp (e, f) (amount_zero (eqb-true _ _ f))
        go true false e f = simp (e, f) put_back
        go false t e f = absurd (eqb-false _ _ e (was_zero o.r (omega arith) (omega arith)))

-- whether it took them or not
claim_back : (o : Operation) (b : List ℕ) → ClaimOnBoard o → (k : ℕ) → o.r ≤ k → k < o.r + span o → k < length b
    → get_or (claim-restored o b (exec o b)) k 0 ≡ get_or b k 0
claim_back o b claim k low high inside = go (ℕ_discrete (lowest_held o b) 0)
  where
    go : Dec (lowest_held o b ≡ 0) → get_or (claim-restored o b (exec o b)) k 0 ≡ get_or b k 0
    go (yes free) =
        ap (λ c. get_or (claim-restored o b c) k 0) (sym (executed_claim_all o b claim.on claim.code free).effect)
        ∙ claim_taken o b free k low high inside
    go (no held) =
        ap (λ c. get_or (claim-restored o b c) k 0) (sym (executed_no_claim_all o b claim.on claim.code held).effect)
        ∙ ap (λ c. get_or c k 0) (claim_not_taken o b)

-- ---- every operation

-- one of three is what is put back: off the board, after a claim of registers together, and after any other operation
module _ (o : Operation) (b c : List ℕ) (P : List ℕ → Type 0) where
  restored_either : (off_board o ≡ true → P c) → (ClaimOnBoard o → P (claim-restored o b c))
      → (eqb o.code code_claim_all ≡ false → P (r_q_back b c o.r o.q)) → P (restored o (saved_of o b) c)
  unfolding restored saved_of
  restored_either off-board claim other = go (off_board o) (eqb o.code code_claim_all) refl refl
    where
      go : (s t : Bool) → off_board o ≡ s → eqb o.code code_claim_all ≡ t → P (restored o (saved_of o b) c)
      go true t off e = simp off (off-board off)
      go false true on e = simp (on, e) (claim (record { on = on; code = eqb-true _ _ e }))
      go false false on e = simp (on, e) (other e)

-- as many registers
restored-length : (o : Operation) (b c : List ℕ) → length (restored o (saved_of o b) c) ≡ length c
unfolding all_set
restored-length o b c =
    let as_many : List ℕ → Type 0 = λ d. length d ≡ length c in
    restored_either o b c as_many (λ off. refl)
    (λ claim. either as_many (not_taken o (saved o b) c) (λ e. refl) (λ e. length-sets c o.r (replicate (span o) (get_or b o.q 0))))
    (λ other. simp length-set)

-- a register that the operation does not touch and that is as it was stays so
pub restored_frame : (o : Operation) (b c : List ℕ) (k : ℕ) → Untouched o k → get_or c k 0 ≡ get_or b k 0
    → get_or (restored o (saved_of o b) c) k 0 ≡ get_or b k 0
restored_frame o b c k apart same =
    restored_either o b c (λ d. get_or d k 0 ≡ get_or b k 0) (λ off. same)
    (λ claim. claim_frame o b c claim k apart same)
    (λ other. r_q_frame b c o.r o.q k same)

-- register k of c is as in b
abbrev Back : List ℕ → List ℕ → ℕ → Type 0
Back b c k = k < length b → get_or c k 0 ≡ get_or b k 0

-- every register that it touches is as it was
restored-touched : (o : Operation) (b : List ℕ) → All (Back b (restored o (saved_of o b) (exec o b))) (touched o)
restored-touched o b =
    let c = exec o b in
    restored_either o b c (λ d. All (Back b d) (touched o)) (λ off. rw (touched_off o off) tt)
    (λ claim. rw (touched_together o claim) (all_from (Back b (claim-restored o b c)) (span o) o.r (claim_back o b claim)))
    (λ other.
    touches_r_q o (Back b (r_q_back b c o.r o.q)) other
    (λ inside. r_back b c o.r o.q (omega (arith, exec-length o b)))
    (λ inside. q_back b c o.r o.q (omega (arith, exec-length o b))))

-- what was saved before an operation, put back after it, gives the registers from before
pub rolled_back_is : (o : Operation) (b : List ℕ) → restored o (saved_of o b) (exec o b) ≡ b
rolled_back_is o b =
    let back = restored o (saved_of o b) (exec o b) in
    let long = restored-length o b (exec o b) ∙ exec-length o b in
    ext_get_or 0 back b long (λ k h.
    all_or_other (Back b back) (touched o) k (restored-touched o b)
    (λ apart inside. restored_frame o b (exec o b) k apart (exec_frame o b k apart))
    (subst (λ (l : ℕ). k < l) long h))
