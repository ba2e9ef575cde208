-- Claims of registers together (`specs/Claims`): the theorems `same_as_plain_claim`, `all_or_none` and `never_one_each`.
use Prim.Native.Nat.{ℕ, suc, ◌+◌, ◌≤◌, ◌<◌}
use native.Mathlib.Decide.{ℕ_discrete}
use native.Mathlib.Omega.{arith}
use mathlib.Core.Path.{◌≡◌, refl, sym, ap, ◌∙◌}
use mathlib.Core.Logic.{◌≢◌}
use mathlib.Core.Bool.{Bool, true, false, ◌||◌, or-false}
use mathlib.Core.List.{List}
use lib.ListN.{length, get_or, set}
use lib.Dec.{ltb, eqb}
use borrow.Author.Tests.{eqb-true, eqb-false, not-true, le-ltb}
use Rattle.lists.proofs.BoolLaws.{both_true, neither_true}
use Rattle.request.specs.declared.Operation.{Operation}
use Rattle.request.specs.Operations.{code_claim_all, last_register, most_claimed, span, bad_operation}
use Rattle.effects.specs.Effect.{off_board, lowest_held, all_set, exec, response, Executed}
use Rattle.effects.specs.internal.OnBoard.{ClaimOnBoard}
use Rattle.effects.specs.Claims.{claim_all, plain_claim, Among, SameAsPlainClaim, TakesAllOrNone, good_claim, NeverOneEach}
use Rattle.effects.proofs.SpanLaws.{held_one, all_zero_lem, none_held, lowest-held, set_inside}
use Rattle.effects.proofs.TouchedLaws.{untouched_outside}
use Rattle.effects.proofs.RegisterLaws.{on_board_is, executed_off, executed-claim, executed_no_claim, executed_claim_all}
use Rattle.effects.proofs.RegisterLaws.{executed_no_claim_all, exec-length, exec_frame}

-- ---- what makes a claim bad

-- one of registers together
bad-claim : (o : Operation) → o.code ≡ code_claim_all
    → bad_operation o ≡ off_board o || (ltb o.q o.r || ltb most_claimed (span o) || eqb o.amount 0)
unfolding bad_operation off_board
bad-claim o e = rw e (simp or-false)

-- a plain one
bad_plain_claim : (r v : ℕ) → bad_operation (plain_claim r v) ≡ off_board (plain_claim r v) || eqb v 0
unfolding bad_operation off_board
bad_plain_claim r v = simp or-false

-- ---- one register

-- two operations with the same outcome on the registers b
same_outcome : {o p : Operation} {b b' : List ℕ} {x : ℕ} → Executed o b b' x → Executed p b b' x
    → (exec o b ≡ exec p b) × (response o b ≡ response p b)
same_outcome h g = (sym h.effect ∙ g.effect, sym h.response ∙ g.response)

-- a test asked twice
twice : (t : Bool) → t || t ≡ t || false
twice true = refl
twice false = refl

module _ (r v : ℕ) (b : List ℕ) where
  abbrev alone : Operation
  alone = claim_all r r v

  abbrev plain : Operation
  plain = plain_claim r v

  one_register : span alone ≡ 1
  one_register = omega arith

  one_set : all_set alone v b ≡ set b r v
  unfolding all_set
  one_set = simp one_register

  one-held : lowest_held alone b ≡ get_or b r 0
  unfolding lowest_held
  one-held = rw one_register (held_one r b)

  same-board : off_board alone ≡ off_board plain
  unfolding off_board
  same-board = twice (ltb last_register r)

  same_executed : (t : Bool) → off_board plain ≡ t → Dec (get_or b r 0 ≡ 0)
      → (exec alone b ≡ exec plain b) × (response alone b ≡ response plain b)
  same_executed true off d = same_outcome (executed_off alone b (same-board ∙ off)) (executed_off plain b off)
  same_executed false on (yes free) =
      same_outcome (rw (← one_set) (executed_claim_all alone b (same-board ∙ on) refl (one-held ∙ free)))
      (executed-claim plain b on refl free)
  same_executed false on (no held) =
      same_outcome (rw (← one-held) (executed_no_claim_all alone b (same-board ∙ on) refl (λ e. held (sym one-held ∙ e))))
      (executed_no_claim plain b on refl held)

  same_bad : bad_operation alone ≡ bad_operation plain
  same_bad = bad-claim alone refl ∙ rw (one_register, le-ltb r r (omega arith), same-board) (sym (bad_plain_claim r v))

  pub same_as_plain_claim : SameAsPlainClaim r v b
  same_as_plain_claim =
      let same = same_executed (off_board plain) refl (ℕ_discrete (get_or b r 0) 0) in
      record { effect = same.0; response = same.1; bad = same_bad }

-- ---- all or none

module _ (o : Operation) (b : List ℕ) (claim : ClaimOnBoard o) where
  -- a register of r to q is one of as many from r on as they are
  among : (k : ℕ) → Among o k → k < o.r + span o
  among k within = omega arith

  free : ((k : ℕ) → Among o k → get_or b k 0 ≡ 0) → lowest_held o b ≡ 0
  unfolding lowest_held
  free zeros = none_held _ _ b (λ k low high. zeros k (low, omega arith))

  not_free : (k : ℕ) → Among o k → get_or b k 0 ≢ 0 → lowest_held o b ≢ 0
  unfolding lowest_held
  not_free k within held z = held (all_zero_lem _ _ b z k within.0 (among k within))

  takes : lowest_held o b ≡ 0 → Executed o b (all_set o o.amount b) o.amount
  takes = executed_claim_all o b claim.on claim.code

  finds-held : lowest_held o b ≢ 0 → Executed o b b (lowest_held o b)
  finds-held = executed_no_claim_all o b claim.on claim.code

  -- where all were 0, each of them is v afterwards
  each_taken : length b ≡ suc last_register → lowest_held o b ≡ 0 → (k : ℕ) → Among o k → get_or (exec o b) k 0 ≡ o.amount
  unfolding all_set
  each_taken long z k within =
      let inside : k < length b = omega (arith, (on_board_is o claim.on).q) in
      sym (ap (λ c. get_or c k 0) (takes z).effect) ∙ set_inside (span o) o.r o.amount b k within.0 (among k within) inside

  held_value : (k : ℕ) → Among o k → get_or b k 0 ≢ 0 → ((j : ℕ) → o.r ≤ j → j < k → get_or b j 0 ≡ 0) → lowest_held o b ≡ get_or b k 0
  unfolding lowest_held
  held_value k within held before = lowest-held _ _ b k within.0 (among k within) held before

pub all_or_none : (o : Operation) (b : List ℕ) → TakesAllOrNone o b
all_or_none o b claim long = record {
  all = λ zeros. each_taken o b claim long (free o b claim zeros);
  all_responds = λ zeros. sym (takes o b claim (free o b claim zeros)).response;
  none = λ k within held. sym (finds-held o b claim (not_free o b claim k within held)).effect;
  none_responds = λ k within held before.
      sym (finds-held o b claim (not_free o b claim k within held)).response ∙ held_value o b claim k within held before;
  outside = λ k apart. exec_frame o b k (untouched_outside o claim k apart);
}

-- ---- two claims

-- what is known of a good one
record GoodClaim (o : Operation) : Type 0 where
  claim : ClaimOnBoard o
  amount : o.amount ≢ 0

good-claim : (o : Operation) → good_claim o ≡ true → GoodClaim o
unfolding good_claim
good-claim o e =
    let parts = both_true (eqb o.code code_claim_all) _ e in
    let code = eqb-true _ _ parts.0 in
    let good = neither_true (off_board o) _ (sym (bad-claim o code) ∙ not-true _ parts.1) in
    let tests = neither_true (ltb o.q o.r || ltb most_claimed (span o)) _ good.1 in
    record { claim = record { on = good.0; code = code }; amount = eqb-false _ _ tests.1 }

-- after the first claim the shared register holds its amount, unless it changed nothing
never_second : (first second : Operation) (b : List ℕ) → GoodClaim first → GoodClaim second → length b ≡ suc last_register
    → (k : ℕ) → Among first k → Among second k → exec first b ≢ b → Dec (lowest_held first b ≡ 0)
    → exec second (exec first b) ≡ exec first b
never_second first second b one two long k in_first in-second changed (yes free) =
    let taken = each_taken first b one.claim long free k in_first in
    (all_or_none second (exec first b) two.claim (exec-length first b ∙ long)).none k in-second (λ e. one.amount (sym taken ∙ e))
never_second first second b one two long k in_first in-second changed (no held) =
    absurd (changed (sym (finds-held first b one.claim held).effect))

pub never_one_each : (first second : Operation) (b : List ℕ) → NeverOneEach first second b
never_one_each first second b long good-first good-second k in_first in-second changed =
    never_second first second b (good-claim first good-first) (good-claim second good-second) long k in_first in-second changed
    (ℕ_discrete (lowest_held first b) 0)
