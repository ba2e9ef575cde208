-- What every operation keeps, shown for one operation after the other: the number of registers, those that it does not touch, and the
-- range of their values. `RegisterLaws` has these as laws of their own.
use Prim.Native.Nat.{ℕ, zero, suc, ◌<◌}
use native.Mathlib.Nat.{mod-lt}
use native.Mathlib.Omega.{arith}
use mathlib.Core.Path.{◌≡◌, refl, ◌∙◌}
use mathlib.Core.Logic.{◌≢◌}
use mathlib.Core.List.{List, [], ◌∷◌}
use lib.ListN.{length, get_or, set, length-set, replicate}
use lib.Seq.{get_or-set_other, sets, length-sets}
use lib.Dec.{eqb}
use Rattle.lists.specs.Places.{All}
use Rattle.lists.proofs.BoolLaws.{either, either_both}
use Rattle.request.specs.declared.Operation.{Operation}
use Rattle.request.specs.Operations.{code_set, code_add, code_claim, code_move, code_claim_all, span}
use Rattle.effects.specs.Effect.{range, off_board, added, claimed, moved, lowest_held, all_set, all_claimed, exec}
use Rattle.effects.specs.Touched.{registers_from, touched}
use Rattle.effects.proofs.AmountLaws.{least_of_three}
use Rattle.effects.proofs.SpanLaws.{each_from, set_outside}

-- ---- writing registers of a list

-- every register is in range
abbrev pub InRange : List ℕ → Type 0
InRange b = (k : ℕ) → get_or b k 0 < range

-- from the registers b to c only those of ts have changed, and c is in range where b and the amount are
pub record Keeps (o : Operation) (b ts c : List ℕ) : Type 0 where
  pub count : length c ≡ length b
  pub others : (k : ℕ) → All (λ i. k ≢ i) ts → get_or c k 0 ≡ get_or b k 0
  pub in_range : o.amount < range → InRange b → InRange c

in-range-set : (b : List ℕ) (i v : ℕ) → v < range → InRange b → InRange (set b i v)
in-range-set [] i v h g k = g k
in-range-set (x ∷ xs) zero v h g zero = h
in-range-set (x ∷ xs) zero v h g (suc k) = g (suc k)
in-range-set (x ∷ xs) (suc i) v h g zero = g zero
in-range-set (x ∷ xs) (suc i) v h g (suc k) = in-range-set xs i v h (λ j. g (suc j)) k

in_range_sets : (n i v : ℕ) (b : List ℕ) → v < range → InRange b → InRange (sets b i (replicate n v))
in_range_sets zero i v b h g = g
in_range_sets (suc n) i v b h g = in_range_sets n (suc i) v (set b i v) h (in-range-set b i v h g)

module _ (o : Operation) (b : List ℕ) where
  keeps_same : (ts : List ℕ) → Keeps o b ts b
  keeps_same ts = record { count = refl; others = λ k apart. refl; in_range = λ a g. g }

  keeps-set : {ts c : List ℕ} (i v : ℕ) → ((k : ℕ) → All (λ j. k ≢ j) ts → k ≢ i) → (o.amount < range → InRange b → v < range)
      → Keeps o b ts c → Keeps o b ts (set c i v)
  keeps-set {ts} {c} i v one-of-them small h =
      record {
        count = length-set c i v ∙ h.count;
        others = λ k apart. get_or-set_other c i k v 0 (one-of-them k apart) ∙ h.others k apart;
        in_range = λ a g. in-range-set c i v (small a g) (h.in_range a g);
      }

  keeps_r : (v : ℕ) → (o.amount < range → InRange b → v < range) → Keeps o b (o.r ∷ []) (set b o.r v)
  keeps_r v small = keeps-set o.r v (λ k apart. apart.0) small (keeps_same (o.r ∷ []))

  -- ---- one operation after the other

  set_keeps : Keeps o b (o.r ∷ []) (set b o.r o.amount)
  set_keeps = keeps_r o.amount (λ a g. a)

  add_keeps : Keeps o b (o.r ∷ []) (set b o.r (added o b))
  unfolding added
  add_keeps = keeps_r _ (λ a g. mod-lt _ (omega arith))

  claim_keeps : Keeps o b (o.r ∷ []) (set b o.r (claimed o b))
  unfolding claimed
  claim_keeps = keeps_r _ (λ a g. either (λ v. v < range) (eqb (get_or b o.r 0) 0) (λ e. a) (λ e. g o.r))

  move_keeps : Keeps o b (o.r ∷ o.q ∷ []) (moved o b)
  unfolding moved
  move_keeps =
      keeps-set o.q _ (λ k apart. apart.1.0) (λ a g. (least_of_three o b).fits (g o.q))
      (keeps-set o.r _ (λ k apart. apart.0) (λ a g. omega (arith, g o.r)) (keeps_same (o.r ∷ o.q ∷ [])))

  all_set_keeps : Keeps o b (registers_from (span o) o.r) (all_set o o.amount b)
  unfolding all_set
  all_set_keeps = record {
    count = length-sets b o.r (replicate (span o) o.amount);
    others = λ k apart.
        set_outside (span o) o.r o.amount b k (λ low high. each_from (λ i. k ≢ i) (span o) o.r apart k low high refl);
    in_range = in_range_sets (span o) o.r o.amount b;
  }

  claim_all_keeps : Keeps o b (registers_from (span o) o.r) (all_claimed o b)
  unfolding all_claimed
  claim_all_keeps =
      either (Keeps o b (registers_from (span o) o.r)) (eqb (lowest_held o b) 0) (λ e. all_set_keeps) (λ e. keeps_same _)

  pub exec_keeps : Keeps o b (touched o) (exec o b)
  unfolding exec touched
  exec_keeps =
      either_both (Keeps o b) (off_board o) (keeps_same _)
      (either_both (Keeps o b) (eqb o.code code_set) set_keeps
      (either_both (Keeps o b) (eqb o.code code_add) add_keeps
      (either_both (Keeps o b) (eqb o.code code_claim) claim_keeps
      (either_both (Keeps o b) (eqb o.code code_move) move_keeps
      (either_both (Keeps o b) (eqb o.code code_claim_all) claim_all_keeps
      (keeps_same _))))))
