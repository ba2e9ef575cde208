-- Where our definitions word a step otherwise than Creek's Algorithm 1, both come to the same: the insertion [37 to 39], a made context
-- [19], the common start as the longest common prefix [43], what falls out of order [44] and what is to be executed [46].
use Prim.Native.Nat.{ℕ, ◌+◌, ◌≤◌}
use native.Mathlib.Omega.{arith}
use mathlib.Core.Path.{◌≡◌, refl, sym, ap, ◌∙◌}
use mathlib.Core.Bool.{Bool, true, false, not, ◌&&◌, cond}
use mathlib.Core.List.{List, [], ◌∷◌, ◌++◌, reverse}
use lib.ListN.{length, take, drop, length-take, take-append-drop}
use borrow.Author.Tests.{le-leb, lt-leb, not-false}
use Rattle.numbers.specs.declared.Number.{Number}
use Rattle.request.specs.declared.Request.{Request}
use Rattle.sets.specs.Sets.{empty_set, member}
use Rattle.request.specs.Order.{before}
use Rattle.request.specs.Request.{same_request}
use Rattle.lists.proofs.BoolLaws.{true_not_false}
use Rattle.numbers.proofs.NumberLaws.{same_number_self}
use Rattle.request.proofs.OrderLaws.{before_irreflexive, before_transitive, before_total}
use Rattle.request.proofs.EqualityLaws.{same_request_sound, same_request_self}
use Rattle.creek.specs.declared.Invocation.{Invocation}
use Rattle.lists.specs.Lists.{count, some_passes, cons_if, keep, common_start, Ordered}
use Rattle.creek.specs.Plan.{Plan, has_number, last_clock, placed, without, later, at_least, made}
use Rattle.creek.specs.Execution.{Execution, adjusted}
use Rattle.creek.proofs.ContextLaws.{member-without}
use Rattle.lists.proofs.ListLaws.{first_ordered, rest_ordered, one_true, one_false, one_zero, count-append, count_implies}
use Rattle.lists.proofs.ListLaws.{count_weaker, keep_append}
use Rattle.lists.proofs.ListLaws.{keep-nothing, keep_everything, common_start_most, common_start_both, common_start_longest}

-- ---- insertion: what is before the request, the request, what comes after it [37 to 39]

-- the requests of l that are before x, and those that x is before
abbrev pub previous : Request → List Request → List Request
previous x l = keep (λ y. before y x) l

abbrev pub subsequent : Request → List Request → List Request
subsequent x l = keep (before x) l

pub placed_between : (x : Request) (l : List Request) → count (has_number x.number) l ≡ 0 → Ordered before l
    → placed x l ≡ previous x l ++ x ∷ subsequent x l
placed_between x [] absent o = refl
placed_between x (y ∷ ys) absent o =
    step (before x y) (before y x) refl refl (placed_between x ys (omega arith) (rest_ordered before o))
  where
    none_before : before y x ≡ false → previous x ys ≡ []
    none_before f =
        keep-nothing (λ z. before z x) ys (omega (
          arith,
          first_ordered before o,
          count_implies (λ z. before z x) (λ z. not (before y z)) (λ z. not (before y z))
              (λ z g t. true_not_false (before_transitive y z x (not-false _ g) t) f) ys,
        ))

    all_after : before x y ≡ true → subsequent x ys ≡ ys
    all_after e =
        keep_everything (before x) ys (omega (
          arith,
          first_ordered before o,
          count_implies (λ z. not (before x z)) (λ z. not (before y z)) (λ z. not (before y z))
              (λ z g t. true_not_false t (ap not (before_transitive x y z e (not-false _ g)))) ys,
        ))

    step : (b c : Bool) → before x y ≡ b → before y x ≡ c → placed x ys ≡ previous x ys ++ x ∷ subsequent x ys
        → cond b (x ∷ y ∷ ys) (y ∷ placed x ys) ≡ cons_if c y (previous x ys) ++ x ∷ cons_if b y (subsequent x ys)
    step true true e f ih = true_not_false (before_transitive x y x e f) (before_irreflexive x)
    step true false e f ih =
        let none : previous x ys ≡ [] = none_before f in
        let all : subsequent x ys ≡ ys = all_after e in
        cc
    step false true e f ih = cc
    step false false e f ih = true_not_false (before_total x y e f) (one_zero (has_number x.number y) (omega arith))

-- ---- the context of a strong request that is made: causalCtx without the tentative requests that it is before [19]

pub made_names : (a : Plan) (i : Invocation) (n : Number) → i.asked.strong ≡ true
    → member (made a i).context n ≡ (member a.known n && not (some_passes (has_number n) (subsequent (made a i) a.tentative)))
unfolding made at_least before
made_names a i n strong =
    let others = later a (at_least (last_clock a) i) in
    ap (λ (b : Bool). member (cond b (without a.known others) empty_set) n) strong ∙ member-without a.known others n

-- ---- adjusting

-- x is not in l
abbrev pub not_in : List Request → Request → Bool
not_in l x = not (some_passes (same_request x) l)

-- the elements of s are in s
members : (u s : List Request) → ((q : Request → Bool) → count q u ≤ count q s) → count (not_in s) u ≡ 0
members [] s h = refl
members (x ∷ xs) s h =
    omega (
      arith,
      members xs s (λ q. omega (arith, h q)),
      one_false (ap not (le-leb 1 (count (same_request x) s) (omega (arith, h (same_request x), one_true (same_request_self x))))),
    )

-- what has no element of s is wholly not in it
strangers : (s u : List Request) → ((x : Request) → count (same_request x) s + count (same_request x) u ≤ 1)
    → count (λ x. not (not_in s x)) u ≡ 0
strangers s [] h = refl
strangers s (x ∷ xs) h =
    omega (
      arith,
      strangers s xs (λ y. omega (arith, h y)),
      one_false (ap (λ (b : Bool). not (not b)) (lt-leb 1 (count (same_request x) s) (omega (arith, h x, one_true (same_request_self x))))),
    )

-- of a list without repetition, what is not in its start is the rest
rest_is : (s t : List Request) → ((n : Number) → count (has_number n) (s ++ t) ≤ 1) → keep (not_in s) (s ++ t) ≡ t
rest_is s t distinct =
    keep_append (not_in s) s t
    ∙ ap (λ (l : List Request). l ++ keep (not_in s) t) (keep-nothing (not_in s) s (members s s (λ q. omega arith)))
    ∙ keep_everything (not_in s) t (strangers s t once)
  where
    alike : (x y : Request) → same_request x y ≡ true → has_number x.number y ≡ true
    alike x y e = ap (λ (z : Request). has_number x.number z) (sym (same_request_sound x y e)) ∙ same_number_self x.number

    once : (x : Request) → count (same_request x) s + count (same_request x) t ≤ 1
    once x =
        omega (
          arith,
          distinct x.number,
          count-append (same_request x) s t,
          count_weaker (same_request x) (has_number x.number) (alike x) (s ++ t),
        )

rest_at : (k : ℕ) (l : List Request) → ((n : Number) → count (has_number n) l ≤ 1) → keep (not_in (take k l)) l ≡ drop k l
rest_at k l distinct =
    ap (keep (not_in (take k l))) (sym (take-append-drop k l))
    ∙ rest_is (take k l) (drop k l) (λ n. omega (arith, distinct n, ap (count (has_number n)) (take-append-drop k l)))

module _ (order : List Request) (e : Execution)
    (order_distinct : (n : Number) → count (has_number n) order ≤ 1)
    (executed-distinct : (n : Number) → count (has_number n) e.executed ≤ 1) where
  -- outOfOrder = [x | x ∈ executed ∧ x ∉ inOrder], and toBeRolledBack · reverse(outOfOrder) [44, 47]
  pub out_of_order : (adjusted order e).rollback ≡ e.rollback ++ reverse (keep (not_in (adjusted order e).executed) e.executed)
  unfolding adjusted
  out_of_order =
      let k = common_start same_request e.executed order in
      ap (λ (l : List Request). e.rollback ++ reverse l) (sym (rest_at k e.executed executed-distinct))

  -- toBeExecuted = [x | x ∈ newOrder ∧ x ∉ executed] [46]
  pub to_be_executed : (adjusted order e).todo ≡ keep (not_in (adjusted order e).executed) order
  unfolding adjusted
  to_be_executed =
      let k = common_start same_request e.executed order in
      sym (rest_at k order order_distinct)
      ∙ ap (λ (l : List Request). keep (not_in l) order) (sym (common_start_both same_request same_request_sound e.executed order))

-- inOrder = longestCommonPrefix(executed, newOrder) [43]: a start of both, and no longer one is
pub in_order : (order : List Request) (e : Execution) (k : ℕ) → k ≤ length e.executed → k ≤ length order
    → take k e.executed ≡ take k order
    → k ≤ length (adjusted order e).executed
unfolding adjusted
in_order order e k h l same =
    omega (
      arith,
      common_start_longest same_request same_request_self k e.executed order h l same,
      common_start_most same_request e.executed order,
      length-take (common_start same_request e.executed order) e.executed,
    )
