-- Requests written by slot are read back: of requests that are held in a shop and fit, and of every list of some of them; and the set of
-- their numbers counts them.
use Prim.Native.Nat.{ℕ, ◌+◌, ◌≤◌}
use native.Mathlib.Omega.{arith}
use mathlib.Core.Path.{◌≡◌, refl, sym, ap, ◌∙◌}
use mathlib.Core.Bool.{Bool, true, false, ◌||◌}
use mathlib.Core.List.{List, [], ◌∷◌, map}
use mathlib.Core.Option.{some}
use lib.ListN.{length, get_or}
use lib.Dec.{eqb}
use Rattle.lists.specs.Lists.{one, count, find}
use Rattle.lists.specs.Places.{All}
use Rattle.lists.proofs.ListLaws.{one_zero, one_true, find-one}
use Rattle.sets.specs.declared.Context.{Context}
use Rattle.numbers.specs.declared.Number.{Number}
use Rattle.request.specs.declared.Request.{Request}
use Rattle.numbers.specs.Numbers.{most_panels, same_number, clock_reading}
use Rattle.numbers.specs.internal.Slots.{GoodNumber, number_of}
use Rattle.numbers.proofs.NumberLaws.{good-number, same_number_self, same_number_sym, slot_fits, number_of_slot}
use Rattle.sets.specs.Sets.{set_of, member}
use Rattle.sets.proofs.SetLaws.{member_empty, member-join, join-length}
use Rattle.request.specs.Request.{same_request}
use Rattle.request.proofs.EqualityLaws.{same_request_sound, same_request_self}
use Rattle.ordering.specs.Slots.{most_slots, IsSlot}
use Rattle.ordering.proofs.SlotLaws.{same_slot}
use Rattle.store.specs.Requests.{word_of, asked_in, context_at, request_at}
use Rattle.store.proofs.WordLaws.{asked-read}
use Rattle.creek.specs.Plan.{has_number}
use Rattle.creek.specs.internal.Sound.{is_bad, Held}
use Rattle.creek.proofs.HeldLaws.{Good, good-request, widened}
use Rattle.existence.specs.Memory.{or_none, at_slot, slot_in, number_set, clocks_of, asked_of, contexts_of}
use Rattle.existence.specs.Existence.{RequestFits}
use Rattle.existence.proofs.TableLaws.{table_at, words_at_lem}
use Rattle.existence.proofs.WidthLaws.{is_wide, fits, narrow}

-- two tests of which at most one is met
either-one : (a b : Bool) → one a + one b ≤ 1 → one a + one b ≡ one (a || b)
either-one true true few = absurd (omega arith)
either-one true false few = refl
either-one false true few = refl
either-one false false few = refl

-- ---- requests held

module _ {panels own : ℕ} {known : Context} {l : List Request} (h : Held panels own known l) (fit : count is_wide l ≡ 0) where
  -- m is a list of some of them
  abbrev pub Among : List Request → Type 0
  Among m = (test : Request → Bool) → count test m ≤ count test l

  module _ (x : Request) (xs : List Request) (among : Among (x ∷ xs)) where
    good : Good panels x
    good = good-request panels x (one_zero (is_bad panels x) (omega (arith, h.good, among (is_bad panels))))

    fitting : RequestFits x
    fitting = fits x (one_zero (is_wide x) (omega (arith, fit, among is_wide)))

    number_good : GoodNumber most_panels x.number
    number_good = widened h.few_panels (good-number panels x.number good.number)

    found : find (has_number x.number) l ≡ some x
    found =
        find-one same_request same_request_sound same_request_self (has_number x.number) x l (same_number_self x.number)
        (omega (arith, among (same_request x), one_true (same_request_self x))) (h.distinct x.number)

    at_slot_lem : at_slot l (slot_in x) ≡ x
    at_slot_lem =
        ap (λ (n : Number). or_none (find (has_number n) l)) (number_of_slot x.number number_good)
        ∙ ap or_none found

    slot_is : IsSlot (slot_in x)
    slot_is = slot_fits x.number number_good

    read_back : request_at (clocks_of l) (asked_of l) (contexts_of l) (slot_in x) ≡ x
    unfolding request_at context_at
    read_back =
        let number = number_of_slot x.number number_good in
        let clock : get_or (clocks_of l) (slot_in x) 0 ≡ x.clock.0 =
        table_at most_slots _ (slot_in x) slot_is ∙ ap (λ (y : Request). y.clock.0) at_slot_lem in
        let asked : asked_in (get_or (asked_of l) (slot_in x) 0) ≡ x.asked =
        ap asked_in (table_at most_slots _ (slot_in x) slot_is ∙ ap (λ (y : Request). word_of y.asked) at_slot_lem)
        ∙ asked-read x.asked (narrow x.asked good.asked fitting.amount) in
        let words = words_at_lem (λ slot. (at_slot l slot).context.words) (slot_in x) slot_is
        (ap (λ (y : Request). length y.context.words) at_slot_lem ∙ fitting.words)
        ∙ ap (λ (y : Request). y.context.words) at_slot_lem in
        λ i. record { number = number i; clock = clock_reading (clock i); asked = asked i; context = set_of (words i) }

    fewer : Among xs
    fewer test = omega (arith, among test)

  pub all_read_back : (m : List Request) → Among m → map (request_at (clocks_of l) (asked_of l) (contexts_of l)) (map slot_in m) ≡ m
  all_read_back [] among = refl
  all_read_back (x ∷ xs) among = λ i. read_back x xs among i ∷ all_read_back xs (fewer x xs among) i

  pub all_slots : (m : List Request) → Among m → All IsSlot (map slot_in m)
  all_slots [] among = tt
  all_slots (x ∷ xs) among = (slot_is x xs among, all_slots xs (fewer x xs among))

  -- ---- the set of their numbers

  pub numbers-length : (m : List Request) → length (number_set m).words ≡ most_panels
  unfolding number_set
  numbers-length [] = refl
  numbers-length (x ∷ xs) = join-length (number_set xs) x.number ∙ numbers-length xs

  counted : (n : Number) (m : List Request) → Among m → count (has_number n) m ≡ one (member (number_set m) n)
  unfolding number_set
  counted n [] among = sym (ap one (member_empty n))
  counted n (x ∷ xs) among =
      let others = counted n xs (fewer x xs among) in
      ap (λ (k : ℕ). one (has_number n x) + k) others
      ∙ either-one (has_number n x) (member (number_set xs) n) (omega (arith, others, among (has_number n), h.distinct n))
      ∙ ap (λ (b : Bool). one (b || member (number_set xs) n)) (same_number_sym n x.number)
      ∙ ap one (sym (member-join (number_set xs) x.number n (numbers-length xs) (number_good x xs among)))

  by_slot : (slot : ℕ) → IsSlot slot → (m : List Request) → Among m
      → count (eqb slot) (map slot_in m) ≡ count (has_number (number_of slot)) m
  by_slot slot is [] among = refl
  by_slot slot is (x ∷ xs) among =
      let same : eqb slot (slot_in x) ≡ has_number (number_of slot) x =
      sym (same_slot slot (slot_in x) is (slot_is x xs among))
      ∙ ap (same_number (number_of slot)) (number_of_slot x.number (number_good x xs among)) in
      λ i. one (same i) + by_slot slot is xs (fewer x xs among) i

  pub slots-counted : (m : List Request) → Among m → (slot : ℕ) → IsSlot slot
      → count (eqb slot) (map slot_in m) ≡ one (member (number_set m) (number_of slot))
  slots-counted m among slot is = by_slot slot is m among ∙ counted (number_of slot) m among
