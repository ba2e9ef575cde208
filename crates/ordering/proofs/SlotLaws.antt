-- Laws of slots: a part of an order, the common start of two lists, room for one more; slots and their numbers, membership by words;
-- clock order; a set without some slots.
use Prim.Native.Nat.{ℕ, ◌+◌, ◌-◌, ◌*◌, ◌/◌, ◌%◌, ◌^◌, ◌≤◌, ◌<◌}
use native.Mathlib.Omega.{arith}
use native.Mathlib.Nat.{one-mul, zero-mul, mod-eq_of_lt, mod-lt, zero-lt-suc, pow-suc}
use native.Mathlib.Numerals.{add-one, one-add}
use mathlib.Core.Path.{◌≡◌, refl, sym, ap, ◌∙◌}
use mathlib.Core.Bool.{Bool, true, false, cond}
use mathlib.Core.List.{List, ◌∷◌}
use lib.ListN.{length, take, get_or, set}
use lib.Seq.{slice, slice-cons, slice_empty, set-get_or}
use lib.Bits.{bit_and, bit_xor, xor_zero_r, and_high}
use lib.Pow.{pow-lt}
use lib.Dec.{eqb, ltb}
use borrow.Author.Tests.{eq-eqb, ne_eqb, eqb-true, eqb-false, lt-ltb, ltb-true, ltb-false}
use Rattle.lists.specs.Lists.{one, count, common_start}
use Rattle.lists.specs.Places.{All}
use Rattle.lists.proofs.BoolLaws.{same_test}
use Rattle.lists.proofs.ListLaws.{count_all, count_never, pigeonhole}
use Rattle.lists.proofs.MapLaws.{count_agree}
use Rattle.lists.proofs.AllLaws.{all_of, all_weaken, all_drop, all_slice_at}
use Rattle.lists.proofs.StartLaws.{common_start_from, common_start_until}
use Rattle.sets.specs.declared.Context.{Context}
use Rattle.request.specs.declared.Request.{Request}
use Rattle.numbers.specs.Numbers.{same_number, most_panels, most_events}
use Rattle.numbers.specs.internal.Slots.{GoodNumber, number_of, slot_of}
use Rattle.request.specs.Order.{before}
use Rattle.sets.specs.Sets.{set_of, bit, word_for, mask_of, member, leave}
use Rattle.numbers.proofs.NumberLaws.{same_number_sound, same_number_self, slot_of_number, number_of_good, number_good}
use Rattle.request.proofs.OrderLaws.{before_by_slots}
use Rattle.sets.proofs.SetLaws.{member_is_bit}
use Rattle.ordering.specs.Slots.{most_slots, IsSlot, Part, ComparisonAsks, OrderAsks, comes_before, in_words, without}

-- ---- a part of an order

-- of the first n, which are slots, the places from..n are a part
pub part_of : (xs : List ℕ) (from n : ℕ) → from ≤ n → n ≤ most_slots → length xs ≡ most_slots → All IsSlot (take n xs)
    → Part xs from n
part_of xs from n low high long slots =
    record { rising = low; inside = high; long = long; slots = all_drop IsSlot from (take n xs) slots }

-- at each of its places stands a slot
pub part_slot : (xs : List ℕ) (from to i : ℕ) → Part xs from to → from ≤ i → i < to → IsSlot (get_or xs i 0)
part_slot xs from to i h low high = all_slice_at IsSlot from to i xs 0 h.slots low high (omega (arith, h))

-- which may be compared
pub comparison_asked : (clocks order : List ℕ) (from to i : ℕ) → OrderAsks clocks order from to → from ≤ i → i < to
    → ComparisonAsks clocks (get_or order i 0)
comparison_asked clocks order from to i h low high =
    record { clocks_long = h.clocks_long; slot = part_slot order from to i h.part low high }

-- ---- the common start

-- of two lists that agree up to `at`, the common start may be looked for from there on
pub common_from : (xs ys : List ℕ) (n m at : ℕ) → at ≤ n → at ≤ m → n ≤ length xs → m ≤ length ys → take at xs ≡ take at ys
    → at + common_start eqb (slice at n xs) (slice at m ys) ≡ common_start eqb (take n xs) (take m ys)
common_from = common_start_from eqb (λ x. eq-eqb x x refl)

-- of two lists that agree from `last` up to n, it may be looked for up to `last`: where it reaches that place, all the n are common
pub common_until : (xs ys : List ℕ) (n m last : ℕ) → last ≤ n → n ≤ m → n ≤ length xs → m ≤ length ys → slice last n xs ≡ slice last n ys
    → common_start eqb (take n xs) (take m ys)
    ≡ cond (eqb (common_start eqb (take last xs) (take m ys)) last) n (common_start eqb (take last xs) (take m ys))
common_until = common_start_until eqb (λ x. eq-eqb x x refl)

-- ---- room

eqb_sym : (s t : ℕ) → eqb s t ≡ eqb t s
eqb_sym s t = same_test _ _ (λ e. eq-eqb t s (sym (eqb-true s t e))) (λ e. eq-eqb s t (sym (eqb-true t s e)))

-- slots that each stand at most once in a list, which s is not in, leave room for s
module _ (l : List ℕ) (s : ℕ) (slots : All IsSlot l) (distinct : (t : ℕ) → IsSlot t → count (eqb t) l ≤ 1)
    (slot : IsSlot s) (absent : count (eqb s) l ≡ 0) where
  at_most_once : (k : ℕ) → count (eqb k) l ≤ 1
  at_most_once k = go (ltb k most_slots) refl
    where
      go : (b : Bool) → ltb k most_slots ≡ b → count (eqb k) l ≤ 1
      go true e = distinct k (ltb-true k most_slots e)
      go false e =
          let past = ltb-false k most_slots e in
          let none = count_agree (eqb k) (λ x. false) l (all_weaken (λ x h. ne_eqb k x (λ z. omega arith)) l slots) in
          omega (arith, none, count_never (λ (x : ℕ). false) (λ x. refl) l)

  distinct_with : (k : ℕ) → count (λ x. eqb x k) (s ∷ l) ≤ 1
  distinct_with k = go (eqb s k) refl
    where
      turned : count (λ x. eqb x k) l ≡ count (eqb k) l
      turned = count_agree (λ x. eqb x k) (eqb k) l (all_of (λ x. eqb_sym x k) l)

      go : (b : Bool) → eqb s k ≡ b → one b + count (λ x. eqb x k) l ≤ 1
      go true e = let here = ap (λ (t : ℕ). count (eqb t) l) (eqb-true s k e) in omega (arith, turned, here)
      go false e = omega (arith, turned, at_most_once k)

  pub room : length l < most_slots
  room =
      let below : count (λ x. ltb x most_slots) l ≡ length l =
      count_agree (λ x. ltb x most_slots) (λ x. true) l (all_weaken (λ x h. lt-ltb x most_slots h) l slots) ∙ count_all l in
      omega (arith, below, pigeonhole (λ x. x) (s ∷ l) distinct_with most_slots, ap one (lt-ltb s most_slots slot))

-- ---- slots and numbers

-- two slots have one number exactly where they are equal
pub same_slot : (s t : ℕ) → IsSlot s → IsSlot t → same_number (number_of s) (number_of t) ≡ eqb s t
same_slot s t hs ht =
    same_test _ _
    (λ e. eq-eqb s t (sym (slot_of_number s hs) ∙ ap slot_of (same_number_sound _ _ e) ∙ slot_of_number t ht))
    (λ e. ap (λ (u : ℕ). same_number (number_of s) (number_of u)) (sym (eqb-true s t e)) ∙ same_number_self (number_of s))

-- membership by words is membership of the slot's number
pub in_words_member : (s : Context) (t : ℕ) → IsSlot t → in_words s.words t ≡ member s (number_of t)
unfolding in_words number_of
in_words_member s t h =
    let bits : t % most_events + 1 - 1 ≡ t % most_events = omega arith in
    let panel : t / most_events % most_panels ≡ t / most_events = omega arith in
    sym (member_is_bit s (number_of t) (number_good _ _ (number_of_good t)) ∙ rw (bits, panel))

-- ---- clock order

-- of two requests, one with its slot, the other held in slot t with its clock in the table, it is clock order
pub comes-before-order : (x y : Request) (clocks : List ℕ) (t : ℕ) → GoodNumber most_panels x.number → IsSlot t
    → y.number ≡ number_of t → y.clock.0 ≡ get_or clocks t 0
    → before x y ≡ comes_before clocks x.clock.0 (slot_of x.number) t
unfolding comes_before
comes-before-order x y clocks t g h number clock =
    let good : GoodNumber most_panels y.number = rw number (number_of_good t) in
    let slot : slot_of y.number ≡ t = ap slot_of number ∙ slot_of_number t h in
    before_by_slots x y g good ∙ rw (clock, slot)

-- ---- a set without some slots

-- what a word has in common with its bit k
one_bit : (w k : ℕ) → bit_and w (2 ^ k) ≡ w / 2 ^ k % 2 * 2 ^ k
one_bit w k =
    let power : 2 ^ (1 + k) - 2 ^ k ≡ 2 ^ k = rw (one-add k) (omega (arith, pow-suc 2 k)) in
    ap (bit_and w) (sym power) ∙ and_high w 1 k

-- the word w less its bit k
bit_taken : (w k : ℕ) → k < most_events → (b : Bool) → bit k w ≡ b
    → bit_xor w (bit_and w (1 * 2 ^ k % 2 ^ most_events)) ≡ cond b (bit_xor w (2 ^ k)) w
unfolding bit
bit_taken w k small b e =
    rw (one-mul, mod-eq_of_lt (pow-lt {i = k} {j = most_events} small), one_bit w k) (go b e)
  where
    go : (b : Bool) → eqb (w / 2 ^ k % 2) 1 ≡ b → bit_xor w (w / 2 ^ k % 2 * 2 ^ k) ≡ cond b (bit_xor w (2 ^ k)) w
    go true e = rw (eqb-true (w / 2 ^ k % 2) 1 e, one-mul)
    go false e =
        let other = eqb-false (w / 2 ^ k % 2) 1 e in
        let clear : w / 2 ^ k % 2 ≡ 0 = omega (arith, other, mod-lt (w / 2 ^ k) (zero-lt-suc 1)) in
        rw (clear, zero-mul) (xor_zero_r w)

-- the words less the number of slot t, where it is in them
slot_taken : (words : List ℕ) (t : ℕ) → IsSlot t → (b : Bool)
    → let word = get_or words (t / most_events) 0 in
    set_of (set words (t / most_events) (cond b (bit_xor word (2 ^ (t % most_events))) word))
    ≡ cond b (set_of (set words (number_of t).panel.0 (bit_xor (word_for (set_of words) (number_of t)) (mask_of (number_of t))))) (set_of words)
unfolding number_of
slot_taken words t h true =
    let bits : t % most_events + 1 - 1 ≡ t % most_events = omega arith in
    let panel : t / most_events % most_panels ≡ t / most_events = omega arith in
    rw (bits, panel)
slot_taken words t h false = ap set_of (set-get_or words (t / most_events) 0)

-- a turn of the loop of `take_out` takes the number of slot t out of the set
pub taken_out : (words : List ℕ) (t : ℕ) → IsSlot t
    → let word = get_or words (t / most_events) 0 in
    let bit = t % most_events in
    set_of (set words (t / most_events) (bit_xor word (bit_and word (1 * 2 ^ bit % 2 ^ most_events)))) ≡ leave (set_of words) (number_of t)
unfolding leave in_words
taken_out words t h =
    let there = member (set_of words) (number_of t) in
    ap (λ (w : ℕ). set_of (set words (t / most_events) w))
    (bit_taken (get_or words (t / most_events) 0) (t % most_events) (omega arith) there (in_words_member (set_of words) t h))
    ∙ slot_taken words t h there

-- one slot after the other
module _ (order : List ℕ) (s : Context) (i to : ℕ) (below : i < to) (inside : to ≤ length order) where
  pub without-next : without s (slice i to order) ≡ without (leave s (number_of (get_or order i 0))) (slice (i + 1) to order)
  unfolding without
  without-next = rw (add-one i) (ap (without s) (slice-cons i to order 0 below inside))

pub without_end : (order : List ℕ) (s : Context) (to : ℕ) → without s (slice to to order) ≡ s
unfolding without
without_end order s to = ap (without s) (slice_empty to order)
