-- Laws of sets of numbers by their members: who is in a set at all; after a join, after a leave, in a difference; empty sets and
-- subsets. The lowest number's laws are in `LowestLaws`.
use Prim.Native.Nat.{ℕ, suc, zero, ◌+◌, ◌-◌, ◌^◌, ◌≤◌, ◌<◌}
use native.Mathlib.Omega.{arith}
use mathlib.Core.Path.{◌≡◌, refl, sym, ap, ◌∙◌}
use mathlib.Core.Bool.{Bool, true, false, not, beq, ◌&&◌, ◌||◌, or_comm, and-true}
use mathlib.Core.List.{List, [], ◌∷◌}
use mathlib.Core.Logic.{◌⊎◌, inl, inr}
use lib.ListN.{length, get_or, set, length-set, get_or-eq_default}
use lib.Seq.{get_or-set_same, get_or-set_other}
use lib.Bits.{bit_and, bit_or, bit_xor, and_zero_r}
use lib.Dec.{eqb}
use borrow.Author.Tests.{eq-eqb, eqb-true, eqb-false}
use Rattle.sets.specs.declared.Context.{Context}
use Rattle.numbers.specs.declared.Number.{Number}
use Rattle.numbers.specs.Numbers.{numbered, same_number, most_panels, most_events, bad_number}
use Rattle.numbers.specs.internal.Slots.{GoodNumber}
use Rattle.sets.specs.Sets.{set_of, Words, empty_set, all_zero, is_empty, bit, word_for, member, mask_of, join}
use Rattle.sets.specs.Sets.{leave, lacked_words, difference, subset}
use Rattle.lists.proofs.BoolLaws.{true_not_false, both_true, both, neither, same_test}
use Rattle.numbers.proofs.NumberLaws.{good-number, number_good, same_number_sound}
use Rattle.numbers.proofs.LexicographicLaws.{compared}
use Rattle.sets.proofs.WordLaws.{lacked-length}
use Rattle.sets.proofs.BitLaws.{bit_or_lem, bit_xor_lem, bit_power, bit_lacked, bit_of_zero, no-bit}

-- ---- who is in a set at all

not-member : (s : Context) (n : Number) → bad_number most_panels n ≡ true → member s n ≡ false
unfolding member
not-member s n e = rw e

pub member_is_bit : (s : Context) (n : Number) → bad_number most_panels n ≡ false → member s n ≡ bit (n.event.0 - 1) (word_for s n)
unfolding member
member_is_bit s n e = rw e

pub member_good : (s : Context) (n : Number) → member s n ≡ true → bad_number most_panels n ≡ false
member_good s n h = go (bad_number most_panels n) refl
  where
    go : (b : Bool) → bad_number most_panels n ≡ b → b ≡ false
    go true e = true_not_false h (not-member s n e)
    go false e = refl

-- a member's panel has a word
member_inside : (s : Context) (n : Number) → member s n ≡ true → n.panel.0 < length s.words
member_inside s n h = go (compared n.panel.0 (length s.words))
  where
    outside : length s.words ≤ n.panel.0 → n.panel.0 < length s.words
    outside l =
        let none : word_for s n ≡ 0 = get_or-eq_default s.words 0 l in
        true_not_false h (member_is_bit s n (member_good s n h) ∙ ap (bit (n.event.0 - 1)) none ∙ bit_of_zero (n.event.0 - 1))

    go : (n.panel.0 < length s.words) ⊎ ((length s.words < n.panel.0) ⊎ (n.panel.0 ≡ length s.words))
        → n.panel.0 < length s.words
    go (inl l) = l
    go (inr (inl l)) = outside (omega arith)
    go (inr (inr e)) = outside (omega arith)

-- ---- a word changed at one bit

-- events from 1 have different bits
events-bit : (e f : ℕ) → 1 ≤ e → 1 ≤ f → eqb (f - 1) (e - 1) ≡ eqb e f
events-bit e f he hf =
    same_test _ _ (λ t. eq-eqb e f (let q = eqb-true (f - 1) (e - 1) t in omega arith))
    (λ t. eq-eqb (f - 1) (e - 1) (let q = eqb-true e f t in omega arith))

-- an operation on words that acts bit by bit, applied to panel p's word and the bit of event e
module _ (op : ℕ → ℕ → ℕ) (test : Bool → Bool → Bool) (bits : (k a b : ℕ) → bit k (op a b) ≡ test (bit k a) (bit k b))
    (ws : List ℕ) (p e q f : ℕ) (inside : p < length ws) (he : 1 ≤ e) (hf : 1 ≤ f) where
  changed_here : p ≡ q → bit (f - 1) (get_or (set ws p (op (get_or ws p 0) (2 ^ (e - 1)))) q 0) ≡ test (bit (f - 1) (get_or ws q 0)) (eqb e f)
  changed_here h =
      rw (
        ← h,
        get_or-set_same ws p (op (get_or ws p 0) (2 ^ (e - 1))) 0 inside,
        bits (f - 1) (get_or ws p 0) (2 ^ (e - 1)),
        bit_power (f - 1) (e - 1),
        events-bit e f he hf,
      )

  changed_elsewhere : eqb p q ≡ false → bit (f - 1) (get_or (set ws p (op (get_or ws p 0) (2 ^ (e - 1)))) q 0) ≡ bit (f - 1) (get_or ws q 0)
  changed_elsewhere h = rw (get_or-set_other ws p q (op (get_or ws p 0) (2 ^ (e - 1))) 0 (λ z. eqb-false p q h (sym z)))

-- ---- after a join

join_bad : (s : Context) (n : Number) → bad_number most_panels n ≡ true → join s n ≡ s
unfolding join
join_bad s n e = rw e

join_good : (s : Context) (n : Number) → bad_number most_panels n ≡ false
    → join s n ≡ set_of (set s.words n.panel.0 (bit_or (word_for s n) (mask_of n)))
unfolding join
join_good s n e = rw e

pub join-length : (s : Context) (n : Number) → length (join s n).words ≡ length s.words
join-length s n = go (bad_number most_panels n) refl
  where
    go : (b : Bool) → bad_number most_panels n ≡ b → length (join s n).words ≡ length s.words
    go true e = rw (join_bad s n e)
    go false e = rw (join_good s n e) (simp length-set)

module _ (s : Context) (n m : Number) (long : length s.words ≡ most_panels) (good : GoodNumber most_panels n) where
  joined_word : bad_number most_panels m ≡ false
      → bit (m.event.0 - 1) (word_for (join s n) m) ≡ (same_number n m || bit (m.event.0 - 1) (word_for s m))
  unfolding same_number
  joined_word e = rw (join_good s n (number_good _ _ good)) (go (eqb n.panel.0 m.panel.0) refl)
    where
      there : GoodNumber most_panels m
      there = good-number _ _ e

      go : (b : Bool) → eqb n.panel.0 m.panel.0 ≡ b
          → bit (m.event.0 - 1) (get_or (set s.words n.panel.0 (bit_or (word_for s n) (mask_of n))) m.panel.0 0)
          ≡ (b && eqb n.event.0 m.event.0 || bit (m.event.0 - 1) (word_for s m))
      go true h =
          changed_here bit_or ◌||◌ bit_or_lem s.words n.panel.0 n.event.0 m.panel.0 m.event.0
          (omega (arith, good)) good.least there.least (eqb-true _ _ h)
          ∙ or_comm (bit (m.event.0 - 1) (word_for s m)) (eqb n.event.0 m.event.0)
      go false h =
          changed_elsewhere bit_or ◌||◌ bit_or_lem s.words n.panel.0 n.event.0 m.panel.0 m.event.0
          (omega (arith, good)) good.least there.least h

  differs : bad_number most_panels m ≡ true → same_number n m ≡ false
  differs e = go (same_number n m) refl
    where
      go : (b : Bool) → same_number n m ≡ b → b ≡ false
      go true h = true_not_false e (ap (bad_number most_panels) (sym (same_number_sound n m h)) ∙ number_good _ _ good)
      go false h = refl

  -- a set with n has n and what it had
  pub member-join : member (join s n) m ≡ (same_number n m || member s m)
  member-join = go (bad_number most_panels m) refl
    where
      go : (b : Bool) → bad_number most_panels m ≡ b → member (join s n) m ≡ (same_number n m || member s m)
      go true e = not-member (join s n) m e ∙ sym (neither (differs e) (not-member s m e))
      go false e = member_is_bit (join s n) m e ∙ joined_word e ∙ ap (λ (t : Bool). same_number n m || t) (sym (member_is_bit s m e))

-- ---- after a leave

leave_none : (s : Context) (n : Number) → member s n ≡ false → leave s n ≡ s
unfolding leave
leave_none s n e = rw e

leave_some : (s : Context) (n : Number) → member s n ≡ true
    → leave s n ≡ set_of (set s.words n.panel.0 (bit_xor (word_for s n) (mask_of n)))
unfolding leave
leave_some s n e = rw e

pub leave-length : (s : Context) (n : Number) → length (leave s n).words ≡ length s.words
leave-length s n = go (member s n) refl
  where
    go : (b : Bool) → member s n ≡ b → length (leave s n).words ≡ length s.words
    go true e = rw (leave_some s n e) (simp length-set)
    go false e = rw (leave_none s n e)

-- taking out a bit that is there by an exclusive or
taken_out : (b d : Bool) → (d ≡ true → b ≡ true) → not (beq b d) ≡ (b && not d)
taken_out true true h = refl
taken_out true false h = refl
taken_out false true h = ap not (h refl)
taken_out false false h = refl

module _ (s : Context) (n m : Number) where
  left_word : member s n ≡ true → bad_number most_panels m ≡ false
      → bit (m.event.0 - 1) (word_for (leave s n) m) ≡ (bit (m.event.0 - 1) (word_for s m) && not (same_number n m))
  unfolding same_number
  left_word h e = rw (leave_some s n h) (go (eqb n.panel.0 m.panel.0) refl)
    where
      here : GoodNumber most_panels n
      here = good-number _ _ (member_good s n h)

      there : GoodNumber most_panels m
      there = good-number _ _ e

      set-bit : bit (n.event.0 - 1) (word_for s n) ≡ true
      set-bit = sym (member_is_bit s n (member_good s n h)) ∙ h

      go : (b : Bool) → eqb n.panel.0 m.panel.0 ≡ b
          → bit (m.event.0 - 1) (get_or (set s.words n.panel.0 (bit_xor (word_for s n) (mask_of n))) m.panel.0 0)
          ≡ (bit (m.event.0 - 1) (word_for s m) && not (b && eqb n.event.0 m.event.0))
      go true p =
          let panels : n.panel.0 ≡ m.panel.0 = eqb-true _ _ p in
          changed_here bit_xor (λ a b. not (beq a b)) bit_xor_lem s.words n.panel.0 n.event.0 m.panel.0 m.event.0
          (member_inside s n h) here.least there.least panels
          ∙ taken_out (bit (m.event.0 - 1) (word_for s m)) (eqb n.event.0 m.event.0)
          (λ f. let events : n.event.0 ≡ m.event.0 = eqb-true _ _ f in rw (← events, ← panels) set-bit)
      go false p =
          changed_elsewhere bit_xor (λ a b. not (beq a b)) bit_xor_lem s.words n.panel.0 n.event.0 m.panel.0 m.event.0
          (member_inside s n h) here.least there.least p
          ∙ sym (and-true (bit (m.event.0 - 1) (word_for s m)))

  -- what is not n stays as it was
  stays : (b : Bool) → same_number n m ≡ b → member s n ≡ false → member s m ≡ (member s m && not b)
  stays true e h = let gone = ap (member s) (sym (same_number_sound n m e)) ∙ h in rw gone
  stays false e h = sym (and-true _)

  -- a set without n has what it had, but for n
  pub member-leave : member (leave s n) m ≡ (member s m && not (same_number n m))
  member-leave = go (member s n) refl (bad_number most_panels m) refl
    where
      go : (a : Bool) → member s n ≡ a → (b : Bool) → bad_number most_panels m ≡ b
          → member (leave s n) m ≡ (member s m && not (same_number n m))
      go false h b e = ap (λ (t : Context). member t m) (leave_none s n h) ∙ stays (same_number n m) refl h
      go true h true e = not-member (leave s n) m e ∙ sym (ap (λ (t : Bool). t && not (same_number n m)) (not-member s m e))
      go true h false e = member_is_bit (leave s n) m e ∙ left_word h e ∙ ap (λ (t : Bool). t && not (same_number n m)) (sym (member_is_bit s m e))

-- ---- in a difference

lacked_word : (ws vs : List ℕ) (i : ℕ) → get_or (lacked_words ws vs) i 0 ≡ get_or ws i 0 - bit_and (get_or ws i 0) (get_or vs i 0)
unfolding lacked_words
lacked_word [] vs i = refl
lacked_word (w ∷ ws) [] zero = let none = and_zero_r w in omega arith
lacked_word (w ∷ ws) [] (suc i) = lacked_word ws [] i
lacked_word (w ∷ ws) (v ∷ vs) zero = refl
lacked_word (w ∷ ws) (v ∷ vs) (suc i) = lacked_word ws vs i

-- a difference has what the first set has and the second lacks
pub member-difference : (s t : Context) (m : Number) → member (difference s t) m ≡ (member s m && not (member t m))
unfolding difference
member-difference s t m = go (bad_number most_panels m) refl
  where
    go : (b : Bool) → bad_number most_panels m ≡ b → member (difference s t) m ≡ (member s m && not (member t m))
    go true e = not-member (difference s t) m e ∙ sym (ap (λ (u : Bool). u && not (member t m)) (not-member s m e))
    go false e =
        rw (member_is_bit (difference s t) m e, member_is_bit s m e, member_is_bit t m e, lacked_word s.words t.words m.panel.0)
        (bit_lacked (m.event.0 - 1) (word_for s m) (word_for t m))

pub difference_words : (s t : Context) → Words s → Words (difference s t)
unfolding difference
difference_words s t h =
    record {
      count = lacked-length s.words t.words ∙ h.count;
      small = λ p. let is = lacked_word s.words t.words p in let fits = h.small p in omega arith;
    }

-- ---- empty sets

zero_word_lem : (ws : List ℕ) (i : ℕ) → all_zero ws ≡ true → get_or ws i 0 ≡ 0
unfolding all_zero
zero_word_lem [] i h = refl
zero_word_lem (w ∷ ws) zero h = eqb-true w 0 (both_true (eqb w 0) (all_zero ws) h).0
zero_word_lem (w ∷ ws) (suc i) h = zero_word_lem ws i (both_true (eqb w 0) (all_zero ws) h).1

zero_words : (ws : List ℕ) → ((i : ℕ) → get_or ws i 0 ≡ 0) → all_zero ws ≡ true
unfolding all_zero
zero_words [] h = refl
zero_words (w ∷ ws) h = both (eq-eqb w 0 (h 0)) (zero_words ws (λ i. h (suc i)))

-- an empty set has no member
pub empty_no_member : (s : Context) (m : Number) → is_empty s ≡ true → member s m ≡ false
unfolding is_empty
empty_no_member s m h = go (bad_number most_panels m) refl
  where
    go : (b : Bool) → bad_number most_panels m ≡ b → member s m ≡ false
    go true e = not-member s m e
    go false e = member_is_bit s m e ∙ ap (bit (m.event.0 - 1)) (zero_word_lem s.words m.panel.0 h) ∙ bit_of_zero (m.event.0 - 1)

pub empty_set_empty : is_empty empty_set ≡ true
unfolding is_empty all_zero
empty_set_empty = refl

pub member_empty : (m : Number) → member empty_set m ≡ false
member_empty m = empty_no_member empty_set m empty_set_empty

-- and a set with no member is empty
pub no_member_empty : (s : Context) → Words s → ((m : Number) → member s m ≡ false) → is_empty s ≡ true
unfolding is_empty
no_member_empty s h none = zero_words s.words (λ p. go p (compared p most_panels))
  where
    outside : (p : ℕ) → most_panels ≤ p → get_or s.words p 0 ≡ 0
    outside p l = get_or-eq_default s.words 0 (omega (arith, h.count))

    inside : (p : ℕ) → p < most_panels → (k : ℕ) → k < most_events → bit k (get_or s.words p 0) ≡ false
    inside p l k f =
        let m = numbered p (k + 1) in
        let right = number_good most_panels m (record { panel = l; least = omega arith; most = omega arith }) in
        let back : k + 1 - 1 ≡ k = omega arith in
        ap (λ (j : ℕ). bit j (get_or s.words p 0)) (sym back) ∙ sym (member_is_bit s m right) ∙ none m

    go : (p : ℕ) → (p < most_panels) ⊎ ((most_panels < p) ⊎ (p ≡ most_panels)) → get_or s.words p 0 ≡ 0
    go p (inl l) = no-bit most_events _ (h.small p) (inside p l)
    go p (inr (inl l)) = outside p (omega arith)
    go p (inr (inr e)) = outside p (omega arith)

-- ---- subsets

-- every member of a subset is a member
pub subset-member : (s t : Context) (m : Number) → subset s t ≡ true → member s m ≡ true → member t m ≡ true
unfolding subset
subset-member s t m h e = go (member t m) refl
  where
    go : (b : Bool) → member t m ≡ b → b ≡ true
    go true f = refl
    go false f = true_not_false (member-difference s t m ∙ both e (ap not f)) (empty_no_member (difference s t) m h)

-- and a set whose every member is in another is a subset of it
pub members-subset : (s t : Context) → Words s → ((m : Number) → member s m ≡ true → member t m ≡ true) → subset s t ≡ true
unfolding subset
members-subset s t h all = no_member_empty (difference s t) (difference_words s t h) (λ m. member-difference s t m ∙ go m (member s m) refl)
  where
    go : (m : Number) (b : Bool) → member s m ≡ b → (b && not (member t m)) ≡ false
    go m true e = ap not (all m e)
    go m false e = refl
