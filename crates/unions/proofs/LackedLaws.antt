-- Laws of what one set has and another lacks: by the set bits of a word, word by word, and by the slots of a list in which each such
-- slot stands once.
use Prim.Native.Nat.{ℕ, zero, suc, ◌+◌, ◌-◌, ◌*◌, ◌/◌, ◌%◌, ◌^◌, ◌≤◌, ◌<◌}
use native.Mathlib.Omega.{arith}
use native.Mathlib.Nat.{mod-lt, div-one, pow-suc, zero-lt-suc}
use native.Mathlib.Numerals.{add-one, one-add}
use mathlib.Core.Path.{◌≡◌, refl, sym, ap, ◌∙◌}
use mathlib.Core.Bool.{Bool, true, false, not, ◌&&◌}
use mathlib.Core.List.{List}
use lib.ListN.{length, take, get_or}
use lib.Seq.{take_all}
use lib.Bits.{bit_and}
use lib.Count.{ones, ones_in, ones_step}
use lib.Pow.{shr-shr}
use lib.Dec.{eqb}
use borrow.Author.Tests.{eq-eqb, ne_eqb, not-true}
use Rattle.std.specs.List.{zip, sum_by}
use Rattle.std.proofs.lemmas.List.Sums.{sum_by_more}
use Rattle.std.proofs.lemmas.Slice.Zip.{length-zip, get_or-zip}
use Rattle.lists.specs.Lists.{one, count}
use Rattle.lists.specs.Places.{All}
use Rattle.lists.specs.Tally.{tally}
use Rattle.lists.proofs.BoolLaws.{both_true}
use Rattle.lists.proofs.ListLaws.{one_true, one_false}
use Rattle.lists.proofs.AllLaws.{all_weaken, none_all}
use Rattle.lists.proofs.MapLaws.{count_agree}
use Rattle.lists.proofs.TallyLaws.{tally_agree, tally-add, tally_first, tally_most, tally-count}
use Rattle.numbers.specs.Numbers.{most_panels, most_events}
use Rattle.sets.specs.Sets.{bit}
use Rattle.sets.proofs.BitLaws.{bit_lacked}
use Rattle.ordering.specs.Slots.{most_slots, IsSlot, in_words}
use Rattle.unions.specs.Lacked.{lacked_bits, named_beside, lacked_count}

-- ---- a word

digit-one : (d : ℕ) → d < 2 → d ≡ one (eqb d 1)
digit-one zero h = sym (one_false (ne_eqb 0 1 (λ e. omega (arith, e))))
digit-one (suc zero) h = sym (one_true (eq-eqb 1 1 refl))
digit-one (suc (suc d)) h = absurd (omega arith)

first_bit : (w : ℕ) → w % 2 ≡ one (bit 0 w)
unfolding bit
first_bit w = rw div-one (digit-one (w % 2) (mod-lt w (zero-lt-suc 1)))

next_bit : (w k : ℕ) → bit k (w / 2) ≡ bit (suc k) w
unfolding bit
next_bit w k = sym (rw (← one-add k, ← shr-shr w 1 k))

-- the set bits of a word are the tally of its bits
pub ones-tally : (n w : ℕ) → w < 2 ^ n → ones w ≡ tally n (λ k. bit k w)
unfolding ones ones_in
ones-tally zero w h =
    let none : w ≡ 0 = omega arith in
    rw none
ones-tally (suc n) w h =
    let half : w / 2 < 2 ^ n = omega (arith, pow-suc 2 n) in
    omega (
      arith,
      ones_step w,
      first_bit w,
      ones-tally n (w / 2) half,
      tally_agree n (λ k. bit k (w / 2)) (λ k. bit (suc k) w) (λ k l. next_bit w k),
      tally_first n (λ k. bit k w),
    )

-- and those that another word lacks are theirs
pub lacked_ones : (w v : ℕ) → w < 2 ^ most_events → ones (w - bit_and w v) ≡ lacked_bits w v
unfolding lacked_bits
lacked_ones w v small =
    ones-tally most_events (w - bit_and w v) (omega arith)
    ∙ tally_agree most_events (λ k. bit k (w - bit_and w v)) (λ k. bit k w && not (bit k v)) (λ k h. bit_lacked k w v)

pub lacked_most : (w v : ℕ) → lacked_bits w v ≤ most_events
unfolding lacked_bits
lacked_most w v = tally_most most_events (λ k. bit k w && not (bit k v))

-- ---- words

-- the number of event k + 1 of panel i
slot-bit : (words : List ℕ) (i k : ℕ) → k < most_events → in_words words (i * most_events + k) ≡ bit k (get_or words i 0)
unfolding in_words
slot-bit words i k h =
    let event : (i * most_events + k) % most_events ≡ k = omega arith in
    let panel : (i * most_events + k) / most_events ≡ i = omega arith in
    rw (event, panel)

-- what the words up to i lack is what those before it lack, and what it does
pub lacked-next : (words others : List ℕ) (i : ℕ)
    → tally ((i + 1) * most_events) (named_beside words others)
    ≡ tally (i * most_events) (named_beside words others) + lacked_bits (get_or words i 0) (get_or others i 0)
unfolding lacked_bits
lacked-next words others i =
    let sum : (i + 1) * most_events ≡ i * most_events + most_events = omega arith in
    rw sum
    (tally-add (i * most_events) most_events (named_beside words others)
    ∙ ap (λ (n : ℕ). tally (i * most_events) (named_beside words others) + n)
    (tally_agree most_events (λ k. named_beside words others (i * most_events + k))
    (λ k. bit k (get_or words i 0) && not (bit k (get_or others i 0)))
    (λ k h. rw (slot-bit words i k h, slot-bit others i k h))))

-- what a word lacks of the one beside it
abbrev pub lacked_of : ℕ × ℕ → ℕ
lacked_of p = lacked_bits p.0 p.1

lacked_upto : (words others : List ℕ) (n : ℕ) → n ≤ length words → n ≤ length others
    → sum_by lacked_of (take n (zip words others)) ≡ tally (n * most_events) (named_beside words others)
lacked_upto words others zero h k = refl
lacked_upto words others (suc n) h k =
    let inside : n < length (zip words others) = rw (length-zip words others) (omega arith) in
    let pair = ap lacked_of (get_or-zip words others n (0, 0) (omega arith) (omega arith)) in
    let more = sum_by_more lacked_of (zip words others) n (0, 0) inside in
    let before = lacked_upto words others n (omega arith) (omega arith) in
    rw (← add-one n) (more ∙ omega (arith, pair, before, lacked-next words others n))

-- the numbers that one set has and the other lacks, word by word
pub lacked_in_all : (words others : List ℕ) → length words ≡ most_panels → length others ≡ most_panels
    → sum_by lacked_of (zip words others) ≡ lacked_count words others
unfolding lacked_count
lacked_in_all words others h k =
    let all = take_all most_panels (zip words others) (rw (length-zip words others) (omega arith)) in
    ap (sum_by lacked_of) (sym all) ∙ lacked_upto words others most_panels (omega arith) (omega arith)

pub lacked-few : (words others : List ℕ) → lacked_count words others ≤ most_slots
unfolding lacked_count
lacked-few words others = tally_most most_slots (named_beside words others)

-- ---- a list

-- of slots of which none is in `others`, and each that is in `words` alone stands there once, as many are in `words` as these have alone
pub named-counted : (words others l : List ℕ) → All IsSlot l → count (in_words others) l ≡ 0
    → ((t : ℕ) → IsSlot t → in_words words t ≡ true → in_words others t ≡ false → count (eqb t) l ≡ 1)
    → count (in_words words) l ≡ lacked_count words others
unfolding lacked_count
named-counted words others l slots clear once =
    count_agree (in_words words) (named_beside words others) l
    (all_weaken (λ t e. beside (in_words words t) (in_words others t) e) l (none_all (in_words others) l clear))
    ∙ tally-count most_slots (named_beside words others) l slots
    (λ t h e. let both = both_true (in_words words t) (not (in_words others t)) e in once t h both.0 (not-true _ both.1))
  where
    beside : (a b : Bool) → b ≡ false → a ≡ (a && not b)
    beside true b e = sym (ap not e)
    beside false b e = refl
