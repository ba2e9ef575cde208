-- The lowest number of a set that is not empty is a member and no member comes before it; what one set has and another lacks.
use Prim.Native.Nat.{ℕ, suc, zero, ◌+◌, ◌-◌, ◌^◌, ◌≤◌, ◌<◌}
use native.Mathlib.Omega.{arith}
use mathlib.Core.Path.{◌≡◌, refl, sym, ap, ◌∙◌}
use mathlib.Core.Bool.{Bool, true, false, ◌&&◌, cond}
use mathlib.Core.List.{List, [], ◌∷◌}
use mathlib.Core.Logic.{◌⊎◌, inl, inr}
use lib.ListN.{length, get_or}
use lib.Count.{count_trailing_zeros}
use lib.Dec.{ltb, eqb}
use borrow.Author.Tests.{eqb-true, eqb-false, ltb-true, not-true}
use Rattle.sets.specs.declared.Context.{Context}
use Rattle.numbers.specs.declared.Number.{Number}
use Rattle.numbers.specs.Numbers.{numbered, most_panels, most_events}
use Rattle.numbers.specs.internal.Slots.{GoodNumber}
use Rattle.numbers.specs.Lexicographic.{lexicographic}
use Rattle.sets.specs.Sets.{Words, all_zero, is_empty, bit, member, difference, subset, lowest_from, lowest, lowest_lacking}
use Rattle.lists.proofs.BoolLaws.{true_not_false, both_true}
use Rattle.numbers.proofs.NumberLaws.{good-number, number_good}
use Rattle.numbers.proofs.LexicographicLaws.{compared, lexicographic_more, lexicographic_equal}
use Rattle.sets.proofs.BitLaws.{bit_of_zero, lowest-bit, lowest_fits, below-lowest}
use Rattle.sets.proofs.SetLaws.{member_is_bit, member_good, member-difference, difference_words}

-- n is the lowest number in the words of the panels from p on
record LowestIn (p : ℕ) (ws : List ℕ) (n : Number) : Type 0 where
  first : p ≤ n.panel.0
  last : n.panel.0 < p + length ws
  least : 1 ≤ n.event.0
  most : n.event.0 ≤ most_events
  there : bit (n.event.0 - 1) (get_or ws (n.panel.0 - p) 0) ≡ true
  panels : (i : ℕ) → p + i < n.panel.0 → get_or ws i 0 ≡ 0
  events : (k : ℕ) → k + 1 < n.event.0 → bit k (get_or ws (n.panel.0 - p) 0) ≡ false

-- the first word holds it
in_first : (p w : ℕ) (ws : List ℕ) → w < 2 ^ most_events → (w ≡ 0 → ⊥) → LowestIn p (w ∷ ws) (numbered p (count_trailing_zeros most_events w + 1))
in_first p w ws small some =
    let fits = lowest_fits most_events w small some in
    let here : p - p ≡ 0 = omega arith in
    let back : count_trailing_zeros most_events w + 1 - 1 ≡ count_trailing_zeros most_events w = omega arith in
    record {
      first = omega arith;
      last = omega arith;
      least = omega arith;
      most = omega arith;
      there = rw (here, back) (lowest-bit most_events w small some);
      panels = λ i h. absurd (omega arith);
      events = λ k h. rw here (below-lowest most_events w k (omega arith));
    }

-- the first word is 0, and the rest hold it
in_rest : (p : ℕ) (ws : List ℕ) (n : Number) → LowestIn (suc p) ws n → LowestIn p (0 ∷ ws) n
in_rest p ws n h =
    let further : n.panel.0 - p ≡ suc (n.panel.0 - suc p) = omega (arith, h.first) in
    record {
      first = omega (arith, h.first);
      last = omega (arith, h.last);
      least = h.least;
      most = h.most;
      there = rw further h.there;
      panels = panels;
      events = λ k l. rw further (h.events k l);
    }
  where
    panels : (i : ℕ) → p + i < n.panel.0 → get_or (0 ∷ ws) i 0 ≡ 0
    panels zero l = refl
    panels (suc i) l = h.panels i (omega arith)

lowest_in : (p : ℕ) (ws : List ℕ) → ((i : ℕ) → get_or ws i 0 < 2 ^ most_events) → all_zero ws ≡ false → LowestIn p ws (lowest_from p ws)
unfolding all_zero lowest_from
lowest_in p [] small some = true_not_false refl some
lowest_in p (w ∷ ws) small some = step w (eqb w 0) refl (small 0) some (lowest_in (suc p) ws (λ i. small (suc i)))
  where
    step : (w : ℕ) (b : Bool) → eqb w 0 ≡ b → w < 2 ^ most_events → (b && all_zero ws) ≡ false
        → (all_zero ws ≡ false → LowestIn (suc p) ws (lowest_from (suc p) ws))
        → LowestIn p (w ∷ ws) (cond b (lowest_from (suc p) ws) (numbered p (count_trailing_zeros most_events w + 1)))
    step w true e fits more rest =
        let none : 0 ≡ w = sym (eqb-true w 0 e) in
        rw (← none) (in_rest p ws (lowest_from (suc p) ws) (rest more))
    step w false e fits more rest = in_first p w ws fits (eqb-false w 0 e)

-- n is the lowest number of s: lowest panel, then lowest event
pub record Lowest (s : Context) (n : Number) : Type 0 where
  pub is_member : member s n ≡ true
  pub none_before : (m : Number) → member s m ≡ true → lexicographic m.panel.0 n.panel.0 (ltb m.event.0 n.event.0) ≡ false

module _ (s : Context) (words : Words s) (n : Number) (found : LowestIn 0 s.words n) where
  good-lowest : GoodNumber most_panels n
  good-lowest = record { panel = omega (arith, found.last, words.count); least = found.least; most = found.most }

  -- the words count from panel 0
  whole : n.panel.0 - 0 ≡ n.panel.0
  whole = omega arith

  bit_of_member : (m : Number) → member s m ≡ true → bit (m.event.0 - 1) (get_or s.words m.panel.0 0) ≡ true
  bit_of_member m h = sym (member_is_bit s m (member_good s m h)) ∙ h

  no_lower_panel : (m : Number) → member s m ≡ true → m.panel.0 < n.panel.0 → ⊥
  no_lower_panel m h l =
      let none = found.panels m.panel.0 (omega arith) in
      true_not_false (bit_of_member m h) (ap (bit (m.event.0 - 1)) none ∙ bit_of_zero (m.event.0 - 1))

  no_lower_event : (m : Number) → member s m ≡ true → m.panel.0 ≡ n.panel.0 → m.event.0 < n.event.0 → ⊥
  no_lower_event m h e l =
      let good = good-number most_panels m (member_good s m h) in
      let same : n.panel.0 - 0 ≡ m.panel.0 = whole ∙ sym e in
      true_not_false (bit_of_member m h) (rw same at (found.events (m.event.0 - 1) (omega (arith, good.least))))

  none_lower : (m : Number) → member s m ≡ true → (m.panel.0 < n.panel.0) ⊎ ((n.panel.0 < m.panel.0) ⊎ (m.panel.0 ≡ n.panel.0))
      → lexicographic m.panel.0 n.panel.0 (ltb m.event.0 n.event.0) ≡ false
  none_lower m h (inl l) = absurd (no_lower_panel m h l)
  none_lower m h (inr (inl l)) = lexicographic_more m.panel.0 n.panel.0 _ l
  none_lower m h (inr (inr e)) = lexicographic_equal m.panel.0 n.panel.0 _ e ∙ go (ltb m.event.0 n.event.0) refl
    where
      go : (b : Bool) → ltb m.event.0 n.event.0 ≡ b → b ≡ false
      go true l = absurd (no_lower_event m h e (ltb-true _ _ l))
      go false l = refl

  lowest_of : Lowest s n
  lowest_of =
      record {
        is_member = member_is_bit s n (number_good _ _ good-lowest) ∙ (rw whole at found.there);
        none_before = λ m h. none_lower m h (compared m.panel.0 n.panel.0);
      }

pub lowest_is_lowest : (s : Context) → Words s → is_empty s ≡ false → Lowest s (lowest s)
unfolding is_empty lowest
lowest_is_lowest s words some = lowest_of s words (lowest s) (lowest_in 0 s.words words.small some)

-- where s is no subset of t, the lowest number that s has and t lacks
pub record Missing (s t : Context) (n : Number) : Type 0 where
  pub had : member s n ≡ true
  pub lacked : member t n ≡ false
  pub none_before : (m : Number) → member s m ≡ true → member t m ≡ false
      → lexicographic m.panel.0 n.panel.0 (ltb m.event.0 n.event.0) ≡ false

pub lacking_is_missing : (s t : Context) → Words s → subset s t ≡ false → Missing s t (lowest_lacking s t)
unfolding subset lowest_lacking
lacking_is_missing s t words some =
    let d = difference s t in
    let low = lowest_is_lowest d (difference_words s t words) some in
    let parts = both_true _ _ (sym (member-difference s t (lowest d)) ∙ low.is_member) in
    record {
      had = parts.0;
      lacked = not-true _ parts.1;
      none_before = λ m a b. low.none_before m (member-difference s t m ∙ rw (a, b));
    }
