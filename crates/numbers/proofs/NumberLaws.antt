-- Laws of numbers: good numbers, equality, and a number's slot as its two digits.
use Prim.Native.Nat.{ℕ, ◌+◌, ◌*◌, ◌/◌, ◌%◌, ◌<◌}
use native.Mathlib.Omega.{arith}
use native.Mathlib.Nat.{div-add-mod'}
use mathlib.Core.Path.{◌≡◌, refl, sym, ap, ◌∙◌}
use mathlib.Core.Bool.{true, false, not}
use borrow.Author.Tests.{ltb-true, leb-true, lt-ltb, le-leb, eqb-true, eq-eqb, not-false}
use Rattle.numbers.specs.declared.Number.{Number}
use Rattle.numbers.specs.contracts.NumberPartialEq.TheImpl as number_eq
use Rattle.numbers.specs.Numbers.{same_number, most_panels, most_events, bad_number}
use Rattle.numbers.specs.internal.Slots.{GoodNumber, slot_of, number_of}
use Rattle.lists.proofs.BoolLaws.{both_true, both, neither_true, neither, same_test}

-- ---- good numbers

pub good-number : (p : ℕ) (n : Number) → bad_number p n ≡ false → GoodNumber p n
unfolding bad_number
good-number p n e =
    let apart = neither_true _ _ e in
    let event = both_true _ _ (not-false _ apart.1) in
    record {
      panel = ltb-true _ _ (not-false _ apart.0);
      least = leb-true _ _ event.0;
      most = leb-true _ _ event.1;
    }

pub number_good : (p : ℕ) (n : Number) → GoodNumber p n → bad_number p n ≡ false
unfolding bad_number
number_good p n g = neither (ap not (lt-ltb _ _ g.panel)) (ap not (both (le-leb _ _ g.least) (le-leb _ _ g.most)))

-- ---- equality

pub same_number_sound : (m n : Number) → same_number m n ≡ true → m ≡ n
unfolding same_number
same_number_sound m n e =
    let h = both_true _ _ e in
    let p : m.panel.0 ≡ n.panel.0 = eqb-true _ _ h.0 in
    let q : m.event.0 ≡ n.event.0 = eqb-true _ _ h.1 in
    λ i. record { panel = record { 0 = p i }; event = record { 0 = q i } }

-- it is what the code's == says
pub equal_number : (m n : Number) → (number_eq.ghosts).eq m n ≡ same_number m n
unfolding same_number
equal_number m n = refl

pub same_number_of : (m n : Number) → m.panel.0 ≡ n.panel.0 → m.event.0 ≡ n.event.0 → same_number m n ≡ true
unfolding same_number
same_number_of m n p q = both (eq-eqb _ _ p) (eq-eqb _ _ q)

pub same_number_self : (n : Number) → same_number n n ≡ true
same_number_self n = same_number_of n n refl refl

pub same_number_sym : (m n : Number) → same_number m n ≡ same_number n m
same_number_sym m n = same_test _ _ (λ e. swap m n e) (λ e. swap n m e)
  where
    swap : (m n : Number) → same_number m n ≡ true → same_number n m ≡ true
    swap m n e = ap (λ (k : Number). same_number k m) (sym (same_number_sound m n e)) ∙ same_number_self m

-- ---- slots

-- a slot's digits
digits-whole : (s : ℕ) → s / most_events * most_events + s % most_events ≡ s
digits-whole s = div-add-mod' s most_events

module _ (n : Number) (g : GoodNumber most_panels n) where
  pub slot_fits : slot_of n < most_panels * most_events
  unfolding slot_of
  slot_fits = omega (arith, g)

  -- a good number comes back from its slot
  pub number_of_slot : number_of (slot_of n) ≡ n
  unfolding slot_of number_of
  number_of_slot =
      let whole = digits-whole (slot_of n) in
      let p : slot_of n / most_events % most_panels ≡ n.panel.0 = omega (arith, g, whole) in
      let e : slot_of n % most_events + 1 ≡ n.event.0 = omega (arith, g, whole) in
      λ i. record { panel = record { 0 = p i }; event = record { 0 = e i } }

module _ (s : ℕ) (fits : s < most_panels * most_events) where
  -- a slot of the table comes back from its number
  pub slot_of_number : slot_of (number_of s) ≡ s
  unfolding slot_of number_of
  slot_of_number = omega (arith, digits-whole s, fits)

-- a slot's number is good
pub number_of_good : (s : ℕ) → GoodNumber most_panels (number_of s)
unfolding number_of
number_of_good s = record { panel = omega arith; least = omega arith; most = omega arith }

-- a slot past the table counts round
pub number_of_rest : (s : ℕ) → number_of (s % (most_panels * most_events)) ≡ number_of s
unfolding number_of
number_of_rest s =
    let p : s % (most_panels * most_events) / most_events % most_panels ≡ s / most_events % most_panels = omega arith in
    let e : s % (most_panels * most_events) % most_events ≡ s % most_events = omega arith in
    rw (p, e)
