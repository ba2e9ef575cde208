-- Laws of comparing by one count and then by what follows; the order of numbers, panel and then event, is that of their slots.
use Prim.Native.Nat.{ℕ, ◌<◌}
use native.Mathlib.Omega.{arith}
use mathlib.Core.Path.{◌≡◌, refl, sym, ◌∙◌}
use mathlib.Core.Bool.{Bool, true, false}
use mathlib.Core.Logic.{◌⊎◌, inl, inr}
use lib.Dec.{ltb}
use borrow.Author.Tests.{ltb-true, ltb-false, eq-eqb, ne_eqb, lt-ltb, le-ltb}
use Rattle.lists.proofs.BoolLaws.{true_not_false, same_test}
use Rattle.numbers.specs.declared.Number.{Number}
use Rattle.numbers.specs.Numbers.{most_panels}
use Rattle.numbers.specs.internal.Slots.{GoodNumber, slot_of}
use Rattle.numbers.specs.Lexicographic.{lexicographic}

pub lexicographic_less : (a b : ℕ) (t : Bool) → a < b → lexicographic a b t ≡ true
lexicographic_less a b t h = rw (lt-ltb a b h)

pub lexicographic_more : (a b : ℕ) (t : Bool) → b < a → lexicographic a b t ≡ false
lexicographic_more a b t h = rw (le-ltb a b (omega arith), ne_eqb a b (λ e. omega arith))

pub lexicographic_equal : (a b : ℕ) (t : Bool) → a ≡ b → lexicographic a b t ≡ t
lexicographic_equal a b t h = rw (le-ltb a b (omega arith), eq-eqb a b h)

pub compared : (a b : ℕ) → (a < b) ⊎ ((b < a) ⊎ (a ≡ b))
compared a b = go (ltb a b) (ltb b a) refl refl
  where
    go : (u v : Bool) → ltb a b ≡ u → ltb b a ≡ v → (a < b) ⊎ ((b < a) ⊎ (a ≡ b))
    go true v e f = inl (ltb-true a b e)
    go false true e f = inr (inl (ltb-true b a f))
    go false false e f = inr (inr (omega (arith, ltb-false a b e, ltb-false b a f)))

pub lexicographic_transitive : (a b c : ℕ) (s t u : Bool) → (s ≡ true → t ≡ true → u ≡ true)
    → lexicographic a b s ≡ true → lexicographic b c t ≡ true → lexicographic a c u ≡ true
lexicographic_transitive a b c s t u k e f = go (compared a b) (compared b c)
  where
    go : (a < b) ⊎ ((b < a) ⊎ (a ≡ b)) → (b < c) ⊎ ((c < b) ⊎ (b ≡ c)) → lexicographic a c u ≡ true
    go (inl p) (inl q) = lexicographic_less a c u (omega arith)
    go (inl p) (inr (inl q)) = true_not_false f (lexicographic_more b c t q)
    go (inl p) (inr (inr q)) = lexicographic_less a c u (omega arith)
    go (inr (inl p)) q = true_not_false e (lexicographic_more a b s p)
    go (inr (inr p)) (inl q) = lexicographic_less a c u (omega arith)
    go (inr (inr p)) (inr (inl q)) = true_not_false f (lexicographic_more b c t q)
    go (inr (inr p)) (inr (inr q)) =
        lexicographic_equal a c u (p ∙ q) ∙ k (sym (lexicographic_equal a b s p) ∙ e) (sym (lexicographic_equal b c t q) ∙ f)

pub lexicographic_total : (a b : ℕ) (s t : Bool) → lexicographic a b s ≡ false → lexicographic b a t ≡ false
    → (a ≡ b) × (s ≡ false) × (t ≡ false)
lexicographic_total a b s t e f = go (compared a b)
  where
    go : (a < b) ⊎ ((b < a) ⊎ (a ≡ b)) → (a ≡ b) × (s ≡ false) × (t ≡ false)
    go (inl p) = true_not_false (lexicographic_less a b s p) e
    go (inr (inl p)) = true_not_false (lexicographic_less b a t p) f
    go (inr (inr p)) = (p, sym (lexicographic_equal a b s p) ∙ e, sym (lexicographic_equal b a t (sym p)) ∙ f)

-- the order of good numbers, panel and then event, is that of their slots
pub slots_ordered : (m n : Number) → GoodNumber most_panels m → GoodNumber most_panels n
    → lexicographic m.panel.0 n.panel.0 (ltb m.event.0 n.event.0) ≡ ltb (slot_of m) (slot_of n)
unfolding slot_of
slots_ordered m n g h = go (compared m.panel.0 n.panel.0)
  where
    events : m.panel.0 ≡ n.panel.0 → ltb m.event.0 n.event.0 ≡ ltb (slot_of m) (slot_of n)
    events e =
        same_test _ _ (λ t. lt-ltb (slot_of m) (slot_of n) (omega (arith, g, h, ltb-true)))
        (λ t. lt-ltb m.event.0 n.event.0 (omega (arith, g, h, ltb-true)))

    go : (m.panel.0 < n.panel.0) ⊎ ((n.panel.0 < m.panel.0) ⊎ (m.panel.0 ≡ n.panel.0))
        → lexicographic m.panel.0 n.panel.0 (ltb m.event.0 n.event.0) ≡ ltb (slot_of m) (slot_of n)
    go (inl p) = lexicographic_less _ _ _ p ∙ sym (lt-ltb (slot_of m) (slot_of n) (omega (arith, g, h)))
    go (inr (inl p)) = lexicographic_more _ _ _ p ∙ sym (le-ltb (slot_of m) (slot_of n) (omega (arith, g, h)))
    go (inr (inr p)) = lexicographic_equal _ _ _ p ∙ events p
