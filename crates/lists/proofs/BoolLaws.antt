-- What a test that is a conjunction, a disjunction or a choice says of its parts, and the other way round.
use mathlib.Core.Path.{◌≡◌, refl, sym, ap, ◌∙◌}
use mathlib.Core.Bool.{Bool, true, false, ◌&&◌, ◌||◌, beq, cond, true≢false}

-- nothing is both true and false
pub true_not_false : {b : Bool} {X : Type 0} → b ≡ true → b ≡ false → X
true_not_false t f = absurd (true≢false (sym t ∙ f))

pub both_true : (a b : Bool) → a && b ≡ true → (a ≡ true) × (b ≡ true)
both_true true b e = (refl, e)
both_true false b e = true_not_false e refl

pub both : {a b : Bool} → a ≡ true → b ≡ true → a && b ≡ true
both {a} {b} e f = ap (λ (t : Bool). t && b) e ∙ f

pub both_swap : (a b : Bool) → a && b ≡ b && a
both_swap true true = refl
both_swap true false = refl
both_swap false true = refl
both_swap false false = refl

pub neither_true : (a b : Bool) → a || b ≡ false → (a ≡ false) × (b ≡ false)
neither_true true b e = true_not_false refl e
neither_true false b e = (refl, e)

pub neither : {a b : Bool} → a ≡ false → b ≡ false → a || b ≡ false
neither {a} {b} e f = ap (λ (t : Bool). t || b) e ∙ f

pub first_false : {a : Bool} (b : Bool) → a ≡ false → a && b ≡ false
first_false {a} b e = ap (λ (t : Bool). t && b) e

pub second_false : (a : Bool) {b : Bool} → b ≡ false → a && b ≡ false
second_false true e = e
second_false false e = refl

pub beq_sound : (a b : Bool) → beq a b ≡ true → a ≡ b
beq_sound true true e = refl
beq_sound true false e = true_not_false e refl
beq_sound false true e = true_not_false e refl
beq_sound false false e = refl

pub beq_self : (a : Bool) → beq a a ≡ true
beq_self true = refl
beq_self false = refl

-- two tests that imply each other are equal
pub same_test : (a b : Bool) → (a ≡ true → b ≡ true) → (b ≡ true → a ≡ true) → a ≡ b
same_test true true f g = refl
same_test true false f g = sym (f refl)
same_test false true f g = g refl
same_test false false f g = refl

-- what holds of both sides of a choice holds of the choice
pub either : {A : Type 0} (P : A → Type 0) (t : Bool) {x y : A} → (t ≡ true → P x) → (t ≡ false → P y) → P (cond t x y)
either P true f g = f refl
either P false f g = g refl

-- what holds of both sides of two choices by one test holds of the two choices
pub either_both : {A B : Type 0} (P : A → B → Type 0) (t : Bool) {x y : A} {u v : B} → P x u → P y v → P (cond t x y) (cond t u v)
either_both P true f g = f
either_both P false f g = g
