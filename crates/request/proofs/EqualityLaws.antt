-- Laws of equality: two operations, contexts, requests, or what two requests ask for, that test as the same are equal, and each tests as
-- the same as itself; each test is what the code's == says.
use Prim.Native.Nat.{ℕ}
use mathlib.Core.Path.{◌≡◌, refl, ap, ◌∙◌}
use mathlib.Core.Bool.{Bool, true, false, ◌&&◌, and_comm, beq}
use lib.Dec.{eqb}
use borrow.Author.Tests.{eqb-true, eq-eqb}
use Rattle.request.specs.declared.Operation.{Operation}
use Rattle.sets.specs.declared.Context.{Context}
use Rattle.request.specs.declared.Asked.{Asked}
use Rattle.request.specs.declared.Request.{Request}
use Rattle.numbers.specs.Numbers.{same_number}
use Rattle.sets.specs.contracts.ContextPartialEq.TheImpl as context_eq
use Rattle.request.specs.contracts.OperationPartialEq.TheImpl as operation_eq
use Rattle.request.specs.contracts.AskedPartialEq.TheImpl as asked_eq
use Rattle.request.specs.contracts.RequestPartialEq.TheImpl as request_eq
use Rattle.request.specs.Operations.{same_operation}
use Rattle.request.specs.Asked.{operation_of, same_asked}
use Rattle.sets.specs.Sets.{same_context}
use Rattle.request.specs.Request.{same_request}
use Rattle.lists.proofs.BoolLaws.{both_true, both, beq_sound, beq_self}
use Rattle.numbers.proofs.NumberLaws.{same_number_sound, same_number_self}
use Rattle.sets.proofs.WordLaws.{equal_context, same_words_sound, same_words_self}

self : (n : ℕ) → eqb n n ≡ true
self n = eq-eqb n n refl

pub same_operation_sound : (a b : Operation) → same_operation a b ≡ true → a ≡ b
unfolding same_operation
same_operation_sound a b e =
    let h = both_true _ _ e in
    let k = both_true _ _ h.0 in
    let l = both_true _ _ k.0 in
    let code = eqb-true a.code b.code l.0 in
    let r = eqb-true a.r b.r l.1 in
    let q = eqb-true a.q b.q k.1 in
    let amount = eqb-true a.amount b.amount h.1 in
    λ i. record { code = code i; r = r i; q = q i; amount = amount i }

pub same_operation_self : (a : Operation) → same_operation a a ≡ true
unfolding same_operation
same_operation_self a = both (both (both (self a.code) (self a.r)) (self a.q)) (self a.amount)

pub same_asked_sound : (a b : Asked) → same_asked a b ≡ true → a ≡ b
unfolding same_asked
same_asked_sound a b e =
    let h = both_true _ _ e in
    let same = same_operation_sound (operation_of a) (operation_of b) h.0 in
    let strong = beq_sound a.strong b.strong h.1 in
    λ i. record { code = (same i).code; r = (same i).r; q = (same i).q; strong = strong i; amount = (same i).amount }

pub same_asked_self : (a : Asked) → same_asked a a ≡ true
unfolding same_asked
same_asked_self a = both (same_operation_self (operation_of a)) (beq_self a.strong)

pub same_context_sound : (a b : Context) → same_context a b ≡ true → a ≡ b
unfolding same_context
same_context_sound a b e =
    let words = same_words_sound a.words b.words e in
    λ i. record { words = words i }

pub same_context_self : (a : Context) → same_context a a ≡ true
unfolding same_context
same_context_self a = same_words_self a.words

pub same_request_sound : (a b : Request) → same_request a b ≡ true → a ≡ b
unfolding same_request
same_request_sound a b e =
    let h = both_true _ _ e in
    let k = both_true _ _ h.0 in
    let l = both_true _ _ k.0 in
    let number = same_number_sound a.number b.number l.0 in
    let clock = eqb-true a.clock.0 b.clock.0 l.1 in
    let asked = same_asked_sound a.asked b.asked k.1 in
    let context = same_context_sound a.context b.context h.1 in
    λ i. record { number = number i; clock = record { 0 = clock i }; asked = asked i; context = context i }

pub same_request_self : (a : Request) → same_request a a ≡ true
unfolding same_request
same_request_self a =
    both (both (both (same_number_self a.number) (self a.clock.0)) (same_asked_self a.asked)) (same_context_self a.context)

-- ---- what == says

-- four and five tests, in the order and the groups of the code and of the definitions
four : (a b c d : Bool) → a && (b && (c && d)) ≡ a && b && c && d
four true true c d = refl
four true false c d = refl
four false b c d = refl

five : (a b c d e : Bool) → a && (b && (c && (d && e))) ≡ a && b && c && e && d
five true true true d e = and_comm d e
five true true false d e = refl
five true false c d e = refl
five false b c d e = refl

pub equal_operation : (a b : Operation) → (operation_eq.ghosts).eq a b ≡ same_operation a b
unfolding same_operation
equal_operation a b = four (eqb a.code b.code) (eqb a.r b.r) (eqb a.q b.q) (eqb a.amount b.amount)

pub equal_asked : (a b : Asked) → (asked_eq.ghosts).eq a b ≡ same_asked a b
unfolding same_asked same_operation
equal_asked a b = five (eqb a.code b.code) (eqb a.r b.r) (eqb a.q b.q) (beq a.strong b.strong) (eqb a.amount b.amount)

-- four tests the other way round
turned : (a b c d : Bool) → a && (b && (c && d)) ≡ d && c && b && a
turned a b c d =
    and_comm a (b && (c && d)) ∙ ap (λ t. t && a) (and_comm b (c && d)) ∙ ap (λ t. t && b && a) (and_comm c d)

pub equal_request : (a b : Request) → (request_eq.ghosts).eq a b ≡ same_request a b
unfolding same_request same_number
equal_request a b =
    let number = eqb a.number.panel.0 b.number.panel.0 && eqb a.number.event.0 b.number.event.0 in
    let clock = eqb a.clock.0 b.clock.0 in
    turned ((context_eq.ghosts).eq a.context b.context) ((asked_eq.ghosts).eq a.asked b.asked) clock number
    ∙ ap (λ t. number && clock && t && (context_eq.ghosts).eq a.context b.context) (equal_asked a.asked b.asked)
    ∙ ap (λ t. number && clock && same_asked a.asked b.asked && t) (equal_context a.context b.context)
