-- What the showing calls read from the state is what `creek` shows of the replica.
use Prim.Native.Nat.{ℕ, zero, suc, ◌+◌, ◌-◌, ◌≤◌, ◌<◌}
use native.Mathlib.Omega.{arith}
use mathlib.Core.Path.{◌≡◌, refl, sym, ap, ◌∙◌}
use mathlib.Core.Bool.{true, false, ◌||◌}
use mathlib.Core.List.{List}
use lib.ListN.{length, get_or, get_or-map}
use lib.Seq.{get_or-take, length-take-le}
use lib.Dec.{eqb, ltb}
use borrow.Author.Tests.{eqb-false, ltb-false, lt-ltb, le-ltb}
use Rattle.lists.proofs.BoolLaws.{neither_true}
use Rattle.request.specs.declared.Request.{Request}
use Rattle.request.specs.Operations.{last_register}
use Rattle.request.specs.Refusal as refused
use Rattle.creek.specs.Plan.{order}
use Rattle.request.specs.Request.{no_request}
use Rattle.creek.specs.Showing.{register_refusal, register_shown, requests_shown, commits_shown, owed_shown, panels_shown, own_shown, made_shown}
use Rattle.creek.specs.Showing.{place_refusal, place_shown}
use Rattle.replica.specs.State.{State}
use Rattle.replica.specs.internal.Model.{order_slots, order_of, plan_of, book_of, model, Inv}
use Rattle.replica.specs.Shown.{RegisterShown, registers_shown, committed_shown, PlaceShown}
use Rattle.replica.proofs.ModelLaws.{request_of, length-order, order_is, rollback-length, todo-length}
use Rattle.lists.proofs.StartLaws.{get_or_inside}
use Rattle.replica.proofs.ModelLaws.{registers_are}

module _ (p : State) (inv : Inv p) where
  -- ---- the counts

  pub requests_are : p.ordered ≡ requests_shown (model p)
  unfolding model
  requests_are = sym (ap length (order_is p inv) ∙ length-order p inv)

  pub committed_are : p.committed ≡ committed_shown (model p)
  unfolding model book_of plan_of
  committed_are =
      sym (length-take-le p.committed (order_of p) (omega (arith, inv.counts.committed, length-order p inv)))

  pub commits_are : p.commits ≡ commits_shown (model p)
  unfolding model
  commits_are = refl

  pub owed_are : (p.stacked - p.executed) + (p.ordered - p.executed) ≡ owed_shown (model p)
  unfolding model
  owed_are = omega (arith, rollback-length p inv, todo-length p inv)

  -- ---- the shop

  pub panels_are : p.panels ≡ panels_shown (model p)
  unfolding model book_of plan_of
  panels_are = refl

  pub own_is : p.own.0 ≡ own_shown (model p)
  unfolding model book_of plan_of
  own_is = refl

  pub made_are : p.events ≡ made_shown (model p)
  unfolding model book_of
  made_are = inv.events

  -- ---- registers

  pub all_registers_are : p.registers ≡ registers_shown (model p)
  unfolding model
  all_registers_are = sym (registers_are p inv)

  pub register-refused : (k : ℕ) → last_register < k → RegisterShown p k (record { refusal = refused.bad_operation; value = 0 })
  unfolding register_refusal register_shown
  register-refused k h = let off = lt-ltb last_register k h in record { refusal = rw off; value = rw off }

  pub register_shown_is : (k : ℕ) → k ≤ last_register
      → RegisterShown p k (record { refusal = refused.accepted; value = get_or p.registers k 0 })
  unfolding register_refusal register_shown model
  register_shown_is k h =
      let on = le-ltb last_register k h in
      record { refusal = rw on; value = rw on (ap (λ (b : List ℕ). get_or b k 0) (sym (registers_are p inv))) }

  -- ---- the request at a place of the standing order

  place_test : (place : ℕ) → eqb place 0 || ltb p.ordered place ≡ eqb place 0 || ltb (requests_shown (model p)) place
  place_test place = ap (λ (n : ℕ). eqb place 0 || ltb n place) requests_are

  pub place-refused : (place : ℕ) (x : Request) → eqb place 0 || ltb p.ordered place ≡ true → x ≡ no_request
      → PlaceShown p place (record { refusal = refused.not_here; request = x })
  unfolding place_refusal place_shown
  place-refused place x e f =
      let out = sym (place_test place) ∙ e in
      record { refusal = rw out; request = rw out f }

  placed : (place : ℕ) → 1 ≤ place → place ≤ p.ordered
      → get_or (order (model p).book.plan) (place - 1) no_request ≡ request_of p (get_or p.order (place - 1) 0)
  unfolding model
  placed place low high =
      ap (λ (l : List Request). get_or l (place - 1) no_request) (order_is p inv)
      ∙ get_or_inside (order_of p) (place - 1) no_request (request_of p 0) (omega (arith, length-order p inv))
      ∙ get_or-map (request_of p) (order_slots p) (place - 1) 0
      ∙ ap (request_of p) (get_or-take p.ordered p.order (place - 1) 0 (omega arith))

  pub record Within (place : ℕ) : Type 0 where
    pub low : 1 ≤ place
    pub high : place ≤ p.ordered

  pub within : (place : ℕ) → eqb place 0 || ltb p.ordered place ≡ false → Within place
  within place e =
      let parts = neither_true (eqb place 0) (ltb p.ordered place) e in
      let some : place ≡ 0 → ⊥ = eqb-false place 0 parts.0 in
      record { low = positive place some; high = ltb-false p.ordered place parts.1 }
    where
      positive : (n : ℕ) → (n ≡ 0 → ⊥) → 1 ≤ n
      positive zero h = absurd (h refl)
      positive (suc n) h = omega arith

  pub place_shown_is : (place : ℕ) (x : Request) → eqb place 0 || ltb p.ordered place ≡ false
      → x ≡ request_of p (get_or p.order (place - 1) 0) → PlaceShown p place (record { refusal = refused.accepted; request = x })
  unfolding place_refusal place_shown
  place_shown_is place x e f =
      let inside = sym (place_test place) ∙ e in
      let w = within place e in
      record { refusal = rw inside; request = rw inside (f ∙ sym (placed place w.low w.high)) }
