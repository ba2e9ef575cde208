-- What is kept at a slot and held under a number; and that a held strong request is known exactly where it is committed.
use Prim.Native.Nat.{ℕ, ◌≤◌}
use native.Mathlib.Omega.{arith}
use mathlib.Core.Path.{◌≡◌, refl, sym, ap, ◌∙◌}
use mathlib.Core.Bool.{Bool, true, false, not}
use mathlib.Core.Option.{some}
use lib.ListN.{get_or}
use Rattle.sets.specs.declared.Context.{Context}
use Rattle.numbers.specs.declared.Number.{Number}
use Rattle.request.specs.declared.Request.{Request}
use Rattle.numbers.specs.Numbers.{bad_number, most_panels}
use Rattle.numbers.specs.internal.Slots.{GoodNumber, slot_of}
use Rattle.sets.specs.Sets.{member}
use Rattle.numbers.proofs.NumberLaws.{good-number, same_number_sound, number_of_slot, slot_fits}
use Rattle.lists.specs.Lists.{find}
use Rattle.lists.proofs.BoolLaws.{true_not_false, same_test}
use Rattle.lists.proofs.ListLaws.{count_weaker, passes_count, none_passes_count, found_passes, found_not, find_skip}
use Rattle.ordering.specs.Slots.{IsSlot}
use Rattle.creek.specs.Plan.{Plan, has_number, held, is_committed}
use Rattle.creek.specs.internal.Sound.{unknown, known_against_strength, SoundPlan}
use Rattle.creek.proofs.HeldLaws.{widened}
use Rattle.replica.specs.State.{State}
use Rattle.store.specs.Requests.{asked_in, context_at as context_in, request_at}
use Rattle.replica.specs.internal.Model.{plan_of, book_of, model, Inv}
use Rattle.replica.proofs.RequestLaws.{held_some}

-- ---- what p keeps at slot s

abbrev pub kept_at : State → ℕ → Request
kept_at p s = request_at p.clocks p.askings p.contexts s

abbrev pub number_at : State → ℕ → Number
number_at p s = (kept_at p s).number

abbrev pub strong_at : State → ℕ → Bool
strong_at p s = (asked_in (get_or p.askings s 0)).strong

abbrev pub context_at : State → ℕ → Context
context_at p s = context_in p.contexts s

-- ---- what is held under a number

module _ {p : State} (inv : Inv p) where
  pub sound_plan : SoundPlan (plan_of p)
  unfolding model book_of
  sound_plan = inv.sound.plan

  pub few_panels : p.panels ≤ most_panels
  unfolding plan_of
  few_panels = sound_plan.held.few_panels

  -- a good number of this shop is one of the largest
  pub good_widened : {n : Number} → bad_number p.panels n ≡ false → GoodNumber most_panels n
  good_widened {n} e = widened few_panels (good-number p.panels n e)

-- s is the slot of n, which is good and held
pub record HeldAt (p : State) (n : Number) (s : ℕ) : Type 0 where
  pub slot : s ≡ slot_of n
  pub good : bad_number p.panels n ≡ false
  pub here : member p.held n ≡ true

module _ {p : State} {n : Number} {s : ℕ} (inv : Inv p) (h : HeldAt p n s) where
  pub held_slot : IsSlot s
  held_slot = rw h.slot (slot_fits n (good_widened inv h.good))

  pub held_number : number_at p s ≡ n
  unfolding request_at
  held_number = rw h.slot (number_of_slot n (good_widened inv h.good))

  pub held-request : held (plan_of p) n ≡ some (kept_at p s)
  held-request = rw h.slot (held_some p inv n (good_widened inv h.good) h.here)

-- ---- a held strong request is known exactly where it is committed

module _ (a : Plan) (sound : SoundPlan a) (n : Number) where
  known_committed : is_committed a n ≡ true → member a.known n ≡ true
  known_committed e = go (member a.known n) refl
    where
      lost : member a.known n ≡ false → (x : Request) → has_number n x ≡ true → unknown a.known x ≡ true
      lost f x t = ap not (ap (member a.known) (sym (same_number_sound n x.number t)) ∙ f)

      go : (b : Bool) → member a.known n ≡ b → b ≡ true
      go true f = refl
      go false f =
          absurd (omega (
            arith,
            passes_count (has_number n) a.committed e,
            sound.committed_known,
            count_weaker (has_number n) (unknown a.known) (lost f) a.committed,
          ))

  module _ (x : Request) (here : held a n ≡ some x) (strong : x.asked.strong ≡ true) where
    -- one that is not committed is tentative
    pub found_tentative : is_committed a n ≡ false → find (has_number n) a.tentative ≡ some x
    found_tentative e =
        sym (find_skip (has_number n) a.committed a.tentative (none_passes_count (has_number n) a.committed e)) ∙ here

    unknown_tentative : is_committed a n ≡ false → member a.known n ≡ false
    unknown_tentative e =
        let found = found_tentative e in
        let same : n ≡ x.number = same_number_sound n x.number (found_passes (has_number n) x a.tentative found) in
        ap (member a.known) same
        ∙ not_known (found_not (has_number n) (known_against_strength a.known) x a.tentative found sound.tentative_known)
      where
        not_known : known_against_strength a.known x ≡ false → member a.known x.number ≡ false
        not_known f = go (member a.known x.number) refl
          where
            go : (b : Bool) → member a.known x.number ≡ b → b ≡ false
            go false g = refl
            go true g = true_not_false (rw (strong, g)) f

    pub committed_is_known : is_committed a n ≡ member a.known n
    committed_is_known = same_test _ _ known_committed (λ e. go (is_committed a n) refl e)
      where
        go : (b : Bool) → is_committed a n ≡ b → member a.known n ≡ true → b ≡ true
        go true f e = refl
        go false f e = true_not_false e (unknown_tentative f)
