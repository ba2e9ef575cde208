-- What holds of the requests held (`Held`): after a rearrangement, after one more request, after a number has become known; that a number
-- held is good; and that at most 512 requests are held.
use Prim.Native.Nat.{ℕ, ◌+◌, ◌≤◌}
use native.Mathlib.Omega.{arith}
use mathlib.Core.Path.{◌≡◌, refl, sym, ap, ◌∙◌}
use mathlib.Core.Bool.{Bool, true, false, ◌||◌}
use mathlib.Core.List.{List, ◌∷◌}
use lib.ListN.{length}
use lib.Dec.{ltb, eqb}
use borrow.Author.Tests.{ltb-true, eqb-true, lt-ltb}
use Rattle.sets.specs.declared.Context.{Context}
use Rattle.numbers.specs.declared.Number.{Number}
use Rattle.request.specs.declared.Request.{Request}
use Rattle.numbers.specs.Numbers.{same_number, bad_number, most_panels}
use Rattle.numbers.specs.internal.Slots.{GoodNumber, slot_of, number_of}
use Rattle.request.specs.Asked.{bad_asked}
use Rattle.sets.specs.Sets.{member, join}
use Rattle.request.specs.Request.{bad_context}
use Rattle.lists.proofs.BoolLaws.{true_not_false, both_true, both, neither_true}
use Rattle.numbers.proofs.NumberLaws.{good-number, same_number_sound, same_number_self, slot_fits, number_of_slot}
use Rattle.sets.proofs.SetLaws.{member-join, join-length}
use Rattle.lists.specs.Lists.{one, count}
use Rattle.creek.specs.Plan.{has_number, is_of}
use Rattle.creek.specs.internal.Sound.{most_requests, is_bad, own_beyond, Held}
use Rattle.lists.proofs.ListLaws.{one_true, one_false, count_implies, count_weaker, count_all, pigeonhole}
use Rattle.sets.proofs.PanelLaws.{names_from-join}

-- ---- a request that is not bad

pub record Good (panels : ℕ) (x : Request) : Type 0 where
  pub number : bad_number panels x.number ≡ false
  pub asked : bad_asked x.asked ≡ false
  pub context : bad_context panels x ≡ false

pub good-request : (panels : ℕ) (x : Request) → is_bad panels x ≡ false → Good panels x
unfolding is_bad
good-request panels x e =
    let last = neither_true _ _ e in
    let first = neither_true _ _ last.0 in
    record { number = first.0; asked = first.1; context = last.1 }

-- a number of a small shop is one of the largest
pub widened : {panels : ℕ} {n : Number} → panels ≤ most_panels → GoodNumber panels n → GoodNumber most_panels n
widened h g = record { panel = omega (arith, g); least = g.least; most = g.most }

module _ {panels own : ℕ} {known : Context} {l : List Request} (h : Held panels own known l) where
  -- a number held is good
  pub number-held : (n : Number) → 1 ≤ count (has_number n) l → GoodNumber panels n
  number-held n c = go (bad_number panels n) refl
    where
      same_badness : bad_number panels n ≡ true → (x : Request) → is_bad panels x ≡ false → has_number n x ≡ true → is_bad panels x ≡ true
      same_badness e x f t =
          true_not_false (ap (bad_number panels) (sym (same_number_sound n x.number t)) ∙ e) (good-request panels x f).number

      go : (b : Bool) → bad_number panels n ≡ b → GoodNumber panels n
      go true e = absurd (omega (arith, h.good, count_implies (has_number n) (is_bad panels) (is_bad panels) (same_badness e) l))
      go false e = good-number panels n e

  -- a rearrangement
  pub held_moved : (m : List Request) → ((p : Request → Bool) → count p m ≡ count p l) → Held panels own known m
  held_moved m e = record {
    few_panels = h.few_panels;
    own_below = h.own_below;
    distinct = λ n. omega (arith, e (has_number n), h.distinct n);
    good = e (is_bad panels) ∙ h.good;
    own_events = rw (e (is_of own)) (e _ ∙ h.own_events);
    known_words = h.known_words;
    known_panels = h.known_panels;
    known_held = λ n k. omega (arith, e (has_number n), h.known_held n k);
  }

  -- a number that is held becomes known
  pub held_known : (n : Number) → 1 ≤ count (has_number n) l → Held panels own (join known n) l
  held_known n c = record {
    few_panels = h.few_panels;
    own_below = h.own_below;
    distinct = h.distinct;
    good = h.good;
    own_events = h.own_events;
    known_words = join-length known n ∙ h.known_words;
    known_panels = names_from-join panels known n (number-held n c).panel ∙ h.known_panels;
    known_held = λ m k. go m (same_number n m) refl (sym (member-join known n m h.known_words good_wide) ∙ k);
  }
    where
      good_wide : GoodNumber most_panels n
      good_wide = widened h.few_panels (number-held n c)

      go : (m : Number) (b : Bool) → same_number n m ≡ b → b || member known m ≡ true → 1 ≤ count (has_number m) l
      go m true e k = rw (same_number_sound n m e) at c
      go m false e k = h.known_held m k

  -- one more request, with a number that is not held
  pub held_more : (x : Request) → is_bad panels x ≡ false → own_beyond own (count (is_of own) (x ∷ l)) x ≡ false
      → count (has_number x.number) l ≡ 0 → Held panels own known (x ∷ l)
  unfolding own_beyond
  held_more x good last absent = record {
    few_panels = h.few_panels;
    own_below = h.own_below;
    distinct = λ n. once n (has_number n x) refl;
    good = omega (arith, one_false good, h.good);
    own_events = omega (
      arith,
      one_false last,
      h.own_events,
      count_weaker (own_beyond own (count (is_of own) (x ∷ l))) (own_beyond own (count (is_of own) l)) still l,
    );
    known_words = h.known_words;
    known_panels = h.known_panels;
    known_held = λ n k. omega (arith, h.known_held n k);
  }
    where
      once : (n : Number) (b : Bool) → has_number n x ≡ b → one (has_number n x) + count (has_number n) l ≤ 1
      once n true e =
          let none : count (has_number n) l ≡ 0 = rw (sym (same_number_sound n x.number e)) at absent in
          omega (arith, one_true e)
      once n false e = omega (arith, one_false e, h.distinct n)

      still : (y : Request) → own_beyond own (count (is_of own) (x ∷ l)) y ≡ true → own_beyond own (count (is_of own) l) y ≡ true
      still y e =
          let parts = both_true (is_of own y) (ltb (count (is_of own) (x ∷ l)) y.number.event.0) e in
          both parts.0 (lt-ltb (count (is_of own) l) y.number.event.0 (omega (arith, ltb-true)))

  -- at most 512 requests are held: their slots are distinct
  pub held-few : length l ≤ most_requests
  held-few =
      omega (
        arith,
        count_all l,
        h.good,
        count_implies (λ x. true) (λ x. ltb (slot x) most_requests) (is_bad panels) fits l,
        pigeonhole slot l once most_requests,
      )
    where
      slot : Request → ℕ
      slot x = slot_of x.number

      right : (x : Request) → is_bad panels x ≡ false → GoodNumber most_panels x.number
      right x e = widened h.few_panels (good-number panels x.number (good-request panels x e).number)

      fits : (x : Request) → is_bad panels x ≡ false → true ≡ true → ltb (slot x) most_requests ≡ true
      fits x e t = lt-ltb (slot x) most_requests (slot_fits x.number (right x e))

      of_slot : (k : ℕ) (x : Request) → is_bad panels x ≡ false → eqb (slot x) k ≡ true → has_number (number_of k) x ≡ true
      of_slot k x e t =
          let same : number_of k ≡ x.number = ap number_of (sym (eqb-true (slot x) k t)) ∙ number_of_slot x.number (right x e) in
          rw same (same_number_self x.number)

      once : (k : ℕ) → count (λ x. eqb (slot x) k) l ≤ 1
      once k =
          omega (
            arith,
            h.good,
            h.distinct (number_of k),
            count_implies (λ x. eqb (slot x) k) (has_number (number_of k)) (is_bad panels) (of_slot k) l,
          )
