-- What an accepted make, hear and settle say of their request: it may enter the plan, or is found among the tentative ones.
use Prim.Native.Nat.{ℕ, suc}
use native.Mathlib.Omega.{arith}
use mathlib.Core.Path.{◌≡◌, refl, sym, ap, ◌∙◌}
use mathlib.Core.Bool.{Bool, true, false, not, ◌&&◌, cond}
use mathlib.Core.List.{◌∷◌}
use mathlib.Core.Option.{Option, none, some}
use lib.Dec.{T, ltb, ltb→lt}
use borrow.Author.Tests.{leb-false, eq-eqb, lt-ltb, le-ltb, not-false}
use Rattle.numbers.specs.declared.Number.{Number}
use Rattle.request.specs.declared.Request.{Request}
use Rattle.numbers.specs.Numbers.{bad_number, most_events}
use Rattle.request.specs.Asked.{bad_asked}
use Rattle.sets.specs.Sets.{empty_set, member, subset}
use Rattle.request.specs.Order.{before}
use Rattle.request.specs.Request.{same_request, bad_context}
use Rattle.request.specs.Refusal as refused
use Rattle.lists.proofs.BoolLaws.{both_true, both, neither, first_false, second_false}
use Rattle.numbers.proofs.NumberLaws.{number_good, same_number_sound}
use Rattle.sets.proofs.SetLaws.{member_empty, empty_set_empty}
use Rattle.creek.specs.declared.Invocation.{Invocation}
use Rattle.lists.specs.Lists.{one, count, find}
use Rattle.creek.specs.Plan.{Plan, order, has_number, held, is_of, last_event, last_clock, without}
use Rattle.creek.specs.Plan.{next_number, request_with, later, at_least, made, committing, committing_found}
use Rattle.creek.specs.Plan.{committing_number, met, invoke_refusal, held_refusal, deliver_refusal, is_committed, waits, found_refusal, commit_refusal}
use Rattle.creek.specs.internal.Sound.{is_bad, own_beyond, SoundPlan}
use Rattle.lists.proofs.ListLaws.{one_true, count-append, count_weaker}
use Rattle.lists.proofs.ListLaws.{none_passes_count, count-keep, find_none, found_passes}
use Rattle.lists.proofs.ListLaws.{find_skip}
use Rattle.sets.proofs.PanelLaws.{names_from_empty}
use Rattle.creek.proofs.ContextLaws.{beyond, without-member, without-names_from}
use Rattle.creek.proofs.HeldLaws.{Good}

-- ---- what acceptance says

-- a test that was not met, in a chain that came to no refusal
pub passed : (t : Bool) (n rest : ℕ) → T (ltb 0 n) → met t n rest ≡ refused.accepted → (t ≡ false) × (rest ≡ refused.accepted)
passed true n rest h e = absurd (omega (arith, ltb→lt 0 n h))
passed false n rest h e = (refl, e)

-- x may enter the plan a
pub record New (a : Plan) (x : Request) : Type 0 where
  pub good : is_bad a.panels x ≡ false
  pub last : own_beyond a.own (count (is_of a.own) (x ∷ order a)) x ≡ false
  pub absent : count (has_number x.number) (order a) ≡ 0

all_good : {panels : ℕ} {x : Request} → Good panels x → is_bad panels x ≡ false
unfolding is_bad
all_good g = neither (neither g.number g.asked) g.context

-- ---- the request that is made

module _ (a : Plan) (sound : SoundPlan a) where
  -- the next own number is not held
  next_absent : count (has_number (next_number a)) (order a) ≡ 0
  unfolding last_event own_beyond
  next_absent =
      omega (
        arith,
        sound.held.own_events,
        count_weaker (has_number (next_number a)) (own_beyond a.own (last_event a)) is_beyond (order a),
      )
    where
      is_beyond : (x : Request) → has_number (next_number a) x ≡ true → own_beyond a.own (last_event a) x ≡ true
      is_beyond x e =
          let same = same_number_sound (next_number a) x.number e in
          let panel : a.own ≡ x.number.panel.0 = ap (λ (n : Number). n.panel.0) same in
          let event : suc (last_event a) ≡ x.number.event.0 = ap (λ (n : Number). n.event.0) same in
          both (eq-eqb x.number.panel.0 a.own (sym panel)) (lt-ltb (last_event a) x.number.event.0 (omega arith))

-- a request asked for with any clock reading
module _ (a : Plan) (sound : SoundPlan a) (i : Invocation) where
  -- the later tentative requests are of panels of the shop
  later_inside : count (beyond a.panels) (later a i) ≡ 0
  unfolding bad_number is_bad
  later_inside =
      omega (
        arith,
        sound.held.good,
        count-append (is_bad a.panels) a.committed a.tentative,
        count-keep (before (request_with a i empty_set)) (beyond a.panels) a.tentative,
        count_weaker (λ x. before (request_with a i empty_set) x && beyond a.panels x) (is_bad a.panels) strays a.tentative,
      )
    where
      strays : (x : Request) → before (request_with a i empty_set) x && beyond a.panels x ≡ true → is_bad a.panels x ≡ true
      strays x e =
          let far : not (ltb x.number.panel.0 a.panels) ≡ true = (both_true (before (request_with a i empty_set) x) _ e).1 in
          rw far

  good_context : (strong : Bool) → i.asked.strong ≡ strong
      → bad_context a.panels (request_with a i (cond strong (without a.known (later a i)) empty_set)) ≡ false
  unfolding bad_context
  good_context false s =
      neither (neither (second_false (not i.asked.strong) (ap not empty_set_empty)) (member_empty (next_number a)))
      (names_from_empty a.panels)
  good_context true s = neither (neither (first_false _ (ap not s)) (go (member (without a.known (later a i)) (next_number a)) refl))
      (without-names_from a.panels a.known (later a i) later_inside ∙ sound.held.known_panels)
    where
      go : (b : Bool) → member (without a.known (later a i)) (next_number a) ≡ b → b ≡ false
      go true e = absurd (omega (arith, next_absent a sound, sound.held.known_held _ (without-member a.known (later a i) _ e)))
      go false e = refl

module _ (a : Plan) (sound : SoundPlan a) (i : Invocation) where
  made_last : own_beyond a.own (count (is_of a.own) (made a i ∷ order a)) (made a i) ≡ false
  unfolding own_beyond made last_event
  made_last =
      let own : one (is_of a.own (made a i)) ≡ 1 = one_true (eq-eqb a.own a.own refl) in
      second_false (is_of a.own (made a i)) (le-ltb (count (is_of a.own) (made a i ∷ order a)) (suc (last_event a)) (omega arith))

  pub made_new : invoke_refusal a i ≡ refused.accepted → New a (made a i)
  unfolding invoke_refusal made at_least
  made_new e =
      let asked = passed (bad_asked i.asked) refused.bad_operation _ tt e in
      let room = leb-false most_events (last_event a) (passed _ refused.shift_full refused.accepted tt asked.1).0 in
      record {
        good = all_good (record {
          number =
              number_good a.panels (next_number a) (record { panel = sound.held.own_below; least = omega arith; most = omega arith });
          asked = asked.0;
          context = good_context a sound (at_least (last_clock a) i) i.asked.strong refl;
        });
        last = made_last;
        absent = next_absent a sound;
      }

-- ---- a request that is heard

module _ (a : Plan) (x : Request) where
  heard_absent : (f : Option Request) → held a x.number ≡ f → held_refusal f x ≡ refused.accepted
      → count (has_number x.number) (order a) ≡ 0
  heard_absent none e h = find_none (has_number x.number) (order a) e
  heard_absent (some y) e h = absurd (clash (same_request y x) h)
    where
      clash : (b : Bool) → cond b refused.held_already refused.number_clash ≡ refused.accepted → ⊥
      clash true h = omega arith
      clash false h = omega arith

  pub heard_new : deliver_refusal a x ≡ refused.accepted → New a x
  unfolding deliver_refusal own_beyond
  heard_new e =
      let number = passed (bad_number a.panels x.number) refused.bad_number _ tt e in
      let other = passed (is_of a.own x) refused.own_echo _ tt number.1 in
      let asked = passed (bad_asked x.asked) refused.bad_operation _ tt other.1 in
      let context = passed (bad_context a.panels x) refused.bad_context _ tt asked.1 in
      record {
        good = all_good (record { number = number.0; asked = asked.0; context = context.0 });
        last = first_false _ other.0;
        absent = heard_absent (held a x.number) refl context.1;
      }

-- ---- a settlement finds its request among the tentative ones

module _ (a : Plan) (n : Number) where
  pub record Commits : Type 0 where
    pub request : Request
    pub number : n ≡ request.number
    pub found : find (has_number request.number) a.tentative ≡ some request
    pub strong : request.asked.strong ≡ true
    pub context_known : subset request.context a.known ≡ true
    pub leads : committing_number a n ≡ committing a request

  commits-found : (f : Option Request) → held a n ≡ f → found_refusal a n f ≡ refused.accepted → Commits
  unfolding committing_found
  commits-found none e h = absurd (omega arith)
  commits-found (some x) e h =
      let strong = passed (not x.asked.strong) refused.weak _ tt h in
      let new = passed (is_committed a n) refused.settled_already _ tt strong.1 in
      let known = passed (waits a x) refused.waits refused.accepted tt new.1 in
      let f = sym (find_skip (has_number n) a.committed a.tentative (none_passes_count (has_number n) a.committed new.0)) ∙ e in
      let same = same_number_sound n x.number (found_passes (has_number n) x a.tentative f) in
      record {
        request = x;
        number = same;
        found = ap (λ (m : Number). find (has_number m) a.tentative) (sym same) ∙ f;
        strong = not-false _ strong.0;
        context_known = not-false _ known.0;
        leads = ap (committing_found a) f;
      }

  pub commits : commit_refusal a n ≡ refused.accepted → Commits
  unfolding commit_refusal
  commits e = commits-found (held a n) refl (passed (bad_number a.panels n) refused.bad_number _ tt e).1
