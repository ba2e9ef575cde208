-- A request is committed: the requests are the same ones, the plan stays sound, and one strong request more is committed.
use Prim.Native.Nat.{suc, ◌≤◌}
use native.Mathlib.Omega.{arith}
use mathlib.Core.Path.{◌≡◌, refl, sym, ap, ◌∙◌}
use mathlib.Core.Bool.{Bool, true, false, not, ◌&&◌, ◌||◌, beq}
use mathlib.Core.List.{[], ◌∷◌, ◌++◌, append_assoc}
use mathlib.Core.Option.{some}
use lib.ListN.{length}
use Rattle.sets.specs.declared.Context.{Context}
use Rattle.request.specs.declared.Request.{Request}
use Rattle.numbers.specs.Numbers.{most_panels}
use Rattle.numbers.specs.internal.Slots.{GoodNumber}
use Rattle.sets.specs.Sets.{is_empty, names_from, join, subset}
use Rattle.request.specs.Order.{before}
use Rattle.request.specs.Request.{bad_context}
use Rattle.lists.proofs.BoolLaws.{true_not_false, both_true, neither_true}
use Rattle.numbers.proofs.NumberLaws.{same_number_self}
use Rattle.sets.proofs.SetLaws.{subset-member}
use Rattle.lists.specs.Lists.{count, keep, find}
use Rattle.creek.specs.Plan.{Plan, order, has_number}
use Rattle.creek.specs.Plan.{named, stays, committing}
use Rattle.creek.specs.internal.Sound.{is_bad, Held, unknown, known_against_strength, SoundPlan}
use Rattle.lists.proofs.ListLaws.{one_true, one_false, count-append, count_never, count_weaker, counts-length}
use Rattle.lists.proofs.ListLaws.{count-keep, count_split, keep-found, found-counts}
use Rattle.lists.proofs.ListLaws.{found_not, keep_ordered}
use Rattle.creek.proofs.HeldLaws.{good-request, widened, number-held, held_moved, held_known}
use Rattle.creek.proofs.KnownLaws.{now_known, other_known, still_known}

-- ---- a request is committed

-- a request that stays has another number
pub stays_other : (x y : Request) → stays x y ≡ true → has_number x.number y ≡ false
stays_other x y e = (neither_true (named x y) (has_number x.number y) (not-true _ e)).1
  where
    not-true : (b : Bool) → not b ≡ true → b ≡ false
    not-true true e = sym e
    not-true false e = refl

-- the new order starts with the old committed list
pub committing_starts : (a : Plan) (x : Request)
    → order (committing a x) ≡ a.committed ++ ((keep (named x) a.tentative ++ x ∷ []) ++ keep (stays x) a.tentative)
unfolding committing
committing_starts a x = append_assoc a.committed (keep (named x) a.tentative ++ x ∷ []) (keep (stays x) a.tentative)

module _ (a : Plan) (x : Request) (found : find (has_number x.number) a.tentative ≡ some x) (sound : SoundPlan a) where
  -- a good context does not name its own request
  pub not_itself : named x x ≡ false
  unfolding bad_context
  not_itself =
      let few : count (is_bad a.panels) a.tentative ≡ 0 =
      omega (arith, sound.held.good, count-append (is_bad a.panels) a.committed a.tentative) in
      let good = found_not (has_number x.number) (is_bad a.panels) x a.tentative found few in
      let weak = not x.asked.strong && not (is_empty x.context) in
      let plain = (neither_true (weak || named x x) (names_from a.panels x.context) (good-request a.panels x good).context).0 in
      (neither_true weak (named x x) plain).1

  -- committing moves requests, and neither loses nor adds one
  pub committing-count : (p : Request → Bool) → count p (order (committing a x)) ≡ count p (order a)
  committing-count p =
      let t = a.tentative in
      let few : count (has_number x.number) t ≤ 1 =
      omega (arith, sound.held.distinct x.number, count-append (has_number x.number) a.committed t) in
      omega (
        arith,
        ap (count p) (committing_starts a x),
        count-append p a.committed ((keep (named x) t ++ x ∷ []) ++ keep (stays x) t),
        count-append p (keep (named x) t ++ x ∷ []) (keep (stays x) t),
        count-append p (keep (named x) t) (x ∷ []),
        count_split p (named x) (has_number x.number) t,
        ap (count p) (keep-found (named x) (has_number x.number) x not_itself t found few),
        count-append p a.committed t,
      )

  pub committing-length : length (order (committing a x)) ≡ length (order a)
  committing-length = counts-length (order (committing a x)) (order a) committing-count

  itself-held : 1 ≤ count (has_number x.number) (order (committing a x))
  itself-held =
      omega (
        arith,
        committing-count (has_number x.number),
        count-append (has_number x.number) a.committed a.tentative,
        found-counts (has_number x.number) (has_number x.number) x a.tentative found (same_number_self x.number),
      )

  commits-held : Held a.panels a.own a.known (order (committing a x))
  commits-held = held_moved sound.held (order (committing a x)) committing-count

  commits_good : GoodNumber most_panels x.number
  commits_good = widened sound.held.few_panels (number-held commits-held x.number itself-held)

  abbrev known_then : Context
  known_then = join a.known x.number

  -- what its context names is known, since the whole context is
  named_known : subset x.context a.known ≡ true → (y : Request) → named x y && unknown known_then y ≡ false
  named_known whole y = go (named x y) refl
    where
      still : unknown known_then y ≡ true → unknown a.known y ≡ true
      still = still_known a.known x.number sound.held.known_words commits_good y

      go : (b : Bool) → named x y ≡ b → b && unknown known_then y ≡ false
      go false e = refl
      go true e = ruled (unknown known_then y) refl
        where
          ruled : (b : Bool) → unknown known_then y ≡ b → b ≡ false
          ruled true f = true_not_false (still f) (ap not (subset-member x.context a.known y.number whole e))
          ruled false f = refl

  -- those that stay are known as before
  stay_as_before : (y : Request) → stays x y && known_against_strength known_then y ≡ true → known_against_strength a.known y ≡ true
  stay_as_before y e =
      let parts = both_true (stays x y) _ e in
      let other = stays_other x y parts.0 in
      ap (beq y.asked.strong) (sym (other_known a.known x.number sound.held.known_words commits_good y other)) ∙ parts.1

  pub committing_sound : subset x.context a.known ≡ true → SoundPlan (committing a x)
  unfolding committing
  committing_sound whole = record {
    held = held_known commits-held x.number itself-held;
    clock_order = keep_ordered before (stays x) a.tentative sound.clock_order;
    committed_known =
        omega (
          arith,
          count-append (unknown known_then) a.committed (keep (named x) a.tentative ++ x ∷ []),
          count-append (unknown known_then) (keep (named x) a.tentative) (x ∷ []),
          count_weaker (unknown known_then) (unknown a.known)
              (still_known a.known x.number sound.held.known_words commits_good) a.committed,
          sound.committed_known,
          count-keep (named x) (unknown known_then) a.tentative,
          count_never (λ y. named x y && unknown known_then y) (named_known whole) a.tentative,
          one_false (ap not (now_known a.known x.number sound.held.known_words commits_good)),
        );
    tentative_known =
        omega (
          arith,
          sound.tentative_known,
          count-keep (stays x) (known_against_strength known_then) a.tentative,
          count_weaker (λ y. stays x y && known_against_strength known_then y) (known_against_strength a.known) stay_as_before a.tentative,
        );
  }

  -- the requests that a context names are weak, so a settlement commits one strong request, its own
  pub committing-strong : subset x.context a.known ≡ true → x.asked.strong ≡ true
      → count (λ y. y.asked.strong) (committing a x).committed ≡ suc (count (λ y. y.asked.strong) a.committed)
  unfolding committing
  committing-strong whole strong =
      omega (
        arith,
        count-append (λ y. y.asked.strong) a.committed (keep (named x) a.tentative ++ x ∷ []),
        count-append (λ y. y.asked.strong) (keep (named x) a.tentative) (x ∷ []),
        count-keep (named x) (λ y. y.asked.strong) a.tentative,
        one_true strong,
        sound.tentative_known,
        count_weaker (λ y. named x y && y.asked.strong) (known_against_strength a.known) against a.tentative,
      )
    where
      against : (y : Request) → named x y && y.asked.strong ≡ true → known_against_strength a.known y ≡ true
      against y e =
          let parts = both_true (named x y) y.asked.strong e in
          let known = subset-member x.context a.known y.number whole parts.0 in
          rw (parts.1, known)
