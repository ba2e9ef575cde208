-- Laws of the standing order that requests and settlements give (`specs/Agreement`): the requests in clock order, what it depends on, and
-- that a request which none of the settlements concerns may come before them or after.
use Prim.Native.Nat.{◌≤◌}
use native.Mathlib.Omega.{arith}
use mathlib.Core.Path.{◌≡◌, refl, sym, ap, ◌∙◌}
use mathlib.Core.Bool.{Bool, true, false, not, ◌&&◌}
use mathlib.Core.List.{List, [], ◌∷◌, ◌++◌}
use mathlib.Core.Option.{Option, none, some}
use Rattle.numbers.specs.declared.Number.{Number}
use Rattle.request.specs.declared.Request.{Request}
use Rattle.numbers.specs.Numbers.{same_number}
use Rattle.request.specs.Order.{before}
use Rattle.request.specs.Request.{same_request}
use Rattle.lists.specs.Lists.{count, keep, find, Ordered, nil}
use Rattle.lists.specs.Places.{All}
use Rattle.lists.proofs.AllLaws.{all_weaken}
use Rattle.lists.proofs.BoolLaws.{neither, true_not_false}
use Rattle.lists.proofs.ListLaws.{one_true, count_kept, found_not, found_passes, keep_ordered}
use Rattle.lists.proofs.OrderedLaws.{find-insert, ordered_unique, keep_inserted, keep_not_inserted}
use Rattle.numbers.proofs.NumberLaws.{same_number_sound, same_number_self}
use Rattle.request.proofs.EqualityLaws.{same_request_sound, same_request_self}
use Rattle.request.proofs.OrderLaws.{before_irreflexive, before_transitive, before_total}
use Rattle.creek.specs.Plan.{Parts, has_number, placed, named, stays}
use Rattle.creek.specs.Agreement.{in_clock_order, nothing_committed, committing_found_in, committing_number_in, committing_in_turn}
use Rattle.creek.specs.Agreement.{standing_order, EachNumberOnce, Determined}
use Rattle.creek.proofs.EnteredLaws.{placed-count, placed_ordered}

-- ---- clock order

pub clock-order-count : (test : Request → Bool) (l : List Request) → count test (in_clock_order l) ≡ count test l
unfolding in_clock_order
clock-order-count test [] = refl
clock-order-count test (x ∷ xs) = omega (arith, placed-count test x (in_clock_order xs), clock-order-count test xs)

clock_order_ordered : (l : List Request) → EachNumberOnce l → Ordered before (in_clock_order l)
unfolding in_clock_order
clock_order_ordered [] once = nil
clock_order_ordered (x ∷ xs) once =
    placed_ordered x (in_clock_order xs)
    (omega (arith, once x.number, one_true (same_number_self x.number), clock-order-count (has_number x.number) xs))
    (clock_order_ordered xs (λ n. omega (arith, once n)))

-- a new request enters a list in clock order: what a test keeps of the list then
module _ (test : Request → Bool) (x : Request) (l : List Request) (absent : count (has_number x.number) l ≡ 0)
    (ordered : Ordered before l) where
  placed-kept : test x ≡ true → keep test (placed x l) ≡ placed x (keep test l)
  placed-kept = keep_inserted before before_irreflexive before_transitive same_request same_request_sound same_request_self
      (λ y z. same_number y.number z.number) before_total test x l absent ordered

  placed_not_kept : test x ≡ false → keep test (placed x l) ≡ keep test l
  placed_not_kept = keep_not_inserted before before_irreflexive before_transitive same_request same_request_sound same_request_self
      (λ y z. same_number y.number z.number) before_total test x l absent ordered

-- ---- it depends on which requests there are

pub determined : (l m : List Request) (settlements : List Number) → Determined l m settlements
unfolding standing_order committing_in_turn
determined l m settlements = record {
  same = λ same once once'. ap (λ (t : List Request). committing_in_turn (record { committed = []; tentative = t }) settlements)
      (ordered_unique before before_irreflexive before_transitive same_request same_request_sound same_request_self
      (in_clock_order l) (in_clock_order m) (clock_order_ordered l once) (clock_order_ordered m once')
      (λ z. clock-order-count (same_request z) l ∙ same z ∙ sym (clock-order-count (same_request z) m)));
}

-- ---- a request that no settlement concerns

-- the settlement of n, with those requests tentative, leaves x where it is: x has another number, and no request of that number names it
pub record Apart (x : Request) (l : List Request) (n : Number) : Type 0 where
  pub other : has_number n x ≡ false
  pub unnamed : count (λ y. named y x && has_number n y) l ≡ 0

-- x enters the tentative list
abbrev pub entering : Request → Parts → Parts
entering x p = record { committed = p.committed; tentative = placed x p.tentative }

module _ (x : Request) (n : Number) (p : Parts) (ordered : Ordered before p.tentative)
    (absent : count (has_number x.number) p.tentative ≡ 0) (apart : Apart x p.tentative n) where
  enters-found : (o : Option Request) → find (has_number n) p.tentative ≡ o
      → committing_found_in (entering x p) o ≡ entering x (committing_found_in p o)
  enters-found none e = refl
  enters-found (some y) e =
      let number : has_number n y ≡ true = found_passes (has_number n) y p.tentative e in
      let out : named y x ≡ false =
      unless (named y x) number (found_not (has_number n) (λ z. named z x && has_number n z) y p.tentative e apart.unnamed) in
      let other : has_number y.number x ≡ false =
      ap (λ (k : Number). has_number k x) (sym (same_number_sound n y.number number)) ∙ apart.other in
      let moved = placed_not_kept (named y) x p.tentative absent ordered out in
      let stayed = placed-kept (stays y) x p.tentative absent ordered (ap not (neither out other)) in
      λ i. record { committed = p.committed ++ (moved i ++ y ∷ []); tentative = stayed i }
    where
      unless : (a : Bool) {b : Bool} → b ≡ true → a && b ≡ false → a ≡ false
      unless true e f = true_not_false e f
      unless false e f = refl

  -- the request may enter before the settlement or after it
  enters_either : committing_number_in (entering x p) n ≡ entering x (committing_number_in p n)
  enters_either =
      rw (find-insert before (has_number n) x p.tentative apart.other) (enters-found (find (has_number n) p.tentative) refl)

-- what a settlement leaves in the tentative list
found-count : (test : Request → Bool) (p : Parts) (o : Option Request)
    → count test (committing_found_in p o).tentative ≤ count test p.tentative
found-count test p none = omega arith
found-count test p (some y) = count_kept (stays y) test p.tentative

found_ordered : (p : Parts) (o : Option Request) → Ordered before p.tentative → Ordered before (committing_found_in p o).tentative
found_ordered p none ordered = ordered
found_ordered p (some y) ordered = keep_ordered before (stays y) p.tentative ordered

enters-before : (x : Request) (settlements : List Number) (p : Parts) → Ordered before p.tentative
    → count (has_number x.number) p.tentative ≡ 0 → All (Apart x p.tentative) settlements
    → committing_in_turn (entering x p) settlements ≡ entering x (committing_in_turn p settlements)
unfolding committing_in_turn
enters-before x [] p ordered absent apart = refl
enters-before x (n ∷ ns) p ordered absent apart =
    let found = find (has_number n) p.tentative in
    ap (λ (q : Parts). committing_in_turn q ns) (enters_either x n p ordered absent apart.0)
    ∙ enters-before x ns (committing_number_in p n) (found_ordered p found ordered)
    (omega (arith, absent, found-count (has_number x.number) p found)) (all_weaken (still found) ns apart.1)
  where
    still : (o : Option Request) (m : Number) → Apart x p.tentative m → Apart x (committing_found_in p o).tentative m
    still o m a = record {
      other = a.other;
      unnamed = omega (arith, a.unnamed, found-count (λ y. named y x && has_number m y) p o);
    }

-- a new request that none of the settlements so far concerns enters the tentative list, and changes nothing else
pub enters_late : (x : Request) (l : List Request) (settlements : List Number) → EachNumberOnce l → count (has_number x.number) l ≡ 0
    → All (Apart x l) settlements → standing_order (x ∷ l) settlements ≡ entering x (standing_order l settlements)
unfolding standing_order in_clock_order
enters_late x l settlements once absent apart =
    enters-before x settlements (nothing_committed l) (clock_order_ordered l once)
    (clock-order-count (has_number x.number) l ∙ absent) (all_weaken sorted settlements apart)
  where
    sorted : (m : Number) → Apart x l m → Apart x (in_clock_order l) m
    sorted m a = record { other = a.other; unnamed = clock-order-count (λ y. named y x && has_number m y) l ∙ a.unnamed }

-- one settlement more
pub settles-next : (l : List Request) (settlements : List Number) (n : Number)
    → standing_order l (settlements ++ n ∷ []) ≡ committing_number_in (standing_order l settlements) n
unfolding standing_order committing_in_turn
settles-next l settlements n = go (nothing_committed l) settlements
  where
    go : (p : Parts) (ns : List Number) → committing_in_turn p (ns ++ n ∷ []) ≡ committing_number_in (committing_in_turn p ns) n
    go p [] = refl
    go p (m ∷ ns) = go (committing_number_in p m) ns
