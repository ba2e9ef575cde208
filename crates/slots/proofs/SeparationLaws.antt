-- Laws of a separation: the pass that gathers those named in place and those that stay in another array.
use Prim.Native.Nat.{ℕ, ◌+◌, ◌≤◌, ◌<◌}
use native.Mathlib.Omega.{arith}
use native.Mathlib.Nat.{add-zero, le_refl}
use native.Mathlib.Numerals.{add-one}
use mathlib.Core.Path.{◌≡◌, refl, sym, ap, ◌∙◌}
use mathlib.Core.Bool.{Bool, true, false}
use mathlib.Core.List.{List, [], ◌++◌, append_assoc, append-nil}
use lib.ListN.{length, take, drop, get_or, set, length-set, length-append}
use lib.Seq.{slice, take-suc-set, take-set-le, drop-set-lt, length-take-le}
use Rattle.lists.specs.Lists.{one, keep}
use Rattle.lists.proofs.ListLaws.{one_most}
use Rattle.lists.proofs.PlaceLaws.{drop_further, get_or_further}
use Rattle.lists.proofs.StepLaws.{keep_taken, keep-passed, keep-end}
use Rattle.ordering.specs.Slots.{most_slots, in_words}
use Rattle.slots.specs.Settlement.{stays, Separated}

-- ---- one side

-- the element at place i, stored behind the first n of zs and counted where it passes the test, with what is kept behind i, is what was
-- kept from i on
module _ (test : ℕ → Bool) (xs : List ℕ) (i to : ℕ) (below : i < to) (inside : to ≤ length xs)
    (zs : List ℕ) (n : ℕ) (room : n < length zs) where
  gathered_on : (b : Bool) → test (get_or xs i 0) ≡ b
      → take (n + one b) (set zs n (get_or xs i 0)) ++ keep test (slice (i + 1) to xs) ≡ take n zs ++ keep test (slice i to xs)
  gathered_on true e =
      rw (add-one n, take-suc-set zs n (get_or xs i 0) room, append_assoc, keep_taken test xs 0 i to below inside e)
  gathered_on false e =
      rw (add-zero n, take-set-le n zs n (get_or xs i 0) (le_refl n), keep-passed test xs 0 i to below inside e)

-- how many were gathered
gathered-count : (zs l : List ℕ) (n : ℕ) → n ≤ length zs → take n zs ≡ l → n ≡ length l
gathered-count zs l n h e = sym (length-take-le n zs h) ∙ ap length e

-- ---- both sides

-- from place i on, with those named in the first `own` of ys and those that stay in the first `count` of zs, the pass leads to the whole
pub record Separating (xs : List ℕ) (from to : ℕ) (words : List ℕ) (s : ℕ) (ys zs : List ℕ) (own count i : ℕ) : Type 0 where
  pub low : from ≤ i
  pub high : i ≤ to
  pub own_low : own ≤ i
  pub count_low : count ≤ i
  pub named : take own ys ++ keep (in_words words) (slice i to xs) ≡ take from xs ++ keep (in_words words) (slice from to xs)
  pub staying : take count zs ++ keep (stays words s) (slice i to xs) ≡ keep (stays words s) (slice from to xs)
  pub rest : drop i ys ≡ drop i xs
  pub long : length ys ≡ most_slots
  pub staying_long : length zs ≡ most_slots

module _ (xs : List ℕ) (from to : ℕ) (words : List ℕ) (s : ℕ) (ys zs : List ℕ) (own count i : ℕ)
    (h : Separating xs from to words s ys zs own count i) (inside : to ≤ most_slots) (long : length xs ≡ most_slots) where
  -- the element to come is still the one that stood there
  pub separating_here : get_or ys i 0 ≡ get_or xs i 0
  separating_here = get_or_further i i ys xs 0 (le_refl i) h.rest

  separated_at : i < to
      → Separating xs from to words s (set ys own (get_or xs i 0)) (set zs count (get_or xs i 0))
      (own + one (in_words words (get_or xs i 0))) (count + one (stays words s (get_or xs i 0))) (i + 1)
  separated_at below = record {
    low = omega (arith, h.low);
    high = omega arith;
    own_low = omega (arith, h.own_low, one_most (in_words words (get_or xs i 0)));
    count_low = omega (arith, h.count_low, one_most (stays words s (get_or xs i 0)));
    named = gathered_on (in_words words) xs i to below (omega arith) ys own (omega (arith, h.own_low, h.long)) _ refl ∙ h.named;
    staying =
        gathered_on (stays words s) xs i to below (omega arith) zs count (omega (arith, h.count_low, h.staying_long)) _ refl ∙ h.staying;
    rest =
        drop-set-lt (i + 1) ys own (get_or xs i 0) (omega (arith, h.own_low))
        ∙ drop_further i (i + 1) ys xs (omega arith) h.rest;
    long = length-set ys own (get_or xs i 0) ∙ h.long;
    staying_long = length-set zs count (get_or xs i 0) ∙ h.staying_long;
  }

  pub separating_on : i < to
      → Separating xs from to words s (set ys own (get_or ys i 0)) (set zs count (get_or ys i 0))
      (own + one (in_words words (get_or ys i 0))) (count + one (stays words s (get_or ys i 0))) (i + 1)
  separating_on below = rw separating_here (separated_at below)

  pub separating-end : to ≤ i → Separated xs from to words s ys zs own
  separating-end done = record {
    end =
        gathered-count ys _ own (omega (arith, h.own_low, h.long)) named
        ∙ length-append (take from xs) (keep (in_words words) (slice from to xs))
        ∙ ap (λ (k : ℕ). k + length (keep (in_words words) (slice from to xs))) (length-take-le from xs (omega (arith, h.low)));
    named = named;
    staying =
        ap (λ (k : ℕ). take k zs) (sym (gathered-count zs _ count (omega (arith, h.count_low, h.staying_long)) staying)) ∙ staying;
    rest = ap (λ (k : ℕ). drop k ys) (sym end) ∙ h.rest ∙ ap (λ (k : ℕ). drop k xs) end;
    long = h.long;
    staying_long = h.staying_long;
  }
    where
      end : i ≡ to
      end = omega (arith, h.high)

      none : (test : ℕ → Bool) → keep test (slice i to xs) ≡ []
      none test = rw end (keep-end test xs to)

      named : take own ys ≡ take from xs ++ keep (in_words words) (slice from to xs)
      named = sym (append-nil (take own ys)) ∙ rw (none (in_words words)) at h.named

      staying : take count zs ≡ keep (stays words s) (slice from to xs)
      staying = sym (append-nil (take count zs)) ∙ rw (none (stays words s)) at h.staying
