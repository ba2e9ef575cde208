-- The order after a settlement, and the steps by which it is made.
use Rattle.std.specs.Prelude.{ℕ, ◌+◌, ◌≤◌, ◌≡◌, Bool, true, false, not, ◌||◌, List, ◌∷◌, ◌++◌, length, take, drop, eqb}
use Rattle.std.proofs.Math.Seq.{slice}
use Rattle.lists.specs.Lists.{count, keep}
use Rattle.ordering.specs.Slots.{most_slots, IsSlot, Part, InOrder, in_words}

-- slot t stays tentative when the request of slot s is settled: it is neither named in its context nor s itself
unfoldable pub stays : List ℕ → ℕ → ℕ → Bool
stays words s t = not (in_words words t || eqb s t)

-- it moves to the front: it does not stay
abbrev pub moves : List ℕ → ℕ → ℕ → Bool
moves words s t = not (stays words s t)

-- ---- separation of the places from..to: those named to the front of these places, those that stay into another array

pub record SeparationAsks (xs : List ℕ) (from to : ℕ) (zs : List ℕ) : Type 0 where
  pub part : Part xs from to
  pub long : length zs ≡ most_slots

-- xs became ys, in which those named end at r, and zs begins with those that stay
pub record Separated (xs : List ℕ) (from to : ℕ) (words : List ℕ) (s : ℕ) (ys zs : List ℕ) (r : ℕ) : Type 0 where
  pub end : r ≡ from + length (keep (in_words words) (slice from to xs))
  pub named : take r ys ≡ take from xs ++ keep (in_words words) (slice from to xs)
  pub staying : take (length (keep (stays words s) (slice from to xs))) zs ≡ keep (stays words s) (slice from to xs)
  pub rest : drop to ys ≡ drop to xs
  pub long : length ys ≡ most_slots
  pub staying_long : length zs ≡ most_slots

-- what putting the first n of ys at the places of xs from `at` on asks
pub record PutAsks (xs : List ℕ) (at : ℕ) (ys : List ℕ) (n : ℕ) : Type 0 where
  pub room : at + n ≤ most_slots
  pub long : length xs ≡ most_slots
  pub source_long : length ys ≡ most_slots

-- ---- the order after a settlement

-- the tentative slots after a settlement of s: those named, s itself, those that stay
unfoldable pub settled : List ℕ → ℕ → List ℕ → List ℕ
settled words s l = keep (in_words words) l ++ s ∷ keep (stays words s) l

-- what a settlement of s asks of the tentative slots from..to: s stands there once, and its context does not name it
pub record SettlementAsks (order : List ℕ) (from to : ℕ) (words : List ℕ) (s : ℕ) : Type 0 where
  pub part : Part order from to
  pub once : count (eqb s) (slice from to order) ≡ 1
  pub apart : in_words words s ≡ false

-- xs became ys, of which the first r are committed: those that were, those named, s itself; from place e on it is as it was
pub record Settled (xs : List ℕ) (from to : ℕ) (words : List ℕ) (s : ℕ) (ys : List ℕ) (r e : ℕ) : Type 0 where
  pub committed : r ≡ from + length (keep (in_words words) (slice from to xs)) + 1
  pub first : take to ys ≡ take from xs ++ settled words s (slice from to xs)
  pub rest : drop to ys ≡ drop to xs
  pub long : length ys ≡ most_slots
  pub moved : r ≤ e
  pub within : e ≤ to
  pub unmoved : drop e ys ≡ drop e xs

-- ---- the place behind the last that moves, by how many do

-- a settlement of s moves `moving` of the slots from..to
pub record Counted (order : List ℕ) (from to moving : ℕ) (words : List ℕ) (s : ℕ) : Type 0 where
  pub asks : SettlementAsks order from to words s
  pub all : moving ≡ count (moves words s) (slice from to order)

-- it does, for some `to`
pub record SomeCounted (order : List ℕ) (from moving : ℕ) (words : List ℕ) (s : ℕ) : Type 0 where
  pub to : ℕ
  pub counted : Counted order from to moving words s

-- r is not behind `to`, and none of the slots r..to moves
pub record NoneBehind (order : List ℕ) (to : ℕ) (words : List ℕ) (s r : ℕ) : Type 0 where
  pub inside : r ≤ to
  pub behind : count (moves words s) (slice r to order) ≡ 0

-- r is the place behind the last that moves, for every `to` up to which that many move
pub record CountedEnd (order : List ℕ) (from moving : ℕ) (words : List ℕ) (s r : ℕ) : Type 0 where
  pub low : from ≤ r
  pub end : (to : ℕ) → Counted order from to moving words s → NoneBehind order to words s r

-- ---- a settlement where it is known which numbers are settled

-- what it asks where `settled_words` have these: the slots from..to stand in clock order, none of them is settled, and each slot that is
-- named and not settled is one of them
pub record MovesAsk (order clocks : List ℕ) (from to : ℕ) (words settled_words : List ℕ) (s : ℕ) : Type 0 where
  pub asks : SettlementAsks order from to words s
  pub clocks_long : length clocks ≡ most_slots
  pub rising : InOrder clocks order from to
  pub clear : count (in_words settled_words) (slice from to order) ≡ 0
  pub there : (t : ℕ) → IsSlot t → in_words words t ≡ true → in_words settled_words t ≡ false → count (eqb t) (slice from to order) ≡ 1
