-- A slot that goes to the front of places in clock order.
use Rattle.std.specs.Prelude.{ℕ, ◌-◌, ◌≤◌, ◌<◌, ◌≡◌, List, ◌∷◌, ◌++◌, length, take, drop, get_or, eqb}
use Rattle.std.proofs.Math.Seq.{slice}
use Rattle.lists.specs.Lists.{count}
use Rattle.ordering.specs.Slots.{most_slots, OrderAsks, InOrder}

-- what moving s to place `from` asks: the slots from..to stand in clock order, s once
pub record FrontAsks (order clocks : List ℕ) (from to s : ℕ) : Type 0 where
  pub order_asks : OrderAsks clocks order from to
  pub rising : InOrder clocks order from to
  pub once : count (eqb s) (slice from to order) ≡ 1

-- xs became ys: s, which stood at the place before e and nowhere from `from` up to there, stands at `from`, those between one place up
pub record Fronted (xs : List ℕ) (from s : ℕ) (ys : List ℕ) (e : ℕ) : Type 0 where
  pub some : from < e
  pub inside : e ≤ most_slots
  pub there : get_or xs (e - 1) 0 ≡ s
  pub before : count (eqb s) (slice from (e - 1) xs) ≡ 0
  pub first : take e ys ≡ take from xs ++ s ∷ slice from (e - 1) xs
  pub rest : drop e ys ≡ drop e xs
  pub long : length ys ≡ most_slots
