-- `members::join` meets its contract: a number that passes the test has its word, which gains its bit.
use native.Mathlib.Omega.{arith}
use mathlib.Core.Path.{◌≡◌, sym, ◌∙◌}
use mathlib.Core.Bool.{false}
use Rattle.numbers.specs.Numbers.{most_panels, bad_number}
use Rattle.numbers.specs.internal.Slots.{GoodNumber}
use Rattle.sets.specs.Sets.{join}
use Rattle.numbers.proofs.NumberLaws.{good-number}
use Rattle.members.proofs.join.Goals as goal
use Rattle.members.proofs.join.Goals.{Else-bad}

pub returns-then-bad : goal.returns-then-bad
unfolding join
returns-then-bad c = rw (sym c.bad.ensures ∙ c.if-bad.true)

not_bad : (c : Else-bad) → bad_number most_panels c.args.n ≡ false
not_bad c = sym c.bad.ensures ∙ c.if-bad.false

good : (c : Else-bad) → GoodNumber most_panels c.args.n
good c = good-number _ _ (not_bad c)

pub mask-mask-requires : goal.mask-mask-requires
mask-mask-requires c = good c

pub bounds-words-n : goal.bounds-words-n
bounds-words-n c = omega (arith, good (goal.at.bounds-words-n c).Else-bad)

pub bounds-words-n-2 : goal.bounds-words-n-2
bounds-words-n-2 c = omega (arith, good (goal.at.bounds-words-n-2 c).Else-bad)

pub returns : goal.returns
unfolding join
returns c = rw (not_bad (goal.at.returns c).Else-bad, c.mask-mask.ensures)
