-- `members::member` meets its contract: a number that passes the test has its word and its bit.
use native.Mathlib.Omega.{arith}
use mathlib.Core.Path.{◌≡◌, sym, ◌∙◌}
use mathlib.Core.Bool.{false}
use Rattle.numbers.specs.Numbers.{most_panels, bad_number}
use Rattle.numbers.specs.internal.Slots.{GoodNumber}
use Rattle.sets.specs.Sets.{member, bit}
use Rattle.numbers.proofs.NumberLaws.{good-number}
use Rattle.members.proofs.member.Goals as goal
use Rattle.members.proofs.member.Goals.{Else-bad}

pub returns-then-bad : goal.returns-then-bad
unfolding member
returns-then-bad c = rw (sym c.bad.ensures ∙ c.if-bad.true)

not_bad : (c : Else-bad) → bad_number most_panels c.args.n ≡ false
not_bad c = sym c.bad.ensures ∙ c.if-bad.false

good : (c : Else-bad) → GoodNumber most_panels c.args.n
good c = good-number _ _ (not_bad c)

pub overflow_sub-bit : goal.overflow_sub-bit
overflow_sub-bit c = omega (arith, good (goal.at.overflow_sub-bit c).Else-bad)

pub bounds-words-n : goal.bounds-words-n
bounds-words-n c = omega (arith, good (goal.at.bounds-words-n c).Else-bad)

pub overflow_shr-result : goal.overflow_shr-result
overflow_shr-result c = omega (arith, good (goal.at.overflow_shr-result c).Else-bad)

pub returns : goal.returns
unfolding member bit
returns c = rw (not_bad (goal.at.returns c).Else-bad)
