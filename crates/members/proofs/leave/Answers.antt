-- `members::leave` meets its contract: a member is a good number, has its word, and its bit is taken out.
use native.Mathlib.Omega.{arith}
use mathlib.Core.Path.{◌≡◌, sym, ◌∙◌}
use mathlib.Core.Bool.{true}
use Rattle.numbers.specs.Numbers.{most_panels}
use Rattle.numbers.specs.internal.Slots.{GoodNumber}
use Rattle.sets.specs.Sets.{set_of, member, leave}
use Rattle.numbers.proofs.NumberLaws.{good-number}
use Rattle.sets.proofs.SetLaws.{member_good}
use Rattle.members.proofs.leave.Goals as goal
use Rattle.members.proofs.leave.Goals.{Else-not-member}

pub returns-then-not-member : goal.returns-then-not-member
unfolding leave
returns-then-not-member c = rw (sym c.member.ensures ∙ c.if-not-member.true)

is_member : (c : Else-not-member) → member (set_of c.args.words.now) c.args.n ≡ true
is_member c = sym c.member.ensures ∙ c.if-not-member.false

good : (c : Else-not-member) → GoodNumber most_panels c.args.n
good c = good-number _ _ (member_good _ _ (is_member c))

pub mask-mask-requires : goal.mask-mask-requires
mask-mask-requires c = good c

pub bounds-words-n : goal.bounds-words-n
bounds-words-n c = omega (arith, good (goal.at.bounds-words-n c).Else-not-member)

pub bounds-words-n-2 : goal.bounds-words-n-2
bounds-words-n-2 c = omega (arith, good (goal.at.bounds-words-n-2 c).Else-not-member)

pub returns : goal.returns
unfolding leave
returns c = rw (is_member (goal.at.returns c).Else-not-member, c.mask-mask.ensures)
