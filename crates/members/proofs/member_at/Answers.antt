-- `members::member_at` meets its contract: a slot past the table counts round to the same number.
use mathlib.Core.Path.{ap, ◌∙◌}
use Rattle.sets.specs.Sets.{set_of, member}
use Rattle.numbers.proofs.NumberLaws.{number_of_rest}
use Rattle.members.proofs.member_at.Goals as goal

pub returns : goal.returns
returns c = c.has_slot.ensures ∙ ap (member (set_of c.args.words.now)) (number_of_rest c.args.slot)
