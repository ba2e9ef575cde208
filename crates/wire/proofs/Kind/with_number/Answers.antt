-- `Kind::with_number` meets its contract, number by number.
use borrow.Author.Rules.{rules}
use Rattle.wire.specs.Layout.{kind_with}
use Rattle.wire.proofs.Kind.with_number.Goals as goal

pub returns-in-1 : goal.returns-in-1
unfolding kind_with
returns-in-1 c = search rules

pub returns-in-2 : goal.returns-in-2
unfolding kind_with
returns-in-2 c = search rules

pub returns-in-3 : goal.returns-in-3
unfolding kind_with
returns-in-3 c = search rules

pub returns-in_default : goal.returns-in_default
unfolding kind_with
returns-in_default c = search rules
