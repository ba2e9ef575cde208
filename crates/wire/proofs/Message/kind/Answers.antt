-- `Message::kind` meets its contract.
use borrow.Author.Rules.{rules}
use Rattle.wire.specs.Message.{kind_of}
use Rattle.wire.proofs.Message.kind.Goals as goal

pub returns-in-Request : goal.returns-in-Request
unfolding kind_of
returns-in-Request c = search rules

pub returns-in-Request-2 : goal.returns-in-Request-2
unfolding kind_of
returns-in-Request-2 c = search rules

pub returns-in-Settlement : goal.returns-in-Settlement
unfolding kind_of
returns-in-Settlement c = search rules
