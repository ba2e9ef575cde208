-- `put_message` meets its contract: the place, and then the rest of the line.
use Rattle.text.specs.Text.{rest_of_line, line}
use Rattle.text.proofs.WrittenLaws.{then}
use Rattle.report.specs.Lines.{message_line}
use Rattle.report.proofs.put_message.Goals as goal

pub returns : goal.returns
unfolding message_line line
returns c = then c.put_number-at.ensures c.end_line.ensures
