-- `put_unread` meets its contract: the place, and then a line whose head is the dashes.
use Rattle.text.specs.Text.{ascii, rest_of_line, line}
use Rattle.text.proofs.WrittenLaws.{then}
use Rattle.report.specs.Lines.{unread_line}
use Rattle.report.proofs.put_unread.Goals as goal

pub returns : goal.returns
unfolding unread_line line rest_of_line ascii
returns c = then c.put_number-at.ensures c.put_line.ensures
